-- When a fault is true of a source. It is one of lexemes, tokens or nodes (`IsTrueOf`), or of the
-- generator, or the source is too large. The first fault of a refusal is true: that is a law.
use Rattle.std.specs.Prelude.{ℕ, ◌⊎◌, List}
use Rattle.protox_lexeme.specs.Lexemes.{cut}
use Rattle.protox_fault.specs.declared.error.ParseErrorKind.{ParseErrorKind}
use Rattle.protox_ast.specs.Truth.{IsTrueOf}
use Rattle.protox_parse.specs.FirstFault.{IsTrueOfSize, IsTrueOfTree}

-- The fault is true of the source.
abbrev pub IsTrueOfSource : List ℕ → ParseErrorKind → Type 0
IsTrueOfSource source wrong = IsTrueOfSize source wrong ⊎ (IsTrueOf (cut 0 source) wrong ⊎ IsTrueOfTree source wrong)
