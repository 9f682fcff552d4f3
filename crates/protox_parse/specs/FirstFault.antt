-- Which fault is the first of a source. It is one of lexemes, tokens or nodes (`IsFirstFault`), or of
-- the generator, or the source is too large.
use Rattle.std.specs.Prelude.{◌≡◌, ℕ, ◌⊎◌, List, length, IfSome}
use Rattle.protox_lexeme.specs.Lexemes.{cut}
use Rattle.protox_fault.specs.declared.error.ParseErrorKind.{ParseErrorKind}
use Rattle.protox_fault.specs.declared.error.ParseErrorKind.TheVariants.{FileTooLarge}
use Rattle.protox_ast.specs.Accepted.{Fits, IsAccepted}
use Rattle.protox_ast.specs.Ast as ast
use Rattle.protox_ast.specs.Basics.{first_of}
use Rattle.protox_ast.specs.FirstFault.{IsFirstFault}
use Rattle.protox_ast.specs.Places.{Place}
use Rattle.protox_ast.specs.Tree as t
use Rattle.protox_checks.specs.Faults.{Wrong}
use Rattle.protox_parse.specs.declared.failure.ParseFailure.{ParseFailure}
use Rattle.protox_parse.specs.declared.failure.ParseFailure.TheVariants.{Refused, OutOfMemory}

-- The source is accepted with a tree, and the fault is one that the generator's checks find in its
-- syntax tree.
abbrev pub IsTrueOfTree : List ℕ → ParseErrorKind → Type 0
IsTrueOfTree source wrong = (f : t.File Place) × IsAccepted source f × Wrong (ast.file (length source) f) wrong

-- The source is too large, and the fault says so.
abbrev pub IsTrueOfSize : List ℕ → ParseErrorKind → Type 0
IsTrueOfSize source wrong = (Fits source → ⊥) × (wrong ≡ FileTooLarge)

-- The fault is the first of the source. A fault of the generator is first only if the source is
-- accepted.
abbrev pub IsFirstOfSource : List ℕ → ParseErrorKind → Type 0
IsFirstOfSource source wrong = IsTrueOfSize source wrong ⊎ (IsFirstFault (cut 0 source) wrong ⊎ IsTrueOfTree source wrong)

-- The refusal begins with the first fault of the source; or memory ran out.
abbrev pub BeginsWithFirst : List ℕ → ParseFailure → Type 0
BeginsWithFirst source OutOfMemory = Unit {0}
BeginsWithFirst source (Refused e) = IfSome (first_of e.errors) (IsFirstOfSource source)
