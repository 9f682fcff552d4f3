-- What a source begins with.
use Rattle.std.specs.Prelude.{◌≡◌, ℕ, ◌+◌, Bool, true, false, not, ◌&&◌, List, [], length, slice_index, nat_lt, Option, Some, None}
use Rattle.std.specs.Option.{is_none}
use Rattle.protox_fault.specs.declared.error.ParseErrorKind.{ParseErrorKind}
use Rattle.protox_lexeme.specs.Lexemes.{cut}
use Rattle.protox_lexeme.specs.Lexicon.{is_blank}
use Rattle.protox_lexeme.specs.Scanning.{scan}
use Rattle.protox_lexeme.specs.Table.{Table, table_of}
use Rattle.protox_ast.specs.Places.{placed}
use Rattle.protox_grammar.specs.Reader.{head_in}
use Rattle.protox_grammar.specs.Told.{is_invalid}
use Rattle.protox_syntax.specs.inner.Merge.{merged_faults}

-- Whether the source begins with an invalid character: there is a first byte, it is no blank, and no
-- lexeme begins with it.
abbrev pub starts_invalid : List ℕ → Bool
starts_invalid source = nat_lt 0 (length source) && (not (is_blank (slice_index source 0)) && is_none (scan source))

-- The first row is invalid, and these are the faults up to it.
abbrev pub IsRefusedFirst : Table → List ParseErrorKind → Type 0
IsRefusedFirst t errors = (head_in is_invalid (placed t) ≡ true) × (errors ≡ merged_faults t.faults (length t.rows + 1) [] (length t.rows))

-- The source is refused at its first row, with these faults; or it doesn't begin with an invalid
-- character.
abbrev pub IsFront : List ℕ → Option (List ParseErrorKind) → Type 0
IsFront source (Some errors) = IsRefusedFirst (table_of (cut 0 source)) errors
IsFront source None = starts_invalid source ≡ false
