-- The list of faults: the rows' own faults in their order, with those noted at nodes in
-- between.
use Rattle.std.specs.Prelude.{ℕ, List, [], ◌∷◌, ◌++◌}
use Rattle.protox_fault.specs.declared.error.ParseErrorKind.{ParseErrorKind}
use Rattle.protox_grammar.specs.Told.{Notes}
use Rattle.protox_grammar.specs.declared.note.Note.{Note}
use Rattle.protox_grammar.specs.declared.note.Noted.{Noted}
use Rattle.protox_grammar.specs.declared.note.Noted.TheVariants.{Fault, TextFormat}
pub use Rattle.protox_syntax.specs.AllFaults.{Progress, beginning, progress, read_until, refusal, faults_of_rows, row_at, rows_to_read}

-- A note adds its fault, or switches to inside or outside an aggregate.
abbrev pub with_noted : Noted → Progress → Progress
with_noted (Fault fault) p = progress (p.errors ++ fault ∷ []) p.next p.text_format
with_noted (TextFormat on) p = progress p.errors p.next on

-- Rows are read up to the note, and then the note counts.
abbrev pub noted_in : List (List ParseErrorKind) → ℕ → Note → Progress → Progress
noted_in faults total x p = with_noted x.noted (read_until faults total x.left p)

-- For each note, one after another, rows are read up to it, and then it counts.
abbrev pub merge_notes : List (List ParseErrorKind) → ℕ → Notes → Progress → Progress
merge_notes faults total [] p = p
merge_notes faults total (x ∷ xs) p = merge_notes faults total xs (noted_in faults total x p)

-- all faults up to the row at which `left` rows are left
abbrev pub merged_faults : List (List ParseErrorKind) → ℕ → Notes → ℕ → List ParseErrorKind
merged_faults faults total notes left = (read_until faults total left (merge_notes faults total notes beginning)).errors
