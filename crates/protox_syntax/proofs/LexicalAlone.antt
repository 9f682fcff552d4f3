-- If nothing is wrong with a file but its lexemes, its faults are exactly those of the lexemes.
use Rattle.std.proofs.Common.{◌≡◌, ◌≤◌, ◌+◌, ℕ, zero, suc, Bool, true, List, [], ◌∷◌, ◌++◌, length, Result, Ok, Err, IfErr, refl, sym, ap, subst, ◌∙◌, arith}
use Rattle.std.specs.Prelude.{slice_index_or}
use Rattle.protox_fault.specs.Faults.{faults_in}
use Rattle.protox_fault.specs.declared.error.ParseErrorKind.{ParseErrorKind}
use Rattle.protox_fault.specs.declared.error.SyntaxFailure.{SyntaxFailure}
use Rattle.protox_fault.specs.declared.error.SyntaxFailure.TheVariants.{Faults, OutOfMemory}
use Rattle.protox_lexeme.specs.Lexemes.{Lexeme, cut}
use Rattle.protox_lexeme.specs.Shapes.{Rows}
use Rattle.protox_lexeme.specs.Table.{faults_of, is_gap, rows_of, table_of}
use Rattle.protox_ast.specs.Checks.{NothingWrong}
use Rattle.protox_ast.specs.FaultList.{AreFaultsOf}
use Rattle.protox_ast.specs.Nodes.{depth}
use Rattle.protox_ast.specs.Places.{Place}
use Rattle.protox_ast.specs.Spells.{Spells}
use Rattle.protox_ast.specs.Tree as tree
use Rattle.protox_ast.specs.declared.ast.File.{File}
use Rattle.protox_grammar.specs.TagLaws.{placed_tokens}
use Rattle.protox_grammar.specs.Reader.{Unexpected, Deep}
use Rattle.protox_grammar.specs.Reads.{read}
use Rattle.protox_grammar.specs.Told.{Notes, IsFaultless}
use Rattle.protox_grammar.proofs.Lemmas as grammar
use Rattle.protox_declarations.specs.inner.Options.{here}
use Rattle.protox_rows.specs.inner.Outcome.{Fails}
use Rattle.protox_rows.specs.declared.refused.Refused.{Refused}
use Rattle.protox_rows.specs.declared.refused.Refused.TheVariants as refused
use Rattle.protox_syntax.specs.inner.ParsedTable.{AreMergedFaults, ParsesTable, RefusesTable, unknown_syntax, unexpected_row, refused_statement, all_read}
use Rattle.protox_syntax.specs.LexicalFaults.{AreLexicalAlone, AreTokens}
use Rattle.protox_syntax.specs.inner.Recovery.{AreRefusalNotes}
use Rattle.protox_syntax.specs.inner.Statements.{levels, syntax_if_any}
use Rattle.protox_syntax.specs.inner.Merge.{merged_faults}
use Rattle.protox_syntax.specs.inner.Whole.{all_notes, whole}
use Rattle.protox_syntax.proofs.ParsedTable.{front-faultless}
use Rattle.protox_syntax.proofs.Modes as modes
use Rattle.protox_syntax.proofs.Reading.{none-read}
use Rattle.protox_syntax.proofs.SyntaxNotes.{syntax-faults}
use Rattle.protox_syntax.proofs.MergeParts.{all-first, all-same, all_from, seen_faults, merged_faults-exact}

each-valid : (xs : List Lexeme) → AreTokens xs → modes.AreValid (rows_of xs)
each-valid [] h = tt
each-valid (x ∷ xs) h = modes.valid-by x xs (is_gap x.shape) h.0 (each-valid xs h.1)

-- the entries one by one, from the first on
from-first : (lexemes : List Lexeme) (on : ℕ → Bool) (low n : ℕ) → all_from (λ k. faults_in (on k) (slice_index_or (faults_of lexemes) k [])) low n ≡ grammar.all_from lexemes on low n
from-first lexemes on low zero = refl
from-first lexemes on low (suc n) =
    all-first (λ k. faults_in (on k) (slice_index_or (faults_of lexemes) k [])) low n
    ∙ ap (λ v. faults_in (on low) (slice_index_or (faults_of lexemes) low []) ++ v) (from-first lexemes on (suc low) n)

module _ (lexemes : List Lexeme) (f : tree.File Place) (spelled : Spells (placed_tokens lexemes) f) (deep : depth f ≤ levels) (nothing : NothingWrong f) (valid : AreTokens lexemes) where
  abbrev rows : Rows Place
  rows = placed_tokens lexemes

  fine : IsFaultless (all_notes rows)
  fine = (modes.wrong lexemes f spelled deep (modes.valid-tokens true (rows_of lexemes) (table_of lexemes).gaps (each-valid lexemes valid))).1 nothing

  abbrev on : ℕ → Bool
  on = modes.on lexemes f spelled deep

  abbrev total : ℕ
  total = length (rows_of lexemes) + 1

  are-faults : AreFaultsOf lexemes (merged_faults (faults_of lexemes) total (all_notes rows) 0)
  are-faults =
      let exact = merged_faults-exact (faults_of lexemes) total (all_notes rows) (suc (length rows)) fine (modes.falls lexemes f spelled deep fine) in
      let same = all-same (seen_faults (faults_of lexemes) total (all_notes rows)) (λ k. faults_in (on k) (slice_index_or (faults_of lexemes) k [])) 0 total
      (λ k a b. ap (λ v. faults_in v (slice_index_or (faults_of lexemes) k [])) (modes.mode-is lexemes f spelled deep k (omega (arith, b)))) in
      let count : total ≡ suc (length (rows_of lexemes)) = omega arith in
      subst (AreFaultsOf lexemes) (sym (exact ∙ same ∙ from-first lexemes on 0 total ∙ ap (grammar.all_from lexemes on 0) count))
      (grammar.faults-are lexemes on (λ k h. (modes.is_inside lexemes f spelled deep k, modes.is_on lexemes f spelled deep k)))

  is-read : read levels rows ≡ Ok f
  is-read = (grammar.accepts_iff here levels rows f).1 (spelled, deep)

  refused-not : (e : Refused) (at_refusal : Notes) → Fails e (whole rows) → AreRefusalNotes (table_of lexemes).rows e at_refusal → ⊥
  refused-not refused.OutOfMemory at_refusal h g = g
  refused-not (refused.At left expected) at_refusal h g = none-read rows (Unexpected left) h f is-read
  refused-not (refused.TooDeep left) at_refusal h g = none-read rows (Deep left) h f is-read

  merged-alone : (errors : List ParseErrorKind) → AreMergedFaults (table_of lexemes) errors → AreFaultsOf lexemes errors
  merged-alone errors (unknown_syntax some w) = absurd (some (modes.faults-none (syntax_if_any.notes rows) (syntax-faults rows) (front-faultless rows fine)))
  merged-alone errors (unexpected_row left text plain e w) = absurd (none-read rows (Unexpected left) e f is-read)
  merged-alone errors (refused_statement e at_refusal later h says g notable w) = absurd (refused-not e at_refusal h g)
  merged-alone errors (all_read x e w) = subst (AreFaultsOf lexemes) (sym w) are-faults

-- from the answer for a source's table
pub parsed-alone : (source : List ℕ) (e : SyntaxFailure) → RefusesTable (table_of (cut 0 source)) (length source) e → AreLexicalAlone source e
parsed-alone source OutOfMemory j = tt
parsed-alone source (Faults v) j = λ f spelled deep nothing valid. merged-alone (cut 0 source) f spelled deep nothing valid v.items j.3

pub parsed-result : (source : List ℕ) (r : Result File SyntaxFailure) → ParsesTable (table_of (cut 0 source)) (length source) r → IfErr r (AreLexicalAlone source)
parsed-result source (Ok file) j = tt
parsed-result source (Err e) j = parsed-alone source e j
