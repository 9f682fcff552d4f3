-- The notes of a refused statement are allowed, and lie in the source.
use Rattle.std.proofs.Common.{◌≡◌, ◌≤◌, ◌-◌, ℕ, zero, suc, Bool, true, false, cond, List, [], ◌∷◌, ◌++◌, length, Option, Some, None, refl, sym, subst, arith}
use Rattle.std.proofs.lemmas.Option.{slice_get_within}
use Rattle.std.specs.Prelude.{slice_get, slice_index_or}
use Rattle.protox_fault.specs.Faults.{Span}
use Rattle.protox_fault.specs.declared.error.ParseErrorKind.TheVariants.{UnexpectedToken}
use Rattle.protox_lexeme.specs.Printed.{printed}
use Rattle.protox_lexeme.specs.Shapes.{Shape, Invalid, Row, Rows}
use Rattle.protox_lexeme.specs.Table.{StandBetween, Table}
use Rattle.protox_ast.proofs.Lemmas.{Stand, bare-placed}
use Rattle.protox_ast.specs.Places.{Place, placed}
use Rattle.protox_grammar.specs.Told.{Notes, is_invalid}
use Rattle.protox_grammar.proofs.Lemmas.{AllLie}
use Rattle.protox_rows.specs.inner.Notes.{AddsTo}
use Rattle.protox_rows.specs.declared.refused.Refused.{Refused}
use Rattle.protox_rows.specs.declared.refused.Refused.TheVariants.{OutOfMemory, At, TooDeep}
use Rattle.protox_syntax.specs.inner.Recovery.{AreNotable, AreRefusalNotes, fault_note, plain_note}
use Rattle.protox_syntax.specs.inner.Merge.{refusal, row_at}
use Rattle.protox_syntax.proofs.ParsedTable.{row-lies}

valid-is : (s : Shape) → is_invalid s ≡ false → s ≡ Invalid → ⊥
valid-is s h e = absurd (let g = subst (λ v. is_invalid v ≡ false) e h in cc)

get-there : (rows : Rows Span) (i : ℕ) (r : Row Span) → slice_get rows i ≡ Some r → slice_index_or rows i r ≡ r
get-there [] i r e = refl
get-there (x ∷ rows) zero r e = let same : x ≡ r = cc in same
get-there (x ∷ rows) (suc i) r e = get-there rows i r e

module _ (t : Table) where
  refusal-notable : (left i : ℕ) (text : List ℕ) (o : Option (Row Span)) → slice_get t.rows i ≡ o → AreNotable t.rows (fault_note left (refusal text o) ++ plain_note left)
  refusal-notable left i text None e = (refl, (tt, tt))
  refusal-notable left i text (Some r) e = by (is_invalid r.shape) refl
    where
      by : (b : Bool) → is_invalid r.shape ≡ b → AreNotable t.rows (fault_note left (cond b None (Some (UnexpectedToken r.at text (printed r.shape)))) ++ plain_note left)
      by true v = (tt, tt)
      by false v = ((i, r, slice_get_within t.rows i r e, get-there t.rows i r e, (refl, refl, valid-is r.shape v)), (tt, tt))

  refusal-lies : (size left i : ℕ) (text : List ℕ) (o : Option (Row Span)) → StandBetween 0 size t.rows → slice_get t.rows i ≡ o → AllLie size (fault_note left (refusal text o) ++ plain_note left)
  refusal-lies size left i text None h e = (tt, (tt, tt))
  refusal-lies size left i text (Some r) h e = by (is_invalid r.shape)
    where
      by : (b : Bool) → AllLie size (fault_note left (cond b None (Some (UnexpectedToken r.at text (printed r.shape)))) ++ plain_note left)
      by true = (tt, tt)
      by false = (row-lies 0 size t.rows i r h e, (tt, tt))

  pub at_refusal-notable : (e : Refused) (at_refusal : Notes) → AreRefusalNotes t.rows e at_refusal → AreNotable t.rows at_refusal
  at_refusal-notable OutOfMemory at_refusal h = absurd h
  at_refusal-notable (At left expected) at_refusal h = subst (AreNotable t.rows) (sym h.2) (refusal-notable left (length t.rows - left) h.0 (row_at t.rows left) refl)
  at_refusal-notable (TooDeep left) at_refusal h = subst (AreNotable t.rows) (sym h) (tt, tt)

  pub at_refusal-lie : (e : Refused) (at_refusal : Notes) → AreRefusalNotes t.rows e at_refusal → (size : ℕ) → Stand 0 size (placed t) → AllLie size at_refusal
  at_refusal-lie OutOfMemory at_refusal h size k = absurd h
  at_refusal-lie (At left expected) at_refusal h size k = subst (AllLie size) (sym h.2) (refusal-lies size left (length t.rows - left) h.0 (row_at t.rows left) (subst (StandBetween 0 size) (bare-placed true t.rows t.gaps) k) refl)
  at_refusal-lie (TooDeep left) at_refusal h size k = subst (AllLie size) (sym h) (tt, tt)

-- the notes made in a refused statement, unless memory ran out
pub added-behind : (rows : Rows Span) (e : Refused) (old added new at_refusal : Notes) → AreRefusalNotes rows e at_refusal → AddsTo e old added new → new ≡ old ++ added
added-behind rows OutOfMemory old added new at_refusal h is = absurd h
added-behind rows (At left expected) old added new at_refusal h is = is
added-behind rows (TooDeep left) old added new at_refusal h is = is

pub some-length : (xs : Rows Place) → (xs ≡ [] → ⊥) → 1 ≤ length xs
some-length [] h = absurd (h refl)
some-length (x ∷ xs) h = omega arith
