-- The same notes give the same list, up to the words of what was expected.
use Rattle.std.proofs.Common.{◌≡◌, ◌≤◌, ℕ, ◌+◌, ◌-◌, Bool, true, false, cond, List, [], ◌∷◌, ◌++◌, length, map, Option, Some, None, refl, sym, ap, subst, ◌∙◌, append-nil, arith}
use Rattle.std.proofs.lemmas.List.{map-append}
use Rattle.std.specs.Prelude.{option_to_list}
use Rattle.protox_fault.specs.Faults.{Span}
use Rattle.protox_fault.specs.declared.error.ParseErrorKind.{ParseErrorKind}
use Rattle.protox_fault.specs.declared.error.ParseErrorKind.TheVariants as fault
use Rattle.protox_lexeme.specs.Printed.{printed}
use Rattle.protox_lexeme.specs.Shapes.{Row}
use Rattle.protox_lexeme.specs.Table.{Table}
use Rattle.protox_ast.specs.Truth.{is_terminator}
use Rattle.protox_grammar.specs.Told.{Notes, is_invalid}
use Rattle.protox_grammar.specs.declared.note.Note as note_type
use Rattle.protox_grammar.specs.declared.note.Noted.{Noted}
use Rattle.protox_grammar.specs.declared.note.Noted.TheVariants.{Fault, TextFormat}
use Rattle.protox_syntax.specs.AllFaults.{Progress, found, in_mode, progress, read, refusal, refused, faults_of_rows, row_at, stopped_with, rows_to_read, unworded}
use Rattle.protox_syntax.specs.inner.Leading.{Alike, found_with_notes}
use Rattle.protox_syntax.specs.inner.Recovery.{fault_note, plain_note, refusal_notes}
use Rattle.protox_syntax.specs.inner.Merge.{with_noted}

pub alike-self : (p : Progress) → Alike p p
alike-self p = (refl, refl, refl)

module _ (t : Table) where
  abbrev total : ℕ
  total = length t.rows + 1

  pub alike-read : (left : ℕ) (p q : Progress) → Alike p q → Alike (read t left p) (read t left q)
  alike-read left p q h = (
    map-append unworded p.errors (faults_of_rows p.text_format t.faults p.next (rows_to_read total left p.next))
        ∙ (λ i. h.0 i ++ map unworded (faults_of_rows (h.2 i) t.faults (h.1 i) (rows_to_read total left (h.1 i))))
        ∙ sym (map-append unworded q.errors (faults_of_rows q.text_format t.faults q.next (rows_to_read total left q.next))),
    ap (λ n. n + rows_to_read total left n) h.1,
    h.2,
  )

  pub alike-found : (f g : ParseErrorKind) (p q : Progress) → unworded f ≡ unworded g → Alike p q → Alike (found f p) (found g q)
  alike-found f g p q e h = (map-append unworded p.errors (f ∷ []) ∙ (λ i. h.0 i ++ (e i ∷ [])) ∙ sym (map-append unworded q.errors (g ∷ [])), h.1, h.2)

  alike-noted : (n : Noted) (p q : Progress) → Alike p q → Alike (with_noted n p) (with_noted n q)
  alike-noted (Fault f) p q h = alike-found f f p q refl h
  alike-noted (TextFormat on) p q h = (h.0, h.1, refl)

  pub alike-found_with_notes : (ns : Notes) (p q : Progress) → Alike p q → Alike (found_with_notes t ns p) (found_with_notes t ns q)
  alike-found_with_notes [] p q h = h
  alike-found_with_notes (n ∷ ns) p q h = alike-found_with_notes ns (found_with_notes t (n ∷ []) p) (found_with_notes t (n ∷ []) q) (alike-noted n.noted (read t n.left p) (read t n.left q) (alike-read n.left p q h))

  -- ---- rows that are read already

  none-to-read : (left : ℕ) (q : Progress) → rows_to_read total left q.next ≡ 0 → read t left q ≡ q
  none-to-read left q e =
      (λ i. progress (q.errors ++ faults_of_rows q.text_format t.faults q.next (e i)) (q.next + e i) q.text_format)
      ∙ (λ i. progress (append-nil q.errors i) (none q.next i) q.text_format)
    where
      none : (n : ℕ) → n + 0 ≡ n
      none n = omega arith

  again : (left n : ℕ) → rows_to_read total left (n + rows_to_read total left n) ≡ 0
  again left n = omega arith

  -- a fault where the same rows are read twice
  pub read-again : (left : ℕ) (f : ParseErrorKind) (p : Progress) → read t left (found f (read t left p)) ≡ found f (read t left p)
  read-again left f p = none-to-read left (found f (read t left p)) (again left p.next)

  -- ---- a refusal

  end-unworded : (text : List ℕ) → is_terminator text ≡ false → unworded (fault.UnexpectedEof text) ≡ unworded (fault.UnexpectedEof [])
  end-unworded text e = ap (λ b. cond b (fault.UnexpectedEof text) (fault.UnexpectedEof [])) e

  plain-alike : (p q : Progress) → Alike p q → Alike (in_mode false p) (in_mode false q)
  plain-alike p q h = (h.0, h.1, refl)

  fault-alike : (left : ℕ) (f g : ParseErrorKind) (p q : Progress) → unworded f ≡ unworded g → Alike p q → Alike (found_with_notes t (fault_note left (Some f) ++ plain_note left) p) (stopped_with (Some g) (read t left q))
  fault-alike left f g p q e h =
      subst (λ (v : Progress). Alike (in_mode false v) (in_mode false (found g (read t left q)))) (sym (read-again left f p))
      (plain-alike (found f (read t left p)) (found g (read t left q)) (alike-found f g (read t left p) (read t left q) e (alike-read left p q h)))

  stop-alike : (left : ℕ) (text : List ℕ) (o : Option (Row Span)) (p q : Progress) → is_terminator text ≡ false → Alike p q → Alike (found_with_notes t (fault_note left (refusal text o) ++ plain_note left) p) (stopped_with (refusal [] o) (read t left q))
  stop-alike left text None p q e h = fault-alike left (fault.UnexpectedEof text) (fault.UnexpectedEof []) p q (end-unworded text e) h
  stop-alike left text (Some r) p q e h = by (is_invalid r.shape)
    where
      by : (b : Bool) → Alike (found_with_notes t (fault_note left (cond b None (Some (fault.UnexpectedToken r.at text (printed r.shape)))) ++ plain_note left) p)
          (stopped_with (cond b None (Some (fault.UnexpectedToken r.at [] (printed r.shape)))) (read t left q))
      by true = plain-alike (read t left p) (read t left q) (alike-read left p q h)
      by false = fault-alike left (fault.UnexpectedToken r.at text (printed r.shape)) (fault.UnexpectedToken r.at [] (printed r.shape)) p q refl h

  pub alike-refused : (left : ℕ) (text : List ℕ) (p q : Progress) → is_terminator text ≡ false → Alike p q → Alike (found_with_notes t (refusal_notes left text t.rows) p) (refused t left q)
  alike-refused left text p q e h = stop-alike left text (row_at t.rows left) p q e h

  -- the same, where nothing is read behind
  pub last-alike : (left : ℕ) (text : List ℕ) (o : Option (Row Span)) (p : Progress) → is_terminator text ≡ false
      → map unworded ((read t left p).errors ++ option_to_list (refusal text o)) ≡ map unworded (stopped_with (refusal [] o) (read t left p)).errors
  last-alike left text None p e = (alike-found (fault.UnexpectedEof text) (fault.UnexpectedEof []) (read t left p) (read t left p) (end-unworded text e) (alike-self (read t left p))).0
  last-alike left text (Some r) p e = by (is_invalid r.shape)
    where
      by : (b : Bool) → map unworded ((read t left p).errors ++ option_to_list (cond b None (Some (fault.UnexpectedToken r.at text (printed r.shape)))))
          ≡ map unworded (stopped_with (cond b None (Some (fault.UnexpectedToken r.at [] (printed r.shape)))) (read t left p)).errors
      by true = ap (map unworded) (append-nil (read t left p).errors)
      by false = (alike-found (fault.UnexpectedToken r.at text (printed r.shape)) (fault.UnexpectedToken r.at [] (printed r.shape)) (read t left p) (read t left p) refl (alike-self (read t left p))).0

  -- ---- notes up to this place

  reaches : (ns : Notes) (p : Progress) → p.next ≤ (found_with_notes t ns p).next
  reaches [] p = omega arith
  reaches (n ∷ ns) p = omega (arith, reaches ns (found_with_notes t (n ∷ []) p), further n.noted (read t n.left p), step n.left)
    where
      further : (v : Noted) (q : Progress) → q.next ≤ (with_noted v q).next
      further (Fault f) q = omega arith
      further (TextFormat on) q = omega arith

      step : (left : ℕ) → p.next ≤ (read t left p).next
      step left = omega arith

  noted-next : (v : Noted) (q : Progress) → (with_noted v q).next ≡ q.next
  noted-next (Fault f) q = refl
  noted-next (TextFormat on) q = refl

  -- if no row is left at the first note
  pub first-read : (n : note_type.Note) (ns : Notes) (p : Progress) → read t n.left (found_with_notes t (n ∷ ns) p) ≡ found_with_notes t (n ∷ ns) p
  first-read n ns p = none-to-read n.left (found_with_notes t (n ∷ ns) p) (omega (arith, reaches ns (found_with_notes t (n ∷ []) p), noted-next n.noted (read t n.left p), reached))
    where
      reached : total - n.left ≤ (read t n.left p).next
      reached = omega arith
