use Rattle.std.proofs.Common.{◌≡◌, ◌+◌, ◌++◌, ◌∷◌, [], List, length, None, Result, Ok, Err, OnOk, OnErr, ap, subst, ◌∙◌, sym, true, arith}
use Rattle.protox_fault.specs.Faults.{span_from}
use Rattle.protox_lexeme.specs.Shapes.{Mark}
use Rattle.protox_lex.specs.declared.row_list.NumberedRow.{NumberedRow}
use Rattle.protox_lex.specs.inner.Sharing.{shape_at, len_at, len_by, rows_seen, and_row, IsKept, AreShared}
use Rattle.protox_lex.proofs.Sharing.{mark_push, shared_known}
use Rattle.protox_lex.proofs.shared_rows.SharedRows.push_mark.Goals as goal

pub known_mark-requires-clause-kept : goal.known_mark-requires-clause-kept
known_mark-requires-clause-kept c = rw (c.deref.ensures.value, c.deref-2.ensures.value) c.self.invariant.marks_are

-- The row has a token that is kept.
pub invariant_of-self : goal.invariant_of-self
invariant_of-self c =
    let tokens = c.self.inside.tokens.items in
    let row : NumberedRow = record { start = c.args.start; token = c.in-Some.number; len = None } in
    let same : c.deref.result.now ≡ tokens = c.deref.ensures.value in
    let size : len_by tokens row ≡ c.args.len = ap (λ ts. len_at ts c.in-Some.number) (sym same) ∙ c.in-Some.ensures.size in
    let lengths = ap length same in
    let kept : IsKept tokens row = (omega (arith, c.in-Some.ensures.within, lengths), omega (arith, size, c.requires.fits)) in
    let P : List NumberedRow → Type 0 = λ rows. AreShared tokens rows c.self.inside.marks.items c.self.inside.recent.items in
    by_result c.push_known.result P c.self.inside.rows c.push_known.new.rows row c.push_known.ensures.ok c.push_known.ensures.err
    (shared_known tokens c.self.inside.rows c.self.inside.marks.items c.self.inside.recent.items row c.self.invariant kept) c.self.invariant
  where
    by_result : {A E : Type 0} (r : Result A E) (P : List NumberedRow → Type 0) (old new : List NumberedRow) (row : NumberedRow) → OnOk r (new ≡ old ++ row ∷ []) → OnErr r (new ≡ old)
        → P (old ++ row ∷ []) → P old → P new
    by_result (Ok x) P old new row ok err more same = subst P (sym ok) more
    by_result (Err x) P old new row ok err more same = subst P (sym err) same

-- A mark that is kept adds one row.
pub returns-in-Some : goal.returns-in-Some
returns-in-Some c =
    let tokens = c.self.inside.tokens.items in
    let rows = c.self.inside.rows in
    let row : NumberedRow = record { start = c.args.start; token = c.in-Some.number; len = None } in
    let same : c.deref.result.now ≡ tokens = c.deref.ensures.value in
    let shape : shape_at tokens c.in-Some.number ≡ Mark c.args.byte = ap (λ ts. shape_at ts c.in-Some.number) (sym same) ∙ c.in-Some.ensures.equal in
    let size : len_by tokens row ≡ c.args.len = ap (λ ts. len_at ts c.in-Some.number) (sym same) ∙ c.in-Some.ensures.size in
    let seen = mark_push tokens rows row c.args.byte c.args.len shape size in
    let before = ap (λ s. and_row s record { shape = Mark c.args.byte; at = span_from c.args.start (c.args.start + c.args.len) } true) c.self.view_is in
    on_ok c.push_known.result (λ (e : c.push_known.new.rows ≡ rows ++ row ∷ []). ap (rows_seen tokens) e ∙ seen ∙ before) c.push_known.ensures.ok
  where
    on_ok : {A E P Q : Type 0} (r : Result A E) → (P → Q) → OnOk r P → OnOk r Q
    on_ok (Ok x) f h = f h
    on_ok (Err x) f h = h
