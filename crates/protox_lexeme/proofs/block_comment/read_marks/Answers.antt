use Rattle.std.proofs.Common.{◌≡◌, ℕ, ◌+◌, ◌≤◌, inl, inr, List, [], length, drop, ap, sym, ◌∙◌, length-drop, arith, Option, Some, None}
use Rattle.std.specs.Option.{option_map}
use Rattle.protox_fault.specs.declared.error.ParseErrorKind.{ParseErrorKind}
use Rattle.protox_lexeme.specs.BlockComments.{marks, marks_of, ending, faults_to}
use Rattle.protox_lexeme.specs.inner.Nesting.{in_front, read_len, run, run_out}
use Rattle.protox_lexeme.proofs.BlockExtent.{mark_within}
use Rattle.protox_lexeme.proofs.Literal.{ok_map}
use Rattle.protox_lexeme.proofs.Nesting.{faultless, no_marks, run_ending, run_ends, no_open}
use Rattle.protox_lexeme.proofs.block_comment.read_marks.Goals as goal

pub returns-in_err-end-clause-free : goal.returns-in_err-end-clause-free
returns-in_err-end-clause-free c h =
    let (k, rest, first) = faultless c.args.start (marks_of c.args.bytes.now) h in
    let (zero, none, same) = c.marks.invariant.calm k rest first in
    let ok = c.in_err-end.ensures.free none in
    absurd (cc)

pub returns-then-end_at-clause-within : goal.returns-then-end_at-clause-within
returns-then-end_at-clause-within c =
    let l = c.marks.levels in
    let at = c.marks.at in
    let bytes = c.args.bytes.now in
    let (closer, zero) = c.end_at.ensures.yes c.if-end_at.true in
    let here = c.mark_at-mark.ensures ∙ ap (λ m. in_front m at (marks (at + read_len m) (drop (at + read_len m) bytes))) closer in
    let turn = ap (λ ms. run c.args.start ms l.inner l.last l.settled.items l.since.items) (sym here) ∙ c.marks.invariant.whole ∙ run_ending c.args.start (marks_of bytes) in
    let ends = run_ends c.args.start at (marks (at + 2) (drop (at + 2) bytes)) l.inner l.last l.settled.items l.since.items zero in
    mark_within bytes (Some at) (ap (λ p. p.0) (sym ends ∙ turn))

pub returns-in_err-at-clause-free : goal.returns-in_err-at-clause-free
returns-in_err-at-clause-free c h =
    let (k, rest, first) = faultless c.args.start (marks_of c.args.bytes.now) h in
    let (zero, none, same) = c.marks.invariant.calm k rest first in
    let at = c.marks.at in
    let mark = c.mark_at-mark.result in
    elim (no_open mark at (marks (at + read_len mark) (drop (at + read_len mark) c.args.bytes.now)) k rest (sym c.mark_at-mark.ensures ∙ same ∙ first)) [
      | inl closer ↦ let some = c.end_at.ensures.no c.if-end_at.false closer in absurd (omega arith)
      | inr other ↦ let ok = c.in_err-at.ensures.none other in absurd (cc)
    ]

-- At the end of the text no `/*` and no `*/` is left.
module _ (start at inner : ℕ) (bytes : List ℕ) (last : Option ℕ) (settled since : List ParseErrorKind) where
  out : length bytes ≤ at + 1 → run start (marks at (drop at bytes)) inner last settled since ≡ run start (marks_of bytes) 0 None [] []
      → run_out last settled since ≡ (option_map (λ e. e.at) (ending (marks_of bytes)), faults_to start (marks_of bytes) (ending (marks_of bytes)))
  out h whole =
      let nothing = no_marks at (drop at bytes) (omega (arith, length-drop at bytes)) in
      ap (λ ms. run start ms inner last settled since) (sym nothing) ∙ whole ∙ run_ending start (marks_of bytes)

pub returns-clause-mark : goal.returns-clause-mark
returns-clause-mark c =
    let l = c.marks.levels in
    let all = out c.args.start c.marks.at l.inner c.args.bytes.now l.last l.settled.items l.since.items (omega arith) c.marks.invariant.whole in
    ok_map c.run_out.result _ _ (λ r h. ap (λ p. p.0) (h ∙ all)) c.run_out.ensures

pub returns-clause-faults : goal.returns-clause-faults
returns-clause-faults c =
    let l = c.marks.levels in
    let all = out c.args.start c.marks.at l.inner c.args.bytes.now l.last l.settled.items l.since.items (omega arith) c.marks.invariant.whole in
    ok_map c.run_out.result _ _ (λ r h. ap (λ p. p.1) (h ∙ all)) c.run_out.ensures

pub returns-clause-within : goal.returns-clause-within
returns-clause-within c =
    let l = c.marks.levels in
    let all = out c.args.start c.marks.at l.inner c.args.bytes.now l.last l.settled.items l.since.items (omega arith) c.marks.invariant.whole in
    ok_map c.run_out.result _ _ (λ r h. mark_within c.args.bytes.now r.0 (ap (λ p. p.0) (h ∙ all))) c.run_out.ensures

pub returns-clause-free : goal.returns-clause-free
returns-clause-free c h =
    let (k, rest, first) = faultless c.args.start (marks_of c.args.bytes.now) h in
    let (zero, none, same) = c.marks.invariant.calm k rest first in
    let nothing = no_marks c.marks.at (drop c.marks.at c.args.bytes.now) (omega (arith, length-drop c.marks.at c.args.bytes.now)) in
    absurd (cc)
