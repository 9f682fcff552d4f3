use Rattle.std.proofs.Common.{◌∙◌, ap, Some, None, arith}
use Rattle.std.proofs.lemmas.Option.{slice_get-get_or}
use Rattle.protox_imports.proofs.Elements.{get_or_any, contains_at}
use Rattle.protox_imports.proofs.Marking.{named_more, gap_more, named_all}
use Rattle.protox_imports.proofs.seen.mark_named.Goals as goal
use Rattle.protox_imports.proofs.seen.mark_named.Goals.{in-Some+in_ok-mark, in_default}

pub mark-requires : goal.mark-requires
mark-requires c =
    let named = c.args.named.now in
    let i = c.loop-file.file-index in
    let count = c.loop-file.invariant.count in
    let below = c.requires c.in-Some.file
    (contains_at named i (Some c.in-Some.file)
    (slice_get-get_or named i None c.loop-file-test.true ∙ ap Some c.in-Some.is)) in
    omega (arith, count, below)

pub loop-file-preserved : goal.loop-file-preserved
loop-file-preserved c = elim c.match-file.branch [
  | in-Some+in_ok-mark w ↦
      let named = c.args.named.now in
      let i = c.loop-file.file-index in
      let count = c.loop-file.invariant.count in
      let below = c.requires w.in-Some.file
      (contains_at named i (Some w.in-Some.file)
      (slice_get-get_or named i None c.loop-file-test.true ∙ ap Some w.in-Some.is)) in
      named_more c.args.marks.now c.args.list.now.items named c.loop-file.marks
      c.match-file.marks c.loop-file.list.items c.match-file.list.items i w.in-Some.file
      c.loop-file-test.true
      (get_or_any named i (Some w.in-Some.file) None c.loop-file-test.true ∙ w.in-Some.is)
      (omega (arith, count, below)) (w.marks-is ∙ w.in_ok-mark.ensures.marks)
      (ap (λ v. v.items) w.list-is ∙ w.in_ok-mark.ensures.list) c.loop-file.invariant
  | in_default w ↦
      gap_more c.args.marks.now c.args.list.now.items c.args.named.now c.loop-file.marks
      c.match-file.marks c.loop-file.list.items c.match-file.list.items
      c.loop-file.file-index c.loop-file-test.true w.in_default.is w.marks-is
      (ap (λ v. v.items) w.list-is) c.loop-file.invariant
]

pub returns : goal.returns
returns c =
    named_all c.args.marks.now c.args.list.now.items c.args.named.now c.loop-file.marks
    c.loop-file.list.items c.loop-file.file-index (omega arith) c.loop-file.invariant
