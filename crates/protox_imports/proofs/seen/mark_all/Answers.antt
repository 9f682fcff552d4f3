use Rattle.std.proofs.Common.{get_or, arith}
use Rattle.std.proofs.lemmas.List.Elements.{Contains-get_or}
use Rattle.protox_imports.proofs.Elements.{get_or_any}
use Rattle.protox_imports.proofs.Marking.{all_more}
use Rattle.protox_imports.proofs.seen.mark_all.Goals as goal

pub mark-requires : goal.mark-requires
mark-requires c =
    let count = c.loop-file.invariant.count in
    let below = c.requires (get_or c.args.files.now c.loop-file.file-index 0)
    (Contains-get_or c.args.files.now c.loop-file.file-index 0 c.loop-file-test.true) in
    omega (arith, count, below)

pub loop-file-preserved : goal.loop-file-preserved
loop-file-preserved c =
    let files = c.args.files.now in
    let i = c.loop-file.file-index in
    let count = c.loop-file.invariant.count in
    let below = c.requires (get_or files i 0) (Contains-get_or files i 0 c.loop-file-test.true) in
    all_more c.args.marks.now c.args.list.now.items files c.loop-file.marks c.mark.new.marks
    c.loop-file.list.items c.mark.new.list.items i (get_or files i 0) c.loop-file-test.true
    (get_or_any files i (get_or files i 0) 0 c.loop-file-test.true)
    (omega (arith, count, below)) c.in_ok-mark.ensures.marks c.in_ok-mark.ensures.list
    c.loop-file.invariant
