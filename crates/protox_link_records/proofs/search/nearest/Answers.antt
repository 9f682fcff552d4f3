use Rattle.std.proofs.Common.{◌-◌, ◌+◌, arith, length, sym, ◌∙◌}
use Rattle.protox_link_records.proofs.Nearest.{nearest-none}
use Rattle.protox_link_records.proofs.search.nearest.Goals as goal

pub loop-shorter-preserved : goal.loop-shorter-preserved
loop-shorter-preserved c =
    c.loop-shorter.invariant
    ∙ nearest-none c.args.path.now c.args.info.now.location (length c.args.path.now - c.loop-shorter.shorter) (length c.args.path.now - (c.loop-shorter.shorter + 1))
    (omega (arith, c.loop-shorter-test.true)) (sym c.in_default.ensures)
