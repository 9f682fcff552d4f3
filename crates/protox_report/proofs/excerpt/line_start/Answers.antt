use Rattle.std.proofs.Common.{◌+◌, arith}
use Rattle.protox_report.proofs.Windows.{no-newline, part-length}
use Rattle.protox_report.proofs.excerpt.line_start.Goals as goal

pub returns-in-Some-clause-clean : goal.returns-in-Some-clause-clean
returns-in-Some-clause-clean c k above below =
    let long = part-length c.args.bytes.now c.args.least c.args.start c.requires.start in
    no-newline c.args.bytes.now c.args.least c.args.start (c.in-Some.newline + 1) _ c.in-Some.ensures.0.after k (omega (arith, above)) (omega (arith, long, below)) below

pub returns-in-None-clause-clean : goal.returns-in-None-clause-clean
returns-in-None-clause-clean c k above below =
    let long = part-length c.args.bytes.now c.args.least c.args.start c.requires.start in
    no-newline c.args.bytes.now c.args.least c.args.start 0 _ c.in-None.ensures k (omega (arith, above)) (omega (arith, long, below)) below
