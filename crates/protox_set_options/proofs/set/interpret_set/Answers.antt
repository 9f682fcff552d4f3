use Rattle.std.proofs.Common.{arith}
use Rattle.protox_set_options.proofs.Files.{all_done}
use Rattle.protox_set_options.proofs.ReadBack.{all_read_back}
use Rattle.protox_set_options.proofs.set.interpret_set.Goals as goal

pub returns-clause-interpreted : goal.returns-clause-interpreted
returns-clause-interpreted c = all_done c.args.files.now c.loop-number.number c.loop-number.all.items (omega arith) c.loop-number.invariant

pub returns-clause-reads_back : goal.returns-clause-reads_back
returns-clause-reads_back c = all_read_back c.args.files.now 0 c.args.files.now c.loop-number.all.items (all_done c.args.files.now c.loop-number.number c.loop-number.all.items (omega arith) c.loop-number.invariant)
