use Rattle.std.proofs.Common.{arith}
use Rattle.protox_text_format.proofs.ScalarEnds.{strings_front, strings_more}
use Rattle.protox_text_format.proofs.scalars.behind_strings.Goals as goal

pub strings-init : goal.strings-init
strings-init c = record { within = omega arith; strings = strings_front c.args.pieces.now }

pub strings-preserved : goal.strings-preserved
strings-preserved c = record {
  within = omega arith;
  strings = strings_more c.args.pieces.now _ c.in-Some.more.now c.strings.invariant.strings c.in-Some.ensures;
}
