use Rattle.std.proofs.Common.{flat_map, take}
use Rattle.std.specs.Fmt.{HasWritten, IsPlainFormatter}
use Rattle.protox_descriptor.specs.Printed.{later_part_text}
use Rattle.protox_descriptor.proofs.printed.write_later_parts.Given as goal

abbrev pub invariant-loop-part : goal.invariant-loop-part
invariant-loop-part g l =
    IsPlainFormatter l.initial.f → HasWritten g.W.Write.write_str_gives l.initial.f (flat_map later_part_text (take l.part-index l.parts)) l.f
