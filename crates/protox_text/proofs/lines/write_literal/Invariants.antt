use Rattle.std.proofs.Common.{take, flat_map}
use Rattle.std.specs.Io.KnownBytes.{Appends}
use Rattle.protox_descriptor.specs.Literal.{printed_byte}
use Rattle.protox_text.proofs.lines.write_literal.Given as goal

abbrev pub invariant-loop-byte : goal.invariant-loop-byte
invariant-loop-byte g l = Appends (g.W.Write.contents l.initial.out) (g.W.Write.contents l.out) (flat_map printed_byte (take l.byte-index l.bytes))
