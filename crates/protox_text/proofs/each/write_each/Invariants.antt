use Rattle.std.proofs.Common.{take}
use Rattle.std.specs.Io.KnownBytes.{Appends}
use Rattle.protox_text.specs.TextLines.{each}
use Rattle.protox_text.proofs.each.write_each.Given as goal

abbrev pub invariant-loop-part : goal.invariant-loop-part
invariant-loop-part g l =
    Appends (g.W.Write.contents l.initial.out) (g.W.Write.contents l.out) (each g.T.InText.text (take l.part-index l.parts) l.level.depth l.name)
