use Rattle.std.specs.Io.KnownBytes.{Appends}
use Rattle.protox_text.specs.TextLines.{indent}
use Rattle.protox_text.proofs.lines.write_indent.Given as goal

abbrev pub invariant-loop : goal.invariant-loop
invariant-loop g l = Appends (g.W.Write.contents l.initial.out) (g.W.Write.contents l.out) (indent l.counter)
