use Rattle.std.proofs.Common.{◌≡◌, map, take}
use Rattle.protox_ast.specs.Options.{name_part}
use Rattle.protox_describe.proofs.options.name_parts.Given as goal

abbrev pub invariant-loop-part : goal.invariant-loop-part
invariant-loop-part l = l.parts.items ≡ map name_part (take l.part-index l.ast)
