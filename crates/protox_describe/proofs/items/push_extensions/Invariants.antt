use Rattle.std.proofs.Common.{◌≡◌, ◌++◌, map, take}
use Rattle.protox_ast.specs.Steps.{of_field}
use Rattle.protox_ast.specs.declared.ast.Extend.{out-Extend}
use Rattle.protox_describe.specs.Descriptor.{Gives, descriptor_steps, extending}
use Rattle.protox_describe.proofs.items.push_extensions.Given as goal

abbrev pub invariant-loop-part : goal.invariant-loop-part
invariant-loop-part l = l.found ≡ l.initial.found ++ map (λ (gives : Gives). gives.field) (map (λ part. extending (out-Extend l.ast).extendee (of_field (descriptor_steps l.syntax) part)) (take l.part-index l.part-items))
