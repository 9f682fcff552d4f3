use Rattle.std.proofs.Common.{◌≡◌, ◌++◌, map, take}
use Rattle.protox_ast.specs.declared.ast.Ident.{Ident}
use Rattle.protox_describe.proofs.ranges.push_texts.Given as goal

abbrev pub invariant-loop-name : goal.invariant-loop-name
invariant-loop-name l = l.found ≡ l.initial.found ++ map (λ (name : Ident). name.value) (take l.name-index l.names)
