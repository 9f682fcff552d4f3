use Rattle.std.specs.List.{FoldsTo}
use Rattle.std.specs.Vec.Iter.{drain_items}
use Rattle.protox_parse.specs.declared.translate.Translation.{Translation}
use Rattle.protox_parse.specs.inner.Made.{TakesNext}
use Rattle.protox_parse.proofs.translate.Translation.take_each.Given as goal

-- a fold over what is left completes a fold over all
abbrev pub invariant-loop-item : goal.invariant-loop-item
invariant-loop-item l =
    (end : Translation)
    → FoldsTo (TakesNext l.head.syntax) l.self (drain_items l.item-iterator) end
    → FoldsTo (TakesNext l.head.syntax) l.fn.self l.fn.items.items end
