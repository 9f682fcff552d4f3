use Rattle.std.specs.List.{FoldsTo}
use Rattle.std.specs.Vec.Iter.{drain_items}
use Rattle.protox_syntax.proofs.taking.TakesItems.take_all.Given as goal

-- a fold over what is left completes a fold over all
abbrev pub invariant-loop-item : goal.invariant-loop-item
invariant-loop-item g l =
    (end : g.row.Self.Denot)
    → FoldsTo (g.Self.TakesItems.takes l.head.syntax) l.self (drain_items l.item-iterator) end
    → FoldsTo (g.Self.TakesItems.takes l.head.syntax) l.fn.self l.fn.items.items end
