use Rattle.protox_usage.specs.First.IsOrderOf.{InNone, InOrder}
use Rattle.protox_usage.proofs.first.order_of.Goals as goal

pub returns-in-Sorted : goal.returns-in-Sorted
returns-in-Sorted c = InOrder c.in-Sorted.order.items (rw c.in-Sorted.is at c.in_ok-order.ensures.depth_first)

pub returns : goal.returns
returns c =
    rw c.new.ensures.items (InNone (record { circle = c.in-Cycle.field-0.items; closed = rw c.in-Cycle.is at c.in_ok-order.ensures.answer }))
