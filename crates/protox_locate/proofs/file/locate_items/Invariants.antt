use Rattle.std.proofs.Common.{[], take}
use Rattle.protox_locate.specs.inner.Draft.{IsDraft}
use Rattle.protox_places.specs.Lines.{numbers_at}
use Rattle.protox_locate.proofs.file.locate_items.Given as goal

abbrev pub invariant-loop-item : goal.invariant-loop-item
invariant-loop-item l =
    IsDraft (numbers_at l.lines) [] l.initial.draft → IsDraft (numbers_at l.lines) (take l.item-index l.items) l.draft
