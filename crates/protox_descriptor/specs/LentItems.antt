-- What a list becomes after elements of it were lent to be changed.
use Rattle.std.specs.Prelude.{ℕ, List, Option, length, slice_set}
use Rattle.std.specs.List.{refill}
use Rattle.std.specs.Borrow.{LendsIf, follows, Fml, RattleType, MutBor, Array}
use Rattle.std.specs.declared.slice.IterMut.{IterMut}
use Rattle.std.specs.Slice.Iter.{iter_mut_name}
use Rattle.protox_descriptor.specs.contracts.values.items.Items.{the_row}

module _ (T : RattleType) (list : MutBor (List T.Denot)) where
  -- The list after its element at an index was lent. That element has the last value behind the
  -- reference. Without a reference the list stays as it was.
  abbrev pub lends_element : ℕ → Option (MutBor T.Denot) → Fml
  lends_element index lent = LendsIf (the_row T) T list lent (slice_set list.now index) list.now

  -- The list after an iterator lent its elements. Each has the last value behind its reference, and
  -- the list keeps its length.
  abbrev pub lends_elements : IterMut T.Denot → Fml
  lends_elements lent =
      follows (the_row T) (Array T 0) list.ghost_name (iter_mut_name lent) (refill (length list.now) list.now)
