-- How a `Boxed` stores its value, so that a type may hold itself through one. Its value
-- is the value that it holds. In memory it is a `Box` of that.
use mathlib.Core.Path.{refl}
use mathlib.Core.Former.{Former, this, const, pair, via}
use base.Fml.{ftrue}
use base.Stored.{gnil}
use denote.HoleLaws.{Alike}
use denote.HolePlaces.{Recodes, struct_places, laid, one_value}
use denote.Hole.Fix.{over}
use denote.Memory.{part_of}
use denote.Model.Placed.{view_places}
use denote.Param.Weighed.{Weighed}
use denote.RattleType.{RattleType}
use denote.RawPtr.{Ptr}
use denote.Sharing.{nothing}
use Rattle.std.specs.contracts.alloc.Global as heap
use Rattle.std.specs.contracts.boxed.Box as block
use Rattle.std.specs.contracts.impls.GlobalAllocator.TheImpl.{ghosts}
use Rattle.std.specs.declared.alloc.Global.{Global}
use Rattle.std.specs.declared.boxed.Box.{Box}
use Rattle.protox_ast.specs.contracts.held.Boxed as contract
use Rattle.protox_ast.specs.contracts.held.Boxed.TheInside as layout
use Rattle.protox_ast.specs.declared.held.Boxed.TheInside.{Inside}
use Rattle.protox_ast.specs.declared.held.Boxed.TheView.{view, invariant}

-- The value for a type g: a value of g.
abbrev pub the_former : Former {0} → Former {0}
the_former g = g

-- The measure of the value.
abbrev pub the_weighed : {g : Former {0}} → Weighed g → Weighed (the_former g)
the_weighed w = w

-- The struct with its one private field.
abbrev record_of : Former {0}
record_of = via (pair (const (Ptr × Global)) this) Inside (λ X fields. ((fields.held.ptr, fields.held.alloc), fields.held.value))
    (λ X parts. record { held = record { ptr = parts.0.0; alloc = parts.0.1; value = parts.1 } }) (λ X fields. refl) (λ X parts. refl)

-- The box with another value.
abbrev holding : {X Y : Type 0} → Box X Global → Y → Box Y Global
holding b y = record { ptr = b.ptr; alloc = b.alloc; value = y }

abbrev block_of : RattleType → RattleType
block_of R = block.the_row R heap.the_row ghosts

module _ (R S : RattleType) (h : R.Denot → S.Denot) where
  blocks_alike : Alike R S h → Alike (block_of R) (block_of S) (λ b. holding b (h b.value))
  unfolding part_of
  blocks_alike alike = record {
    mir_same = λ i. (block_of (one_value R (alike.mir_same i) (λ _. ftrue) (λ _ _. nothing) gnil)).mir;
    own_same = λ b i. (block_of (one_value R (alike.mir_same i) (alike.own_same b.value i) (alike.shr_same b.value i) gnil)).own_val (holding b tt);
    shr_same = λ b i. (block_of (one_value R (alike.mir_same i) (alike.own_same b.value i) (alike.shr_same b.value i) gnil)).shr_at (holding b tt);
  }

  pub the_places : Alike R S h → Alike (contract.the_row R) (contract.the_row S) ((the_former this).map R.Denot S.Denot h)
  the_places alike =
      let fields : Alike (layout.the_row R) (layout.the_row S) (record_of.map R.Denot S.Denot h)
      = struct_places (layout.the_type R) (layout.the_type S) ((λ b. holding b (h b.value)), tt) _ (λ d. refl) refl (laid _ _ _ (blocks_alike alike), tt) in
      view_places record_of this view (λ X Y k u. refl) (λ X u. refl) R.Denot S.Denot h (contract.the_row R).coded (contract.the_row S).coded
      (invariant R.Denot) (invariant S.Denot) (λ u p q. refl) (λ u p q. refl) (λ u e. tt) (λ u e. tt) (over (layout.the_row R)) (over (layout.the_row S)) fields

  pub the_codes_placed : Recodes R S h → Recodes (contract.the_row R) (contract.the_row S) ((the_former this).map R.Denot S.Denot h)
  the_codes_placed same value = same value
