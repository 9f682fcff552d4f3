-- How an `Items` stores its elements, so that a type may hold itself through one. Its
-- value is the list of its elements in order. In memory it is one `Vec` of them.
use mathlib.Core.Path.{◌≡◌, refl, sym}
use mathlib.Core.List.{List, []}
use mathlib.Core.Former.{Former, this, list, via, children}
use base.Stored.{code_map}
use denote.RattleType.{RattleType}
use denote.HoleLaws.{Alike}
use denote.HolePlaces.{Recodes, struct_places, laid}
use denote.Hole.Carrier.{listed, list-listed}
use denote.Hole.Fix.{over}
use denote.Param.Weighed.{Weighed, w_list}
use denote.Model.Placed.{view_places}
use Rattle.std.specs.formers.vec.Vec as vector
use Rattle.std.specs.declared.alloc.Global.{Global}
use Rattle.std.specs.contracts.alloc.Global as heap
use Rattle.std.specs.contracts.impls.GlobalAllocator.TheImpl.{ghosts}
use Rattle.protox_descriptor.specs.declared.values.items.Items.TheInside.{Inside}
use Rattle.protox_descriptor.specs.declared.values.items.Items.TheView.{view, invariant}
use Rattle.protox_descriptor.specs.contracts.values.items.Items as contract
use Rattle.protox_descriptor.specs.contracts.values.items.Items.TheInside as layout

-- The value for elements of type g: a list of them.
abbrev pub the_former : Former {0} → Former {0}
the_former g = list g

-- The largest measure of an element.
abbrev pub the_weighed : {g : Former {0}} → Weighed g → Weighed (the_former g)
the_weighed w = w_list w

-- The empty list, whatever the type.
pub the_empty : List ⊥
the_empty = []

-- The elements, which are the value itself.
abbrev pub the_items : (X : Type 0) → List X → List X
the_items X elements = elements

-- The parts of the value are its elements, each once and in order.
pub the_items_listed : (X : Type 0) (elements : List X) → listed _ (children (the_former this) X elements) ≡ the_items X elements
the_items_listed X elements = list-listed X elements

-- The struct with its one private field.
abbrev record_of : Former {0}
record_of = via (vector.the_former this Global) Inside (λ X fields. fields.elements) (λ X elements. record { elements = elements }) (λ X fields. refl) (λ X elements. refl)

module _ (R S : RattleType) (h : R.Denot → S.Denot) where
  pub the_places : Alike R S h → Alike (contract.the_row R) (contract.the_row S) ((the_former this).map R.Denot S.Denot h)
  the_places alike =
      let fields : Alike (layout.the_row R) (layout.the_row S) (record_of.map R.Denot S.Denot h)
      = struct_places (layout.the_type R) (layout.the_type S) (vector.mapped h, tt) _ (λ d. refl) refl (laid _ _ _ (vector.the_places heap.the_row ghosts R S h alike), tt) in
      view_places record_of (list this) view (λ X Y k u. refl) (λ X u. refl) R.Denot S.Denot h (contract.the_row R).coded (contract.the_row S).coded
      (invariant R.Denot) (invariant S.Denot) (λ u p q. refl) (λ u p q. refl) (λ u e. tt) (λ u e. tt) (over (layout.the_row R)) (over (layout.the_row S)) fields

  pub the_codes_placed : Recodes R S h → Recodes (contract.the_row R) (contract.the_row S) ((the_former this).map R.Denot S.Denot h)
  the_codes_placed same elements = sym (code_map R.coded.code S.coded.code h (λ x. sym (same x)) elements)
