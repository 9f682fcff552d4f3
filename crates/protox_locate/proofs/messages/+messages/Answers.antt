-- A loop, and the parts of a body one after another. The prover takes a minute for the latter.
use Rattle.std.proofs.Common.{List, ◌++◌, ◌<◌, length, map, sym, subst, Result, arith}
use Rattle.std.specs.Prelude.{ℤ, OnOk}
use Rattle.protox_ast.specs.Options.{OptionStatement}
use Rattle.protox_ast.specs.Steps.{of_item}
use Rattle.protox_ast.specs.declared.ast.Extensions.{Extensions}
use Rattle.protox_ast.specs.declared.ast.MessageItem.{MessageItem}
use Rattle.protox_ast.specs.declared.ast.Reserved.{Reserved}
use Rattle.protox_descriptor.specs.declared.tag.message.TheConstants.{ENUM_TYPE, FIELD, NESTED_TYPE}
use Rattle.protox_fault.specs.Faults.{Span}
use Rattle.protox_ast.proofs.Lemmas.{body-gives}
use Rattle.protox_places.specs.Lines.{numbers_at}
use Rattle.protox_locate.specs.LocationWords.{Part, extensions_statements}
use Rattle.protox_locate.specs.Locations.{OfItem, all_of, from_blocks, location_steps}
use Rattle.protox_locate.specs.inner.Walk.{Emits}
use Rattle.protox_locate.specs.declared.context.Context.{Context}
use Rattle.protox_locate.proofs.Numbered.{first_then_ok, some_more}
use Rattle.protox_locate.proofs.messages.+messages.Goals as goal

module _ (n : Span → List ℤ) (items : List OfItem) (extensions : List Extensions) (options : List OptionStatement) (reserved : List Reserved) where
  abbrev fields : Part
  fields path = all_of (λ (i : OfItem). i.fields) path FIELD items

  abbrev messages : Part
  messages path = all_of (λ (i : OfItem). i.messages) path NESTED_TYPE items

  abbrev enums : Part
  enums path = all_of (λ (i : OfItem). i.enums) path ENUM_TYPE items

  abbrev ranges : Part
  ranges path = extensions_statements n path extensions

  abbrev rest : Part
  rest path = from_blocks n path items options reserved

  abbrev whole : Part
  whole path = fields path ++ (messages path ++ (enums path ++ (ranges path ++ rest path)))

  follow : {X Y : Type 0} (r : Result X Y) (c0 c1 c2 c3 c4 c5 : Context) → Emits c0 c1 (fields c0.path) → Emits c1 c2 (messages c1.path)
      → Emits c2 c3 (enums c2.path) → Emits c3 c4 (ranges c3.path) → OnOk r (Emits c4 c5 (rest c4.path))
      → OnOk r (Emits c0 c5 (whole c0.path))
  follow r c0 c1 c2 c3 c4 c5 e1 e2 e3 e4 e5 =
      let f4 : OnOk r (Emits c3 c5 (ranges c3.path ++ rest c3.path)) = first_then_ok r c3 c4 c5 ranges rest e4 e5 in
      let f3 : OnOk r (Emits c2 c5 (enums c2.path ++ (ranges c2.path ++ rest c2.path))) = first_then_ok r c2 c3 c5 enums (λ p. ranges p ++ rest p) e3 f4 in
      let f2 : OnOk r (Emits c1 c5 (messages c1.path ++ (enums c1.path ++ (ranges c1.path ++ rest c1.path)))) =
      first_then_ok r c1 c2 c5 messages (λ p. enums p ++ (ranges p ++ rest p)) e2 f3 in
      first_then_ok r c0 c1 c5 fields (λ p. messages p ++ (enums p ++ (ranges p ++ rest p))) e1 f2

pub locate_body-returns : goal.locate_body-returns
locate_body-returns t c =
    let n : Span → List ℤ = numbers_at c.args.lines.now in
    let r = c.locate_from_blocks.result in
    let old = c.args.context.now in
    let now = c.locate_from_blocks.new.context in
    let here : List MessageItem → List OfItem = map (of_item (location_steps n)) in
    let ast = c.args.ast.now in
    let last =
    subst (λ (l : List MessageItem). OnOk r (Emits c.locate_extension_ranges.new.context now (from_blocks n c.locate_extension_ranges.new.context.path (here l) ast.options ast.reserved)))
    (sym c.as_slice-items.ensures) c.locate_from_blocks.ensures in
    let all =
    follow n (here c.as_slice-items.result.now) c.as_slice.result.now ast.options ast.reserved r old
    c.locate_fields.new.context c.locate_messages.new.context c.locate_enums.new.context c.locate_extension_ranges.new.context now
    c.in_ok-locate_fields.ensures c.in_ok-locate_messages.ensures c.in_ok-locate_enums.ensures c.in_ok-locate_extension_ranges.ensures last in
    subst (λ (at : Part). OnOk r (Emits old now (at old.path))) (sym (body-gives (location_steps n) c.args.ast.now))
    (subst (λ (l : List MessageItem). OnOk r (Emits old now (whole n (here l) ast.extensions ast.options ast.reserved old.path))) c.as_slice-items.ensures
    (subst (λ (l : List Extensions). OnOk r (Emits old now (whole n (here c.as_slice-items.result.now) l ast.options ast.reserved old.path))) c.as_slice.ensures all))

pub locate_messages-loop-item-preserved : goal.locate_messages-loop-item-preserved
locate_messages-loop-item-preserved t c =
    let lt : c.loop-item.item-index < length c.args.items.now = omega arith in
    some_more _ _ _ _ _ _ _ _ _ c.args.items.now _ _ _ c.loop-item.invariant c.in_ok-next.ensures.siblings c.item-item.is lt
