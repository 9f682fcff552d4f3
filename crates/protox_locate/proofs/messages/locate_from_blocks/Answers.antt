-- The parts of a body one after another. The prover takes a minute for this.
use Rattle.std.proofs.Common.{List, ◌++◌, flat_map, map, sym, ◌∙◌, subst, Result}
use Rattle.std.specs.Prelude.{ℤ, OnOk}
use Rattle.protox_ast.specs.Options.{OptionStatement}
use Rattle.protox_ast.specs.Steps.{of_item}
use Rattle.protox_ast.specs.declared.ast.MessageItem.{MessageItem}
use Rattle.protox_ast.specs.declared.ast.Reserved.{Reserved}
use Rattle.protox_descriptor.specs.declared.tag.message.TheConstants.{EXTENSION, ONEOF_DECL, OPTIONS, RESERVED_NAME, RESERVED_RANGE}
use Rattle.protox_fault.specs.Faults.{Span}
use Rattle.protox_places.specs.Lines.{numbers_at}
use Rattle.protox_locate.specs.LocationWords.{Part, each_at, name_statements, option_statements, part, range_statements}
use Rattle.protox_locate.specs.Locations.{OfItem, all_of, from_blocks, location_steps}
use Rattle.protox_locate.specs.inner.Walk.{Emits}
use Rattle.protox_locate.specs.declared.context.Context.{Context}
use Rattle.protox_locate.proofs.Numbered.{first_then_ok}
use Rattle.protox_locate.proofs.messages.locate_from_blocks.Goals as goal

module _ (n : Span → List ℤ) (items : List OfItem) (options : List OptionStatement) (reserved : List Reserved) where
  abbrev blocks : Part
  blocks path = each_at (part path EXTENSION) (flat_map (λ (i : OfItem). i.blocks) items)

  abbrev extensions : Part
  extensions path = all_of (λ (i : OfItem). i.extensions) path EXTENSION items

  abbrev statements : Part
  statements path = option_statements n (part path OPTIONS) options

  abbrev oneofs : Part
  oneofs path = all_of (λ (i : OfItem). i.oneofs) path ONEOF_DECL items

  abbrev ranges : Part
  ranges path = range_statements n path RESERVED_RANGE reserved

  abbrev names : Part
  names path = name_statements n path RESERVED_NAME reserved

  follow : {X Y : Type 0} (r : Result X Y) (c0 c1 c2 c3 c4 c5 c6 : Context) → Emits c0 c1 (blocks c0.path) → Emits c1 c2 (extensions c1.path)
      → Emits c2 c3 (statements c2.path) → Emits c3 c4 (oneofs c3.path) → Emits c4 c5 (ranges c4.path) → OnOk r (Emits c5 c6 (names c5.path))
      → OnOk r (Emits c0 c6 (from_blocks n c0.path items options reserved))
  follow r c0 c1 c2 c3 c4 c5 c6 e1 e2 e3 e4 e5 e6 =
      let f5 : OnOk r (Emits c4 c6 (ranges c4.path ++ names c4.path)) = first_then_ok r c4 c5 c6 ranges names e5 e6 in
      let f4 : OnOk r (Emits c3 c6 (oneofs c3.path ++ (ranges c3.path ++ names c3.path))) = first_then_ok r c3 c4 c6 oneofs (λ p. ranges p ++ names p) e4 f5 in
      let f3 : OnOk r (Emits c2 c6 (statements c2.path ++ (oneofs c2.path ++ (ranges c2.path ++ names c2.path)))) =
      first_then_ok r c2 c3 c6 statements (λ p. oneofs p ++ (ranges p ++ names p)) e3 f4 in
      let f2 : OnOk r (Emits c1 c6 (extensions c1.path ++ (statements c1.path ++ (oneofs c1.path ++ (ranges c1.path ++ names c1.path))))) =
      first_then_ok r c1 c2 c6 extensions (λ p. statements p ++ (oneofs p ++ (ranges p ++ names p))) e2 f3 in
      first_then_ok r c0 c1 c6 blocks (λ p. extensions p ++ (statements p ++ (oneofs p ++ (ranges p ++ names p)))) e1 f2

pub returns : goal.returns
returns c =
    let n : Span → List ℤ = numbers_at c.args.lines.now in
    let r = c.locate_names.result in
    let old = c.args.context.now in
    let now = c.locate_names.new.context in
    let here : List MessageItem → List OfItem = map (of_item (location_steps n)) in
    let last =
    subst (λ (l : List Reserved). OnOk r (Emits c.locate_ranges.new.context now (name_statements n c.locate_ranges.new.context.path RESERVED_NAME l)))
    (c.as_slice-3.ensures ∙ sym c.as_slice-2.ensures) c.locate_names.ensures in
    let all =
    follow n (here c.as_slice-items.result.now) c.as_slice.result.now c.as_slice-2.result.now r old
    c.locate_blocks.new.context c.locate_extensions.new.context c.locate_options.new.context c.locate_oneofs.new.context c.locate_ranges.new.context now
    c.in_ok-locate_blocks.ensures c.in_ok-locate_extensions.ensures c.in_ok-locate_options.ensures c.in_ok-locate_oneofs.ensures c.in_ok-locate_ranges.ensures last in
    subst (λ (l : List MessageItem). OnOk r (Emits old now (from_blocks n old.path (here l) c.args.ast.now.options c.args.ast.now.reserved))) c.as_slice-items.ensures
    (subst (λ (l : List OptionStatement). OnOk r (Emits old now (from_blocks n old.path (here c.as_slice-items.result.now) l c.args.ast.now.reserved))) c.as_slice.ensures
    (subst (λ (l : List Reserved). OnOk r (Emits old now (from_blocks n old.path (here c.as_slice-items.result.now) c.as_slice.result.now l))) c.as_slice-2.ensures all))
