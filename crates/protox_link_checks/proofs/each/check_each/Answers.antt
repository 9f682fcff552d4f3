use Rattle.std.proofs.Common.{◌++◌, ◌≤◌, length, w32, refl, sym, ap, ◌∙◌, arith}
use Rattle.std.specs.List.{flat_map}
use Rattle.std.proofs.lemmas.Bool.{eqb-true}
use Rattle.std.proofs.lemmas.Int.{to_z-of_z}
use Rattle.protox_symbols.proofs.Lemmas.{place_kept, place_of}
use Rattle.protox_walk.specs.Declarations.{all_in, siblings_at}
use Rattle.protox_link_checks.specs.Faults.{declared_faults}
use Rattle.protox_link_checks.proofs.Folding.{sibling_checked, siblings_checked}
use Rattle.protox_link_checks.proofs.each.check_each.Goals as goal

pub loop-index-preserved : goal.loop-index-preserved
loop-index-preserved g c =
    let view = c.args.of.now.view.now in
    let at = place_of c.args.path.now _ c.loop-index.place.items c.put_index.new.path.items _ c.loop-index.index refl c.loop-index.invariant.place c.in_ok-put_index.ensures in
    record {
      place = place_kept c.args.path.now _ c.put_index.new.path.items c.loop-index.index at;
      checked = λ full h.
          sibling_checked (declared_faults view.symbols.now view.sees.now view.packages c.args.of.now.number) g.C.Checked.declares full c.args.path.now c.deref.result.now _ c.as_slice-elements.result.now c.loop-index.index
          c.index-elements-index.result c.loop-index.faults.items c.check.new.faults.items c.loop-index-test.true c.index-elements-index.is (c.deref.ensures.value ∙ at) (c.in_ok-check.ensures full h)
          ∙ c.loop-index.invariant.checked full h;
    }

pub returns-then-is_empty : goal.returns-then-is_empty
returns-then-is_empty g c full h =
    let view = c.args.of.now.view.now in
    let wrong = declared_faults view.symbols.now view.sees.now view.packages c.args.of.now.number in
    let end : length c.as_slice-elements.result.now ≤ 0 = omega (arith, eqb-true (length c.as_slice-elements.result.now) 0 (sym c.is_empty.ensures ∙ c.if-is_empty.true)) in
    sym (siblings_checked wrong g.C.Checked.declares full c.args.path.now c.args.tag c.as_slice-elements.result.now 0 c.args.faults.now.items end)
    ∙ ap (λ siblings. c.args.faults.now.items ++ flat_map wrong (siblings_at c.args.path.now c.args.tag (all_in g.C.Checked.declares full siblings))) c.as_slice-elements.ensures

pub returns : goal.returns
returns g c full h =
    let view = c.args.of.now.view.now in
    let wrong = declared_faults view.symbols.now view.sees.now view.packages c.args.of.now.number in
    let end : length c.as_slice-elements.result.now ≤ c.loop-index.index = omega arith in
    sym (siblings_checked wrong g.C.Checked.declares full c.args.path.now _ c.as_slice-elements.result.now c.loop-index.index c.loop-index.faults.items end)
    ∙ c.loop-index.invariant.checked full h
    ∙ ap (λ tag. c.args.faults.now.items ++ flat_map wrong (siblings_at c.args.path.now tag (all_in g.C.Checked.declares full c.as_slice-elements.result.now))) (to_z-of_z w32 c.args.tag c.ranges.tag)
    ∙ ap (λ siblings. c.args.faults.now.items ++ flat_map wrong (siblings_at c.args.path.now c.args.tag (all_in g.C.Checked.declares full siblings))) c.as_slice-elements.ensures
