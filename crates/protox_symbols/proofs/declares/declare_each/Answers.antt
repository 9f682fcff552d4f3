use Rattle.std.proofs.Common.{◌≤◌, length, w32, refl, sym, ap, ◌∙◌, arith}
use Rattle.std.proofs.lemmas.Bool.{eqb-true}
use Rattle.std.proofs.lemmas.Int.{to_z-of_z}
use Rattle.protox_walk.specs.Declarations.{all_in, siblings_at}
use Rattle.protox_symbols.specs.Scopes.{scope_name, with_declarations}
use Rattle.protox_symbols.proofs.Folding.{sibling_added, siblings_added}
use Rattle.protox_symbols.proofs.Growing.{kept}
use Rattle.protox_symbols.proofs.Siblings.{place_kept, place_of}
use Rattle.protox_symbols.proofs.declares.declare_each.Goals as goal

pub loop-index-preserved : goal.loop-index-preserved
loop-index-preserved g c =
    let before = c.loop-index.symbols in
    let after = c.declare.new.symbols in
    let scope = kept c.args.file before after _ c.args.scope c.in_ok-declare.ensures c.loop-index.invariant.known in
    let at = place_of c.args.path.now _ c.loop-index.place.items c.put_index.new.path.items _ c.loop-index.index refl c.loop-index.invariant.place c.in_ok-put_index.ensures in
    record {
      known = scope.known;
      place = place_kept c.args.path.now _ c.put_index.new.path.items c.loop-index.index at;
      kept = scope.named ∙ c.loop-index.invariant.kept;
      left =
          sibling_added c.args.file g.D.Declares.declares (scope_name c.args.symbols.now c.args.scope) (scope_name before c.args.scope) c.args.path.now c.deref.result.now _ c.as_slice-elements.result.now c.loop-index.index
          c.index-elements-index.result before after c.loop-index-test.true c.index-elements-index.is c.loop-index.invariant.kept (c.deref.ensures.value ∙ at) c.in_ok-declare.ensures
          ∙ c.loop-index.invariant.left;
    }

pub returns-clause-declared : goal.returns-clause-declared
returns-clause-declared g c =
    let end : length c.as_slice-elements.result.now ≤ c.loop-index.index = omega arith in
    let scope = scope_name c.args.symbols.now c.args.scope in
    sym (siblings_added c.args.file g.D.Declares.declares scope c.args.path.now _ c.as_slice-elements.result.now c.loop-index.index c.loop-index.symbols end)
    ∙ c.loop-index.invariant.left
    ∙ ap (λ tag. with_declarations c.args.file c.args.symbols.now (siblings_at c.args.path.now tag (all_in g.D.Declares.declares scope c.as_slice-elements.result.now))) (to_z-of_z w32 c.args.tag c.ranges.tag)
    ∙ ap (λ siblings. with_declarations c.args.file c.args.symbols.now (siblings_at c.args.path.now c.args.tag (all_in g.D.Declares.declares scope siblings))) c.as_slice-elements.ensures

pub returns-then-is_empty-clause-declared : goal.returns-then-is_empty-clause-declared
returns-then-is_empty-clause-declared g c =
    let scope = scope_name c.args.symbols.now c.args.scope in
    sym (siblings_added c.args.file g.D.Declares.declares scope c.args.path.now c.args.tag c.as_slice-elements.result.now 0 c.args.symbols.now (omega (arith, eqb-true (length c.as_slice-elements.result.now) 0 (sym c.is_empty.ensures ∙ c.if-is_empty.true))))
    ∙ ap (λ siblings. with_declarations c.args.file c.args.symbols.now (siblings_at c.args.path.now c.args.tag (all_in g.D.Declares.declares scope siblings))) c.as_slice-elements.ensures
