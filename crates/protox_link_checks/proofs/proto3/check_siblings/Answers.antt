use Rattle.std.proofs.Common.{◌++◌, ◌≤◌, length, w32, sym, ap, ◌∙◌, arith}
use Rattle.std.specs.List.{flat_map}
use Rattle.std.proofs.lemmas.Int.{to_z-of_z}
use Rattle.protox_walk.specs.Declarations.{all_in, siblings_at}
use Rattle.protox_link_checks.specs.Proto3.{faults_of_proto3}
use Rattle.protox_link_checks.proofs.Folding.{sibling_checked, siblings_checked}
use Rattle.protox_link_checks.proofs.proto3.check_siblings.Goals as goal

pub loop-index-preserved : goal.loop-index-preserved
loop-index-preserved g c full =
    sibling_checked (faults_of_proto3 c.args.file) g.I.InProto3.declares full c.args.path.now c.as_slice.result.now _ c.as_slice-elements.result.now c.loop-index.index
    c.index-elements-index.result c.loop-index.faults.items c.check_in_proto3.new.faults.items c.loop-index-test.true c.index-elements-index.is (rw c.as_slice.ensures c.in_ok-place.ensures) (c.in_ok-check_in_proto3.ensures full)
    ∙ c.loop-index.invariant full

pub returns : goal.returns
returns g c full =
    let wrong = faults_of_proto3 c.args.file in
    let end : length c.as_slice-elements.result.now ≤ c.loop-index.index = omega arith in
    sym (siblings_checked wrong g.I.InProto3.declares full c.args.path.now _ c.as_slice-elements.result.now c.loop-index.index c.loop-index.faults.items end)
    ∙ c.loop-index.invariant full
    ∙ ap (λ tag. c.args.faults.now.items ++ flat_map wrong (siblings_at c.args.path.now tag (all_in g.I.InProto3.declares full c.as_slice-elements.result.now))) (to_z-of_z w32 c.args.tag c.ranges.tag)
    ∙ ap (λ siblings. c.args.faults.now.items ++ flat_map wrong (siblings_at c.args.path.now c.args.tag (all_in g.I.InProto3.declares full siblings))) c.as_slice-elements.ensures
