use Rattle.std.proofs.Common.{◌++◌, ◌≤◌, length, w32, sym, ap, append-nil, ◌∙◌, arith, refl}
use Rattle.std.specs.List.{flat_map}
use Rattle.std.proofs.lemmas.Int.{to_z-of_z}
use Rattle.protox_walk.specs.Declarations.{all_in, field_at, siblings_at}
use Rattle.protox_link_checks.specs.Extensions.{extension_of}
use Rattle.protox_link_checks.proofs.Folding.{sibling_checked, siblings_checked}
use Rattle.protox_link_checks.proofs.extensions.add_fields.Goals as goal

pub loop-index-preserved : goal.loop-index-preserved
loop-index-preserved c full h =
    let view = c.args.view.now in
    sibling_checked (extension_of view.symbols.now view.sees.now view.packages) field_at full c.args.path.now _ _ c.args.fields.now c.loop-index.index
    c.index-fields-index.result c.loop-index.made.items c.add_field.new.made.items c.loop-index-test.true c.index-fields-index.is refl
    (c.in_ok-add_field.ensures full h ∙ ap (λ es. c.loop-index.made.items ++ es) (sym (append-nil _)))
    ∙ c.loop-index.invariant full h

pub returns : goal.returns
returns c full h =
    let view = c.args.view.now in
    let extension = extension_of view.symbols.now view.sees.now view.packages in
    let end : length c.args.fields.now ≤ c.loop-index.index = omega arith in
    sym (siblings_checked extension field_at full c.args.path.now _ c.args.fields.now c.loop-index.index c.loop-index.made.items end)
    ∙ c.loop-index.invariant full h
    ∙ ap (λ tag. c.args.made.now.items ++ flat_map extension (siblings_at c.args.path.now tag (all_in field_at full c.args.fields.now))) (to_z-of_z w32 c.args.tag c.ranges.tag)
