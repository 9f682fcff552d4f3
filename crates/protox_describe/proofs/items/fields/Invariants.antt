use Rattle.std.proofs.Common.{◌≡◌, ◌+◌, [], length, map, take}
use Rattle.std.specs.List.{flat_map}
use Rattle.protox_ast.specs.Steps.{of_item}
use Rattle.protox_describe.specs.Descriptor.{descriptor_steps, fields_of, is_oneof, synthetic_of}
use Rattle.protox_describe.specs.Siblings.{count, each_after}
use Rattle.protox_describe.proofs.items.fields.Given as goal

abbrev pub invariant-loop-item : goal.invariant-loop-item
invariant-loop-item l =
    let item = of_item (descriptor_steps l.syntax) in
    let done = map item (take l.item-index l.items) in
    let all = count is_oneof (map item l.items) in
    record {
      found : l.found ≡ each_after (fields_of all) [] done;
      written : l.places.written ≡ count is_oneof done;
      made : l.places.made ≡ all + length (flat_map synthetic_of done);
    }
