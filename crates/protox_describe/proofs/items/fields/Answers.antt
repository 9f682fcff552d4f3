use Rattle.std.proofs.Common.{◌+◌, ◌<◌, ◌++◌, [], length, map, take, take_all, refl, arith, ap, sym, ◌∙◌}
use Rattle.std.specs.Prelude.{if◌then◌else◌}
use Rattle.protox_ast.specs.Steps.{of_item}
use Rattle.protox_describe.specs.Descriptor.{descriptor_steps, fields_of, is_oneof, synthetic_of}
use Rattle.protox_describe.specs.inner.Pass.{item_fields}
use Rattle.protox_describe.specs.Siblings.{count, each_after}
use Rattle.protox_describe.proofs.Lists.{count-take_more, length-flat-take_more, map-take_more}
use Rattle.protox_describe.proofs.Oneofs.{fields-more}
use Rattle.protox_describe.proofs.items.fields.Goals as goal

pub loop-item-preserved : goal.loop-item-preserved
loop-item-preserved c =
    let items = c.args.items.now in
    let i = c.loop-item.item-index in
    let x = c.item-item.result in
    let lt : i < length items = omega arith in
    let item = of_item (descriptor_steps c.args.syntax) in
    let all = count is_oneof (map item items) in
    let done = map item (take i items) in
    let inv = c.loop-item.invariant in
    let at = c.loop-item.places in
    let next = c.in_ok-push_fields.ensures in
    record {
      found = next.fields ∙ ap (λ l. l ++ item_fields at.written at.made (item x)) inv.found
          ∙ fields-more all done (item x) at.written at.made inv.written inv.made
          ∙ ap (each_after (fields_of all) []) (sym (map-take_more item items i x lt c.item-item.is));
      written = next.written ∙ ap (λ n. n + (if is_oneof (item x) then 1 else 0)) inv.written ∙ sym (count-take_more is_oneof item items i x lt c.item-item.is);
      made = omega (arith, next.made, inv.made, length-flat-take_more synthetic_of item items i x lt c.item-item.is);
    }

pub loop-item-init : goal.loop-item-init
loop-item-init c = record {
  found = c.in_ok-found.ensures.value;
  written = refl;
  made = omega (arith, c.oneofs_among.ensures c.args.syntax);
}

pub returns : goal.returns
returns c =
    let item = of_item (descriptor_steps c.args.syntax) in
    let all = take_all c.loop-item.item-index c.args.items.now (omega arith) in
    c.loop-item.invariant.found ∙ ap (λ l. each_after (fields_of (count is_oneof (map item c.args.items.now))) [] (map item l)) all
