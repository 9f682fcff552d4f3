use Rattle.std.proofs.Common.{◌≡◌, ◌++◌}
use Rattle.std.specs.List.{flat_map}
use Rattle.std.specs.Vec.Iter.{into_iter_items}
use Rattle.protox_describe.specs.File.{item_enums, item_extensions, item_messages, item_services}
use Rattle.protox_describe.proofs.file.describe_items.Given as goal

abbrev pub invariant-loop-item : goal.invariant-loop-item
invariant-loop-item l = record {
  messages : l.lists.message_type ++ flat_map (item_messages l.syntax) (into_iter_items l.item-iterator) ≡ flat_map (item_messages l.syntax) l.fn.items;
  enums : l.lists.enum_type ++ flat_map item_enums (into_iter_items l.item-iterator) ≡ flat_map item_enums l.fn.items;
  services : l.lists.service ++ flat_map item_services (into_iter_items l.item-iterator) ≡ flat_map item_services l.fn.items;
  extensions : l.lists.extension ++ flat_map (item_extensions l.syntax) (into_iter_items l.item-iterator) ≡ flat_map (item_extensions l.syntax) l.fn.items;
}
