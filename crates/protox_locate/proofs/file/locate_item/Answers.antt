use Rattle.std.proofs.Common.{flat_map}
use Rattle.protox_descriptor.specs.declared.tag.file.TheConstants as tag
use Rattle.protox_places.specs.Lines.{numbers_at}
use Rattle.protox_locate.specs.Locations.{item_blocks, item_enums, item_extensions, item_messages, item_services}
use Rattle.protox_locate.proofs.Draft.{more_parts, more_siblings, one_more}
use Rattle.protox_locate.proofs.file.locate_item.Goals as goal

pub returns : goal.returns
returns c = record {
  located = λ items d.
      let n = numbers_at c.args.lines.now in
      let item = c.args.item.now in
      record {
        front = d.front;
        reserved = d.reserved;
        messages = more_siblings _ _ tag.MESSAGE_TYPE _ _ d.front (flat_map (item_messages n) items) (item_messages n item) _ d.messages c.in_ok-message.ensures.siblings (one_more (item_messages n) items item);
        enums = more_siblings _ _ tag.ENUM_TYPE _ _ _ (flat_map (item_enums n) items) (item_enums n item) _ d.enums c.in_ok-enum_.ensures.siblings (one_more (item_enums n) items item);
        services = more_siblings _ _ tag.SERVICE _ _ _ (flat_map (item_services n) items) (item_services n item) _ d.services c.in_ok-service.ensures.siblings (one_more (item_services n) items item);
        blocks = more_parts _ _ tag.EXTENSION (flat_map (item_blocks n) items) (item_blocks n item) _ d.blocks c.in_ok-blocks_of.ensures (one_more (item_blocks n) items item);
        extensions = more_siblings _ _ tag.EXTENSION _ _ _ (flat_map (item_extensions n) items) (item_extensions n item) _ d.extensions c.in_ok-extension.ensures.siblings (one_more (item_extensions n) items item);
      };
}
