use Rattle.std.proofs.Common.{◌++◌, [], map, flat_map, ap, ◌∙◌}
use Rattle.protox_descriptor.specs.declared.tag.file.TheConstants as tag
use Rattle.protox_locate.specs.LocationWords.{bare, each_at, part, siblings_at}
use Rattle.protox_locate.specs.Locations.{import_locations, item_blocks, item_enums, item_extensions, item_messages, item_services, package_locations}
use Rattle.protox_locate.specs.inner.Draft.{file_end}
use Rattle.protox_locate.proofs.Draft.{behind_reserved, in_a_row}
use Rattle.protox_locate.proofs.file.all_kept.Goals as goal

pub returns : goal.returns
returns c = λ n file d f e.
    let messages = siblings_at [] tag.MESSAGE_TYPE (flat_map (item_messages n) file.items) in
    c.in_ok-all.ensures
    ∙ ap (λ l. l ++ c.args.end) (c.in_ok-with_extensions.ensures
    ∙ ap (λ l. l ++ c.into_locations-5.result) (c.in_ok-with_blocks.ensures
    ∙ ap (λ l. l ++ c.into_locations-4.result) (c.in_ok-with_services.ensures
    ∙ ap (λ l. l ++ c.into_locations-3.result) (c.in_ok-with_enums.ensures
    ∙ ap (λ l. l ++ c.into_locations-2.result) (c.in_ok-with_messages.ensures
    ∙ ap (λ l. c.args.front ++ l) (behind_reserved d.front messages _ _ d.reserved (c.into_locations.ensures ∙ d.messages.locations)))))))
    ∙ (λ i. (((((f i ++ messages) ++ (c.into_locations-2.ensures ∙ d.enums.locations) i) ++ (c.into_locations-3.ensures ∙ d.services.locations) i) ++ (c.into_locations-4.ensures ∙ d.blocks.locations) i) ++ (c.into_locations-5.ensures ∙ d.extensions.locations) i) ++ e i)
    ∙ in_a_row (bare n [] file.span) (package_locations n [] file.«package») (siblings_at [] tag.DEPENDENCY (map (import_locations n) file.imports))
    messages (siblings_at [] tag.ENUM_TYPE (flat_map (item_enums n) file.items))
    (siblings_at [] tag.SERVICE (flat_map (item_services n) file.items)) (each_at (part [] tag.EXTENSION) (flat_map (item_blocks n) file.items))
    (siblings_at [] tag.EXTENSION (flat_map (item_extensions n) file.items)) (file_end n file [])
