use Rattle.std.proofs.Common.{◌∙◌, ℕ, List, ap}
use Rattle.std.specs.List.{flat_map}
use Rattle.protox_descriptor.specs.declared.descriptor.descriptor_proto.ExtensionRange.{ExtensionRange}
use Rattle.protox_usage.proofs.Adding.{flat_map_flat, no_more}
use Rattle.protox_usage.specs.Lookups.{Lookup, lookups_of_option, lookups_of_options}
use Rattle.protox_usage.specs.Options.{options_of_range}
use Rattle.protox_usage.specs.Searched.{met_by, noted, with_number}
use Rattle.protox_usage.proofs.search.Sight.search_ranges.Goals as goal

pub returns-clause-used : goal.returns-clause-used
returns-clause-used c =
    let self = c.args.self.now in
    let used = c.args.found.now.used in
    let user = c.args.user.now in
    let ranges = c.as_slice-ranges.result.now in
    let lookups : ExtensionRange → List Lookup = λ range. lookups_of_options user (options_of_range range) in
    no_more (with_number self) (λ (range : ExtensionRange). flat_map (met_by self) (lookups range)) used c.loop-range.found.used ranges c.loop-range.range-index c.loop-range-test.false c.loop-range.invariant.0
    ∙ ap (λ (ms : List ℕ). noted self used ms) (flat_map_flat (met_by self) lookups ranges)
    ∙ ap (λ (ls : List Lookup). noted self used (flat_map (met_by self) ls)) (flat_map_flat (lookups_of_option user) options_of_range ranges)
    ∙ ap (λ (rs : List ExtensionRange). noted self used (flat_map (met_by self) (lookups_of_options user (flat_map options_of_range rs)))) c.as_slice-ranges.ensures
