use Rattle.std.proofs.Common.{◌∙◌, ℕ, List, ap}
use Rattle.std.specs.List.{flat_map}
use Rattle.protox_descriptor.specs.declared.descriptor.options.UninterpretedOption.{UninterpretedOption}
use Rattle.protox_usage.proofs.Adding.{flat_map_flat, no_more}
use Rattle.protox_usage.specs.Lookups.{lookups_of_option}
use Rattle.protox_usage.specs.Searched.{met_by, noted, with_number}
use Rattle.protox_usage.proofs.search.Sight.search_options.Goals as goal

pub returns-clause-used : goal.returns-clause-used
returns-clause-used c =
    let self = c.args.self.now in
    let used = c.args.found.now.used in
    let user = c.args.user.now in
    no_more (with_number self) (λ (option : UninterpretedOption). flat_map (met_by self) (lookups_of_option user option)) used c.loop-option.found.used c.args.options.now c.loop-option.option-index c.loop-option-test.false c.loop-option.invariant.0
    ∙ ap (λ (ms : List ℕ). noted self used ms) (flat_map_flat (met_by self) (lookups_of_option user) c.args.options.now)
