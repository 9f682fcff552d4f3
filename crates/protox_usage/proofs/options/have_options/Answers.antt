use Rattle.std.proofs.Common.{◌∙◌, List, Option, ap, sym}
use Rattle.std.specs.List.{flat_map}
use Rattle.protox_descriptor.specs.declared.descriptor.descriptor_proto.ExtensionRange.{ExtensionRange}
use Rattle.protox_descriptor.specs.declared.descriptor.options.ExtensionRangeOptions.{ExtensionRangeOptions}
use Rattle.protox_usage.proofs.Setting.{some_at}
use Rattle.protox_usage.specs.Options.{are_some, options_of_range}
use Rattle.protox_walk.specs.Words.{options_in}
use Rattle.protox_usage.proofs.options.have_options.Goals as goal

pub returns-then-are_some : goal.returns-then-are_some
returns-then-are_some c =
    some_at options_of_range c.as_slice-ranges.result.now c.loop-range.range-index c.range-item.result c.loop-range-test.true c.range-item.is
    (ap (λ (o : Option ExtensionRangeOptions). are_some (options_in (λ (r : ExtensionRangeOptions). r.uninterpreted_option) o)) c.in-Some.is
    ∙ ap are_some (sym c.uninterpreted.ensures) ∙ sym c.are_some.ensures ∙ c.if-are_some.true)
    ∙ ap (λ (rs : List ExtensionRange). are_some (flat_map options_of_range rs)) c.as_slice-ranges.ensures
