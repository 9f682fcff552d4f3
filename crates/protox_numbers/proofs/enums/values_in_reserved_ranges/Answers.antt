use Rattle.std.proofs.Common.{◌∙◌, sym}
use Rattle.protox_numbers.proofs.None.{none_if_empty}
use Rattle.protox_numbers.specs.Numbers.{of_enum_range}
use Rattle.protox_numbers.specs.Enums.{value_spans}
use Rattle.protox_numbers.proofs.enums.values_in_reserved_ranges.Goals as goal

pub returns-then-is_empty : goal.returns-then-is_empty
returns-then-is_empty c =
    c.new.ensures.items ∙ sym (none_if_empty of_enum_range c.args.of.now.reserved_range (value_spans c.args.of.now) c.is_empty.result c.is_empty.ensures c.if-is_empty.true)
