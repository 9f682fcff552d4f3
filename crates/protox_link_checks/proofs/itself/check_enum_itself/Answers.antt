use Rattle.std.proofs.Common.{None, Some}
use Rattle.std.specs.Option.{option_copied}
use Rattle.protox_link_checks.proofs.Checking.{name_read, rest_checked, two_told}
use Rattle.protox_link_checks.specs.Numbers.{enum_number_faults}
use Rattle.protox_link_checks.specs.Reserved.{enum_name_faults}
use Rattle.protox_link_checks.specs.Uses.{enum_itself}
use Rattle.protox_link_checks.proofs.itself.check_enum_itself.Goals as goal

pub returns-in_default : goal.returns-in_default
returns-in_default c full h =
    let view = c.args.of.now.view.now in
    let enum_ = c.args.enum_.now in
    name_read view.symbols.now view.sees.now view.packages c.args.of.now.number c.args.path.now full (option_copied c.as_ref-name.result) enum_.name c.args.faults.now.items c.check_name.new.faults.items c.in_ok-check_name.field-0 None c.as_ref-name.ensures.value c.in_default.is (c.in_ok-check_name.ensures full h)
    (enum_itself c.args.of.now.number c.args.path.now enum_)

pub returns : goal.returns
returns c full h =
    let view = c.args.of.now.view.now in
    let enum_ = c.args.enum_.now in
    let of_numbers = enum_number_faults c.args.of.now.number c.args.path.now enum_ in
    let of_names = enum_name_faults c.args.of.now.number c.args.path.now enum_ in
    let start = c.check_name.new.faults.items in
    let end = c.check_enum_names.new.faults.items in
    rest_checked view.symbols.now view.sees.now view.packages c.args.of.now.number c.check_enum_names.result c.args.path.now full enum_.name c.in-Some.field-0 c.args.faults.now.items start end (enum_itself c.args.of.now.number c.args.path.now enum_)
    (name_read view.symbols.now view.sees.now view.packages c.args.of.now.number c.args.path.now full (option_copied c.as_ref-name.result) enum_.name c.args.faults.now.items start c.in_ok-check_name.field-0 (Some c.in-Some.field-0) c.as_ref-name.ensures.value c.in-Some.is (c.in_ok-check_name.ensures full h))
    (two_told view.symbols.now view.sees.now view.packages c.args.of.now.number c.check_enum_names.result start c.check_enum_numbers.new.faults.items end of_numbers of_names c.in_ok-check_enum_numbers.ensures c.check_enum_names.ensures)
