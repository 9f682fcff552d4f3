use Rattle.std.proofs.Common.{List, ℕ, None, Some}
use Rattle.std.specs.Option.{option_copied}
use Rattle.protox_descriptor.specs.declared.tag.method.TheConstants.{INPUT_TYPE, OUTPUT_TYPE}
use Rattle.protox_walk.specs.Declarations.{declared, full_name, text_of}
use Rattle.protox_walk.specs.Parts.{Method}
use Rattle.protox_link_checks.specs.Uses.{message_faults, method_uses}
use Rattle.protox_link_checks.proofs.Checking.{alone, name_read, uses_checked}
use Rattle.protox_link_checks.proofs.parts.MethodDescriptorProtoChecked.check.Goals as goal

pub returns-in_default : goal.returns-in_default
returns-in_default c full h =
    let view = c.args.of.now.view.now in
    let method = c.args.self.now in
    let checked = name_read view.symbols.now view.sees.now view.packages c.args.of.now.number c.args.path.now full (option_copied c.as_ref-name.result) method.name c.args.faults.now.items c.check_name.new.faults.items c.in_ok-scope.field-0 None c.as_ref-name.ensures.value c.in_default.is (c.in_ok-scope.ensures full h) in
    alone view.symbols.now view.sees.now view.packages c.args.of.now.number c.args.faults.now.items c.check_name.new.faults.items (declared c.args.path.now (full_name full method.name) (Method method))
    (checked (method_uses view.symbols.now view.sees.now view.packages c.args.of.now.number c.args.path.now (full_name full method.name) method))

pub returns : goal.returns
returns c full h =
    let view = c.args.of.now.view.now in
    let method = c.args.self.now in
    let may = name_read view.symbols.now view.sees.now view.packages c.args.of.now.number c.args.path.now full (option_copied c.as_ref-name.result) method.name c.args.faults.now.items c.check_name.new.faults.items c.in_ok-scope.field-0 (Some c.in-Some.scope) c.as_ref-name.ensures.value c.in-Some.is (c.in_ok-scope.ensures full h) in
    uses_checked view.symbols.now view.sees.now view.packages c.args.of.now.number c.check_message-2.result c.args.path.now full method.name c.in-Some.scope c.args.faults.now.items c.check_name.new.faults.items c.check_message.new.faults.items c.check_message-2.new.faults.items
    (λ (user : List ℕ). message_faults view.symbols.now view.sees.now view.packages c.args.of.now.number c.args.path.now INPUT_TYPE user method.input_type)
    (λ (user : List ℕ). message_faults view.symbols.now view.sees.now view.packages c.args.of.now.number c.args.path.now OUTPUT_TYPE user method.output_type)
    may
    (rw (← c.as_ref-input.ensures.value) (c.in_ok-check_message.ensures (text_of method.name) may.one))
    (rw (← c.as_ref-output.ensures.value) (c.check_message-2.ensures (text_of method.name) may.one))
