use Rattle.std.proofs.Common.{◌++◌, List, ℕ, None, Some, ap, append_assoc, ◌∙◌}
use Rattle.std.specs.Option.{option_copied}
use Rattle.protox_descriptor.specs.FieldDescriptorProto.{FieldDescriptorProto}
use Rattle.protox_descriptor.specs.declared.tag.field.TheConstants.{EXTENDEE, TYPE_NAME}
use Rattle.protox_walk.specs.Declarations.{declared, full_name, text_of}
use Rattle.protox_walk.specs.Parts.{Field}
use Rattle.protox_link_checks.specs.Numbers.{implementation_faults}
use Rattle.protox_link_checks.specs.Uses.{default_faults, field_uses, message_faults, type_faults}
use Rattle.protox_link_checks.proofs.Checking.{alone, name_read, two_told, uses_checked}
use Rattle.protox_link_fault.specs.declared.LinkFault.{LinkFault}
use Rattle.protox_names.specs.Names.{within}
use Rattle.protox_symbols.specs.Scopes.{scope_name}
use Rattle.protox_link_checks.proofs.parts.FieldDescriptorProtoChecked.check.Goals as goal

pub returns-in_default : goal.returns-in_default
returns-in_default c full h =
    let view = c.args.of.now.view.now in
    let field = c.args.self.now in
    let named = c.as_ref-name.ensures.value ∙ ap (λ (f : FieldDescriptorProto). f.name) c.self.view_is in
    let checked = name_read view.symbols.now view.sees.now view.packages c.args.of.now.number c.args.path.now full (option_copied c.as_ref-name.result) field.name c.args.faults.now.items c.check_name.new.faults.items c.in_ok-scope.field-0 None named c.in_default.is (c.in_ok-scope.ensures full h) in
    alone view.symbols.now view.sees.now view.packages c.args.of.now.number c.args.faults.now.items c.check_name.new.faults.items (declared c.args.path.now (full_name full field.name) (Field field))
    (checked (field_uses view.symbols.now view.sees.now view.packages c.args.of.now.number c.args.path.now (full_name full field.name) field))

pub returns : goal.returns
returns c full h =
    let view = c.args.of.now.view.now in
    let field = c.args.self.now in
    let t = view.symbols.now in
    let file = c.args.of.now.number in
    let path = c.args.path.now in
    let user = within (scope_name t c.in-Some.scope) (text_of field.name) in
    let named = c.as_ref-name.ensures.value ∙ ap (λ (f : FieldDescriptorProto). f.name) c.self.view_is in
    let typed = c.as_ref-of_type.ensures.value ∙ ap (λ (f : FieldDescriptorProto). f.type_name) c.self.view_is in
    let may = name_read t view.sees.now view.packages file path full (option_copied c.as_ref-name.result) field.name c.args.faults.now.items c.check_name.new.faults.items c.in_ok-scope.field-0 (Some c.in-Some.scope) named c.in-Some.is (c.in_ok-scope.ensures full h) in
    uses_checked t view.sees.now view.packages file c.check_default.result path full field.name c.in-Some.scope c.args.faults.now.items c.check_name.new.faults.items c.check_type.new.faults.items c.check_default.new.faults.items
    (λ (user : List ℕ). implementation_faults file path field ++ type_faults t view.sees.now view.packages file path TYPE_NAME user field.type_name)
    (λ (user : List ℕ). message_faults t view.sees.now view.packages file path EXTENDEE user field.extendee ++ default_faults t view.sees.now view.packages file path user field.type_name field.default_value)
    may
    (rw (← typed) (c.in_ok-check_type.ensures (text_of field.name) may.one
    ∙ ap (λ (faults : List LinkFault). faults ++ type_faults t view.sees.now view.packages file path TYPE_NAME user (option_copied c.as_ref-of_type.result)) c.in_ok-check_number.ensures
    ∙ append_assoc c.check_name.new.faults.items (implementation_faults file path field) _))
    (two_told t view.sees.now view.packages file c.check_default.result c.check_type.new.faults.items c.check_message.new.faults.items c.check_default.new.faults.items
    (message_faults t view.sees.now view.packages file path EXTENDEE user field.extendee)
    (default_faults t view.sees.now view.packages file path user field.type_name field.default_value)
    (rw (← c.extendee-extendee.ensures) (c.in_ok-check_message.ensures (text_of field.name) may.one))
    (rw (← typed) (rw (← c.default_value-default.ensures) (c.check_default.ensures (text_of field.name) may.one))))
