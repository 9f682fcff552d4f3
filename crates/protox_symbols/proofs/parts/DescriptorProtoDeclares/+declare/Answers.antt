use Rattle.std.proofs.Common.{None, Some}
use Rattle.std.specs.Option.{option_copied}
use Rattle.protox_descriptor.specs.declared.descriptor.DescriptorProto.{out-DescriptorProto}
use Rattle.protox_walk.specs.Parts.{Message}
use Rattle.protox_symbols.specs.Scopes.{scope_name}
use Rattle.protox_symbols.proofs.Found.{scope_of_part}
use Rattle.protox_symbols.proofs.Inside.{message_added, message_alone}
use Rattle.protox_symbols.proofs.Standing.{entry_named}
use Rattle.protox_symbols.proofs.parts.DescriptorProtoDeclares.+declare.Goals as goal

pub declare_each-requires : goal.declare_each-requires
declare_each-requires t c =
    (scope_of_part c.declare_part.new.self (scope_name c.args.symbols.now c.args.scope) (option_copied c.as_ref-name.result) (out-DescriptorProto c.args.self.now).name c.in_ok-found.found (Some c.in-Some.inner) c.as_ref-name.ensures.value c.in-Some.is c.in_ok-found.ensures.scope).known

pub returns-in_default : goal.returns-in_default
returns-in_default t c =
    let message = c.args.self.now in
    let before = c.args.symbols.now in
    let after = c.declare_part.new.self in
    let scope = scope_name before c.args.scope in
    let name = option_copied c.as_ref-name.result in
    message_alone c.args.file before after message scope c.args.path.now
    (entry_named before after scope name (out-DescriptorProto message).name c.args.file c.args.path.now (Message message) c.as_ref-name.ensures.value c.in_ok-found.ensures.declared)
    (scope_of_part after scope name (out-DescriptorProto message).name c.in_ok-found.found None c.as_ref-name.ensures.value c.in_default.is c.in_ok-found.ensures.scope)

pub returns : goal.returns
returns t c =
    let message = c.args.self.now in
    let before = c.args.symbols.now in
    let after = c.declare_part.new.self in
    let scope = scope_name before c.args.scope in
    let name = option_copied c.as_ref-name.result in
    let found = scope_of_part after scope name (out-DescriptorProto message).name c.in_ok-found.found (Some c.in-Some.inner) c.as_ref-name.ensures.value c.in-Some.is c.in_ok-found.ensures.scope in
    message_added c.declare_each-5.result c.args.file message scope c.args.path.now c.in-Some.inner before after c.declare_each.new.symbols c.declare_each-2.new.symbols c.declare_each-3.new.symbols c.declare_each-4.new.symbols c.declare_each-5.new.symbols
    (entry_named before after scope name (out-DescriptorProto message).name c.args.file c.args.path.now (Message message) c.as_ref-name.ensures.value c.in_ok-found.ensures.declared)
    found.named
    (record { declared = c.in_ok-declare_each.ensures.declared; kept = c.in_ok-declare_each.ensures.kept })
    (record { declared = c.in_ok-declare_each-2.ensures.declared; kept = c.in_ok-declare_each-2.ensures.kept })
    (record { declared = c.in_ok-declare_each-3.ensures.declared; kept = c.in_ok-declare_each-3.ensures.kept })
    (record { declared = c.in_ok-declare_each-4.ensures.declared; kept = c.in_ok-declare_each-4.ensures.kept })
    c.declare_each-5.ensures.declared
