use Rattle.std.proofs.Common.{None, Some}
use Rattle.std.specs.Option.{option_copied}
use Rattle.protox_descriptor.specs.declared.tag.service.TheConstants.{METHOD}
use Rattle.protox_walk.specs.Declarations.{all_in, declared, full_name, method_at, siblings_at}
use Rattle.protox_walk.specs.Parts.{Service}
use Rattle.protox_symbols.specs.Scopes.{scope_name}
use Rattle.protox_symbols.proofs.Folding.{first_added, in_scope_named}
use Rattle.protox_symbols.proofs.Found.{scope_of_part}
use Rattle.protox_symbols.proofs.Inside.{service_alone}
use Rattle.protox_symbols.proofs.Standing.{entry_named}
use Rattle.protox_symbols.proofs.parts.ServiceDescriptorProtoDeclares.declare.Goals as goal

pub declare_each-requires : goal.declare_each-requires
declare_each-requires c =
    (scope_of_part c.declare_part.new.self (scope_name c.args.symbols.now c.args.scope) (option_copied c.as_ref-name.result) c.args.self.now.name c.in_ok-found.found (Some c.in-Some.inner) c.as_ref-name.ensures.value c.in-Some.is c.in_ok-found.ensures.scope).known

pub returns-in_default : goal.returns-in_default
returns-in_default c =
    let service = c.args.self.now in
    let before = c.args.symbols.now in
    let after = c.declare_part.new.self in
    let scope = scope_name before c.args.scope in
    let name = option_copied c.as_ref-name.result in
    service_alone c.args.file before after service scope c.args.path.now
    (entry_named before after scope name service.name c.args.file c.args.path.now (Service service) c.as_ref-name.ensures.value c.in_ok-found.ensures.declared)
    (scope_of_part after scope name service.name c.in_ok-found.found None c.as_ref-name.ensures.value c.in_default.is c.in_ok-found.ensures.scope)

pub returns : goal.returns
returns c =
    let service = c.args.self.now in
    let before = c.args.symbols.now in
    let after = c.declare_part.new.self in
    let scope = scope_name before c.args.scope in
    let name = option_copied c.as_ref-name.result in
    let full = full_name scope service.name in
    let made = entry_named before after scope name service.name c.args.file c.args.path.now (Service service) c.as_ref-name.ensures.value c.in_ok-found.ensures.declared in
    let found = scope_of_part after scope name service.name c.in_ok-found.found (Some c.in-Some.inner) c.as_ref-name.ensures.value c.in-Some.is c.in_ok-found.ensures.scope in
    first_added c.declare_each.result c.args.file before after c.declare_each.new.symbols (declared c.args.path.now full (Service service)) (siblings_at c.args.path.now METHOD (all_in method_at full service.method)) made
    (in_scope_named c.declare_each.result c.args.file after c.declare_each.new.symbols (λ s. siblings_at c.args.path.now METHOD (all_in method_at s service.method)) (scope_name after c.in-Some.inner) full found.named c.declare_each.ensures.declared)
