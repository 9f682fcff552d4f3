use Rattle.std.proofs.Common.{Some, None, fold, ap, ◌∙◌}
use Rattle.protox_walk.specs.Declarations.{text_of}
use Rattle.protox_symbols.specs.Things.{package_entries, with_entry}
use Rattle.protox_symbols.proofs.Found.{scope_of_name}
use Rattle.protox_symbols.proofs.Inside.{file_added, file_alone}
use Rattle.protox_symbols.proofs.symbols.Symbols.declare_file.Goals as goal

pub declare_each-requires : goal.declare_each-requires
declare_each-requires c =
    (scope_of_name c.declare_package.new.self c.text_of-package.result.now (text_of c.args.file.now.«package») c.in_ok-scope.field-0 (Some c.in-Some.scope)
    (c.text_of-package.ensures ∙ ap text_of c.as_ref.ensures.value) c.in-Some.is c.in_ok-scope.ensures.scope).known

pub returns-in_default : goal.returns-in_default
returns-in_default c =
    let before = c.args.self.now in
    let after = c.declare_package.new.self in
    let named = c.text_of-package.ensures ∙ ap text_of c.as_ref.ensures.value in
    file_alone c.args.number before after c.args.file.now
    (c.in_ok-scope.ensures.declared ∙ ap (λ name. fold with_entry before (package_entries c.args.number name)) named)
    (scope_of_name after c.text_of-package.result.now (text_of c.args.file.now.«package») c.in_ok-scope.field-0 None named c.in_default.is c.in_ok-scope.ensures.scope)

pub returns : goal.returns
returns c =
    let before = c.args.self.now in
    let after = c.declare_package.new.self in
    let named = c.text_of-package.ensures ∙ ap text_of c.as_ref.ensures.value in
    let found = scope_of_name after c.text_of-package.result.now (text_of c.args.file.now.«package») c.in_ok-scope.field-0 (Some c.in-Some.scope) named c.in-Some.is c.in_ok-scope.ensures.scope in
    file_added c.declare_each-4.result c.args.number c.args.file.now c.in-Some.scope before after c.declare_each.new.symbols c.declare_each-2.new.symbols c.declare_each-3.new.symbols c.declare_each-4.new.symbols
    (c.in_ok-scope.ensures.declared ∙ ap (λ name. fold with_entry before (package_entries c.args.number name)) named)
    found.named
    (record { declared = c.in_ok-declare_each.ensures.declared; kept = c.in_ok-declare_each.ensures.kept })
    (record { declared = c.in_ok-declare_each-2.ensures.declared; kept = c.in_ok-declare_each-2.ensures.kept })
    (record { declared = c.in_ok-declare_each-3.ensures.declared; kept = c.in_ok-declare_each-3.ensures.kept })
    c.declare_each-4.ensures.declared
