use Rattle.std.specs.Option.{option_copied}
use Rattle.protox_descriptor.specs.declared.tag.enum_.TheConstants.{VALUE}
use Rattle.protox_walk.specs.Declarations.{all_in, declared, full_name, siblings_at, value_at}
use Rattle.protox_walk.specs.Parts.{Enum}
use Rattle.protox_symbols.specs.Scopes.{scope_name}
use Rattle.protox_symbols.specs.Things.{entry_of}
use Rattle.protox_symbols.proofs.Folding.{first_added, in_scope_named}
use Rattle.protox_symbols.proofs.Growing.{kept_with}
use Rattle.protox_symbols.proofs.Standing.{entry_named}
use Rattle.protox_symbols.proofs.parts.EnumDescriptorProtoDeclares.declare.Goals as goal

pub declare_each-requires : goal.declare_each-requires
declare_each-requires c =
    let enum = c.args.self.now in
    let scope = scope_name c.args.symbols.now c.args.scope in
    let d = declared c.args.path.now (full_name scope enum.name) (Enum enum) in
    (kept_with c.args.symbols.now c.declare_part.new.self (entry_of c.args.file d) c.args.scope
    (entry_named c.args.symbols.now c.declare_part.new.self scope (option_copied c.as_ref-name.result) enum.name c.args.file c.args.path.now (Enum enum) c.as_ref-name.ensures.value c.in_ok-declare_part.ensures.declared)
    c.requires).known

pub returns : goal.returns
returns c =
    let enum = c.args.self.now in
    let before = c.args.symbols.now in
    let after = c.declare_part.new.self in
    let scope = scope_name before c.args.scope in
    let d = declared c.args.path.now (full_name scope enum.name) (Enum enum) in
    let made = entry_named before after scope (option_copied c.as_ref-name.result) enum.name c.args.file c.args.path.now (Enum enum) c.as_ref-name.ensures.value c.in_ok-declare_part.ensures.declared in
    first_added c.declare_each.result c.args.file before after c.declare_each.new.symbols d (siblings_at c.args.path.now VALUE (all_in value_at scope enum.value)) made
    (in_scope_named c.declare_each.result c.args.file after c.declare_each.new.symbols (λ s. siblings_at c.args.path.now VALUE (all_in value_at s enum.value)) (scope_name after c.args.scope) scope
    (kept_with before after (entry_of c.args.file d) c.args.scope made c.requires).named c.declare_each.ensures.declared)
