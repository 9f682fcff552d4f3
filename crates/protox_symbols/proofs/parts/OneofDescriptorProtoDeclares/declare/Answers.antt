use Rattle.std.specs.Option.{option_copied}
use Rattle.protox_walk.specs.Declarations.{declared, full_name}
use Rattle.protox_walk.specs.Parts.{Oneof}
use Rattle.protox_symbols.specs.Scopes.{scope_name}
use Rattle.protox_symbols.proofs.Folding.{alone_added}
use Rattle.protox_symbols.proofs.Standing.{entry_named}
use Rattle.protox_symbols.proofs.parts.OneofDescriptorProtoDeclares.declare.Goals as goal

pub returns : goal.returns
returns c =
    let oneof = c.args.self.now in
    let scope = scope_name c.args.symbols.now c.args.scope in
    alone_added c.args.file c.args.symbols.now c.declare_part.new.self (declared c.args.path.now (full_name scope oneof.name) (Oneof oneof))
    (entry_named c.args.symbols.now c.declare_part.new.self scope (option_copied c.as_ref-name.result) oneof.name c.args.file c.args.path.now (Oneof oneof) c.as_ref-name.ensures.value c.in_ok-declare_part.ensures.declared)
