use Rattle.std.proofs.Common.{◌==◌, length, sym, ap, ◌∙◌}
use Rattle.std.specs.Option.{option_copied}
use Rattle.protox_names.specs.Names.{within}
use Rattle.protox_name_tree.specs.Tree.{number_of}
use Rattle.protox_walk.specs.Declarations.{full_name}
use Rattle.protox_symbols.specs.Scopes.{scope_name}
use Rattle.protox_symbols.proofs.Found.{nameless, no_scope_in, no_scope_of, with_number}
use Rattle.protox_symbols.proofs.Growing.{kept_with}
use Rattle.protox_symbols.proofs.Standing.{entry_made, full_is_within}
use Rattle.protox_symbols.proofs.symbols.Symbols.declare_part.Goals as goal

pub returns-in-Some-clause-declared : goal.returns-in-Some-clause-declared
returns-in-Some-clause-declared c =
    entry_made c.args.self.now c.declare_in.new.self (scope_name c.args.self.now c.args.scope) c.text_of-name.result.now (option_copied c.args.name) c.args.kind c.args.file c.in_ok-path.path c.args.path.now
    c.text_of-name.ensures c.in_ok-path.ensures.value c.in_ok-number.ensures.declared

pub returns-in-Some-clause-scope : goal.returns-in-Some-clause-scope
returns-in-Some-clause-scope c =
    let scope = scope_name c.args.self.now c.args.scope in
    with_number c.declare_in.new.self (full_name scope (option_copied c.args.name)) c.in-Some.number c.in_ok-number.ensures.tree.names
    (sym (c.in_ok-number.ensures.number ∙ ap (λ name. number_of c.declare_in.new.self.names name) (ap (within scope) c.text_of-name.ensures ∙ full_is_within scope (option_copied c.args.name))) ∙ c.in-Some.is)

pub returns-in-None-clause-declared : goal.returns-in-None-clause-declared
returns-in-None-clause-declared c =
    entry_made c.args.self.now c.declare_in.new.self (scope_name c.args.self.now c.args.scope) c.text_of-name.result.now (option_copied c.args.name) c.args.kind c.args.file c.in_ok-path.path c.args.path.now
    c.text_of-name.ensures c.in_ok-path.ensures.value c.in_ok-number.ensures.declared

pub returns-in-None-clause-scope : goal.returns-in-None-clause-scope
returns-in-None-clause-scope c =
    nameless c.args.self.now c.declare_in.new.self c.args.scope (option_copied c.args.name) c.if-is_none.ensures
    (ap (λ text. length text == 0) (sym c.text_of-name.ensures) ∙ sym c.if-is_empty.ensures)

pub returns-in-None-2-clause-declared : goal.returns-in-None-2-clause-declared
returns-in-None-2-clause-declared c =
    entry_made c.args.self.now c.declare_in.new.self (scope_name c.args.self.now c.args.scope) c.text_of-name.result.now (option_copied c.args.name) c.args.kind c.args.file c.in_ok-path.path c.args.path.now
    c.text_of-name.ensures c.in_ok-path.ensures.value c.in_ok-number.ensures.declared

pub returns-in-None-2-clause-scope : goal.returns-in-None-2-clause-scope
returns-in-None-2-clause-scope c =
    let scope = scope_name c.args.self.now c.args.scope in
    no_scope_of c.args.self.now c.declare_in.new.self c.args.scope (option_copied c.args.name) c.if-is_none.ensures
    (ap (λ text. length text == 0) (sym c.text_of-name.ensures) ∙ sym c.if-is_empty.ensures) c.in_ok-number.ensures.tree.names
    (sym (c.in_ok-number.ensures.number ∙ ap (λ name. number_of c.declare_in.new.self.names name) (ap (within scope) c.text_of-name.ensures ∙ full_is_within scope (option_copied c.args.name))) ∙ c.in-None-2.is)

pub returns-in-None-2-2-clause-declared : goal.returns-in-None-2-2-clause-declared
returns-in-None-2-2-clause-declared c =
    entry_made c.args.self.now c.declare_in.new.self (scope_name c.args.self.now c.args.scope) c.text_of-name.result.now (option_copied c.args.name) c.args.kind c.args.file c.in_ok-path.path c.args.path.now
    c.text_of-name.ensures c.in_ok-path.ensures.value c.in_ok-number.ensures.declared

pub returns-in-None-2-2-clause-scope : goal.returns-in-None-2-2-clause-scope
returns-in-None-2-2-clause-scope c =
    let scope = scope_name c.args.self.now c.args.scope in
    let made = entry_made c.args.self.now c.declare_in.new.self scope c.text_of-name.result.now (option_copied c.args.name) c.args.kind c.args.file c.in_ok-path.path c.args.path.now
    c.text_of-name.ensures c.in_ok-path.ensures.value c.in_ok-number.ensures.declared in
    no_scope_in c.args.self.now c.declare_in.new.self c.args.scope (option_copied c.args.name) c.if-is_none.ensures
    (kept_with c.args.self.now c.declare_in.new.self (record { full_name = full_name scope (option_copied c.args.name); kind = c.args.kind; thing = record { file = c.args.file; path = c.args.path.now } }) c.args.scope made c.requires) c.in_ok-number.ensures.tree.names
    (sym (c.in_ok-number.ensures.number ∙ ap (λ name. number_of c.declare_in.new.self.names name) (ap (within scope) c.text_of-name.ensures ∙ full_is_within scope (option_copied c.args.name))) ∙ c.in-None-2.is)
