use Rattle.protox_link_checks.proofs.Named.{inner_found, inner_missing, none_at_top, none_in_scope}
use Rattle.std.specs.Option.{option_copied}
use Rattle.std.proofs.Common.{sym, ◌∙◌}
use Rattle.protox_link_checks.proofs.name.inside.Goals as goal

pub returns-in_err-scope : goal.returns-in_err-scope
returns-in_err-scope c full h =
    inner_missing c.args.view.now.symbols.now c.args.scope c.from_residual.result full (option_copied c.args.name) c.in_err-scope.was c.from_residual.ensures h

pub returns-in-Some : goal.returns-in-Some
returns-in-Some c full h =
    inner_found c.args.view.now.symbols.now c.len-count.ensures.tree c.in_ok-scope.scope c.args.scope full c.text_of-name.result.now (option_copied c.args.name) c.in-Some.number c.find_near.result
    c.in_ok-scope.was c.text_of-name.ensures c.find_near.ensures c.in-Some.is h

pub returns-in-None-2 : goal.returns-in-None-2
returns-in-None-2 c full h =
    none_at_top c.args.view.now.symbols.now c.len-count.ensures.tree c.in_ok-scope.scope c.args.scope full c.text_of-name.result.now (option_copied c.args.name) c.find_near.result
    c.in_ok-scope.was c.text_of-name.ensures c.find_near.ensures c.in-None.is c.if-is_none.ensures (sym c.is_empty.ensures ∙ c.if-is_empty.false) h

pub returns-in-None-2-2 : goal.returns-in-None-2-2
returns-in-None-2-2 c full h =
    none_in_scope c.args.view.now.symbols.now c.len-count.ensures.tree c.in_ok-scope.scope c.args.scope full c.text_of-name.result.now (option_copied c.args.name) c.find_near.result
    c.in_ok-scope.was c.text_of-name.ensures c.find_near.ensures c.in-None.is c.if-is_none.ensures h
