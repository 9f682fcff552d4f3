use Rattle.std.specs.Option.{option_copied}
use Rattle.protox_link_checks.proofs.Named.{looked_at, not_looked_at}
use Rattle.protox_link_checks.proofs.name.check_name.Goals as goal

pub returns-in_default-scope : goal.returns-in_default-scope
returns-in_default-scope c full h uses =
    let view = c.args.of.now.view.now in
    not_looked_at view.symbols.now view.sees.now view.packages c.args.of.now.number c.args.path.now c.args.scope full c.text_of-name.result.now (option_copied c.args.name) c.args.faults.now.items uses
    c.in_default-scope.is c.text_of-name.ensures c.in-Some.ensures.good h

pub returns : goal.returns
returns c full h =
    let view = c.args.of.now.view.now in
    looked_at view.symbols.now view.sees.now view.packages c.args.of.now.number c.args.path.now c.len-count.ensures.tree c.in-Some-scope.scope c.args.scope full c.text_of-name.result.now (option_copied c.args.name) c.in-Some.number c.args.faults.now.items c.check_clash.new.faults.items
    c.in-Some-scope.is c.text_of-name.ensures c.in-Some.ensures.good (c.in-Some.ensures.number c.in-Some-scope.scope c.in-Some-scope.is) c.in_ok-check_clash.ensures h
