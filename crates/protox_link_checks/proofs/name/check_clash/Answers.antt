use Rattle.std.proofs.Common.{sym, ◌∙◌}
use Rattle.protox_link_checks.proofs.Named.{no_clash, one_clash}
use Rattle.protox_link_checks.proofs.name.check_clash.Goals as goal

pub returns-then-is_declared_at : goal.returns-then-is_declared_at
returns-then-is_declared_at c =
    let view = c.args.view.now in
    no_clash view.symbols.now view.sees.now view.packages c.args.file c.args.path.now c.args.faults.now.items c.args.number c.in-Some.number c.in-Some.is
    (sym (c.is_declared_at.ensures view.sees.now view.packages) ∙ c.if-is_declared_at.true)

pub returns : goal.returns
returns c =
    let view = c.args.view.now in
    one_clash view.symbols.now view.sees.now view.packages c.args.file c.args.path.now c.add_fault-2.result c.args.faults.now.items c.add_fault-2.new.faults.items c.args.number c.in-Some.number c.in-Some.is
    (sym (c.is_declared_at.ensures view.sees.now view.packages) ∙ c.if-is_declared_at.false) c.add_fault-2.ensures
