use Rattle.std.proofs.Common.{[], List, ℕ, Option, refl, subst}
use Rattle.protox_symbols.specs.Scopes.{IsFoundScope}
use Rattle.protox_walk.specs.Declarations.{text_of}
use Rattle.protox_link_checks.proofs.Checking.{file_checked}
use Rattle.protox_link_checks.proofs.file.check_names.Goals as goal

pub returns : goal.returns
returns c =
    let view = c.args.view.now in
    let file = c.args.file.now in
    let package1 = text_of file.«package» in
    let scope = subst (λ (read : Option (List ℕ)). IsFoundScope view.symbols.now (text_of read) c.inside-scope.result) c.as_ref.ensures.value (c.inside-scope.ensures [] (record { known = tt; named = refl })) in
    file_checked view.symbols.now view.sees.now view.packages c.args.number c.check_each-4.result file c.args.faults.now.items c.check_each.new.faults.items c.check_each-2.new.faults.items c.check_each-3.new.faults.items c.check_each-4.new.faults.items
    (c.in_ok-check_each.ensures package1 scope)
    (c.in_ok-check_each-2.ensures package1 scope)
    (c.in_ok-check_each-3.ensures package1 scope)
    (c.check_each-4.ensures package1 scope)
