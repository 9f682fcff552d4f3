use Rattle.std.proofs.Common.{map, sym, ◌∙◌}
use Rattle.protox_link_checks.proofs.Reserving.{names_told, nothing_reserved}
use Rattle.protox_link_checks.proofs.reserved.check_names.Goals as goal

pub returns-then-is_empty : goal.returns-then-is_empty
returns-then-is_empty g c =
    let place = c.args.place.now in
    nothing_reserved place.file place.path.now place.tag c.args.reserved.now (map g.N.Named.own_name c.args.siblings.now) c.args.faults.now.items
    (sym c.is_empty.ensures ∙ c.if-is_empty.true)

pub returns : goal.returns
returns g c =
    let place = c.args.place.now in
    names_told place.file place.path.now place.tag c.check_own_names.result c.args.reserved.now (map g.N.Named.own_name c.args.siblings.now) c.in_ok-names.names c.args.faults.now.items c.reserve_all.new.faults.items c.check_own_names.new.faults.items
    c.in_ok-names.ensures.names c.in_ok-names.ensures.faults c.check_own_names.ensures
