use Rattle.std.proofs.Common.{◌≡◌, ◌<◌, ◌++◌, [], ℕ, Option, Some, length, map, sym, subst, ◌∙◌}
use Rattle.protox_descriptor.specs.declared.tag.file.TheConstants.{PACKAGE}
use Rattle.protox_link_checks.specs.Imports.{no_packages, outwards}
use Rattle.protox_link_checks.specs.Uses.{faults_at}
use Rattle.protox_link_checks.proofs.Outwards.{one_outwards, outer_known}
use Rattle.protox_link_fault.specs.declared.LinkFaultKind.TheVariants.{NotAPackage}
use Rattle.protox_name_tree.specs.Tree.{IsKnown, name_at}
use Rattle.protox_names.specs.Tree.{name_of_place}
use Rattle.protox_views.proofs.Lemmas.{shorter_outwards}
use Rattle.protox_link_checks.proofs.package.check_outwards.Goals as goal

pub loop-place-smaller : goal.loop-place-smaller
loop-place-smaller c =
    let names = c.args.symbols.now.names in
    let known : c.in-Some.here < length names.full_names = subst (IsKnown names.full_names) c.in-Some.is c.loop-place.invariant.0 in
    subst (λ (place : Option ℕ). length (name_of_place (name_at names) c.outer-place.result) < length (name_of_place (name_at names) place)) (sym c.in-Some.is)
    (shorter_outwards names c.in-Some.here c.outer-place.result c.len-count.ensures.tree known c.outer-place.ensures)

pub loop-place-preserved : goal.loop-place-preserved
loop-place-preserved c =
    let table = c.args.symbols.now in
    let names = table.names in
    let known : c.in-Some.here < length names.full_names = subst (IsKnown names.full_names) c.in-Some.is c.loop-place.invariant.0 in
    let all = c.args.faults.now.items ++ faults_at c.args.file [] PACKAGE (map NotAPackage (no_packages table (outwards names (Some c.args.number)))) in (
      outer_known table c.len-count.ensures.tree c.in-Some.here c.outer-place.result known c.outer-place.ensures,
      one_outwards table c.len-count.ensures.tree c.args.file c.in-Some.here c.outer-place.result c.kind.result c.loop-place.faults.items c.check_kind.new.faults.items known c.outer-place.ensures c.kind.ensures c.in_ok-check_kind.ensures
          ∙ subst (λ (place : Option ℕ). c.loop-place.faults.items ++ faults_at c.args.file [] PACKAGE (map NotAPackage (no_packages table (outwards names place))) ≡ all) c.in-Some.is c.loop-place.invariant.1,
    )
