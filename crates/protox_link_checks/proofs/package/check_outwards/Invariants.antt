use Rattle.std.proofs.Common.{◌≡◌, ◌++◌, [], length, map}
use Rattle.protox_descriptor.specs.declared.tag.file.TheConstants.{PACKAGE}
use Rattle.protox_link_checks.specs.Imports.{no_packages, outwards}
use Rattle.protox_link_checks.specs.Uses.{faults_at}
use Rattle.protox_link_fault.specs.declared.LinkFaultKind.TheVariants.{NotAPackage}
use Rattle.protox_name_tree.specs.Tree.{IsKnown, name_at}
use Rattle.protox_names.specs.Tree.{name_of_place}
use Rattle.protox_link_checks.proofs.package.check_outwards.Given as goal

abbrev pub invariant-loop-place : goal.invariant-loop-place
invariant-loop-place l =
    IsKnown l.symbols.names.full_names l.place
    × (l.faults.items ++ faults_at l.file [] PACKAGE (map NotAPackage (no_packages l.symbols (outwards l.symbols.names l.place)))
    ≡ l.initial.faults.items ++ faults_at l.file [] PACKAGE (map NotAPackage (no_packages l.symbols (outwards l.symbols.names l.initial.place))))

abbrev pub decreases-loop-place : goal.decreases-loop-place
decreases-loop-place l = length (name_of_place (name_at l.symbols.names) l.place)
