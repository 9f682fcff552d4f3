use Rattle.std.proofs.Common.{◌≡◌, ◌++◌, ℕ, List, drop}
use Rattle.std.specs.List.{flat_map}
use Rattle.protox_link_checks.specs.Proto3.{faults_of_proto3}
use Rattle.protox_walk.specs.Declarations.{all_in, numbered, siblings_at}
use Rattle.protox_link_checks.proofs.proto3.check_siblings.Given as goal

abbrev pub invariant-loop-index : goal.invariant-loop-index
invariant-loop-index g l =
    (full : List ℕ) → l.faults.items ++ flat_map (faults_of_proto3 l.file) (numbered l.path l.tag l.index (all_in g.I.InProto3.declares full (drop l.index l.elements)))
    ≡ l.initial.faults.items ++ flat_map (faults_of_proto3 l.file) (siblings_at l.path l.tag (all_in g.I.InProto3.declares full l.elements))
