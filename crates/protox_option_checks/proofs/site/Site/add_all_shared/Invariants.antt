use Rattle.std.proofs.Common.{◌≡◌, ◌++◌, map, take}
use Rattle.protox_option_checks.specs.Parts.{shared_number_at}
use Rattle.protox_option_checks.proofs.site.Site.add_all_shared.Given as goal

abbrev pub invariant-loop-clash : goal.invariant-loop-clash
invariant-loop-clash l =
    l.faults.items ≡ l.initial.faults.items ++ map (shared_number_at l.self.symbols.now l.self.number l.path l.of.scope.now l.of.values.now) (take l.clash-index l.clashes)
