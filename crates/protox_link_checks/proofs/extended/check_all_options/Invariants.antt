use Rattle.std.proofs.Common.{◌≡◌, ◌++◌, take}
use Rattle.std.specs.List.{flat_map}
use Rattle.protox_link_checks.specs.Extensions.{options_faults}
use Rattle.protox_link_checks.proofs.extended.check_all_options.Given as goal

abbrev pub invariant-loop-extension : goal.invariant-loop-extension
invariant-loop-extension l = l.faults.items ≡ l.initial.faults.items ++ flat_map (options_faults l.file l.symbols) (take l.extension-index l.extensions)
