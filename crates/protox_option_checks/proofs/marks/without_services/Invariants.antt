use Rattle.std.proofs.Common.{◌≡◌, map, take}
use Rattle.protox_option_checks.specs.Marks.{bars_services}
use Rattle.protox_option_checks.proofs.marks.without_services.Given as goal

abbrev pub invariant-loop-file : goal.invariant-loop-file
invariant-loop-file l = l.made.items ≡ map bars_services (take l.file-index l.files)
