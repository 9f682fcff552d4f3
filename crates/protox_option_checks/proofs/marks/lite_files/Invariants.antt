use Rattle.std.proofs.Common.{◌≡◌, map, take}
use Rattle.protox_option_checks.specs.Marks.{is_lite}
use Rattle.protox_option_checks.proofs.marks.lite_files.Given as goal

abbrev pub invariant-loop-file : goal.invariant-loop-file
invariant-loop-file l = l.made.items ≡ map is_lite (take l.file-index l.files)
