use Rattle.std.proofs.Common.{◌≡◌, map, take}
use Rattle.protox_option_checks.specs.Marks.{is_proto3}
use Rattle.protox_option_checks.proofs.marks.proto3_files.Given as goal

abbrev pub invariant-loop-file : goal.invariant-loop-file
invariant-loop-file l = l.made.items ≡ map is_proto3 (take l.file-index l.files)
