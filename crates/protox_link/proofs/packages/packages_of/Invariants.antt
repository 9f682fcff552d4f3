use Rattle.std.proofs.Common.{◌≡◌, take}
use Rattle.protox_link.specs.Seen.{packages_of}
use Rattle.protox_link.proofs.packages.packages_of.Given as goal

abbrev pub invariant-loop-file : goal.invariant-loop-file
invariant-loop-file l = l.made.items ≡ packages_of l.symbols (take l.file-index l.files)
