use Rattle.protox_views.proofs.Files.{AreNoted}
use Rattle.protox_views.proofs.packages.PackageFiles.of.Given as goal

abbrev pub invariant-loop-file : goal.invariant-loop-file
invariant-loop-file l = AreNoted l.symbols.names l.packages l.file l.files.items
