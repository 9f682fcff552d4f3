use Rattle.std.proofs.Common.{◌≡◌, ◌++◌, drop, string_bytes}
use Rattle.protox_link_text.specs.Told.{arrows}
use Rattle.protox_link_text.proofs.imports.push_arrows.Given as goal

abbrev pub invariant-loop-file : goal.invariant-loop-file
invariant-loop-file l = string_bytes l.names ++ arrows l.files (drop l.file-index l.circle) ≡ string_bytes l.initial.names ++ arrows l.files l.circle
