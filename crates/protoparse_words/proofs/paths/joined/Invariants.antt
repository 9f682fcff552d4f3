use Rattle.std.proofs.Common.{◌≡◌, string_bytes, take}
use Rattle.std.specs.List.{join_with_byte}
use Rattle.protoparse_words.specs.Names.{texts}
use Rattle.protoparse_words.proofs.paths.joined.Given as goal

abbrev pub invariant-loop-i : goal.invariant-loop-i
invariant-loop-i l = string_bytes l.name ≡ join_with_byte 47 (take l.i (texts l.parts))
