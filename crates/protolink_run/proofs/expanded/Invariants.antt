use Rattle.std.proofs.Common.{◌≡◌, map, take}
use Rattle.std.specs.Prelude.{All, string_bytes}
use Rattle.protolink_run.specs.Outcomes.{IsPlainWord}
use Rattle.protolink_run.proofs.expanded.Given as goal

-- plain words stay as they are
abbrev pub invariant-loop-word : goal.invariant-loop-word
invariant-loop-word g l = All IsPlainWord l.words → map string_bytes l.all.items ≡ map string_bytes (take l.word-index l.words)
