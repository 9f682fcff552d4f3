use Rattle.std.proofs.Common.{◌≡◌, length}
use Rattle.std.specs.Prelude.{true}
use Rattle.protolink_run.proofs.names_of.Given as goal

-- where all inputs so far have names, there are as many
abbrev pub invariant-loop-word : goal.invariant-loop-word
invariant-loop-word g l = l.all ≡ true → length l.names.items ≡ l.word-index
