use Rattle.std.proofs.Common.{[]}
use Rattle.std.specs.Prelude.{◌≢◌}
use Rattle.protolink_run.proofs.load.Wanted.add_imports.Given as goal

-- names stay
abbrev pub invariant-loop-name : goal.invariant-loop-name
invariant-loop-name l = l.initial.self.names.items ≢ [] → l.self.names.items ≢ []
