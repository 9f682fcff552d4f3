use Rattle.std.proofs.Common.{◌≡◌, ◌<◌, []}
use Rattle.std.specs.Prelude.{◌≢◌, All, false}
use Rattle.protolink_run.specs.Outcomes.{IsReadFile}
use Rattle.protolink_run.proofs.load.load_named.Given as goal

-- the first name is new, and names stay
abbrev pub invariant-loop-name : goal.invariant-loop-name
invariant-loop-name g l = (l.name-index ≡ 0 → l.wanted.known.keys ≡ []) × (0 < l.name-index → l.wanted.names.items ≢ [])

-- all files so far were read, and if none failed, there are some
abbrev pub invariant-loop-next : goal.invariant-loop-next
invariant-loop-next g l =
    All (IsReadFile g.H.Host.holds l.reading.host.now) l.loaded.files.items
    × (l.inputs ≢ [] → l.wanted.names.items ≢ [])
    × (0 < l.next → l.loaded.failed ≡ false → l.loaded.files.items ≢ [])
