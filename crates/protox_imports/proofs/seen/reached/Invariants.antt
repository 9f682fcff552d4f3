use Rattle.std.proofs.Common.{◌+◌, vec_len}
use Rattle.protox_imports.specs.inner.Marks.{unmarked}
use Rattle.protox_imports.specs.inner.Marks.{IsSeeing}
use Rattle.protox_imports.proofs.seen.reached.Given as goal

abbrev pub invariant-loop-next : goal.invariant-loop-next
invariant-loop-next l = IsSeeing l.imports.files l.fn.file l.marks.items l.list.items

abbrev pub decreases-loop-next : goal.decreases-loop-next
decreases-loop-next l = vec_len l.list + unmarked l.marks.items
