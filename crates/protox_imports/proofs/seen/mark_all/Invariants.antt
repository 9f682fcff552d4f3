use Rattle.std.proofs.Common.{Contains, take}
use Rattle.protox_imports.specs.inner.Marks.{Marks}
use Rattle.protox_imports.proofs.seen.mark_all.Given as goal

abbrev pub invariant-loop-file : goal.invariant-loop-file
invariant-loop-file l =
    Marks l.initial.marks l.initial.list.items (Contains (take l.file-index l.files)) l.marks l.list.items
