use Rattle.std.proofs.Common.{Contains, Some, take}
use Rattle.protox_imports.specs.inner.Marks.{Marks}
use Rattle.protox_imports.proofs.seen.mark_named.Given as goal

abbrev pub invariant-loop-file : goal.invariant-loop-file
invariant-loop-file l =
    Marks l.initial.marks l.initial.list.items (λ g. Contains (take l.file-index l.named) (Some g)) l.marks l.list.items
