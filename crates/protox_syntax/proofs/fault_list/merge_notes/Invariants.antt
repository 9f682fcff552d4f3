use Rattle.std.proofs.Common.{◌≡◌, false}
use Rattle.protox_syntax.specs.inner.Merge.{progress, merge_notes}
use Rattle.protox_syntax.proofs.fault_list.merge_notes.Given as goal

abbrev pub invariant-notes : goal.invariant-notes
invariant-notes l = progress l.errors.items l.next l.text_format ≡ merge_notes l.table.faults l.total l.yielded (progress l.fn.errors.items 0 false)
