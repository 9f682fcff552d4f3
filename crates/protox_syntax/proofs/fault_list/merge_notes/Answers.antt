use Rattle.std.proofs.Common.{false}
use Rattle.protox_syntax.specs.inner.Merge.{progress}
use Rattle.protox_syntax.proofs.Merging.{merge_notes-turn}
use Rattle.protox_syntax.proofs.fault_list.merge_notes.Goals as goal

pub notes-preserved : goal.notes-preserved
notes-preserved c = merge_notes-turn c.args.table.now.faults c.args.total c.add_faults_until.new.errors.items c.add_noted.new.errors.items c.in_ok-next.next c.in_ok-text_format.text_format c.notes.text_format (progress c.notes.errors.items c.notes.next c.notes.text_format) (progress c.args.errors.now.items 0 false) c.notes.yielded c.in-Some.note c.in_ok-next.ensures c.notes.invariant (c.in_ok-text_format.ensures c.in_ok-next.next)
