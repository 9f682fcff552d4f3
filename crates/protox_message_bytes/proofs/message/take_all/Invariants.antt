use Rattle.std.proofs.Common.{◌≡◌, drop}
use Rattle.protox_message_bytes.specs.inner.Frames.{all_taken}
use Rattle.protox_message_bytes.specs.inner.Writing.{state_of}
use Rattle.protox_message_bytes.proofs.message.take_all.Given as goal

-- taking the entries that are left gives what taking all gives
abbrev pub invariant-loop-entry : goal.invariant-loop-entry
invariant-loop-entry l =
    all_taken (state_of l.writer) (drop l.entry-index l.entries)
    ≡ all_taken (state_of l.fn.writer) l.entries
