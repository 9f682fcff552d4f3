use Rattle.std.proofs.Common.{length, map}
use Rattle.protox_link_options.proofs.Entries.{AreMade}
use Rattle.protox_link_options.proofs.spelling.entries_of.Given as goal

abbrev pub invariant-loop-answer : goal.invariant-loop-answer
invariant-loop-answer l = AreMade l.fn.files.items l.fn.answers.items l.files.items l.answers.items (map (λ entry. entry.items) l.made.items)

abbrev pub decreases-loop-answer : goal.decreases-loop-answer
decreases-loop-answer l = length l.answers.items
