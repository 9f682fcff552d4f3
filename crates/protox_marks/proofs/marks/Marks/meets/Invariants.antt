use Rattle.std.proofs.Common.{◌≡◌, drop}
use Rattle.protox_marks.specs.Few.{holds}
use Rattle.protox_marks.specs.Marks.{any_marked}
use Rattle.protox_marks.proofs.marks.Marks.meets.Given as goal

abbrev pub invariant-loop-word : goal.invariant-loop-word
invariant-loop-word l = any_marked l.self (holds l.fn.few.words.items) ≡ any_marked l.self (holds (drop l.word-index l.word-items))
