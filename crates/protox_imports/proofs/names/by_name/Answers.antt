use Rattle.std.proofs.Common.{◌∙◌, ap, bytes_eq, arith}
use Rattle.protox_imports.specs.inner.Numbers.{number_in, first_of}
use Rattle.protox_imports.proofs.Numbers.{noted, not_noted}
use Rattle.protox_imports.proofs.names.by_name.Goals as goal
use Rattle.protox_imports.proofs.names.by_name.Goals.{in-Some+in_ok-note, in_default}

pub loop-number-preserved : goal.loop-number-preserved
loop-number-preserved c = elim c.match-file.branch [
  | in-Some+in_ok-note w ↦
      noted (number_in c.loop-number.numbers) (number_in c.match-file.numbers) c.args.files.now
      c.loop-number.number c.index-files-number.result w.in-Some.name (omega arith)
      c.index-files-number.is w.in-Some.is c.loop-number.invariant
      (λ q. ap (λ m. number_in m q) w.numbers-is ∙ (w.in_ok-note.ensures q
      ∙ ap (λ n. first_of (number_in c.loop-number.numbers q) (bytes_eq n q) c.loop-number.number) w.as_str.ensures))
  | in_default w ↦ λ q.
      ap (λ m. number_in m q) w.numbers-is
      ∙ not_noted (number_in c.loop-number.numbers) c.args.files.now c.loop-number.number
      c.index-files-number.result (omega arith) c.index-files-number.is w.in_default.is
      c.loop-number.invariant q
]
