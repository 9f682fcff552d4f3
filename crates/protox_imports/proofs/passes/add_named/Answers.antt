use Rattle.std.proofs.Common.{◌∙◌, ℕ, List, Option, Some, None, Contains, ap, subst, sym, arith}
use Rattle.std.proofs.lemmas.List.{take_all}
use Rattle.std.proofs.lemmas.Option.{slice_get-get_or}
use Rattle.protox_imports.specs.Passing.{PassedIn}
use Rattle.protox_imports.specs.inner.Passing.{Adds}
use Rattle.protox_imports.proofs.Elements.{contains_at}
use Rattle.protox_imports.proofs.Passing.{gap_more, named_more}
use Rattle.protox_imports.proofs.passes.add_named.Goals.{in-Some, in_default}
use Rattle.protox_imports.proofs.passes.add_named.Goals as goal

pub add_row-requires-clause-below : goal.add_row-requires-clause-below
add_row-requires-clause-below c =
    let named = c.args.named.now in
    let i = c.loop-file.file-index in
    let count = c.loop-file.invariant.count in
    let below = c.requires.below c.in-Some.file (contains_at named i (Some c.in-Some.file) (slice_get-get_or named i None c.loop-file-test.true ∙ ap Some c.in-Some.is)) in
    omega (arith, count, below)

pub loop-file-preserved : goal.loop-file-preserved
loop-file-preserved c = elim c.match-file.branch [
  | in-Some w ↦
      named_more c.args.rows.now c.args.named.now c.loop-file.file-index w.in-Some.file c.args.marks.now c.loop-file.marks c.match-file.marks c.loop-file-test.true w.in-Some.is c.loop-file.invariant
      (subst (Adds c.loop-file.marks (PassedIn c.args.rows.now w.in-Some.file)) (sym w.marks-is) w.add_row.ensures)
  | in_default w ↦
      gap_more c.args.rows.now c.args.named.now c.loop-file.file-index c.args.marks.now c.loop-file.marks c.match-file.marks c.loop-file-test.true w.in_default.is w.marks-is c.loop-file.invariant
]

pub returns : goal.returns
returns c =
    subst (λ (xs : List (Option ℕ)). Adds c.args.marks.now (λ h. (g : ℕ) × Contains xs (Some g) × PassedIn c.args.rows.now g h) c.loop-file.marks)
    (take_all c.loop-file.file-index c.args.named.now (omega (arith, c.loop-file-test.false))) c.loop-file.invariant
