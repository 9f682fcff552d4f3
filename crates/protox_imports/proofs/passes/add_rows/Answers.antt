use Rattle.std.proofs.Common.{ℕ, List, Contains, get_or, subst, arith}
use Rattle.std.proofs.lemmas.List.{take_all}
use Rattle.std.proofs.lemmas.List.Elements.{Contains-get_or}
use Rattle.protox_imports.specs.Passing.{PassedIn}
use Rattle.protox_imports.specs.inner.Passing.{Adds}
use Rattle.protox_imports.proofs.Passing.{one_more}
use Rattle.protox_imports.proofs.passes.add_rows.Goals as goal

pub add_row-requires-clause-below : goal.add_row-requires-clause-below
add_row-requires-clause-below c =
    let count = c.loop-file.invariant.count in
    let below = c.requires.below (get_or c.args.files.now c.loop-file.file-index 0)
    (Contains-get_or c.args.files.now c.loop-file.file-index 0 c.loop-file-test.true) in
    omega (arith, count, below)

pub loop-file-preserved : goal.loop-file-preserved
loop-file-preserved c =
    one_more c.args.files.now c.loop-file.file-index 0 (PassedIn c.args.rows.now) c.args.marks.now c.loop-file.marks c.add_row.new.marks c.loop-file-test.true c.loop-file.invariant c.add_row.ensures

pub returns : goal.returns
returns c =
    subst (λ (xs : List ℕ). Adds c.args.marks.now (λ h. (g : ℕ) × Contains xs g × PassedIn c.args.rows.now g h) c.loop-file.marks)
    (take_all c.loop-file.file-index c.args.files.now (omega (arith, c.loop-file-test.false))) c.loop-file.invariant
