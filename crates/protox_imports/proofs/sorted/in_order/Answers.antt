use Rattle.std.proofs.Common.{◌≡◌, ◌∙◌, ℕ, [], ap, subst, length, replicate, arith}
use Rattle.std.proofs.lemmas.Option.{MatchOption-at_none}
use Rattle.protox_imports.specs.DepthFirst.{Visits, all_files}
use Rattle.protox_imports.specs.declared.walk.State.TheVariants.{New}
use Rattle.protox_imports.proofs.Steps.{comes_first, comes_next}
use Rattle.protox_imports.proofs.Walking.{walk_ends}
use Rattle.protox_imports.proofs.sorted.in_order.Goals as goal

pub loop-file-init : goal.loop-file-init
loop-file-init c =
    let walk = c.in_ok-walk.walk in
    let new = c.in_ok-walk.ensures in
    let first = comes_first c.args.imports.now.files walk.states.items walk.stack.items walk.placed.items
    (new.states ∙ ap (λ n. replicate n New) c.len.ensures) new.stack new.placed in
    record { walk = first.walk; ends = first.ends; visits = first.visits; came = first.came }

pub loop-file-preserved : goal.loop-file-preserved
loop-file-preserved c =
    let rows = c.args.imports.now.files in
    let old = c.loop-file.walk in
    let new = c.visit.new.self in
    let i = c.loop-file.invariant in
    let visited = MatchOption-at_none _ _ c.in_default.is c.in_ok-files.ensures in
    let next = comes_next rows old.states.items new.states.items old.stack.items new.stack.items
    old.placed.items new.placed.items c.loop-file.file
    (record { walk = i.walk; ends = i.ends; visits = i.visits; came = i.came }) visited in
    record { walk = next.walk; ends = next.ends; visits = next.visits; came = next.came }

pub returns-clause-answer : goal.returns-clause-answer
returns-clause-answer c =
    let i = c.loop-file.invariant in
    walk_ends c.args.imports.now.files c.loop-file.walk.states.items c.loop-file.walk.placed.items i.walk
    (λ f below new. i.came f (omega (arith, below, c.len-file-end.ensures)) new)

pub returns-clause-depth_first : goal.returns-clause-depth_first
returns-clause-depth_first c =
    let all : c.loop-file.file ≡ length c.args.imports.now.files =
    omega (arith, c.len-file-end.ensures) in
    subst (λ (n : ℕ). Visits c.args.imports.now.files [] (all_files n) c.loop-file.walk.placed.items)
    all c.loop-file.invariant.visits
