use Rattle.std.proofs.Common.{◌+◌, arith, drop, refl, sym, ◌∙◌}
use Rattle.protox_ast.specs.Options.{without_first}
use Rattle.protox_checks.proofs.Adding.{on-ok}
use Rattle.protox_checks.proofs.Left.{at-end, dropped, kept, next, whole}
use Rattle.protox_checks.proofs.options.check_without.Goals as goal

pub returns-then-has_name : goal.returns-then-has_name
returns-then-has_name c =
    let xs = c.args.bodies.now in
    let rest = drop (c.loop-index.index + 1) xs in
    on-ok c.check_bodies.result
    (whole (without_first c.args.name.now) xs c.loop-index.index c.index-bodies-index.result _ _ _ (omega arith) c.index-bodies-index.is c.loop-index.invariant (λ l. l) (dropped c.args.name.now c.index-bodies-index.result rest (sym c.has_name.ensures ∙ c.if-has_name.true)))
    c.check_bodies.ensures

pub loop-index-preserved : goal.loop-index-preserved
loop-index-preserved c =
    let xs = c.args.bodies.now in
    let rest = drop (c.loop-index.index + 1) xs in
    next (without_first c.args.name.now) xs c.loop-index.index c.index-bodies-index.result _ _ _ (omega arith) c.index-bodies-index.is c.loop-index.invariant (kept c.args.name.now c.index-bodies-index.result rest (sym c.has_name.ensures ∙ c.if-has_name.false)) c.in_ok-check_body.ensures

pub returns : goal.returns
returns c = at-end (without_first c.args.name.now) c.args.bodies.now c.loop-index.index _ _ refl (omega arith) c.loop-index.invariant
