use Rattle.std.proofs.Common.{◌+◌, arith, codes, drop, refl, sym, ◌∙◌}
use Rattle.protox_ast.specs.Options.{without_first}
use Rattle.protox_checks.specs.inner.Walk.{others}
use Rattle.protox_checks.proofs.Adding.{on-ok}
use Rattle.protox_checks.proofs.Left.{at-end, both-kept, default-dropped, json_name-dropped, next, whole}
use Rattle.protox_checks.proofs.options.check_others.Goals as goal

pub returns-then-has_name : goal.returns-then-has_name
returns-then-has_name c =
    let xs = c.args.bodies.now in
    let rest = drop (c.loop-index.index + 1) xs in
    on-ok c.check_without.result
    (whole others xs c.loop-index.index c.index-bodies-index.result _ _ _ (omega arith) c.index-bodies-index.is c.loop-index.invariant (without_first (codes "json_name")) (default-dropped c.index-bodies-index.result rest (sym c.has_name.ensures ∙ c.if-has_name.true)))
    c.check_without.ensures

pub returns-then-has_name-2 : goal.returns-then-has_name-2
returns-then-has_name-2 c =
    let xs = c.args.bodies.now in
    let rest = drop (c.loop-index.index + 1) xs in
    on-ok c.check_without-then-has_name-2.result
    (whole others xs c.loop-index.index c.index-bodies-index.result _ _ _ (omega arith) c.index-bodies-index.is c.loop-index.invariant (without_first (codes "default")) (json_name-dropped c.index-bodies-index.result rest (sym c.has_name.ensures ∙ c.if-has_name.false) (sym c.has_name-in-loop-index.ensures ∙ c.if-has_name-2.true)))
    c.check_without-then-has_name-2.ensures

pub loop-index-preserved : goal.loop-index-preserved
loop-index-preserved c =
    let xs = c.args.bodies.now in
    let rest = drop (c.loop-index.index + 1) xs in
    next others xs c.loop-index.index c.index-bodies-index.result _ _ _ (omega arith) c.index-bodies-index.is c.loop-index.invariant (both-kept c.index-bodies-index.result rest (sym c.has_name.ensures ∙ c.if-has_name.false) (sym c.has_name-in-loop-index.ensures ∙ c.if-has_name-2.false)) c.in_ok-check_body.ensures

pub returns : goal.returns
returns c = at-end others c.args.bodies.now c.loop-index.index _ _ refl (omega arith) c.loop-index.invariant
