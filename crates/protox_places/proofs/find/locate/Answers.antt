use Rattle.std.proofs.Common.{subst}
use Rattle.protox_places.specs.Order.{AreThoseAt}
use Rattle.protox_places.proofs.SortedPaths.{apart, between}
use Rattle.protox_places.proofs.find.locate.Goals as goal

pub returns-clause-start : goal.returns-clause-start
returns-clause-start c =
    let before = c.count_before-start in
    let up_to = c.count_up_to-end in
    apart c.as_slice-locations.result.now c.args.path.now before.result up_to.result
    before.ensures.bound before.ensures.before up_to.ensures.behind

pub returns-clause-found : goal.returns-clause-found
returns-clause-found c =
    let before = c.count_before-start in
    let up_to = c.count_up_to-end in
    let i = before.result in
    let j = up_to.result in
    subst (λ xs. AreThoseAt xs c.args.path.now i j) c.as_slice-locations.ensures
    (between c.as_slice-locations.result.now c.args.path.now i j
    before.ensures.before before.ensures.from up_to.ensures.up_to up_to.ensures.behind)
