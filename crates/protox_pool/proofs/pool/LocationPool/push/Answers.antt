use Rattle.std.proofs.Common.{◌++◌, ◌∷◌, [], None, ap, ◌∙◌}
use Rattle.protox_pool.specs.Pool.{location}
use Rattle.protox_pool.proofs.Places.{bare_ends, bare_is}
use Rattle.protox_pool.proofs.pool.LocationPool.push.Goals as goal

pub invariant_of-self-2 : goal.invariant_of-self-2
invariant_of-self-2 c =
    let inside = c.self.inside in
    bare_ends (c.args.path.now ++ c.args.tags.now) c.args.span.now inside.numbers.items
    c.add_location.new.numbers.items inside.comments.items inside.ends.items c.add_location.new.ends.items
    c.self.invariant c.in_ok-add_location.ensures.ok

pub returns-clause-ok : goal.returns-clause-ok
returns-clause-ok c =
    let inside = c.self.inside in
    bare_is (c.args.path.now ++ c.args.tags.now) c.args.span.now inside.numbers.items
    c.add_location.new.numbers.items inside.comments.items inside.ends.items c.add_location.new.ends.items
    c.self.invariant c.in_ok-add_location.ensures.ok
    ∙ ap (λ l. l ++ location (c.args.path.now ++ c.args.tags.now) c.args.span.now None ∷ []) c.self.view_is
