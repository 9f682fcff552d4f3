use Rattle.std.proofs.Common.{rules, ◌++◌, ◌∷◌, [], Some, ap, ◌∙◌}
use Rattle.protox_pool.specs.Pool.{location}
use Rattle.protox_pool.proofs.Places.{commented_ends, commented_is}
use Rattle.protox_pool.proofs.pool.LocationPool.push_commented.Goals as goal

pub invariant_of-self-2 : goal.invariant_of-self-2
invariant_of-self-2 c =
    let inside = c.self.inside in
    commented_ends (c.args.path.now ++ c.args.tags.now) c.args.span.now inside.numbers.items
    c.add_location.new.numbers.items inside.comments.items inside.ends.items c.add_location.new.ends.items
    c.self.invariant c.args.comments c.push_reserved.new.self.items c.in-Ok.number
    c.in_ok-add_location.ensures.ok (search rules) (search rules)

pub returns-clause-ok : goal.returns-clause-ok
returns-clause-ok c =
    let inside = c.self.inside in
    commented_is (c.args.path.now ++ c.args.tags.now) c.args.span.now inside.numbers.items
    c.add_location.new.numbers.items inside.comments.items inside.ends.items c.add_location.new.ends.items
    c.self.invariant c.args.comments c.push_reserved.new.self.items c.in-Ok.number
    c.in_ok-add_location.ensures.ok (search rules) (search rules)
    ∙ ap (λ l. l ++ location (c.args.path.now ++ c.args.tags.now) c.args.span.now (Some c.args.comments) ∷ []) c.self.view_is
