use Rattle.std.proofs.Common.{◌≡◌, map, sym, subst, ◌∙◌}
use Rattle.protox_alike.proofs.Apart.{map_twice, none_if_differ}
use Rattle.protox_alike.specs.Keys.{value_key}
use Rattle.protox_alike.specs.inner.Prints.{Differ, print_of}
use Rattle.protox_alike.proofs.values.same_keys.Goals as goal

-- Keys whose numbers differ are no clash.
pub returns-then-differ : goal.returns-then-differ
returns-then-differ c =
    let keys = map (value_key c.args.prefix.now) c.args.values.now in
    let are : c.deref.result.now ≡ map print_of keys =
    c.deref.ensures.value ∙ c.in_ok-prints.ensures ∙ map_twice print_of (value_key c.args.prefix.now) c.args.values.now in
    c.new.ensures.items ∙ sym (none_if_differ keys (subst Differ are (c.differ.ensures c.if-differ.true)))
