use Rattle.std.proofs.Common.{◌≡◌, IfOk, map, take_all, ap, subst, ◌∙◌}
use Rattle.protox_alike.proofs.Apart.{map_same, map_twice}
use Rattle.protox_alike.specs.Alike.{first_same}
use Rattle.protox_alike.specs.inner.Firsts.{first_in}
use Rattle.protox_numbers.specs.Clashes.{with_earlier}
use Rattle.protox_alike.proofs.same.same_names.Goals as goal

-- what each name meets first, as the map has it
pub returns : goal.returns
returns c =
    let names = c.args.names.now in
    let keys = map (λ name. name.items) names in
    let firsts = c.in_ok-firsts.firsts in
    let met : c.deref.result.now ≡ map (first_same keys) keys =
    c.deref.ensures.value ∙ c.loop-name.invariant
    ∙ ap (map (λ name. first_in firsts name.items)) (take_all c.loop-name.name-index names c.loop-name-test.false)
    ∙ map_twice (first_in firsts) (λ name. name.items) names
    ∙ map_same (first_in firsts) (first_same keys) keys c.in_ok-firsts.ensures in
    subst (λ met. IfOk c.with_earlier.result (λ made. made.items ≡ with_earlier met)) met c.with_earlier.ensures
