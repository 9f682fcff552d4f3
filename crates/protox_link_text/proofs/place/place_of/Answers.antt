use Rattle.std.proofs.Common.{option_map, string_bytes, sym, ap, ◌∙◌}
use Rattle.protox_link_text.specs.Places.{holder_of, seen}
use Rattle.protox_link_text.proofs.Placing.{no_step, one_step}
use Rattle.protox_link_text.proofs.place.place_of.Goals as goal

pub loop-place-smaller : goal.loop-place-smaller
loop-place-smaller c =
    let place = c.loop-place.place in
    (one_step (string_bytes place.scope) (holder_of place.inside) place.rest.now (seen c.in-Some.inner)
    (ap (option_map seen) (sym c.in-Some.is) ∙ c.in_ok-inner.ensures)).1

pub loop-place-preserved : goal.loop-place-preserved
loop-place-preserved c =
    let place = c.loop-place.place in
    (one_step (string_bytes place.scope) (holder_of place.inside) place.rest.now (seen c.in-Some.inner)
    (ap (option_map seen) (sym c.in-Some.is) ∙ c.in_ok-inner.ensures)).0
    ∙ c.loop-place.invariant

pub returns : goal.returns
returns c =
    let place = c.loop-place.place in
    no_step (string_bytes place.scope) (holder_of place.inside) place.rest.now (ap (option_map seen) (sym c.in_default.is) ∙ c.in_ok-inner.ensures)
    ∙ c.loop-place.invariant
