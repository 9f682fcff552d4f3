use Rattle.std.proofs.Common.{◌<◌, ◌∷◌, ◌++◌, [], length, arith, ap, sym, ◌∙◌}
use Rattle.std.specs.Prelude.{pos, if◌then◌else◌}
use Rattle.protox_describe.specs.Head.{is_weak}
use Rattle.protox_describe.proofs.Places.{places-take_more}
use Rattle.protox_describe.proofs.head.weak_places.Goals as goal

pub loop-place-preserved : goal.loop-place-preserved
loop-place-preserved c =
    let imports = c.args.imports.now in
    let i = c.loop-place.place in
    let x = c.index-imports-place.result in
    let lt : i < length imports = omega arith in
    c.in_ok-push_place.ensures ∙ ap (λ b. c.loop-place.found ++ (if b then pos i ∷ [] else [])) c.is_weak.ensures
    ∙ ap (λ l. l ++ (if is_weak x then pos i ∷ [] else [])) c.loop-place.invariant ∙ sym (places-take_more is_weak imports i x lt c.index-imports-place.is)
