use Rattle.std.proofs.Common.{◌++◌, ◌∷◌, [], List, ℕ, Option, Bor, map, sym, ap, ◌∙◌}
use Rattle.std.proofs.lemmas.List.{map-append}
use Rattle.protox_names.specs.Tree.{name_of_place}
use Rattle.protox_name_tree.specs.Tree.{IsPart, dotted, name_at, outwards}
use Rattle.protox_name_tree.proofs.Parts.{one_part_more}
use Rattle.protox_name_tree.proofs.tree.NameTree.outwards.Goals as goal

pub loop-place-preserved : goal.loop-place-preserved
loop-place-preserved c =
    let tree = c.args.self.now in
    let now = λ (part : Bor (List ℕ)). part.now in
    let parts = map now c.loop-place.parts.items in
    let part : IsPart tree c.in-Some.here c.in-Some-part.outer c.in-Some-part.own.now = c.in-Some-part.ensures.some in
    c.loop-place.invariant
    ∙ ap (λ (place : Option ℕ). dotted (name_of_place (name_at tree) place) ++ outwards parts) c.in-Some.is
    ∙ one_part_more tree c.in-Some.here c.in-Some-part.outer c.in-Some-part.own.now parts part
    ∙ ap (λ (more : List (List ℕ)). dotted (name_of_place (name_at tree) c.in-Some-part.outer) ++ outwards more)
    (sym (map-append now c.loop-place.parts.items (c.in-Some-part.own ∷ [])) ∙ ap (map now) (sym c.in_ok-push.ensures.items))
