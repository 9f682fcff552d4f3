use Rattle.std.proofs.Common.{[], ◌∷◌, ◌∙◌, List, ℕ, Bor, ap, map}
use Rattle.std.proofs.lemmas.List.{map-append}
use Rattle.protox_name_tree.proofs.Parts.{one_part_written}
use Rattle.protox_name_tree.proofs.tree.NameTree.dotted.Goals as goal

pub loop-part-preserved : goal.loop-part-preserved
loop-part-preserved c =
    let now = λ (part : Bor (List ℕ)). part.now in
    one_part_written _ _ _ _ (map now c.loop-part.parts.items) (map now c.pop.new.self.items) c.in-Some.part.now
    (ap (map now) c.in-Some.ensures.items ∙ map-append now c.pop.new.self.items (c.in-Some.part ∷ []))
    c.in_ok-push_str.ensures.bytes c.in_ok-push_str-2.ensures.bytes c.loop-part.invariant
