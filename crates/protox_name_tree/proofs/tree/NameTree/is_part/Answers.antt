use Rattle.std.proofs.Common.{sym, ◌∙◌, subst}
use Rattle.std.proofs.lemmas.Bool.{false≢true}
use Rattle.std.proofs.lemmas.Slice.Eq.{bytes_eq-Decides}
use Rattle.protox_name_tree.specs.Tree.{IsPart}
use Rattle.protox_name_tree.proofs.Parts.{place_told, same_part, same_place_told}
use Rattle.protox_name_tree.proofs.tree.NameTree.is_part.Goals as goal

pub returns-then-eq : goal.returns-then-eq
returns-then-eq c =
    let tree = c.args.self.now in
    let n = c.args.number in
    let own = c.in-Some.own.now in
    let placed = same_place_told c.in-Some.outer c.args.place (sym c.eq.ensures ∙ c.if-eq.true) in
    let here : IsPart tree n c.args.place own = subst (λ place. IsPart tree n place own) placed c.in-Some.ensures.some in (
      λ is. subst (λ name. IsPart tree n c.args.place name) ((bytes_eq-Decides own c.args.name.now).0 (sym c.eq-then-eq.ensures ∙ is)) here,
      λ part. c.eq-then-eq.ensures ∙ (bytes_eq-Decides own c.args.name.now).1 (same_part tree n c.args.place c.args.place own c.args.name.now c.len-count.ensures.tree.names here part).1,
    )

pub returns-else-eq : goal.returns-else-eq
returns-else-eq c =
    let tree = c.args.self.now in (
      λ is. absurd (false≢true (sym c.if-eq.false ∙ is)),
      λ part. absurd (false≢true (sym c.if-eq.false ∙ c.eq.ensures ∙ place_told c.in-Some.outer c.args.place (same_part tree c.args.number c.in-Some.outer c.args.place c.in-Some.own.now c.args.name.now c.len-count.ensures.tree.names c.in-Some.ensures.some part).0)),
    )
