use Rattle.std.proofs.Common.{◌≡◌, [], ◌∷◌, length, get_or, eqb, sym, ap, subst, ◌∙◌}
use Rattle.std.specs.List.{All}
use Rattle.std.specs.Prelude.{◌↔◌, IsTrue}
use Rattle.std.proofs.lemmas.Bool.{eqb-true}
use Rattle.protox_lex.specs.inner.Grouping.{last_end}
use Rattle.protox_lex.proofs.Splitting.{start_is_end, all_empty, last_of_empty}
use Rattle.protox_lex.proofs.groups.Groups.are_empty.Goals as goal

pub returns : goal.returns
returns g c =
    let ends = c.self.inside.ends.items in
    let items = c.self.inside.items.items in
    let size : c.len.result ≡ length ends = c.len.ensures ∙ sym c.deref.ensures.len ∙ ap length c.deref.ensures.value in
    let end : c.start_of.result ≡ last_end 0 ends = c.start_of.ensures ∙ ap (λ es. get_or (0 ∷ es) c.len.result 0) c.deref.ensures.value ∙ ap (λ n. get_or (0 ∷ ends) n 0) size ∙ start_is_end 0 ends in
    subst (λ v. IsTrue (eqb c.start_of.result 0) ↔ All (λ xs. xs ≡ []) v.ended) c.self.view_is
    (λ is. all_empty 0 items ends c.self.invariant (sym end ∙ eqb-true c.start_of.result 0 is), λ all. ap (λ n. eqb n 0) (end ∙ last_of_empty 0 items ends c.self.invariant all))
