use Rattle.std.proofs.Common.{◌≡◌, [], subst}
use Rattle.std.specs.List.{All}
use Rattle.std.specs.Prelude.{◌↔◌, IsTrue}
use Rattle.protox_lex.proofs.Splitting.{all_behind, behind_all}
use Rattle.protox_lex.proofs.late_groups.LateGroups.are_empty.Goals as goal

pub returns : goal.returns
returns g c =
    let n = c.self.inside.empty in
    let late = c.self.inside.groups.ended in
    subst (λ v. IsTrue c.are_empty.result ↔ All (λ xs. xs ≡ []) v.ended) c.self.view_is
    (λ is. all_behind n late (c.are_empty.ensures.0 is), λ all. c.are_empty.ensures.1 (behind_all n late all))
