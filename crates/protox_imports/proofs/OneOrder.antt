-- There is one depth-first order.
use Rattle.std.proofs.Common.{◌≡◌, ℕ, List, [], ◌∷◌, ◌++◌, Option, refl, sym, subst}
use Rattle.protox_imports.specs.DepthFirst.{Visits}
use Rattle.protox_imports.specs.DepthFirst.Visits.{Ends, Missing, Passes, Places}
use Rattle.protox_imports.specs.declared.row.FileImports.{FileImports}

pub visits_one : {rows : List FileImports} {p q r : List ℕ} {xs : List (Option ℕ)}
    → Visits rows p xs q → Visits rows p xs r → q ≡ r
visits_one (Ends p) (Ends _) = refl
visits_one (Missing p q more v) (Missing _ r _ w) = visits_one v w
visits_one (Passes p q f more h v) (Passes _ r _ _ i w) = visits_one v w
visits_one (Passes p q f more h v) (Places _ m r _ _ i u w) = absurd (i h)
visits_one (Places p m q f more i u w) (Passes _ r _ _ h v) = absurd (i h)
visits_one {rows = rows} (Places p m q f more i u v) (Places _ n r _ _ j t w) =
    let same = visits_one u t in
    visits_one v (subst (λ (x : List ℕ). Visits rows (x ++ f ∷ []) more r) (sym same) w)
