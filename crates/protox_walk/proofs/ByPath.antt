-- The name that a walk keeps is that of the first declaration with a path.
use Rattle.std.proofs.Common.{◌≡◌, ℕ, true, false, cond, List, [], ◌∷◌, Option, Some, None, refl, ap, sym, ◌∙◌}
use Rattle.std.specs.Prelude.{option_map}
use Rattle.std.specs.Cmp.Lexicographic.{pointwise}
use Rattle.std.specs.List.{FoldsTo, find}
use Rattle.std.specs.Option.{option_or}
use Rattle.std.specs.Ordering.{int_eq}
use Rattle.protox_walk.specs.Declarations.{Path}
use Rattle.protox_walk.specs.Names.{name_at}
use Rattle.protox_walk.specs.Parts.{Declared}

one-more : (path : Path) (o : Option (List ℕ)) (d : Declared) (ds : List Declared)
    → option_or (option_or o (name_at path (d ∷ []))) (name_at path ds) ≡ option_or o (name_at path (d ∷ ds))
one-more path (Some name) d ds = refl
one-more path None d ds =
    elim (pointwise int_eq d.path path) as (λ b.
    option_or (option_map (λ (e : Declared). e.full_name) (cond b (Some d) None)) (name_at path ds)
    ≡ option_map (λ (e : Declared). e.full_name) (cond b (Some d) (find (λ (e : Declared). pointwise int_eq e.path path) ds))) [
      | true ↦ refl
      | false ↦ refl
    ]

nothing-more : (o : Option (List ℕ)) → o ≡ option_or o None
nothing-more (Some name) = refl
nothing-more None = refl

pub name-kept : {V : Type 0} (path : V → Path) (name : V → Option (List ℕ)) (a : V) (ds : List Declared) (b : V)
    → FoldsTo (λ old one new. (path new ≡ path old) × (name new ≡ option_or (name old) (name_at (path old) (one ∷ [])))) a ds b
    → name b ≡ option_or (name a) (name_at (path a) ds)
name-kept path name a [] b p = ap name (sym p) ∙ nothing-more (name a)
name-kept path name a (d ∷ ds) b p =
    name-kept path name p.0 ds b p.2
    ∙ ap (λ (q : Path). option_or (name p.0) (name_at q ds)) p.1.0
    ∙ ap (λ (o : Option (List ℕ)). option_or o (name_at (path a) ds)) p.1.1
    ∙ one-more (path a) (name a) d ds
