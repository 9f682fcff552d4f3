-- The elements of a list that pass a test.
use Rattle.std.proofs.Common.{◌≡◌, inl, inr, Bool, true, false, cond, List, [], ◌∷◌, refl, ap, ◌∙◌}
use Rattle.std.specs.Prelude.{All, filter}
use Rattle.std.proofs.lemmas.Bool.{false≢true}
use Rattle.std.proofs.lemmas.List.Elements.{All-cons, All-head, All-nil, All-tail}
use Rattle.protox_ast.proofs.Lemmas.{Among}

module _ {X : Type 0} (p : X → Bool) where
  all_pass : (P : X → Type 0) (b : Bool) (x : X) (kept : List X) → p x ≡ b → P x → All (λ x. P x × (p x ≡ true)) kept → All (λ x. P x × (p x ≡ true)) (cond b (x ∷ kept) kept)
  all_pass P true x kept is has rest = All-cons (λ x. P x × (p x ≡ true)) x kept (has, is) rest
  all_pass P false x kept is has rest = rest

  -- What holds of all holds of those that pass, and they pass.
  pub all_filter : (P : X → Type 0) (xs : List X) → All P xs → All (λ x. P x × (p x ≡ true)) (filter p xs)
  all_filter P [] all = All-nil (λ x. P x × (p x ≡ true))
  all_filter P (x ∷ xs) all = all_pass P (p x) x (filter p xs) refl (All-head P x xs all) (all_filter P xs (All-tail P x xs all))

  first_passes : (b : Bool) (x y : X) (kept : List X) → b ≡ true → x ≡ y → Among (cond b (x ∷ kept) kept) y
  first_passes true x y kept passes is = inl is
  first_passes false x y kept passes is = absurd (false≢true passes)

  behind_first : (b : Bool) (x y : X) (kept : List X) → Among kept y → Among (cond b (x ∷ kept) kept) y
  behind_first true x y kept there = inr there
  behind_first false x y kept there = there

  -- What is among all and passes is among those that pass.
  pub among_filter : (xs : List X) (y : X) → Among xs y → p y ≡ true → Among (filter p xs) y
  among_filter [] y there passes = absurd there
  among_filter (x ∷ xs) y (inl is) passes = first_passes (p x) x y (filter p xs) (ap p is ∙ passes) is
  among_filter (x ∷ xs) y (inr there) passes = behind_first (p x) x y (filter p xs) (among_filter xs y there passes)
