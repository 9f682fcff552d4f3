-- Whether there are options at all.
use Rattle.std.proofs.Common.{◌≡◌, ◌<◌, ◌||◌, ◌==◌, ◌+◌, get_or, zero, ◌++◌, Bool, true, false, List, [], ◌∷◌, length, refl, sym, ap, ◌∙◌, ℕ, suc, arith}
use Rattle.std.specs.List.{FoldsTo, flat_map}
use Rattle.protox_descriptor.specs.declared.descriptor.options.UninterpretedOption.{UninterpretedOption}
use Rattle.protox_usage.specs.Options.{are_some}

or_assoc : (a b c : Bool) → ((a || b) || c) ≡ (a || (b || c))
or_assoc true b c = refl
or_assoc false b c = refl

or_false : (b : Bool) → b ≡ (b || false)
or_false true = refl
or_false false = refl

later_is_some : (n : ℕ) → (suc n == 0) ≡ false
later_is_some n = grind arith

pub some_append : (xs ys : List UninterpretedOption) → are_some (xs ++ ys) ≡ (are_some xs || are_some ys)
some_append [] ys = refl
some_append (x ∷ xs) ys = refl

pub some_visited : {V X : Type 0} (any : V → Bool) (told : X → List UninterpretedOption) (a : V) (xs : List X) (b : V) → FoldsTo (λ old x new. any new ≡ (any old || are_some (told x))) a xs b
    → any b ≡ (any a || are_some (flat_map told xs))
some_visited any told a [] b p = ap any (sym p) ∙ or_false (any a)
some_visited any told a (x ∷ xs) b p =
    some_visited any told p.0 xs b p.2 ∙ ap (λ t. t || are_some (flat_map told xs)) p.1
    ∙ or_assoc (any a) (are_some (told x)) (are_some (flat_map told xs)) ∙ ap (λ t. any a || t) (sym (some_append (told x) (flat_map told xs)))

-- One of the ranges has options.
pub some_at : {X : Type 0} (told : X → List UninterpretedOption) (xs : List X) (i : ℕ) (x : X) → i < length xs → x ≡ get_or xs i x → are_some (told x) ≡ true → true ≡ are_some (flat_map told xs)
some_at told [] i x below is some = absurd (omega (arith, below))
some_at told (first ∷ xs) zero x below is some =
    sym (some_append (told first) (flat_map told xs) ∙ ap (λ b. b || are_some (flat_map told xs)) (ap (λ y. are_some (told y)) (sym is) ∙ some))
some_at told (first ∷ xs) (suc i) x below is some =
    some_at told xs i x (omega (arith, below)) is some ∙ last (are_some (told first)) (are_some (flat_map told xs)) (some_at told xs i x (omega (arith, below)) is some)
    ∙ sym (some_append (told first) (flat_map told xs))
  where
    last : (a b : Bool) → true ≡ b → b ≡ (a || b)
    last true b is = sym is
    last false b is = refl
