-- The first location with a path is the one at the start of the range of those that have it.
use Rattle.std.proofs.Common.{◌≡◌, ℕ, zero, suc, ◌<◌, ◌≤◌, true, false, Bool, cond, List, [], ◌∷◌, length, get_or, slice_get, Option, Some, None, refl, ap, sym, subst, ◌∙◌, arith, inl, inr}
use Rattle.std.specs.Prelude.{ℤ, if◌then◌else◌}
use Rattle.std.specs.Cmp.Rules.{signed_items}
use Rattle.std.proofs.lemmas.Bool.{cases_lt, cases_Bool, false≢true}
use Rattle.protox_descriptor.specs.declared.descriptor.source_code_info.Location.{Location}
use Rattle.protox_places.specs.First.{first_at, is_at}
use Rattle.std.specs.Cmp.Lexicographic.{slice_cmp}
use Rattle.std.specs.List.{AllWithin}
use Rattle.std.specs.Ordering.{int_cmp, is_gt}
use Rattle.protox_places.specs.Order.{AreByPath, ComesBefore}
use Rattle.protox_places.proofs.SortedPaths.{not-itself, not-before-nor-behind, rising}

of_some : {x y : Location} → Some x ≡ Some y → x ≡ y
of_some {x} e = ap (λ o. elim o [ None ↦ x | Some z ↦ z ]) e

hit : (path : List ℤ) (l : Location) → l.path ≡ path → is_at path l ≡ true
hit path l e = (signed_items l.path path).1 e

untrue : (b : Bool) → (b ≡ true → ⊥) → b ≡ false
untrue true h = absurd (h refl)
untrue false h = refl

miss : (path : List ℤ) (l : Location) → (l.path ≡ path → ⊥) → is_at path l ≡ false
miss path l h = untrue (is_at path l) (λ e. h ((signed_items l.path path).0 e))

-- no location has the path
none-first : (path : List ℤ) (xs : List Location)
    → ((k : ℕ) (d : Location) → k < length xs → (get_or xs k d).path ≡ path → ⊥)
    → first_at path xs ≡ None
none-first path [] h = refl
none-first path (x ∷ xs) h =
    ap (λ b. cond b (Some x) (first_at path xs)) (miss path x (h zero x (omega arith)))
    ∙ none-first path xs (λ k d l. h (suc k) d (omega (arith, l)))

-- the location at an index has it, and none before
one-first : (path : List ℤ) (xs : List Location) (i : ℕ) → i < length xs
    → ((k : ℕ) (d : Location) → k < i → (get_or xs k d).path ≡ path → ⊥)
    → ((d : Location) → (get_or xs i d).path ≡ path)
    → first_at path xs ≡ slice_get xs i
one-first path [] i l h e = absurd (omega (arith, l))
one-first path (x ∷ xs) zero l h e =
    ap (λ b. cond b (Some x) (first_at path xs)) (hit path x (e x))
one-first path (x ∷ xs) (suc i) l h e =
    ap (λ b. cond b (Some x) (first_at path xs)) (miss path x (h zero x (omega arith)))
    ∙ one-first path xs i (omega (arith, l)) (λ k d m. h (suc k) d (omega (arith, m))) e

-- ---- from the index behind the locations with smaller paths

got : (xs : List Location) (i : ℕ) (l : Location) → slice_get xs i ≡ Some l → (i < length xs) × ((d : Location) → get_or xs i d ≡ l)
got [] zero l e = absurd cc
got [] (suc i) l e = absurd cc
got (x ∷ xs) zero l e = (omega arith, λ d. of_some e)
got (x ∷ xs) (suc i) l e = let g = got xs i l e in (omega (arith, g.0), g.1)

past : (xs : List Location) (i : ℕ) → slice_get xs i ≡ None → length xs ≤ i
past [] i e = omega arith
past (x ∷ xs) zero e = absurd cc
past (x ∷ xs) (suc i) e = omega (arith, past xs i e)

module _ (path : List ℤ) (xs : List Location) (i : ℕ) (r : Option Location) (sorted : AreByPath xs)
    (before : AllWithin (λ (l : Location). ComesBefore l.path path) xs 0 i)
    (from : AllWithin (λ (l : Location). ComesBefore l.path path → ⊥) xs i (length xs)) where
  -- none before it has the path
  smaller : (k : ℕ) (d : Location) → k < i → (get_or xs k d).path ≡ path → ⊥
  smaller k d h e = not-itself (get_or xs k d).path path e (before k d (omega arith) h)

  -- if one has the path, the one at the index has it
  there : (k : ℕ) (d : Location) → k < length xs → (get_or xs k d).path ≡ path → (get_or xs i d).path ≡ path
  there k d h e = elim (cases_lt k i) [
    | inl lt ↦ absurd (smaller k d lt e)
    | inr le ↦ not-before-nor-behind (get_or xs i d).path path (from i d (omega arith) (omega (arith, le, h)))
        (subst (λ q. is_gt (slice_cmp int_cmp (get_or xs i d).path q) ≡ false) e (rising xs i k d sorted le h))
  ]

  pub first_there : ((l : Location) → slice_get xs i ≡ Some l → r ≡ (if is_at path l then Some l else None)) → (slice_get xs i ≡ None → r ≡ None) → r ≡ first_at path xs
  first_there some none = go (slice_get xs i) refl where
    go : (o : Option Location) → slice_get xs i ≡ o → r ≡ first_at path xs
    go None e = none e ∙ sym (none-first path xs (λ k d h q. smaller k d (omega (arith, h, past xs i e)) q))
    go (Some l) e =
        let g = got xs i l e in
        elim (cases_Bool (is_at path l)) [
          | inl has ↦
              some l e ∙ ap (λ b. cond b (Some l) None) has
              ∙ sym (one-first path xs i g.0 smaller (λ d. ap (λ (m : Location). m.path) (g.1 d) ∙ (signed_items l.path path).0 has) ∙ e)
          | inr lacks ↦
              some l e ∙ ap (λ b. cond b (Some l) None) lacks
              ∙ sym (none-first path xs (λ k d h q. false≢true (sym lacks ∙ hit path l (sym (ap (λ (m : Location). m.path) (g.1 d)) ∙ there k d h q))))
        ]
