-- Marking files, and what is known once all are marked.
use Rattle.std.proofs.Common.{◌≡◌, ◌⊎◌, inl, inr, ℕ, zero, suc, ◌<◌, ◌≤◌, ◌+◌, List, [], ◌∷◌, ◌++◌, length, get_or, set, take, drop, Option, Some, None, Bool, true, false, cond, not, refl, sym, ◌∙◌, ap, subst, arith, length-set, length-append, length-drop}
use Rattle.std.specs.Prelude.{Contains}
use Rattle.std.proofs.lemmas.List.{take_more, take_all, append-nil, nil_from_length}
use Rattle.std.proofs.lemmas.List.Sums.{sum_by-set}
use Rattle.std.proofs.lemmas.List.Elements.{Contains-append_left, Contains-push, Contains-push_cases}
use Rattle.std.proofs.lemmas.Option.{slice_get-get_or}
use Rattle.protox_imports.specs.inner.Marks.{IsMarked, unmarked, Marks}
use Rattle.protox_imports.proofs.Elements.{get_set_same, get_set_cases}

pub IsMarked-set : (marks : List Bool) (file h : ℕ) → IsMarked marks h
    → IsMarked (set marks file true) h
IsMarked-set [] file h m = cc
IsMarked-set (x ∷ xs) zero zero m = refl
IsMarked-set (x ∷ xs) zero (suc h) m = m
IsMarked-set (x ∷ xs) (suc file) zero m = m
IsMarked-set (x ∷ xs) (suc file) (suc h) m = IsMarked-set xs file h m

pub set_marked : (marks : List Bool) (file : ℕ) → file < length marks
    → IsMarked (set marks file true) file
set_marked marks file below =
    get_set_same marks file true (get_or marks file false) (slice_get-get_or marks file false below)

flip : (b : Bool) → ◌≡◌ {A = ℕ} (cond (not b) 1 0) (cond b 0 1)
flip true = refl
flip false = refl

-- how many are left once one more is marked
left : (marks : List Bool) (file : ℕ) → file < length marks
    → unmarked (set marks file true) + cond (get_or marks file false) 0 1 ≡ unmarked marks
left marks file below =
    let f : Bool → ℕ = λ x. cond (not x) 1 0 in
    let e = sum_by-set f marks file true false below in
    let o = flip (get_or marks file false) in
    omega (arith, e, o)

module _ (list : List ℕ) (file : ℕ) where
  stays_in : (b : Bool) (h : ℕ) → Contains list h → Contains (cond b list (list ++ file ∷ [])) h
  stays_in true h k = k
  stays_in false h k = Contains-append_left list (file ∷ []) h k

  now_in : (b : Bool) (P : Type 0) → (b ≡ true → P)
      → P ⊎ Contains (cond b list (list ++ file ∷ [])) file
  now_in true P was = inl (was refl)
  now_in false P was = inr (Contains-push list file)

  in_cases : (b : Bool) (h : ℕ) → Contains (cond b list (list ++ file ∷ [])) h
      → Contains list h ⊎ (file ≡ h)
  in_cases true h k = inl k
  in_cases false h k = Contains-push_cases list file h k

  size_in : (b : Bool) → length (cond b list (list ++ file ∷ [])) ≡ length list + cond b 0 1
  size_in true = omega arith
  size_in false = grind (arith, length-append)

-- One file more is marked.
pub Marks-more : (before : List Bool) (from : List ℕ) (wanted wanted' : ℕ → Type 0)
    (marks : List Bool) (list : List ℕ) (file : ℕ) → file < length marks
    → ((h : ℕ) → wanted' h → wanted h ⊎ (h ≡ file)) → ((h : ℕ) → wanted h → wanted' h)
    → wanted' file → Marks before from wanted marks list
    → Marks before from wanted' (set marks file true)
    (cond (get_or marks file false) list (list ++ file ∷ []))
Marks-more before from wanted wanted' marks list file below now was own m =
    let b = get_or marks file false in
    let list' = cond b list (list ++ file ∷ []) in
    let this : IsMarked (set marks file true) file = set_marked marks file below in
    let old : (h : ℕ) → IsMarked before h ⊎ Contains list h → IsMarked before h ⊎ Contains list' h =
    λ h k. elim k [ inl x ↦ inl x | inr x ↦ inr (stays_in list file b h x) ] in
    record {
      count = length-set marks file true ∙ m.count;
      kept = λ h k. IsMarked-set marks file h (m.kept h k);
      marked = λ h w. elim (now h w) [
        | inl x ↦ IsMarked-set marks file h (m.marked h x)
        | inr e ↦ subst (λ x. IsMarked (set marks file true) x) (sym e) this
      ];
      only = λ h k. elim (get_set_cases marks file h true true k) [
        | inl e ↦ inr (subst wanted' (sym (e.0)) own)
        | inr o ↦ elim (m.only h (o.1)) [ inl x ↦ inl x | inr x ↦ inr (was h x) ]
      ];
      new_listed = λ h k. elim (get_set_cases marks file h true true k) [
        | inl e ↦ subst (λ x. IsMarked before x ⊎ Contains list' x) (sym (e.0))
            (elim (now_in list file b (IsMarked marks file)
            (λ t. slice_get-get_or marks file false below ∙ ap Some t)) [
              | inl x ↦ old file (m.new_listed file x)
              | inr x ↦ inr x
            ])
        | inr o ↦ old h (m.new_listed h (o.1))
      ];
      stays = λ h k. stays_in list file b h (m.stays h k);
      listed = λ h k. elim (in_cases list file b h k) [
        | inl x ↦ elim (m.listed h x) [ inl y ↦ inl y | inr y ↦ inr (IsMarked-set marks file h y) ]
        | inr e ↦ inr (subst (λ x. IsMarked (set marks file true) x) e this)
      ];
      size =
          let s = size_in list file b in
          let l = left marks file below in
          let was_size = m.size in
          omega (arith, s, l, was_size);
    }

-- Marks stay right if the wanted files are said in another way.
pub Marks-same : (before : List Bool) (from : List ℕ) (wanted wanted' : ℕ → Type 0)
    (marks : List Bool) (list : List ℕ) → ((h : ℕ) → wanted' h → wanted h)
    → ((h : ℕ) → wanted h → wanted' h) → Marks before from wanted marks list
    → Marks before from wanted' marks list
Marks-same before from wanted wanted' marks list now was m = record {
  count = m.count;
  kept = m.kept;
  marked = λ h w. m.marked h (now h w);
  only = λ h k. elim (m.only h k) [ inl x ↦ inl x | inr x ↦ inr (was h x) ];
  new_listed = m.new_listed;
  stays = m.stays;
  listed = m.listed;
  size = m.size;
}

-- What a longer front of a list has.
module _ {X : Type 0} (xs : List X) (i : ℕ) (x : X) (below : i < length xs) (is : get_or xs i x ≡ x) where
  longer : take (i + 1) xs ≡ take i xs ++ x ∷ []
  longer = take_more xs i x below ∙ ap (λ y. take i xs ++ y ∷ []) is

  pub front_cases : (h : X) → Contains (take (i + 1) xs) h → Contains (take i xs) h ⊎ (x ≡ h)
  front_cases h k = Contains-push_cases (take i xs) x h (subst (λ ys. Contains ys h) longer k)

  pub front_kept : (h : X) → Contains (take i xs) h → Contains (take (i + 1) xs) h
  front_kept h k =
      subst (λ ys. Contains ys h) (sym longer) (Contains-append_left (take i xs) (x ∷ []) h k)

  pub front_new : Contains (take (i + 1) xs) x
  front_new = subst (λ ys. Contains ys x) (sym longer) (Contains-push (take i xs) x)

pub all_more : (before : List Bool) (from files : List ℕ) (marks marks' : List Bool)
    (list list' : List ℕ) (i file : ℕ) → i < length files → get_or files i file ≡ file
    → file < length marks → marks' ≡ set marks file true
    → list' ≡ cond (get_or marks file false) list (list ++ file ∷ [])
    → Marks before from (Contains (take i files)) marks list
    → Marks before from (Contains (take (i + 1) files)) marks' list'
all_more before from files marks marks' list list' i file below is within e e' m =
    subst (λ ms. Marks before from (Contains (take (i + 1) files)) ms list') (sym e)
    (subst (λ l. Marks before from (Contains (take (i + 1) files)) (set marks file true) l) (sym e')
    (Marks-more before from (Contains (take i files)) (Contains (take (i + 1) files)) marks list file within
    (λ h k. elim (front_cases files i file below is h k) [ inl x ↦ inl x | inr x ↦ inr (sym x) ])
    (front_kept files i file below is) (front_new files i file below is) m))

pub named_more : (before : List Bool) (from : List ℕ) (named : List (Option ℕ))
    (marks marks' : List Bool) (list list' : List ℕ) (i file : ℕ) → i < length named
    → get_or named i (Some file) ≡ Some file → file < length marks
    → marks' ≡ set marks file true
    → list' ≡ cond (get_or marks file false) list (list ++ file ∷ [])
    → Marks before from (λ g. Contains (take i named) (Some g)) marks list
    → Marks before from (λ g. Contains (take (i + 1) named) (Some g)) marks' list'
named_more before from named marks marks' list list' i file below is within e e' m =
    let now : ℕ → Type 0 = λ g. Contains (take (i + 1) named) (Some g) in
    subst (λ ms. Marks before from now ms list') (sym e)
    (subst (λ l. Marks before from now (set marks file true) l) (sym e')
    (Marks-more before from (λ g. Contains (take i named) (Some g)) now marks list file within
    (λ h k. elim (front_cases named i (Some file) below is (Some h) k) [ inl x ↦ inl x | inr x ↦ inr (cc) ])
    (λ h. front_kept named i (Some file) below is (Some h))
    (front_new named i (Some file) below is) m))

pub gap_more : (before : List Bool) (from : List ℕ) (named : List (Option ℕ))
    (marks marks' : List Bool) (list list' : List ℕ) (i : ℕ) → i < length named
    → get_or {A = Option ℕ} named i None ≡ None → marks' ≡ marks → list' ≡ list
    → Marks before from (λ g. Contains (take i named) (Some g)) marks list
    → Marks before from (λ g. Contains (take (i + 1) named) (Some g)) marks' list'
gap_more before from named marks marks' list list' i below is e e' m =
    let now : ℕ → Type 0 = λ g. Contains (take (i + 1) named) (Some g) in
    subst (λ ms. Marks before from now ms list') (sym e)
    (subst (λ l. Marks before from now marks l) (sym e')
    (Marks-same before from (λ g. Contains (take i named) (Some g)) now marks list
    (λ h k. elim (front_cases named i None below is (Some h) k) [ inl x ↦ x | inr x ↦ cc ])
    (λ h. front_kept named i None below is (Some h)) m))

-- At the end of the list all of it is wanted.
pub named_all : (before : List Bool) (from : List ℕ) (named : List (Option ℕ))
    (marks : List Bool) (list : List ℕ) (i : ℕ) → length named ≤ i
    → Marks before from (λ g. Contains (take i named) (Some g)) marks list
    → Marks before from (λ g. Contains named (Some g)) marks list
named_all before from named marks list i past m =
    subst (λ ns. Marks before from (λ g. Contains ns (Some g)) marks list) (take_all i named past) m

-- What a slice of a vector was made is what the vector has.
pub written_back : (old new : List Bool) (n : ℕ) → n ≡ length old → length new ≡ length old
    → take n (new ++ drop (length new) old) ≡ new
written_back old new n e same =
    let none : drop (length new) old ≡ [] = nil_from_length (drop (length new) old) (simp length-drop (omega arith)) in
    ap (λ ys. take n (new ++ ys)) none
    ∙ (ap (take n) (append-nil new) ∙ take_all n new (omega arith))
