-- What is added for one element after another.
use Rattle.std.proofs.Common.{◌≡◌, ℕ, zero, suc, ◌+◌, ◌<◌, ◌≤◌, ◌||◌, Bool, true, false, cond, List, [], ◌∷◌, ◌++◌, append-nil, length, get_or, take, fold, map, filter, refl, sym, ap, ◌∙◌, arith}
use Rattle.std.specs.List.{FoldsTo, flat_map, list_any, range_with_len}
use Rattle.std.proofs.lemmas.Grind.{fold-append, flat_map-append}
use Rattle.std.proofs.lemmas.List.{map-append, map-id, take_all, take_more}
use Rattle.std.proofs.lemmas.List.Elements.{filter-append}
use Rattle.std.proofs.lemmas.List.FromFn.{map-range_with_len_more}
use Rattle.std.proofs.lemmas.List.Folds.{list_any-append}

-- one element more
pub next_element : {X : Type 0} (xs : List X) (i : ℕ) (x : X) → i < length xs → x ≡ get_or xs i x → take (i + 1) xs ≡ take i xs ++ x ∷ []
next_element {X = X} xs i x below is = take_more xs i x below ∙ ap (λ (y : X). take i xs ++ y ∷ []) (sym is)

pub flat_map_one : {X Y : Type 0} (m : X → List Y) (xs : List X) (x : X) → flat_map m (xs ++ x ∷ []) ≡ flat_map m xs ++ m x
flat_map_one m xs x = flat_map-append m xs (x ∷ []) ∙ ap (λ last. flat_map m xs ++ last) (append-nil (m x))

-- A fold over all that belongs to the elements so far goes on with what belongs to the next one.
pub one_more : {X Y S : Type 0} (f : S → Y → S) (m : X → List Y) (s a b : S) (xs : List X) (i : ℕ) (x : X)
    → i < length xs → x ≡ get_or xs i x → a ≡ fold f s (flat_map m (take i xs)) → b ≡ fold f a (m x)
    → b ≡ fold f s (flat_map m (take (i + 1) xs))
one_more {X = X} f m s a b xs i x below is so_far added =
    added ∙ ap (λ t. fold f t (m x)) so_far
    ∙ sym (fold-append f s (flat_map m (take i xs)) (m x))
    ∙ ap (fold f s) (sym (flat_map_one m (take i xs) x))
    ∙ ap (λ (ys : List X). fold f s (flat_map m ys)) (sym (next_element xs i x below is))

pub no_more : {X Y S : Type 0} (f : S → Y → S) (m : X → List Y) (s a : S) (xs : List X) (i : ℕ)
    → length xs ≤ i → a ≡ fold f s (flat_map m (take i xs)) → a ≡ fold f s (flat_map m xs)
no_more {X = X} f m s a xs i end so_far = so_far ∙ ap (λ (ys : List X). fold f s (flat_map m ys)) (take_all i xs end)

-- One more element is added if it passes a test.
pub one_more_kept : {X Y Z S : Type 0} (f : S → Z → S) (keep : X → Bool) (g : X → Y) (m : Y → List Z) (s a b : S) (xs : List X) (i : ℕ) (x : X)
    → i < length xs → x ≡ get_or xs i x → keep x ≡ true → a ≡ fold f s (flat_map m (map g (filter keep (take i xs)))) → b ≡ fold f a (m (g x))
    → b ≡ fold f s (flat_map m (map g (filter keep (take (i + 1) xs))))
one_more_kept {X = X} {Y = Y} f keep g m s a b xs i x below is kept so_far added =
    let front : List Y = map g (filter keep (take i xs)) in
    added ∙ ap (λ t. fold f t (m (g x))) so_far
    ∙ sym (fold-append f s (flat_map m front) (m (g x)))
    ∙ ap (fold f s) (sym (flat_map_one m front (g x)))
    ∙ ap (λ (ys : List Y). fold f s (flat_map m ys)) (sym (map-append g (filter keep (take i xs)) (x ∷ [])))
    ∙ ap (λ (b : Bool). fold f s (flat_map m (map g (filter keep (take i xs) ++ cond b (x ∷ []) [])))) (sym kept)
    ∙ ap (λ (ys : List X). fold f s (flat_map m (map g ys))) (sym (filter-append keep (take i xs) (x ∷ [])))
    ∙ ap (λ (ys : List X). fold f s (flat_map m (map g (filter keep ys)))) (sym (next_element xs i x below is))

pub flat_map_flat : {X Y Z : Type 0} (m : Y → List Z) (n : X → List Y) (xs : List X) → flat_map (λ x. flat_map m (n x)) xs ≡ flat_map m (flat_map n xs)
flat_map_flat m n [] = refl
flat_map_flat m n (x ∷ xs) = ap (λ rest. flat_map m (n x) ++ rest) (flat_map_flat m n xs) ∙ sym (flat_map-append m (n x) (flat_map n xs))

or_assoc : (a b c : Bool) → ((a || b) || c) ≡ (a || (b || c))
or_assoc true b c = refl
or_assoc false b c = refl

or_false : (b : Bool) → b ≡ (b || false)
or_false true = refl
or_false false = refl

-- ---- all visits of a walk

pub all_visited : {V C S Y X Z : Type 0} (same : V → C) (state : V → S) (asked : V → Bool) (f : C → S → Y → S) (m : C → X → List Y) (told : X → List Z) (holds : Z → Bool) (a : V) (xs : List X) (b : V)
    → FoldsTo (λ old x new. (same new ≡ same old) × (state new ≡ fold (f (same old)) (state old) (m (same old) x)) × (asked new ≡ (asked old || list_any holds (told x)))) a xs b
    → (same b ≡ same a) × (state b ≡ fold (f (same a)) (state a) (flat_map (m (same a)) xs)) × (asked b ≡ (asked a || list_any holds (flat_map told xs)))
all_visited same state asked f m told holds a [] b p = (ap same (sym p), ap state (sym p), ap asked (sym p) ∙ or_false (asked a))
all_visited {V = V} {C = C} {S = S} same state asked f m told holds a (x ∷ xs) b p =
    let rest = all_visited same state asked f m told holds p.0 xs b p.2 in (
      rest.0 ∙ p.1.0,
      rest.1 ∙ ap (λ (c : C). fold (f c) (state p.0) (flat_map (m c) xs)) p.1.0
          ∙ ap (λ (s : S). fold (f (same a)) s (flat_map (m (same a)) xs)) p.1.1
          ∙ sym (fold-append (f (same a)) (state a) (m (same a) x) (flat_map (m (same a)) xs)),
      rest.2 ∙ ap (λ (t : Bool). t || list_any holds (flat_map told xs)) p.1.2
          ∙ or_assoc (asked a) (list_any holds (told x)) (list_any holds (flat_map told xs))
          ∙ ap (λ (t : Bool). asked a || t) (sym (list_any-append holds (told x) (flat_map told xs))),
    )

-- ---- indices that pass a test

range_more : (n : ℕ) → range_with_len 0 (n + 1) ≡ range_with_len 0 n ++ n ∷ []
range_more n =
    sym (map-id (range_with_len 0 (n + 1))) ∙ map-range_with_len_more (λ m. m) 0 n n (omega arith) ∙ ap (λ ms. ms ++ n ∷ []) (map-id (range_with_len 0 n))

kept_more : (p : ℕ → Bool) (i : ℕ) → filter p (range_with_len 0 (i + 1)) ≡ filter p (range_with_len 0 i) ++ cond (p i) (i ∷ []) []
kept_more p i = ap (filter p) (range_more i) ∙ filter-append p (range_with_len 0 i) (i ∷ [])

pub one_kept : (p : ℕ → Bool) (i : ℕ) (kept : List ℕ) → p i ≡ true → kept ≡ filter p (range_with_len 0 i) → kept ++ i ∷ [] ≡ filter p (range_with_len 0 (i + 1))
one_kept p i kept passes so_far =
    ap (λ ks. ks ++ i ∷ []) so_far ∙ ap (λ b. filter p (range_with_len 0 i) ++ cond b (i ∷ []) []) (sym passes) ∙ sym (kept_more p i)

pub none_kept : (p : ℕ → Bool) (i : ℕ) (kept : List ℕ) → p i ≡ false → kept ≡ filter p (range_with_len 0 i) → kept ≡ filter p (range_with_len 0 (i + 1))
none_kept p i kept fails so_far =
    so_far ∙ sym (append-nil (filter p (range_with_len 0 i))) ∙ ap (λ b. filter p (range_with_len 0 i) ++ cond b (i ∷ []) []) (sym fails) ∙ sym (kept_more p i)

-- two tests that say the same of all these indices
pub same_kept : (p q : ℕ → Bool) (a n : ℕ) → ((i : ℕ) → i < a + n → p i ≡ q i) → filter p (range_with_len a n) ≡ filter q (range_with_len a n)
same_kept p q a zero agree = refl
same_kept p q a (suc n) agree =
    ap (λ b. cond b (a ∷ filter p (range_with_len (a + 1) n)) (filter p (range_with_len (a + 1) n))) (agree a (omega arith))
    ∙ ap (λ rest. cond (q a) (a ∷ rest) rest) (same_kept p q (a + 1) n (λ i below. agree i (omega (arith, below))))

-- first what belongs to these, and then what belongs to all of a list
pub then_all : {X Y Z S : Type 0} (f : S → Z → S) (m : Y → List Z) (told : X → List Y) (front : List Y) (xs : List X) (s a b : S)
    → a ≡ fold f s (flat_map m front) → b ≡ fold f a (flat_map (λ x. flat_map m (told x)) xs) → b ≡ fold f s (flat_map m (front ++ flat_map told xs))
then_all {Z = Z} {S = S} f m told front xs s a b one two =
    two ∙ ap (fold f a) (flat_map_flat m told xs) ∙ ap (λ (t : S). fold f t (flat_map m (flat_map told xs))) one
    ∙ sym (fold-append f s (flat_map m front) (flat_map m (flat_map told xs)))
    ∙ ap (λ (zs : List Z). fold f s zs) (sym (flat_map-append m front (flat_map told xs)))
