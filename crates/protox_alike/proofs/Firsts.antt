-- The first index of each name, as a map has it when names are added.
use Rattle.std.proofs.Common.{◌≡◌, ◌<◌, ◌+◌, ℕ, suc, Bool, true, false, cond, List, [], ◌∷◌, ◌++◌, get_or, length, map, take, Option, Some, None, bytes_eq, refl, sym, ap, ◌∙◌, arith, zero-add, add-zero, length-take}
use Rattle.std.specs.Prelude.{position}
use Rattle.std.specs.List.{position_from}
use Rattle.std.specs.Map.{update}
use Rattle.std.proofs.lemmas.Iterator.Adapters.{position_from-zero}
use Rattle.std.proofs.lemmas.List.{length-map, map_more}
use Rattle.std.proofs.lemmas.Slice.Eq.{bytes_eq-Decides}
use Rattle.protox_alike.specs.Alike.{first_same}
use Rattle.protox_alike.specs.inner.Firsts.{first_of}

same_name : (xs ys : List ℕ) → bytes_eq xs ys ≡ true → xs ≡ ys
same_name xs ys h = (bytes_eq-Decides xs ys).0 h

-- ---- a map with one name more

-- a new index is taken where there was none
absent : (b c : Bool) (o : Option ℕ) (n : ℕ) → b ≡ c → (b ≡ true → o ≡ None) → cond b (Some n) o ≡ first_of o c n
absent true c None n same h = ap (λ (is_for : Bool). first_of None is_for n) same
absent true c (Some g) n same h = let e : Some g ≡ None = h refl in cc
absent false c None n same h = ap (λ (is_for : Bool). first_of None is_for n) same
absent false c (Some g) n same h = refl

turned : (xs ys : List ℕ) (b : Bool) → bytes_eq xs ys ≡ b → bytes_eq ys xs ≡ b
turned xs ys true h = (bytes_eq-Decides ys xs).1 (sym (same_name xs ys h))
turned xs ys false h = differs (bytes_eq ys xs) refl where
  differs : (b : Bool) → bytes_eq ys xs ≡ b → bytes_eq ys xs ≡ false
  differs true e = let same : false ≡ true = sym h ∙ (bytes_eq-Decides xs ys).1 (sym (same_name ys xs e)) in cc
  differs false e = e

pub put_absent : (f : List ℕ → Option ℕ) (name q : List ℕ) (n : ℕ) → f name ≡ None
    → update bytes_eq f name (Some n) q ≡ first_of (f q) (bytes_eq q name) n
put_absent f name q n none =
    absent (bytes_eq name q) (bytes_eq q name) (f q) n (sym (turned name q (bytes_eq name q) refl))
    (λ h. ap f (sym (same_name name q h)) ∙ none)

-- ---- a list with one name more

-- one test more in front
behind : (b c : Bool) (i n m : ℕ) (a o : Option ℕ) → a ≡ first_of o c n → n ≡ m
    → cond b (Some i) a ≡ first_of (cond b (Some i) o) c m
behind true c i n m a o h e = refl
behind false c i n m a o h e = h ∙ ap (first_of o c) e

position_from-push : {X : Type 0} (p : X → Bool) (i : ℕ) (xs : List X) (y : X)
    → position_from p i (xs ++ y ∷ []) ≡ first_of (position_from p i xs) (p y) (i + length xs)
position_from-push p i [] y = rw add-zero refl
position_from-push p i (x ∷ xs) y =
    behind (p x) (p y) i (i + 1 + length xs) (i + suc (length xs)) _ _
    (position_from-push p (i + 1) xs y) (omega arith)

position-push : {X : Type 0} (p : X → Bool) (xs : List X) (y : X)
    → position p (xs ++ y ∷ []) ≡ first_of (position p xs) (p y) (length xs)
position-push p xs y =
    position_from-zero p (xs ++ y ∷ [])
    ∙ (position_from-push p 0 xs y
    ∙ (ap (λ n. first_of (position_from p 0 xs) (p y) n) (zero-add (length xs))
    ∙ ap (λ o. first_of o (p y) (length xs)) (sym (position_from-zero p xs))))

-- A map of the first indices is one of them still, with one name more noted.
pub noted : {V : Type 0} (old new : List ℕ → Option ℕ) (key : V → List ℕ) (names : List V) (i : ℕ) (name : V) (bytes : List ℕ)
    → i < length names → name ≡ get_or names i name → bytes ≡ key name
    → ((q : List ℕ) → old q ≡ first_same (map key (take i names)) q)
    → ((q : List ℕ) → new q ≡ first_of (old q) (bytes_eq q bytes) i)
    → (q : List ℕ) → new q ≡ first_same (map key (take (i + 1) names)) q
noted old new key names i name bytes below is same was now q =
    let before = map key (take i names) in
    let count : length before ≡ i = length-map (take i names) key ∙ grind (arith, length-take) in
    now q
    ∙ ap (λ o. first_of o (bytes_eq q bytes) i) (was q)
    ∙ ap (λ (b : List ℕ). first_of (first_same before q) (bytes_eq q b) i) (same ∙ ap key is)
    ∙ ap (first_of (first_same before q) (bytes_eq q (key (get_or names i name)))) (sym count)
    ∙ sym (position-push (bytes_eq q) before (key (get_or names i name)))
    ∙ ap (λ (ks : List (List ℕ)). first_same ks q) (sym (map_more key names i name below))
