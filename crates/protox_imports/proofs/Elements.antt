-- Elements of lists by their index, as `slice_get` gives them.
use Rattle.std.proofs.Common.{◌≡◌, ◌≢◌, ◌⊎◌, inl, inr, ℕ, zero, suc, ◌<◌, ◌+◌, List, [], ◌∷◌, ◌++◌, length, get_or, set, map, Option, Some, None, refl, sym, ◌∙◌, ap, arith, drop, zero-add, ◌≤◌}
use Rattle.std.specs.Prelude.{slice_get, Contains}
use Rattle.std.specs.List.{filter_map, cons_option}
use Rattle.std.specs.Option.{option_map}
use Rattle.std.proofs.lemmas.Option.{slice_get_within, slice_get-get_or, get_or_from_slice_get, slice_get-map, same_Some}

pub at_contains : {X : Type 0} (xs : List X) (x : X) → Contains xs x
    → (k : ℕ) × (slice_get xs k ≡ Some x)
at_contains xs x (k, h, e) = (k, slice_get-get_or xs k x h ∙ ap Some e)

pub contains_at : {X : Type 0} (xs : List X) (k : ℕ) (x : X) → slice_get xs k ≡ Some x
    → Contains xs x
contains_at xs k x e = (k, slice_get_within xs k x e, get_or_from_slice_get xs k x x e)

-- an element behind others
pub get_append_left : {X : Type 0} (xs ys : List X) (k : ℕ) (x : X) → slice_get xs k ≡ Some x
    → slice_get (xs ++ ys) k ≡ Some x
get_append_left [] ys k x e = cc
get_append_left (z ∷ xs) ys zero x e = e
get_append_left (z ∷ xs) ys (suc k) x e = get_append_left xs ys k x e

pub get_push_last : {X : Type 0} (xs : List X) (x : X)
    → slice_get (xs ++ x ∷ []) (length xs) ≡ Some x
get_push_last [] x = refl
get_push_last (z ∷ xs) x = get_push_last xs x

-- an element of a list with one more is one that was there, or the new one
pub get_push_cases : {X : Type 0} (xs : List X) (y : X) (k : ℕ) (x : X)
    → slice_get (xs ++ y ∷ []) k ≡ Some x
    → (slice_get xs k ≡ Some x) ⊎ ((k ≡ length xs) × (y ≡ x))
get_push_cases [] y zero x e = inr (refl, same_Some y x e)
get_push_cases [] y (suc k) x e = inl e
get_push_cases (z ∷ xs) y zero x e = inl e
get_push_cases (z ∷ xs) y (suc k) x e =
    elim (get_push_cases xs y k x e) [ inl h ↦ inl h | inr h ↦ inr (ap suc (h.0), h.1) ]

pub get_set_same : {X : Type 0} (xs : List X) (i : ℕ) (v w : X) → slice_get xs i ≡ Some w
    → slice_get (set xs i v) i ≡ Some v
get_set_same [] i v w e = cc
get_set_same (x ∷ xs) zero v w e = refl
get_set_same (x ∷ xs) (suc i) v w e = get_set_same xs i v w e

pub get_set_other : {X : Type 0} (xs : List X) (i k : ℕ) (v : X) → k ≢ i
    → slice_get (set xs i v) k ≡ slice_get xs k
get_set_other [] i k v ne = refl
get_set_other (x ∷ xs) zero zero v ne = absurd (ne refl)
get_set_other (x ∷ xs) zero (suc k) v ne = refl
get_set_other (x ∷ xs) (suc i) zero v ne = refl
get_set_other (x ∷ xs) (suc i) (suc k) v ne = get_set_other xs i k v (λ e. ne (ap suc e))

-- an element after a write is the one written, or one that was there
pub get_set_cases : {X : Type 0} (xs : List X) (i k : ℕ) (v x : X)
    → slice_get (set xs i v) k ≡ Some x
    → ((k ≡ i) × (v ≡ x)) ⊎ ((k ≢ i) × (slice_get xs k ≡ Some x))
get_set_cases [] i k v x e = cc
get_set_cases (y ∷ xs) zero zero v x e = inl (refl, same_Some v x e)
get_set_cases (y ∷ xs) zero (suc k) v x e = inr (omega arith, e)
get_set_cases (y ∷ xs) (suc i) zero v x e = inr (omega arith, e)
get_set_cases (y ∷ xs) (suc i) (suc k) v x e =
    elim (get_set_cases xs i k v x e) [
      | inl h ↦ inl (ap suc (h.0), h.1)
      | inr h ↦ inr ((λ same. h.0 (omega arith)), h.1)
    ]

-- an element of a mapped list
pub get_map : {X Y : Type 0} (f : X → Y) (xs : List X) (k : ℕ) (y : Y)
    → slice_get (map f xs) k ≡ Some y → (x : X) × (slice_get xs k ≡ Some x) × (f x ≡ y)
get_map f [] k y e = cc
get_map f (x ∷ xs) zero y e = (x, refl, same_Some (f x) y e)
get_map f (x ∷ xs) (suc k) y e = get_map f xs k y e

pub map_at : {X Y : Type 0} (f : X → Y) (xs : List X) (k : ℕ) (x : X)
    → slice_get xs k ≡ Some x → slice_get (map f xs) k ≡ Some (f x)
map_at f xs k x e = slice_get-map f xs k ∙ ap (option_map f) e

-- an element that a filter gave
from_front : {X Y : Type 0} (h : X → Option Y) (x : X) (xs : List X) (o : Option Y) (y : Y)
    → h x ≡ o
    → ((j : ℕ) → slice_get (filter_map h xs) j ≡ Some y
    → (k : ℕ) × (w : X) × (slice_get xs k ≡ Some w) × (h w ≡ Some y))
    → (j : ℕ) → slice_get (cons_option o (filter_map h xs)) j ≡ Some y
    → (k : ℕ) × (w : X) × (slice_get (x ∷ xs) k ≡ Some w) × (h w ≡ Some y)
from_front h x xs None y is more j e =
    let found = more j e in (suc (found.0), found.1, found.2, found.3)
from_front h x xs (Some z) y is more zero e = (zero, x, refl, is ∙ e)
from_front h x xs (Some z) y is more (suc j) e =
    let found = more j e in (suc (found.0), found.1, found.2, found.3)

pub get_filter_map : {X Y : Type 0} (h : X → Option Y) (xs : List X) (y : Y) (j : ℕ)
    → slice_get (filter_map h xs) j ≡ Some y
    → (k : ℕ) × (w : X) × (slice_get xs k ≡ Some w) × (h w ≡ Some y)
get_filter_map h [] y j e = cc
get_filter_map h (x ∷ xs) y j e =
    from_front h x xs (h x) y refl (λ i. get_filter_map h xs y i) j e

behind : {Y : Type 0} (o : Option Y) (ys : List Y) (y : Y) (j : ℕ) → slice_get ys j ≡ Some y
    → (i : ℕ) × (slice_get (cons_option o ys) i ≡ Some y)
behind None ys y j e = (j, e)
behind (Some z) ys y j e = (suc j, e)

pub filter_map_at : {X Y : Type 0} (h : X → Option Y) (xs : List X) (k : ℕ) (x : X) (y : Y)
    → slice_get xs k ≡ Some x → h x ≡ Some y
    → (j : ℕ) × (slice_get (filter_map h xs) j ≡ Some y)
filter_map_at h [] k x y e is = cc
filter_map_at h (z ∷ xs) zero x y e is =
    (zero, ap (λ o. slice_get (cons_option o (filter_map h xs)) 0) (ap h (same_Some z x e) ∙ is))
filter_map_at h (z ∷ xs) (suc k) x y e is =
    let found = filter_map_at h xs k x y e is in
    behind (h z) (filter_map h xs) y found.0 found.1

-- The default plays no part for an index within.
pub get_or_any : {X : Type 0} (xs : List X) (i : ℕ) (d e : X) → i < length xs
    → get_or xs i d ≡ get_or xs i e
get_or_any xs i d e h = same_Some _ _ (sym (slice_get-get_or xs i d h) ∙ slice_get-get_or xs i e h)

get_none : {X : Type 0} (k n : ℕ) → ◌≡◌ {A = Option X} (slice_get [] k) (slice_get [] n)
get_none k n = refl

-- an element of the rest of a list
pub get_drop : {X : Type 0} (d : ℕ) (xs : List X) (k : ℕ)
    → slice_get (drop d xs) k ≡ slice_get xs (d + k)
get_drop zero xs k = ap (slice_get xs) (sym (zero-add k))
get_drop (suc d) [] k = get_none k (suc d + k)
get_drop (suc d) (x ∷ xs) k =
    let e : suc (d + k) ≡ suc d + k = omega arith in
    get_drop d xs k ∙ ap (slice_get (x ∷ xs)) e
