-- Statements about each element of a list, and about its elements by recursion.
use Rattle.std.proofs.Common.{◌≡◌, Bool, true, false, not, inl, inr, List, [], ◌∷◌, ◌++◌, flat_map, Option, Some, None, refl, sym, ap, subst, true≢false, is_none}
use Rattle.std.specs.Prelude.{◌&&◌}
pub use Rattle.std.proofs.lemmas.Bool.{and_parts, not-true}
use Rattle.protox_ast.specs.Keywords.{Each}
pub use Rattle.protox_ast.proofs.Lemmas.{Among, Somewhere, among-cases, among-flat, among-from}
pub use Rattle.protox_ast.proofs.Lemmas.{among-left, among-right, any-from, contains-from}
pub use Rattle.protox_ast.proofs.Lemmas.{somewhere-flat, somewhere-from}

-- ---- each element

pub each-both : {A : Type 0} (P : A → Type 0) (xs ys : List A) → Each P xs → Each P ys → Each P (xs ++ ys)
each-both P [] ys h k = k
each-both P (x ∷ xs) ys h k = (h.0, each-both P xs ys h.1 k)

pub each-flat : {A B : Type 0} (P : B → Type 0) (f : A → List B) → ((a : A) → Each P (f a)) → (xs : List A) → Each P (flat_map f xs)
each-flat P f h [] = tt
each-flat P f h (x ∷ xs) = each-both P (f x) (flat_map f xs) (h x) (each-flat P f h xs)

pub each-among : {A : Type 0} (P : A → Type 0) (xs : List A) → Each P xs → (x : A) → Among xs x → P x
each-among P [] h x a = absurd a
each-among P (y ∷ ys) h x (inl e) = subst P e h.0
each-among P (y ∷ ys) h x (inr a) = each-among P ys h.1 x a

pub among-each : {A : Type 0} (P : A → Type 0) (xs : List A) → ((x : A) → Among xs x → P x) → Each P xs
among-each P [] h = tt
among-each P (x ∷ xs) h = (h x (inl refl), among-each P xs (λ y a. h y (inr a)))

pub somewhere-among : {A : Type 0} (P : A → Type 0) (x : A) → ((y : A) → y ≡ x → P y) → (xs : List A) → Among xs x → Somewhere P xs
somewhere-among P x h [] a = absurd a
somewhere-among P x h (y ∷ ys) (inl e) = inl (h y e)
somewhere-among P x h (y ∷ ys) (inr a) = inr (somewhere-among P x h ys a)

-- ---- tests

pub not-false : (b : Bool) → b ≡ false → not b ≡ true
not-false b e = ap not e

pub and-true : (a b : Bool) → a ≡ true → b ≡ true → (a && b) ≡ true
and-true true b e f = f
and-true false b e f = e

pub none-true : {A : Type 0} (o : Option A) → is_none o ≡ true → o ≡ None
none-true None e = refl
none-true (Some a) e = absurd (true≢false (sym e))

pub none-test : {A : Type 0} (o : Option A) → o ≡ None → is_none o ≡ true
none-test o e = ap is_none e
