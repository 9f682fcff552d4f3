-- Tests that are true exactly for equal values. Tests of options, lists and records are such tests
-- if the tests of their parts are.
use Rattle.std.proofs.Common.{◌≡◌, Bool, true, ◌&&◌, ℕ, ℤ, ◌==◌, refl, sym, ap, subst, ◌∙◌, Decides, List, [], ◌∷◌, Option, Some, None, map}
use Rattle.std.proofs.lemmas.Bool.{false≢true}
use Rattle.std.specs.Bool.{beq}
use Rattle.std.specs.Cmp.{first_so, second_so, booleans_Decides, unsigned_Decides, signed_Decides}
use Rattle.std.specs.Cmp.Lexicographic.{pointwise, pointwise_decides, bytes_decides}
use Rattle.std.specs.Cmp.Rules.{signed_items}
use Rattle.std.specs.Option.{option_eq}
use Rattle.std.specs.Ordering.{int_eq}

-- E is true of x and x, and false of x and any other value.
pub record Tells {K : Type 0} (E : K → K → Bool) (x : K) : Type 0 where
  pub decides : (y : K) → Decides (E x y) (x ≡ y)

pub tells-if : {K : Type 0} {E : K → K → Bool} {x : K} → ((y : K) → E x y ≡ true → x ≡ y) → E x x ≡ true → Tells E x
tells-if {K} {E} {x} same itself = record { decides = λ y. (same y, λ e. subst (λ z. E x z ≡ true) e itself) }

pub same : {K : Type 0} {E : K → K → Bool} {x : K} → Tells E x → (y : K) → E x y ≡ true → x ≡ y
same t y = (t.decides y).0

pub itself : {K : Type 0} {E : K → K → Bool} {x : K} → Tells E x → E x x ≡ true
itself {K} {E} {x} t = (t.decides x).1 refl

-- A test with the same answers as one that tells a value tells it too.
pub tells-alike : {K : Type 0} {E F : K → K → Bool} {x : K} → ((y : K) → E x y ≡ F x y) → Tells F x → Tells E x
tells-alike {K} {E} {F} {x} alike t = tells-if (λ y h. same t y (sym (alike y) ∙ h)) (alike x ∙ itself t)

pub tells-bool : (x : Bool) → Tells beq x
tells-bool x = record { decides = booleans_Decides x }

pub tells-unsigned : (x : ℕ) → Tells ◌==◌ x
tells-unsigned x = record { decides = unsigned_Decides x }

pub tells-signed : (x : ℤ) → Tells int_eq x
tells-signed x = record { decides = signed_Decides x }

pub tells-signed_list : (x : List ℤ) → Tells (pointwise int_eq) x
tells-signed_list x = record { decides = signed_items x }

pub tells-text : (x : List ℕ) → Tells (pointwise ◌==◌) x
tells-text x = record { decides = bytes_decides x }

pub both-so : (s t : Bool) → s ≡ true → t ≡ true → (s && t) ≡ true
both-so s t h k = λ i. h i && k i

pub tells-both : {A B : Type 0} {E : A → A → Bool} {F : B → B → Bool} {x : A} {y : B} → Tells E x → Tells F y → Tells (λ (p q : A × B). E p.0 q.0 && F p.1 q.1) (x, y)
tells-both {A} {B} {E} {F} {x} {y} e f = tells-if
    (λ q h i. (same e q.0 (first_so (E x q.0) (F y q.1) h) i, same f q.1 (second_so (E x q.0) (F y q.1) h) i))
    (both-so (E x x) (F y y) (itself e) (itself f))

-- A record is told by a test of its parts. `whole` builds the record from them.
pub tells-parts : {K J : Type 0} {E : J → J → Bool} (parts : K → J) (whole : J → K) → ((z : K) → whole (parts z) ≡ z) → (x : K) → Tells E (parts x) → Tells (λ (y z : K). E (parts y) (parts z)) x
tells-parts parts whole again x e = tells-if (λ y h. sym (again x) ∙ ap whole (same e (parts y) h) ∙ again y) (itself e)

pub tells-option : {K : Type 0} {E : K → K → Bool} → ((x : K) → Tells E x) → (o : Option K) → Tells (option_eq E) o
tells-option {K} {E} e o = tells-if (alike o) (to_itself o)
  where
    alike : (o p : Option K) → option_eq E o p ≡ true → o ≡ p
    alike None None h = refl
    alike None (Some y) h = absurd (false≢true h)
    alike (Some x) None h = absurd (false≢true h)
    alike (Some x) (Some y) h = ap Some (same (e x) y h)

    to_itself : (o : Option K) → option_eq E o o ≡ true
    to_itself None = refl
    to_itself (Some x) = itself (e x)

-- A list is told element by element. Each element comes with a proof that it is told.
pub tells-held : {K : Type 0} {E : K → K → Bool} (held : List ((x : K) × Tells E x)) → Tells (pointwise E) (map (λ e. e.0) held)
tells-held {K} {E} held = tells-if (alike held) (to_itself held)
  where
    alike : (held : List ((x : K) × Tells E x)) (ys : List K) → pointwise E (map (λ e. e.0) held) ys ≡ true → map (λ e. e.0) held ≡ ys
    alike [] [] h = refl
    alike [] (y ∷ ys) h = absurd (false≢true h)
    alike (x ∷ xs) [] h = absurd (false≢true h)
    alike (x ∷ xs) (y ∷ ys) h = λ i. same x.1 y (first_so (E x.0 y) (pointwise E (map (λ e. e.0) xs) ys) h) i ∷ alike xs ys (second_so (E x.0 y) (pointwise E (map (λ e. e.0) xs) ys) h) i

    to_itself : (held : List ((x : K) × Tells E x)) → pointwise E (map (λ e. e.0) held) (map (λ e. e.0) held) ≡ true
    to_itself [] = refl
    to_itself (x ∷ xs) = both-so (E x.0 x.0) (pointwise E (map (λ e. e.0) xs) (map (λ e. e.0) xs)) (itself x.1) (to_itself xs)

pub tells-list : {K : Type 0} {E : K → K → Bool} → ((x : K) → Tells E x) → (xs : List K) → Tells (pointwise E) xs
tells-list e xs = record { decides = pointwise_decides (λ x. (e x).decides) xs }
