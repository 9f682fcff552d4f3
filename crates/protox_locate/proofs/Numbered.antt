-- Siblings, one after another, and what loops over them add.
use Rattle.std.proofs.Common.{◌≡◌, ℕ, ◌+◌, ◌<◌, List, [], ◌∷◌, ◌++◌, length, map, flat_map, drop, get_or, take, refl, ap, sym, ◌∙◌, arith, append_assoc, append-nil, length-append, subst, add-one, suc, Result, Ok, Err}
use Rattle.std.specs.Prelude.{OnOk}
use Rattle.std.specs.Prelude.{ℤ}
use Rattle.std.proofs.Math.Seq.{drop-cons, take-suc}
use Rattle.protox_locate.specs.LocationWords.{Path, Part, part, nth, each_at, numbered}
use Rattle.protox_locate.specs.inner.Walk.{Emits, Numbers, ToAdd, ToCome}
use Rattle.protox_locate.specs.declared.context.Context.{Context}

pub drop_more : {A : Type 0} (xs : List A) (i : ℕ) (x : A) → i < length xs → x ≡ get_or xs i x → drop i xs ≡ x ∷ drop (i + 1) xs
drop_more xs i x h e = rw (add-one) (drop-cons xs i x h ∙ ap (λ y. y ∷ drop (suc i) xs) (sym e))

pub take_more : {A : Type 0} (xs : List A) (i : ℕ) (x : A) → i < length xs → x ≡ get_or xs i x → take (i + 1) xs ≡ take i xs ++ x ∷ []
take_more xs i x h e = rw (add-one) (take-suc xs i x h ∙ ap (λ y. take i xs ++ y ∷ []) (sym e))

pub numbered_append : (path : Path) (tag : ℤ) (n : ℕ) (xs ys : List Part)
    → numbered path tag n (xs ++ ys) ≡ numbered path tag n xs ++ numbered path tag (n + length xs) ys
numbered_append path tag n [] ys = ap (λ k. numbered path tag k ys) (let e : n ≡ n + 0 = omega arith in e)
numbered_append path tag n (at ∷ xs) ys =
    let e : n + 1 + length xs ≡ n + length (at ∷ xs) = omega arith in
    ap (λ l. at (nth path tag n) ++ l) (numbered_append path tag (n + 1) xs ys ∙ ap (λ k. numbered path tag (n + 1) xs ++ numbered path tag k ys) e)
    ∙ sym (append_assoc (at (nth path tag n)) (numbered path tag (n + 1) xs) (numbered path tag (n + length (at ∷ xs)) ys))

-- ---- one part, and then another

pub first_then : (old mid new : Context) (f g : Part) → Emits old mid (f old.path) → Emits mid new (g mid.path) → Emits old new (f old.path ++ g old.path)
first_then old mid new f g a b = record {
  path = b.path ∙ a.path;
  locations = b.locations ∙ ap (λ l. l ++ g mid.path) a.locations ∙ append_assoc old.locations (f old.path) (g mid.path) ∙ ap (λ p. old.locations ++ (f old.path ++ g p)) a.path;
}

pub first_then_ok : {X Y : Type 0} (r : Result X Y) (old mid new : Context) (f g : Part) → Emits old mid (f old.path) → OnOk r (Emits mid new (g mid.path)) → OnOk r (Emits old new (f old.path ++ g old.path))
first_then_ok (Ok u) old mid new f g a b = first_then old mid new f g a b
first_then_ok (Err e) old mid new f g a b = tt

-- ---- one sibling, and none

pub one_sibling : (old new : Context) (tag : ℤ) (n : ℕ) (at : Part) → Emits old new (at (nth old.path tag n)) → Numbers old new tag n (n + 1) (at ∷ [])
one_sibling old new tag n at e = record {
  located = record { path = e.path; locations = e.locations ∙ ap (λ l. old.locations ++ l) (sym (append-nil (at (nth old.path tag n)))) };
  counted = omega arith;
}

pub no_sibling : (old : Context) (tag : ℤ) (n : ℕ) → Numbers old old tag n n []
no_sibling old tag n = record { located = record { path = refl; locations = sym (append-nil old.locations) }; counted = omega arith }

-- ---- a loop over parts that bring siblings: its start, its steps, its end

pub starts : (old : Context) (tag : ℤ) (n : ℕ) (all : List Part) → ToCome old old tag n n all all
starts old tag n all = record { path = refl; locations = refl; counted = refl }

pub ends : (old now : Context) (tag : ℤ) (first n : ℕ) (all rest : List Part) → rest ≡ [] → ToCome old now tag first n all rest → Numbers old now tag first n all
ends old now tag first n all rest none t =
    let t' : ToCome old now tag first n all [] = subst (λ l. ToCome old now tag first n all l) none t in
    record { located = record { path = t'.path; locations = sym (append-nil now.locations) ∙ t'.locations }; counted = omega (arith, t'.counted) }

pub steps : (old mid new : Context) (tag : ℤ) (first n m : ℕ) (all xs rest : List Part) → ToCome old mid tag first n all (xs ++ rest) → Numbers mid new tag n m xs → ToCome old new tag first m all rest
steps old mid new tag first n m all xs rest t s = record {
  path = s.located.path ∙ t.path;
  locations =
      ap (λ l. l ++ numbered old.path tag m rest) (s.located.locations ∙ ap (λ p. mid.locations ++ numbered p tag n xs) t.path)
      ∙ ap (λ k. (mid.locations ++ numbered old.path tag n xs) ++ numbered old.path tag k rest) s.counted
      ∙ append_assoc mid.locations (numbered old.path tag n xs) (numbered old.path tag (n + length xs) rest)
      ∙ ap (λ l. mid.locations ++ l) (sym (numbered_append old.path tag n xs rest))
      ∙ t.locations;
  counted = omega (arith, s.counted, t.counted, length-append xs rest);
}

module _ {A : Type 0} (old mid new : Context) (tag : ℤ) (first n m : ℕ) (all : List Part) (xs : List A) (i : ℕ) (x : A) where
  -- the next brings some
  pub some_of : (kind : A → List Part) → ToCome old mid tag first n all (flat_map kind (drop i xs)) → Numbers mid new tag n m (kind x) → x ≡ get_or xs i x → i < length xs
      → ToCome old new tag first m all (flat_map kind (drop (i + 1) xs))
  some_of kind t s is lt =
      steps old mid new tag first n m all (kind x) (flat_map kind (drop (i + 1) xs))
      (subst (λ l. ToCome old mid tag first n all (flat_map kind l)) (drop_more xs i x lt is) t) s

  -- the next is one itself
  pub one_of : (at : A → Part) → ToCome old mid tag first n all (map at (drop i xs)) → Emits mid new (at x (nth mid.path tag n)) → x ≡ get_or xs i x → i < length xs
      → ToCome old new tag first (n + 1) all (map at (drop (i + 1) xs))
  one_of at t e is lt =
      steps old mid new tag first n (n + 1) all (at x ∷ []) (map at (drop (i + 1) xs))
      (subst (λ l. ToCome old mid tag first n all (map at l)) (drop_more xs i x lt is) t) (one_sibling mid new tag n (at x) e)

module _ {A B : Type 0} (f : A → B) (old mid new : Context) (tag : ℤ) (first n m : ℕ) (all : List Part) (xs : List A) (i : ℕ) (x : A) where
  -- the same, if it is computed before the siblings it brings
  pub some_more : (kind : B → List Part) → ToCome old mid tag first n all (flat_map kind (map f (drop i xs))) → Numbers mid new tag n m (kind (f x)) → x ≡ get_or xs i x → i < length xs
      → ToCome old new tag first m all (flat_map kind (map f (drop (i + 1) xs)))
  some_more kind t s is lt =
      steps old mid new tag first n m all (kind (f x)) (flat_map kind (map f (drop (i + 1) xs)))
      (subst (λ l. ToCome old mid tag first n all (flat_map kind (map f l))) (drop_more xs i x lt is) t) s

  pub one_more : (own : B → Part) → ToCome old mid tag first n all (map own (map f (drop i xs))) → Emits mid new (own (f x) (nth mid.path tag n)) → x ≡ get_or xs i x → i < length xs
      → ToCome old new tag first (n + 1) all (map own (map f (drop (i + 1) xs)))
  one_more own t e is lt =
      steps old mid new tag first n (n + 1) all (own (f x) ∷ []) (map own (map f (drop (i + 1) xs)))
      (subst (λ l. ToCome old mid tag first n all (map own (map f l))) (drop_more xs i x lt is) t) (one_sibling mid new tag n (own (f x)) e)

-- ---- a loop over parts at one path

pub each_at_append : (path : Path) (xs ys : List Part) → each_at path (xs ++ ys) ≡ each_at path xs ++ each_at path ys
each_at_append path [] ys = refl
each_at_append path (at ∷ xs) ys = ap (λ l. at path ++ l) (each_at_append path xs ys) ∙ sym (append_assoc (at path) (each_at path xs) (each_at path ys))

pub add_starts : (old : Context) (tag : ℤ) (all : List Part) → ToAdd old old tag all all
add_starts old tag all = record { path = refl; locations = refl }

pub add_ends : (old now : Context) (tag : ℤ) (all rest : List Part) → rest ≡ [] → ToAdd old now tag all rest → Emits old now (each_at (part old.path tag) all)
add_ends old now tag all rest none t =
    let t' : ToAdd old now tag all [] = subst (λ l. ToAdd old now tag all l) none t in
    record { path = t'.path; locations = sym (append-nil now.locations) ∙ t'.locations }

adds : (old mid new : Context) (tag : ℤ) (all xs rest : List Part) → ToAdd old mid tag all (xs ++ rest) → Emits mid new (each_at (part mid.path tag) xs) → ToAdd old new tag all rest
adds old mid new tag all xs rest t e = record {
  path = e.path ∙ t.path;
  locations =
      ap (λ l. l ++ each_at (part old.path tag) rest) (e.locations ∙ ap (λ p. mid.locations ++ each_at (part p tag) xs) t.path)
      ∙ append_assoc mid.locations (each_at (part old.path tag) xs) (each_at (part old.path tag) rest)
      ∙ ap (λ l. mid.locations ++ l) (sym (each_at_append (part old.path tag) xs rest))
      ∙ t.locations;
}

pub add_none : (old : Context) (tag : ℤ) → Emits old old (each_at (part old.path tag) [])
add_none old tag = record { path = refl; locations = sym (append-nil old.locations) }

pub add_one : (old new : Context) (tag : ℤ) (at : Part) → Emits old new (at (part old.path tag)) → Emits old new (each_at (part old.path tag) (at ∷ []))
add_one old new tag at e = record { path = e.path; locations = e.locations ∙ ap (λ l. old.locations ++ l) (sym (append-nil (at (part old.path tag)))) }

module _ {A : Type 0} (old mid new : Context) (tag : ℤ) (all : List Part) (xs : List A) (i : ℕ) (x : A) where
  -- the next is one itself
  pub add_one_of : (at : A → Part) → ToAdd old mid tag all (map at (drop i xs)) → Emits mid new (at x (part mid.path tag)) → x ≡ get_or xs i x → i < length xs
      → ToAdd old new tag all (map at (drop (i + 1) xs))
  add_one_of at t e is lt =
      adds old mid new tag all (at x ∷ []) (map at (drop (i + 1) xs))
      (subst (λ l. ToAdd old mid tag all (map at l)) (drop_more xs i x lt is) t) (add_one mid new tag (at x) e)

pub ruleset walk = (starts, ends, one_of, one_more, one_sibling, no_sibling, add_starts, add_ends, add_one_of, add_none, add_one, drop_more)
