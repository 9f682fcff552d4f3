-- What the code reads is what the rules read, with a view from the trees of the grammar to the
-- code's values.
use Rattle.std.proofs.Common.{◌≡◌, ℕ, zero, suc, Bool, true, false, cond, List, [], ◌∷◌, map, length, Some, None, option_map, Result, Ok, Err, refl, sym, ap, ◌∙◌, inl, inr, ◌⊎◌, arith}
use Rattle.std.proofs.lemmas.List.{length-append}
use Rattle.protox_lexeme.specs.Shapes.{Shape, Rows}
use Rattle.protox_grammar.specs.Reader.{Refusal, Reader, ◌>>=◌, Consumes, head_in, seq, mapped, either, optional, nothing, star, star_at}
use Rattle.protox_grammar.specs.Class.{Set}
use Rattle.protox_grammar.specs.Rule.{Rule, on_sum, to_option}
use Rattle.protox_grammar.proofs.Takes.{bind_ok, ok_is}
use Rattle.protox_grammar.proofs.Repeat.{some-rows}
use Rattle.protox_grammar.proofs.Forms.{Lawful}

abbrev pub seen_as : {M A B : Type 0} → (A → B) → A × Rows M → Result (B × Rows M) Refusal
seen_as f x = Ok (f x.0, x.1)

abbrev pub paired : {M A B : Type 0} → A → B × Rows M → Result ((A × B) × Rows M) Refusal
paired a y = Ok ((a, y.0), y.1)

abbrev pub then : {M A B : Type 0} → Reader M B → A × Rows M → Result ((A × B) × Rows M) Refusal
then b x = b x.1 >>= paired x.0

-- The second reader reads what the first does, with the view f.
pub record Shows {M A B : Type 0} (f : A → B) (a : Reader M A) (b : Reader M B) : Type 0 where
  pub same : (xs : Rows M) → b xs ≡ mapped f a xs

seen-own : {M A : Type 0} (r : Result (A × Rows M) Refusal) → r ≡ (r >>= seen_as (λ x. x))
seen-own (Ok x) = refl
seen-own (Err e) = refl

pub as_is : {M A : Type 0} (a : Reader M A) → Shows (λ x. x) a a
as_is a = record { same = λ xs. seen-own (a xs) }

seen-paired : {M A B C D : Type 0} (f : A → C) (g : B → D) (x : A) (r : Result (B × Rows M) Refusal) → ((r >>= seen_as g) >>= paired (f x)) ≡ ((r >>= paired x) >>= seen_as (λ (t : A × B). (f t.0, g t.1)))
seen-paired f g x (Ok y) = refl
seen-paired f g x (Err e) = refl

seen-then : {M A B C D : Type 0} (f : A → C) (g : B → D) (b : Reader M B) (d : Reader M D) → Shows g b d → (r : Result (A × Rows M) Refusal) → ((r >>= seen_as f) >>= then d) ≡ ((r >>= then b) >>= seen_as (λ (t : A × B). (f t.0, g t.1)))
seen-then f g b d h (Ok x) = ap (λ v. v >>= paired (f x.0)) (h.same x.1) ∙ seen-paired f g x.0 (b x.1)
seen-then f g b d h (Err e) = refl

pub seq-shows : {M A B C D : Type 0} {f : A → C} {g : B → D} {a : Reader M A} {c : Reader M C} {b : Reader M B} {d : Reader M D} → Shows f a c → Shows g b d → Shows (λ t. (f t.0, g t.1)) (seq a b) (seq c d)
seq-shows {f = f} {g = g} {a = a} {b = b} {d = d} h k = record { same = λ xs. ap (λ v. v >>= then d) (h.same xs) ∙ seen-then f g b d k (a xs) }

seen-twice : {M A B C D : Type 0} (f : A → C) (to : A → B) (to' : C → D) (h : B → D) → ((x : A) → to' (f x) ≡ h (to x)) → (r : Result (A × Rows M) Refusal) → ((r >>= seen_as f) >>= seen_as to') ≡ ((r >>= seen_as to) >>= seen_as h)
seen-twice f to to' h e (Ok x) = ap (λ v. Ok (v, x.1)) (e x.0)
seen-twice f to to' h e (Err d) = refl

pub mapped-shows : {M A B C D : Type 0} {f : A → C} {a : Reader M A} {c : Reader M C} (to : A → B) (to' : C → D) (h : B → D) → ((x : A) → to' (f x) ≡ h (to x)) → Shows f a c → Shows h (mapped to a) (mapped to' c)
mapped-shows {f = f} {a = a} to to' h e k = record { same = λ xs. ap (λ v. v >>= seen_as to') (k.same xs) ∙ seen-twice f to to' h e (a xs) }

seen-inl : {M A B C : Type 0} (i : A → B) (f : A → C) (g : B → C) → ((x : A) → f x ≡ g (i x)) → (r : Result (A × Rows M) Refusal) → (r >>= seen_as f) ≡ ((r >>= seen_as i) >>= seen_as g)
seen-inl i f g e (Ok x) = ap (λ v. Ok (v, x.1)) (e x.0)
seen-inl i f g e (Err d) = refl

choose : {X : Type 0} (b : Bool) (x y x' y' : X) (z : X → X) → x ≡ x' → y ≡ y' → cond b x y ≡ cond b x' y'
choose true x y x' y' z p q = p
choose false x y x' y' z p q = q

split : {M A B : Type 0} (b : Bool) (f : A → B) (x y : Result (A × Rows M) Refusal) → cond b (x >>= seen_as f) (y >>= seen_as f) ≡ (cond b x y >>= seen_as f)
split true f x y = refl
split false f x y = refl

-- Tests that agree on each token agree on the next one.
pub head-tests : {M : Type 0} (p q : Shape → Bool) → ((s : Shape) → p s ≡ q s) → (xs : Rows M) → head_in p xs ≡ head_in q xs
head-tests p q same [] = refl
head-tests p q same (x ∷ xs) = same x.shape

pub either-shows : {M A B C : Type 0} {f : A → C} {g : B → C} {a : Reader M A} {b : Reader M B} {c d : Reader M C} (p q : Shape → Bool) → ((s : Shape) → p s ≡ q s) → Shows f a c → Shows g b d → Shows (on_sum f g) (either q (mapped inl a) (mapped inr b)) (either p c d)
either-shows {f = f} {g = g} {a = a} {b = b} {c = c} {d = d} p q same h k = record {
  same = λ xs.
      ap (λ t. cond t (c xs) (d xs)) (head-tests p q same xs)
      ∙ choose (head_in q xs) (c xs) (d xs) _ _ (λ v. v) (h.same xs ∙ seen-inl inl f (on_sum f g) (λ x. refl) (a xs)) (k.same xs ∙ seen-inl inr g (on_sum f g) (λ x. refl) (b xs))
      ∙ split (head_in q xs) (on_sum f g) (mapped inl a xs) (mapped inr b xs);
}

seen-other : {M A B : Type 0} (f g : A → B) → ((x : A) → f x ≡ g x) → (r : Result (A × Rows M) Refusal) → (r >>= seen_as f) ≡ (r >>= seen_as g)
seen-other f g e (Ok x) = ap (λ v. Ok (v, x.1)) (e x.0)
seen-other f g e (Err d) = refl

-- With an equal view.
pub shows-by : {M A B : Type 0} {f g : A → B} {a : Reader M A} {b : Reader M B} → ((x : A) → f x ≡ g x) → Shows f a b → Shows g a b
shows-by {f = f} {g = g} {a = a} e h = record { same = λ xs. h.same xs ∙ seen-other f g e (a xs) }

-- If the first is renamed.
pub left-shows : {M A B C : Type 0} {f : A → C} {a : Reader M A} {c : Reader M C} (to : A → B) (h : B → C) → ((x : A) → f x ≡ h (to x)) → Shows f a c → Shows h (mapped to a) c
left-shows {f = f} {a = a} to h e k = record { same = λ xs. k.same xs ∙ seen-inl to f h e (a xs) }

-- If the second is renamed.
pub right-shows : {M A B C : Type 0} {f : A → B} {a : Reader M A} {b : Reader M B} (to : B → C) → Shows f a b → Shows (λ x. to (f x)) a (mapped to b)
right-shows {M = M} {A = A} {f = f} {a = a} to k = record { same = λ xs. ap (λ v. v >>= seen_as to) (k.same xs) ∙ twice (a xs) }
  where
    twice : (r : Result (A × Rows M) Refusal) → ((r >>= seen_as f) >>= seen_as to) ≡ (r >>= seen_as (λ x. to (f x)))
    twice (Ok x) = refl
    twice (Err e) = refl

abbrev again : {M A : Type 0} → (Rows M → Result (List A × Rows M) Refusal) → A × Rows M → Result (List A × Rows M) Refusal
again rest x = rest x.1 >>= λ y. Ok (x.0 ∷ y.0, y.1)

seen-cons : {M A B : Type 0} (f : A → B) (x : A) (r : Result (List A × Rows M) Refusal) → ((r >>= seen_as (map f)) >>= λ y. Ok (f x ∷ y.0, y.1)) ≡ ((r >>= λ y. Ok (x ∷ y.0, y.1)) >>= seen_as (map f))
seen-cons f x (Ok y) = refl
seen-cons f x (Err e) = refl

seen-again : {M A B : Type 0} (f : A → B) (s : Rows M → Result (List A × Rows M) Refusal) (t : Rows M → Result (List B × Rows M) Refusal) → ((xs : Rows M) → t xs ≡ (s xs >>= seen_as (map f))) → (r : Result (A × Rows M) Refusal) → ((r >>= seen_as f) >>= again t) ≡ ((r >>= again s) >>= seen_as (map f))
seen-again f s t h (Ok x) = ap (λ v. v >>= λ y. Ok (f x.0 ∷ y.0, y.1)) (h x.1) ∙ seen-cons f x.0 (s x.1)
seen-again f s t h (Err e) = refl

star_at-shows : {M A B : Type 0} (f : A → B) (a : Reader M A) (b : Reader M B) (p q : Shape → Bool) → ((s : Shape) → p s ≡ q s) → Shows f a b → (n : ℕ) (xs : Rows M) → star_at p b n xs ≡ (star_at q a n xs >>= seen_as (map f))
unfolding star_at
star_at-shows f a b p q same h zero xs = refl
star_at-shows f a b p q same h (suc n) xs =
    ap (λ t. cond t (b xs >>= again (star_at p b n)) (Ok ([], xs))) (head-tests p q same xs)
    ∙ choose (head_in q xs) _ _ _ _ (λ v. v) (ap (λ v. v >>= again (star_at p b n)) (h.same xs) ∙ seen-again f (star_at q a n) (star_at p b n) (star_at-shows f a b p q same h n) (a xs)) refl
    ∙ split (head_in q xs) (map f) (a xs >>= again (star_at q a n)) (Ok ([], xs))

pub star-shows : {M A B : Type 0} {f : A → B} {a : Reader M A} {b : Reader M B} (p q : Shape → Bool) → ((s : Shape) → p s ≡ q s) → Shows f a b → Shows (map f) (star q a) (star p b)
unfolding star
star-shows {f = f} {a = a} {b = b} p q same h = record { same = λ xs. star_at-shows f a b p q same h (suc (length xs)) xs }

-- two functions on a choice of several
pub two : {A B D : Type 0} (f g : A ⊎ B → D) → ((a : A) → f (inl a) ≡ g (inl a)) → ((b : B) → f (inr b) ≡ g (inr b)) → (x : A ⊎ B) → f x ≡ g x
two f g p q (inl a) = p a
two f g p q (inr b) = q b

pub three : {A B C D : Type 0} (f g : A ⊎ (B ⊎ C) → D) → ((a : A) → f (inl a) ≡ g (inl a)) → ((b : B) → f (inr (inl b)) ≡ g (inr (inl b))) → ((c : C) → f (inr (inr c)) ≡ g (inr (inr c))) → (x : A ⊎ (B ⊎ C)) → f x ≡ g x
three f g p q r (inl a) = p a
three f g p q r (inr (inl b)) = q b
three f g p q r (inr (inr c)) = r c

pub optional-shows : {M A B : Type 0} {f : A → B} {a : Reader M A} {b : Reader M B} (p q : Shape → Bool) → ((s : Shape) → p s ≡ q s) → Shows f a b → Shows (option_map f) (mapped to_option (either q (mapped inl a) (mapped inr nothing))) (optional p b)
optional-shows {f = f} p q same h = left-shows to_option (option_map f) (two _ _ (λ x. refl) (λ x. refl)) (either-shows p q same (right-shows Some h) (right-shows (λ u. None) (as_is nothing)))

-- A view of a rule that is never empty takes a row.
pub shows-eats : {M A B : Type 0} {r : Rule M A} {f g : Set} {h : A → B} {b : Reader M B} → Lawful r false f g → Shows h r.read b → Consumes b
shows-eats {r = r} {f = f} {h = h} l k xs x e =
    let y = bind_ok (r.read xs) (seen_as h) x (sym (k.same xs) ∙ e) in
    let took = l.read.takes xs y.0 y.1 in
    let same : (h y.0.0, y.0.1) ≡ x = ok_is (h y.0.0, y.0.1) x y.2 in
    omega (arith, some-rows f (r.spell y.0.0) (l.spelled.starts y.0.0 y.0.1 took.ends), ap length took.parts, length-append (r.spell y.0.0) y.0.1, ap (λ v. length v.1) same)
