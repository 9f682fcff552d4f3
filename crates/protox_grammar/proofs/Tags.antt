-- Reading and noting don't depend on the tags of rows. A rule is taken with two types of tags, and
-- a function gives the second tag for the first.
use Rattle.std.proofs.Common.{◌≡◌, ℕ, zero, suc, ◌-◌, Bool, true, false, cond, List, [], ◌∷◌, ◌++◌, map, length, take, Option, Some, None, Result, Ok, Err, refl, sym, ap, subst, ◌∙◌, inl, inr}
use Rattle.std.proofs.lemmas.List.{map-append, length-map, take-map}
use Rattle.protox_lexeme.specs.Shapes.{Shape, Row, Rows}
use Rattle.protox_ast.specs.Fronts.{shapes}
use Rattle.protox_grammar.specs.Class.{Set, in_set}
use Rattle.protox_grammar.specs.TagLaws.{map_tags, map_event, map_step, map_steps}
use Rattle.protox_grammar.specs.Reader as reader
use Rattle.protox_grammar.specs.Reader.{Reader, Refusal, Unexpected, Deep, ◌>>=◌, head_in, is_token, star_at}
use Rattle.protox_grammar.specs.Rule.{Rule, fixed, leaf, seq, choice, unless, optional, times, named, named_fits, noting}
use Rattle.protox_grammar.specs.Steps.{Event, Token, Note, Steps, plainly, plain_trace, rows_before, then_steps, star_trace}

-- For trees of which nothing is noted.
abbrev pub Unnoted : {A B : Type 0} → A → B → Type 0
Unnoted x y = Unit {0}

-- Each element of the one list with that of the other.
abbrev pub Pairwise : {A B : Type 0} → (A → B → Type 0) → List A → List B → Type 0
Pairwise R [] [] = Unit {0}
Pairwise R (x ∷ xs) (y ∷ ys) = R x y × Pairwise R xs ys
Pairwise R _ _ = ⊥

pub pairwise-map : {A B : Type 0} (R : A → B → Type 0) (g : A → B) → ((x : A) (y : B) → R x y → y ≡ g x) → (xs : List A) (ys : List B) → Pairwise R xs ys → ys ≡ map g xs
pairwise-map R g h [] [] e = refl
pairwise-map R g h [] (y ∷ ys) e = absurd e
pairwise-map R g h (x ∷ xs) [] e = absurd e
pairwise-map R g h (x ∷ xs) (y ∷ ys) e = λ i. h x y e.0 i ∷ pairwise-map R g h xs ys e.1 i

-- ---- rows of the same shapes

abbrev pub no_mark : {M : Type 0} → M → Unit {0}
no_mark m = tt

unmarked : {M : Type 0} (xs : Rows M) → map_tags no_mark xs ≡ map (λ s. record { shape = s; at = tt }) (shapes xs)
unmarked [] = refl
unmarked (x ∷ xs) = ap (λ u. record { shape = x.shape; at = tt } ∷ u) (unmarked xs)

pub same-unmarked : {M N : Type 0} (xs : Rows M) (ys : Rows N) → shapes xs ≡ shapes ys → map_tags no_mark xs ≡ map_tags no_mark ys
same-unmarked xs ys e = unmarked xs ∙ ap (λ u. map (λ s. record { shape = s; at = tt }) u) e ∙ sym (unmarked ys)

-- ---- rows with other tags

module _ {M N : Type 0} (f : M → N) where
  pub same-length : (xs : Rows M) → length (map_tags f xs) ≡ length xs
  same-length xs = length-map xs _

  pub same-head : (p : Shape → Bool) (xs : Rows M) → head_in p (map_tags f xs) ≡ head_in p xs
  same-head p [] = refl
  same-head p (x ∷ xs) = refl

  -- both give a tree and leave the same rows, or both give the same refusal
  abbrev pub Goes : {A B : Type 0} → (A → B → Type 0) → Result (A × Rows M) Refusal → Result (B × Rows N) Refusal → Type 0
  Goes R (Ok x) (Ok y) = R x.0 y.0 × (y.1 ≡ map_tags f x.1)
  Goes R (Err d) (Err e) = d ≡ e
  Goes R _ _ = ⊥

  pub record IsAlike {A B : Type 0} (a : Rule M A) (b : Rule N B) (R : A → B → Type 0) : Type 0 where
    pub reads : (xs : Rows M) → Goes R (a.read xs) (b.read (map_tags f xs))
    pub traces : (xs : Rows M) → b.trace (map_tags f xs) ≡ map_steps f (a.trace xs)

  -- ---- what comes after a reading

  pub goes-on : {A B C D : Type 0} (R : A → B → Type 0) (S : C → D → Type 0) (p : Result (A × Rows M) Refusal) (q : Result (B × Rows N) Refusal) (k : A × Rows M → Result (C × Rows M) Refusal) (l : B × Rows N → Result (D × Rows N) Refusal)
      → Goes R p q → ((x : A × Rows M) (y : B × Rows N) → R x.0 y.0 → y.1 ≡ map_tags f x.1 → Goes S (k x) (l y)) → Goes S (p >>= k) (q >>= l)
  goes-on R S (Ok x) (Ok y) k l h on = on x y h.0 h.1
  goes-on R S (Ok x) (Err e) k l h on = absurd h
  goes-on R S (Err d) (Ok y) k l h on = absurd h
  goes-on R S (Err d) (Err e) k l h on = h

  then-alike : {A B : Type 0} (R : A → B → Type 0) (p : Result (A × Rows M) Refusal) (q : Result (B × Rows N) Refusal) (k : A × Rows M → Steps M) (l : B × Rows N → Steps N)
      → Goes R p q → ((x : A × Rows M) (y : B × Rows N) → R x.0 y.0 → y.1 ≡ map_tags f x.1 → l y ≡ map_steps f (k x)) → then_steps q l ≡ map_steps f (then_steps p k)
  then-alike R (Ok x) (Ok y) k l h on = on x y h.0 h.1
  then-alike R (Ok x) (Err e) k l h on = absurd h
  then-alike R (Err d) (Ok y) k l h on = absurd h
  then-alike R (Err d) (Err e) k l h on = refl

  pub goes-if : {A B : Type 0} (R : A → B → Type 0) (b c : Bool) (p q : Result (A × Rows M) Refusal) (u v : Result (B × Rows N) Refusal) → c ≡ b → Goes R p u → Goes R q v → Goes R (cond b p q) (cond c u v)
  goes-if R b c p q u v e g h = subst (λ d. Goes R (cond b p q) (cond d u v)) (sym e) (under b)
    where
      under : (d : Bool) → Goes R (cond d p q) (cond d u v)
      under true = g
      under false = h

  pub steps-if : (b c : Bool) (k l : Steps M) (u v : Steps N) → c ≡ b → u ≡ map_steps f k → v ≡ map_steps f l → cond c u v ≡ map_steps f (cond b k l)
  steps-if b c k l u v e g h = subst (λ d. cond d u v ≡ map_steps f (cond b k l)) (sym e) (under b)
    where
      under : (d : Bool) → cond d u v ≡ map_steps f (cond d k l)
      under true = g
      under false = h

  pub refused : (xs : Rows M) → Unexpected (length xs) ≡ Unexpected (length (map_tags f xs))
  refused xs = ap Unexpected (sym (same-length xs))

  -- ---- a rule without notes

  plainly-alike : (xs : Rows M) → plainly (map_tags f xs) ≡ map_steps f (plainly xs)
  plainly-alike [] = refl
  plainly-alike (x ∷ xs) = ap (λ u. map_step f (Token x) ∷ u) (plainly-alike xs)

  before-at : (xs : Rows M) (m n : ℕ) → m ≡ n → take (length (map_tags f xs) - m) (map_tags f xs) ≡ map_tags f (take (length xs - n) xs)
  before-at xs m n e = (λ i. take (same-length xs i - e i) (map_tags f xs)) ∙ take-map _ (length xs - n) xs

  before-alike : {A B : Type 0} (R : A → B → Type 0) (xs : Rows M) (p : Result (A × Rows M) Refusal) (q : Result (B × Rows N) Refusal) → Goes R p q → rows_before (map_tags f xs) q ≡ map_tags f (rows_before xs p)
  before-alike R xs (Ok x) (Ok y) h = before-at xs (length y.1) (length x.1) (ap length h.1 ∙ same-length x.1)
  before-alike R xs (Ok x) (Err e) h = absurd h
  before-alike R xs (Err d) (Ok y) h = absurd h
  before-alike R xs (Err (Unexpected m)) (Err (Unexpected n)) h = before-at xs n m cc
  before-alike R xs (Err (Unexpected m)) (Err (Deep n)) h = absurd cc
  before-alike R xs (Err (Deep m)) (Err (Unexpected n)) h = absurd cc
  before-alike R xs (Err (Deep m)) (Err (Deep n)) h = before-at xs n m cc

  pub plain-alike : {A B : Type 0} (R : A → B → Type 0) (a : Reader M A) (b : Reader N B) → ((xs : Rows M) → Goes R (a xs) (b (map_tags f xs))) → (xs : Rows M) → plain_trace b (map_tags f xs) ≡ map_steps f (plain_trace a xs)
  plain-alike R a b h xs = ap plainly (before-alike R xs (a xs) (b (map_tags f xs)) (h xs)) ∙ plainly-alike (rows_before xs (a xs))

  -- ---- tokens

  pub fixed-reads : (w : Shape) (xs : Rows M) → Goes (λ m n. n ≡ f m) (reader.fixed w xs) (reader.fixed w (map_tags f xs))
  unfolding reader.fixed
  fixed-reads w [] = refl
  fixed-reads w (r ∷ rs) = goes-if (λ m n. n ≡ f m) (is_token w r.shape) (is_token w r.shape) (Ok (r.at, rs)) _ (Ok (f r.at, map_tags f rs)) _ refl (refl, refl) (refused (r ∷ rs))

  pub fixed-alike : (w : Shape) → IsAlike (fixed w) (fixed w) (λ m n. n ≡ f m)
  fixed-alike w = record { reads = fixed-reads w; traces = plain-alike (λ m n. n ≡ f m) (reader.fixed w) (reader.fixed w) (fixed-reads w) }

  -- a value and its tag
  abbrev pub Valued : {X : Type 0} → X × M → X × N → Type 0
  Valued x y = y ≡ (x.0, f x.1)

  seen-alike : {X : Type 0} (r : Row M) (rs : Rows M) (o : Option X) → Goes Valued (reader.seen r rs o) (reader.seen (record { shape = r.shape; at = f r.at }) (map_tags f rs) o)
  seen-alike r rs (Some v) = (refl, refl)
  seen-alike r rs None = refused (r ∷ rs)

  leaf-reads : {X : Type 0} (see : Shape → Option X) (xs : Rows M) → Goes Valued (reader.leaf see xs) (reader.leaf see (map_tags f xs))
  unfolding reader.leaf
  leaf-reads see [] = refl
  leaf-reads see (r ∷ rs) = seen-alike r rs (see r.shape)

  pub leaf-alike : {X : Type 0} (see : Shape → Option X) (shape : X → Shape) → IsAlike (leaf see shape) (leaf see shape) Valued
  leaf-alike see shape = record { reads = leaf-reads see; traces = plain-alike Valued (reader.leaf see) (reader.leaf see) (leaf-reads see) }

  -- ---- one after another

  -- both parts are alike
  abbrev pub Both : {A B C D : Type 0} → (A → B → Type 0) → (C → D → Type 0) → A × C → B × D → Type 0
  Both R S x y = R x.0 y.0 × S x.1 y.1

  module _ {A B C D : Type 0} {R : A → B → Type 0} {S : C → D → Type 0} {a : Rule M A} {b : Rule N B} {c : Rule M C} {d : Rule N D} (g : IsAlike a b R) (h : IsAlike c d S) where
    pub seq-reads : (xs : Rows M) → Goes (Both R S) (reader.seq a.read c.read xs) (reader.seq b.read d.read (map_tags f xs))
    seq-reads xs = goes-on R (Both R S) (a.read xs) (b.read (map_tags f xs)) _ _ (g.reads xs) (λ x y r e.
        goes-on S (Both R S) (c.read x.1) (d.read y.1) _ _ (subst (λ v. Goes S (c.read x.1) (d.read v)) (sym e) (h.reads x.1)) (λ u v s w. ((r, s), w)))

    seq-traces : (xs : Rows M) → (seq b d).trace (map_tags f xs) ≡ map_steps f ((seq a c).trace xs)
    seq-traces xs =
        (λ i. g.traces xs i ++ then-alike R (a.read xs) (b.read (map_tags f xs)) (λ x. c.trace x.1) (λ y. d.trace y.1) (g.reads xs) (λ x y r e. ap d.trace e ∙ h.traces x.1) i)
        ∙ sym (map-append (map_step f) (a.trace xs) (then_steps (a.read xs) (λ x. c.trace x.1)))

    pub seq-alike : IsAlike (seq a c) (seq b d) (Both R S)
    seq-alike = record { reads = seq-reads; traces = seq-traces }

    -- ---- the first or the second

    either-reads : (p : Shape → Bool) (xs : Rows M) → Goes Unnoted (reader.either p (reader.mapped inl a.read) (reader.mapped inr c.read) xs) (reader.either p (reader.mapped inl b.read) (reader.mapped inr d.read) (map_tags f xs))
    either-reads p xs = goes-if Unnoted (head_in p xs) (head_in p (map_tags f xs)) _ _ _ _ (same-head p xs)
        (goes-on R Unnoted (a.read xs) (b.read (map_tags f xs)) _ _ (g.reads xs) (λ x y r e. (tt, e)))
        (goes-on S Unnoted (c.read xs) (d.read (map_tags f xs)) _ _ (h.reads xs) (λ x y r e. (tt, e)))

    either-traces : (p : Shape → Bool) (xs : Rows M) → cond (head_in p (map_tags f xs)) (b.trace (map_tags f xs)) (d.trace (map_tags f xs)) ≡ map_steps f (cond (head_in p xs) (a.trace xs) (c.trace xs))
    either-traces p xs = steps-if (head_in p xs) (head_in p (map_tags f xs)) (a.trace xs) (c.trace xs) _ _ (same-head p xs) (g.traces xs) (h.traces xs)

    pub unless-alike : (P : Set) → IsAlike (unless P a c) (unless P b d) Unnoted
    unless-alike P = record { reads = either-reads (in_set P); traces = either-traces (in_set P) }

    pub choice-alike : (P : Set) → IsAlike (choice P a c) (choice P b d) Unnoted
    choice-alike P = record { reads = either-reads (in_set P); traces = either-traces (in_set P) }

  module _ {A B : Type 0} {R : A → B → Type 0} {a : Rule M A} {b : Rule N B} (g : IsAlike a b R) where
    pub optional-alike : (P : Set) → IsAlike (optional P a) (optional P b) Unnoted
    optional-alike P = record {
      reads = λ xs. goes-on Unnoted Unnoted _ _ _ _ (goes-if Unnoted (head_in (in_set P) xs) (head_in (in_set P) (map_tags f xs)) (reader.mapped inl a.read xs) _ (reader.mapped inl b.read (map_tags f xs)) _ (same-head (in_set P) xs)
          (goes-on R Unnoted (a.read xs) (b.read (map_tags f xs)) _ _ (g.reads xs) (λ x y r e. (tt, e))) (tt, refl)) (λ x y r e. (tt, e));
      traces = λ xs. steps-if (head_in (in_set P) xs) (head_in (in_set P) (map_tags f xs)) (a.trace xs) [] _ [] (same-head (in_set P) xs) (g.traces xs) refl;
    }

    -- ---- again and again

    star-reads : (p : Shape → Bool) (n : ℕ) (xs : Rows M) → Goes (Pairwise R) (star_at p a.read n xs) (star_at p b.read n (map_tags f xs))
    unfolding star_at
    star-reads p zero xs = refused xs
    star-reads p (suc n) xs = goes-if (Pairwise R) (head_in p xs) (head_in p (map_tags f xs)) _ (Ok ([], xs)) _ (Ok ([], map_tags f xs)) (same-head p xs)
        (goes-on R (Pairwise R) (a.read xs) (b.read (map_tags f xs)) _ _ (g.reads xs) (λ x y r e.
        goes-on (Pairwise R) (Pairwise R) (star_at p a.read n x.1) (star_at p b.read n y.1) _ _ (subst (λ v. Goes (Pairwise R) (star_at p a.read n x.1) (star_at p b.read n v)) (sym e) (star-reads p n x.1)) (λ u v s w. ((r, s), w))))
        (tt, refl)

    star-traces : (p : Shape → Bool) (n : ℕ) (xs : Rows M) → star_trace p b.read b.trace n (map_tags f xs) ≡ map_steps f (star_trace p a.read a.trace n xs)
    unfolding star_trace
    star-traces p zero xs = refl
    star-traces p (suc n) xs = steps-if (head_in p xs) (head_in p (map_tags f xs)) (a.trace xs ++ then_steps (a.read xs) (λ x. star_trace p a.read a.trace n x.1)) [] _ [] (same-head p xs)
        ((λ i. g.traces xs i ++ then-alike R (a.read xs) (b.read (map_tags f xs)) (λ x. star_trace p a.read a.trace n x.1) (λ y. star_trace p b.read b.trace n y.1) (g.reads xs) (λ x y r e. ap (star_trace p b.read b.trace n) e ∙ star-traces p n x.1) i)
        ∙ sym (map-append (map_step f) (a.trace xs) (then_steps (a.read xs) (λ x. star_trace p a.read a.trace n x.1)))) refl

    pub times-alike : (P : Set) → IsAlike (times P a) (times P b) (Pairwise R)
    unfolding reader.star
    times-alike P = record {
      reads = λ xs. subst (λ n. Goes (Pairwise R) (star_at (in_set P) a.read (suc (length xs)) xs) (star_at (in_set P) b.read (suc n) (map_tags f xs))) (sym (same-length xs)) (star-reads (in_set P) (suc (length xs)) xs);
      traces = λ xs. ap (λ n. star_trace (in_set P) b.read b.trace (suc n) (map_tags f xs)) (same-length xs) ∙ star-traces (in_set P) (suc (length xs)) xs;
    }

    -- ---- under another name, and with a note

    named-reads : {C D : Type 0} (S : C → D → Type 0) (to : A → C) (to' : B → D) → ((x : A) (y : B) → R x y → S (to x) (to' y)) → (xs : Rows M) → Goes S (reader.mapped to a.read xs) (reader.mapped to' b.read (map_tags f xs))
    named-reads S to to' s xs = goes-on R S (a.read xs) (b.read (map_tags f xs)) _ _ (g.reads xs) (λ x y r e. (s x.0 y.0 r, e))

    pub named_as-alike : {C D : Type 0} {spell : C → Rows M} {keeps : C → Type 0} {to : A → C} {from : C → A} {spell' : D → Rows N} {keeps' : D → Type 0} {to' : B → D} {from' : D → B}
        → (S : C → D → Type 0) → ((x : A) (y : B) → R x y → S (to x) (to' y)) → IsAlike (named spell keeps to from a) (named spell' keeps' to' from' b) S
    named_as-alike {to = to} {to' = to'} S s = record { reads = named-reads S to to' s; traces = g.traces }

    pub named-alike : {C D : Type 0} {spell : C → Rows M} {keeps : C → Type 0} {from : C → A} {spell' : D → Rows N} {keeps' : D → Type 0} {from' : D → B}
        → (to : A → C) (to' : B → D) → IsAlike (named spell keeps to from a) (named spell' keeps' to' from' b) Unnoted
    named-alike to to' = record { reads = named-reads Unnoted to to' (λ x y r. tt); traces = g.traces }

    pub named_fits-alike : {C D : Type 0} {spell : C → Rows M} {keeps fits : C → Type 0} {from : C → A} {spell' : D → Rows N} {keeps' fits' : D → Type 0} {from' : D → B}
        → (to : A → C) (to' : B → D) → IsAlike (named_fits spell keeps fits to from a) (named_fits spell' keeps' fits' to' from' b) Unnoted
    named_fits-alike to to' = record { reads = named-reads Unnoted to to' (λ x y r. tt); traces = g.traces }

    pub noting-alike : (note : A → Event M) (note' : B → Event N) → ((x : A) (y : B) → R x y → note' y ≡ map_event f (note x)) → IsAlike (noting note a) (noting note' b) R
    noting-alike note note' s = record {
      reads = g.reads;
      traces = λ xs.
          (λ i. g.traces xs i ++ then-alike R (a.read xs) (b.read (map_tags f xs)) (λ x. Note (note x.0) ∷ []) (λ y. Note (note' y.0) ∷ []) (g.reads xs) (λ x y r e. ap (λ u. Note u ∷ []) (s x.0 y.0 r)) i)
          ∙ sym (map-append (map_step f) (a.trace xs) (then_steps (a.read xs) (λ x. Note (note x.0) ∷ [])));
    }

pub head-same-shapes : {M N : Type 0} (p : Shape → Bool) (xs : Rows M) (ys : Rows N) → shapes xs ≡ shapes ys → head_in p xs ≡ head_in p ys
head-same-shapes p xs ys e = sym (same-head no_mark p xs) ∙ ap (head_in p) (same-unmarked xs ys e) ∙ same-head no_mark p ys
