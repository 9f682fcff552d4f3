-- Where reading stops, in terms of the tokens alone: a file that begins with them does so with any
-- tags.
use Rattle.std.proofs.Common.{◌≡◌, ◌≤◌, ℕ, zero, suc, List, [], ◌∷◌, ◌++◌, map, length, take, drop, Result, Ok, Err, refl, sym, ap, subst, ◌∙◌, append_assoc, arith, inl, inr}
use Rattle.std.proofs.lemmas.List.{append-nil, length-append}
use Rattle.std.proofs.lemmas.Bool.{cases_lt}
use Rattle.protox_lexeme.specs.Shapes.{Shape, Row, Rows}
use Rattle.protox_ast.specs.DepthWalk as d
use Rattle.protox_ast.specs.KeywordWalk as k
use Rattle.protox_ast.specs.Spelling as s
use Rattle.protox_ast.specs.Spells.{Spells, GoesOn, BeginsFile, shapes, numbered}
use Rattle.protox_ast.specs.Tree as t
use Rattle.protox_grammar.specs.Grammar.{TightUnexpected, TightDeep, TightEnd}
use Rattle.protox_grammar.specs.TagLaws.{IsSameOutcome}
use Rattle.protox_grammar.specs.Reader.{Refusal}
use Rattle.protox_grammar.specs.Reads.{read}
use Rattle.protox_grammar.proofs.Main as main
use Rattle.protox_grammar.proofs.TagLaws.{same_outcome}
use Rattle.protox_grammar.proofs.Numbers.{shapes-append, shapes-length, shapes-numbered}
use Rattle.protox_grammar.proofs.StepLists.{take-front}
use Rattle.protox_grammar.proofs.Stops.{BeginsWith}

-- ---- the same file with other tags

read-too : {A B : Type 0} (f : t.File A) (other : Result (t.File B) Refusal) → IsSameOutcome (Ok f) other → (g : t.File B) × (other ≡ Ok g)
read-too f (Ok g) h = (g, refl)
read-too f (Err e) h = absurd h

-- Rows with the shapes of a file that is at most n deep spell such a file, with their own tags.
pub remarked : {A B : Type 0} (a : A) (b : B) (n : ℕ) (f : t.File A) → k.KeepsKeywords f → d.depth f ≤ n → (rows : Rows B) → shapes rows ≡ shapes (s.spell f) → (g : t.File B) × Spells rows g × (d.depth g ≤ n)
remarked a b n f h w rows e =
    let first : read n (s.spell f) ≡ Ok f = (main.accepts_iff a n (s.spell f) f).1 ((refl, h), w) in
    let other = read-too f (read n rows) (subst (λ u. IsSameOutcome u (read n rows)) first (same_outcome n (s.spell f) rows (sym e))) in
    let r = (main.accepts_iff b n rows other.0).0 other.1 in
    (other.0, r.0, r.1)

abbrev marked : {M : Type 0} → M → List Shape → Rows M
marked m ss = map (λ s. record { shape = s; at = m }) ss

shapes-marked : {M : Type 0} (m : M) (ss : List Shape) → shapes (marked m ss) ≡ ss
shapes-marked m [] = refl
shapes-marked m (s ∷ ss) = ap (λ u. s ∷ u) (shapes-marked m ss)

both-same : {A : Type 0} (u v y z : List A) → u ≡ v → y ≡ z → u ++ y ≡ v ++ z
both-same u v y z p q = λ i. p i ++ q i

-- ---- fronts

drop-none : {A : Type 0} (xs : List A) → drop 0 xs ≡ xs
drop-none [] = refl
drop-none (x ∷ xs) = refl

take-none : {A : Type 0} (xs : List A) → take 0 xs ≡ []
take-none [] = refl
take-none (x ∷ xs) = refl

-- The beginning of a beginning.
take-take : {A : Type 0} (k n : ℕ) (xs : List A) → k ≤ n → take k xs ++ drop k (take n xs) ≡ take n xs
take-take zero n xs l = both-same (take 0 xs) [] (drop 0 (take n xs)) (take n xs) (take-none xs) (drop-none (take n xs))
take-take (suc k) zero xs l = absurd (omega (arith, l))
take-take (suc k) (suc n) [] l = refl
take-take (suc k) (suc n) (x ∷ xs) l = ap (λ u. x ∷ u) (take-take k n xs (omega (arith, l)))

-- A file that begins with some tokens begins with fewer of them.
pub begins-before : (tokens : List Shape) (k n : ℕ) → k ≤ n → BeginsFile tokens n → BeginsFile tokens k
begins-before tokens k n l b =
    let go = b.1 in (
      b.0,
      record {
        more = drop k (take n tokens) ++ go.more;
        there = omega (arith, l, go.there);
        spells = (
          ap (numbered 0) (sym (append_assoc (take k tokens) (drop k (take n tokens)) go.more) ∙ ap (λ u. u ++ go.more) (take-take k n tokens l)) ∙ go.spells.0,
          go.spells.1,
        );
      },
    )

-- A file of these rows and any others that is at most n deep.
abbrev BeginsWithin : {M : Type 0} → ℕ → Rows M → Type 0
BeginsWithin {M} levels front = (f : t.File M) × (more : Rows M) × Spells (front ++ more) f × (d.depth f ≤ levels)

module _ {M : Type 0} (m : M) where
  front-is : (rows front rest : Rows M) (n : ℕ) → rows ≡ front ++ rest → n ≡ length front → take n (shapes rows) ≡ shapes front
  front-is rows front rest n e l = ap (λ u. take n (shapes u)) e ∙ ap (take n) (shapes-append front rest) ∙ take-front n (shapes front) (shapes rest) (l ∙ sym (shapes-length front))

  pub begins-tokens : (rows front rest : Rows M) (n : ℕ) → rows ≡ front ++ rest → n ≡ length front → BeginsWith front → BeginsFile (shapes rows) n
  begins-tokens rows front rest n e l b =
      let new : List Shape = take n (shapes rows) ++ shapes b.1 in
      let same : shapes (numbered 0 new) ≡ shapes (s.spell b.0) = shapes-numbered 0 new ∙ ap (λ u. u ++ shapes b.1) (front-is rows front rest n e l) ∙ sym (shapes-append front b.1) ∙ ap shapes b.2.0 in
      let g = remarked m 0 (d.depth b.0) b.0 b.2.1 (omega arith) (numbered 0 new) same in
      (g.0, record { more = shapes b.1; there = omega (arith, l, ap length e, length-append front rest, shapes-length rows); spells = g.1 })

  begins-rows : (levels : ℕ) (rows front rest : Rows M) (n : ℕ) → rows ≡ front ++ rest → n ≡ length front → (f : t.File ℕ) → d.depth f ≤ levels → GoesOn (shapes rows) n f → BeginsWithin levels front
  begins-rows levels rows front rest n e l f w go =
      let more : Rows M = marked m go.more in
      let same : shapes (front ++ more) ≡ shapes (s.spell f) =
      shapes-append front more
      ∙ both-same (shapes front) (take n (shapes rows)) (shapes more) go.more (sym (front-is rows front rest n e l)) (shapes-marked m go.more) ∙ sym (shapes-numbered 0 (take n (shapes rows) ++ go.more)) ∙ ap shapes go.spells.0
      in
      let g = remarked 0 m levels f go.spells.1 w (front ++ more) same in
      (g.0, more, g.1, g.2)

  pub none-begin : (rows front rest : Rows M) (n : ℕ) → rows ≡ front ++ rest → n ≡ length front → (BeginsWith front → ⊥) → BeginsFile (shapes rows) n → ⊥
  none-begin rows front rest n e l none b = let g = begins-rows (d.depth b.0) rows front rest n e l b.0 (omega arith) b.1 in none (g.0, g.1, g.2)

  -- the tokens of rows that spell a file begin it
  pub spelling-begins : (rows : Rows M) (f : t.File M) → Spells rows f → BeginsFile (shapes rows) (length (shapes rows))
  spelling-begins rows f h = begins-tokens rows rows [] (length (shapes rows)) (sym (append-nil rows)) (shapes-length rows) (f, [], subst (λ u. Spells u f) (sym (append-nil rows)) h)

  -- and spell it, with their numbers
  pub spelling-numbered : (rows : Rows M) (f : t.File M) → Spells rows f → (g : t.File ℕ) × Spells (numbered 0 (shapes rows)) g
  spelling-numbered rows f h = let g = remarked m 0 (d.depth f) f h.1 (omega arith) (numbered 0 (shapes rows)) (shapes-numbered 0 (shapes rows) ∙ ap shapes h.0) in (g.0, g.1)

  -- ---- where reading stops

  one-more : (front : Rows M) (here : Row M) (rest rows : Rows M) → rows ≡ front ++ (here ∷ rest) → rows ≡ (front ++ (here ∷ [])) ++ rest
  one-more front here rest rows e = e ∙ sym (append_assoc front (here ∷ []) rest)

  pub unexpected : TightUnexpected M
  unexpected levels left rows h =
      let u = main.unexpected_row m levels left rows h in
      let parts : length rows ≡ length (u.front ++ (u.here ∷ u.rest)) = ap length u.parts in (
        length u.front,
        omega (arith, parts, length-append u.front (u.here ∷ u.rest), u.left_is),
        (
          omega (arith, parts, length-append u.front (u.here ∷ u.rest), shapes-length rows),
          begins-tokens rows u.front (u.here ∷ u.rest) (length u.front) u.parts refl u.before,
          none-begin rows (u.front ++ (u.here ∷ [])) u.rest (suc (length u.front)) (one-more u.front u.here u.rest rows u.parts) (omega (arith, length-append u.front (u.here ∷ []))) u.with_it,
        ),
      )

  pub too_deep : TightDeep M
  too_deep levels left rows h =
      let v = main.deep m levels left rows h in
      let parts : length rows ≡ length (v.front ++ (v.here ∷ v.rest)) = ap length v.parts in
      let split = one-more v.front v.here v.rest rows v.parts in
      let len : suc (length v.front) ≡ length (v.front ++ (v.here ∷ [])) = omega (arith, length-append v.front (v.here ∷ [])) in (
        length v.front,
        omega (arith, parts, length-append v.front (v.here ∷ v.rest), v.left_is),
        (
          omega (arith, parts, length-append v.front (v.here ∷ v.rest), shapes-length rows),
          begins-tokens rows (v.front ++ (v.here ∷ [])) v.rest (suc (length v.front)) split len v.begins,
          λ f go. elim (cases_lt levels (d.depth f)) [
            | inl lt ↦ lt
            | inr le ↦
                let g = begins-rows levels rows (v.front ++ (v.here ∷ [])) v.rest (suc (length v.front)) split len f le go in
                absurd (omega (arith, g.3, v.deeper g.0 g.1 (subst (λ u. Spells u g.0) (append_assoc v.front (v.here ∷ []) g.1) g.2)))
          ],
        ),
      )

  pub ended : TightEnd M
  ended levels rows h =
      let e = main.ended m levels rows h in (
        begins-tokens rows rows [] (length (shapes rows)) (sym (append-nil rows)) (shapes-length rows) e.begins,
        λ f g. let r = remarked 0 m (d.depth f) f g.1 (omega arith) rows (sym (shapes-numbered 0 (shapes rows)) ∙ ap shapes g.0) in e.no_file r.0 r.1,
      )
