-- One turn of a loop that reads while the next row passes a test.
use Rattle.std.proofs.Common.{◌≡◌, ◌<◌, ℕ, zero, suc, Bool, true, false, cond, eqb, [], ◌∷◌, ◌++◌, length, Result, Ok, Err, refl, sym, ap, ◌∙◌, append-nil, append_assoc, arith}
use Rattle.std.proofs.lemmas.Bool.{eqb-true}
use Rattle.protox_ast.specs.Places.{Place}
use Rattle.protox_lexeme.specs.Shapes.{Shape, Rows}
use Rattle.protox_grammar.specs.Reader.{Reader, Refusal, head_in, star, gathered, ◌>>=◌, Consumes}
use Rattle.protox_grammar.proofs.Lemmas.{goes_on, is_done, notes-done, notes-turn, star_notes, stops}
use Rattle.protox_rows.specs.declared.expected.Expected.{Expected}
use Rattle.protox_rows.specs.declared.refused.Refused.{Refused}
use Rattle.protox_rows.specs.declared.refused.Refused.TheVariants.{OutOfMemory, At, TooDeep}
use Rattle.protox_grammar.specs.Class.{Set, in_set}
use Rattle.protox_grammar.specs.Told as told
use Rattle.protox_grammar.specs.Told.{then_notes}
use Rattle.protox_rows.specs.inner.Notes.{AddsTo}
use Rattle.protox_rows.specs.inner.Outcome.{Fails}
use Rattle.protox_rows.specs.inner.Reads.{anything}
use Rattle.protox_rows.specs.inner.Words.{Words, SaysOf, behind, words_at, times}

module _ {A B : Type 0} (add : B → A → B) (p : Shape → Bool) (a : Reader Place A) (eats : Consumes a) (total : Result (B × Rows Place) Refusal) where
  pub more : (b : B) (xs after : Rows Place) (x : A) → head_in p xs ≡ true → a xs ≡ Ok (x, after) → gathered add b (star p a xs) ≡ total → gathered add (add b x) (star p a after) ≡ total
  more b xs after x test read so_far = sym (goes_on add p a eats b xs after x test read) ∙ so_far

  pub ends : (e : Refused) (b : B) (xs : Rows Place) → head_in p xs ≡ true → Fails e (a xs) → gathered add b (star p a xs) ≡ total → Fails e total
  ends OutOfMemory b xs test read so_far = tt
  ends (At left expected) b xs test read so_far = sym so_far ∙ stops add p a eats b xs _ test read
  ends (TooDeep left) b xs test read so_far = sym so_far ∙ stops add p a eats b xs _ test read

  pub done : (b : B) (xs : Rows Place) → head_in p xs ≡ false → gathered add b (star p a xs) ≡ total → total ≡ Ok (b, xs)
  done b xs test so_far = sym so_far ∙ is_done add p a eats b xs test

pub shorter : {A : Type 0} (a : Reader Place A) → Consumes a → (xs ys : Rows Place) (x : A) → a xs ≡ Ok (x, ys) → length ys < length xs
shorter a eats xs ys x e = eats xs (x, ys) e

-- A failure at first is a failure of the whole.
pub lifted : {X Y : Type 0} (e : Refused) (read : Result X Refusal) (f : X → Result Y Refusal) → Fails e read → Fails e (read >>= f)
lifted OutOfMemory read f h = tt
lifted (At left expected) read f h = rw h refl
lifted (TooDeep left) read f h = rw h refl

pub some_left : (xs : Rows Place) → eqb (length xs) 0 ≡ false → head_in anything xs ≡ true
some_left [] e = absurd cc
some_left (x ∷ xs) e = refl

pub none_left : (xs : Rows Place) → eqb (length xs) 0 ≡ true → head_in anything xs ≡ false
none_left [] e = refl
none_left (x ∷ xs) e = absurd (omega (arith, eqb-true (length (x ∷ xs)) 0 e))

pub all_read : (xs : Rows Place) → eqb (length xs) 0 ≡ true → xs ≡ []
all_read [] e = refl
all_read (x ∷ xs) e = absurd (omega (arith, eqb-true (length (x ∷ xs)) 0 e))

-- ---- what is noted in a turn

module _ {A : Type 0} (P : Set) (a : Reader Place A) (f : Rows Place → told.Notes) (eats : Consumes a) where
  abbrev all_notes : Rows Place → told.Notes
  all_notes = star_notes (in_set P) a f

  -- what is still to be noted, in place of what was noted
  pub more-notes : (old before new all : told.Notes) (xs ys : Rows Place) (x : A) → head_in (in_set P) xs ≡ true → a xs ≡ Ok (x, ys)
      → new ≡ before ++ f xs → before ++ all_notes xs ≡ old ++ all → new ++ all_notes ys ≡ old ++ all
  more-notes old before new all xs ys x test read added so_far =
      ap (λ v. v ++ all_notes ys) added ∙ append_assoc before (f xs) (all_notes ys)
      ∙ ap (λ v. before ++ (f xs ++ then_notes all_notes v)) (sym read) ∙ ap (λ v. before ++ v) (sym (notes-turn (in_set P) a f eats xs test)) ∙ so_far

  pub last-notes : (e : Refused) (old before new all : told.Notes) (xs : Rows Place) → head_in (in_set P) xs ≡ true → Fails e (a xs)
      → AddsTo e before (f xs) new → before ++ all_notes xs ≡ old ++ all → AddsTo e old all new
  last-notes OutOfMemory old before new all xs test fails added so_far = tt
  last-notes (At left expected) old before new all xs test fails added so_far =
      added ∙ ap (λ v. before ++ v) (sym (append-nil (f xs))) ∙ ap (λ v. before ++ (f xs ++ then_notes all_notes v)) (sym fails)
      ∙ ap (λ v. before ++ v) (sym (notes-turn (in_set P) a f eats xs test)) ∙ so_far
  last-notes (TooDeep left) old before new all xs test fails added so_far =
      added ∙ ap (λ v. before ++ v) (sym (append-nil (f xs))) ∙ ap (λ v. before ++ (f xs ++ then_notes all_notes v)) (sym fails)
      ∙ ap (λ v. before ++ v) (sym (notes-turn (in_set P) a f eats xs test)) ∙ so_far

  pub no-notes : (old before all : told.Notes) (xs : Rows Place) → head_in (in_set P) xs ≡ false → before ++ all_notes xs ≡ old ++ all → before ≡ old ++ all
  no-notes old before all xs test so_far = sym (append-nil before) ∙ ap (λ v. before ++ v) (sym (notes-done (in_set P) a f eats xs test)) ∙ so_far

-- ---- what is expected in a turn

module _ {A : Type 0} (p : Shape → Bool) (a : Reader Place A) (first : Words) (eats : Consumes a) where
  behind-same : (e : Expected) (f g : A → Words) (r : Result (A × Rows Place) Refusal) → ((x : A × Rows Place) → r ≡ Ok x → f x.0 x.1 ≡ g x.0 x.1) → behind e f r ≡ behind e g r
  behind-same e f g (Ok x) h = h x refl
  behind-same e f g (Err d) h = refl

  words-enough : (n m : ℕ) (xs : Rows Place) → length xs < n → length xs < m → words_at p a first n xs ≡ words_at p a first m xs
  unfolding words_at
  words-enough zero m xs h k = absurd (omega arith)
  words-enough (suc n) zero xs h k = absurd (omega arith)
  words-enough (suc n) (suc m) xs h k =
      ap (λ v. cond (head_in p xs) v (first xs)) (behind-same (first xs) (λ x. words_at p a first n) (λ x. words_at p a first m) (a xs) (λ x e. words-enough n m x.1 (omega (arith, eats xs x e)) (omega (arith, eats xs x e))))

  pub words-turn : (xs : Rows Place) → head_in p xs ≡ true → times p a first xs ≡ behind (first xs) (λ x. times p a first) (a xs)
  unfolding times words_at
  words-turn xs h =
      ap (λ b. cond b (behind (first xs) (λ x. words_at p a first (length xs)) (a xs)) (first xs)) h
      ∙ behind-same (first xs) (λ x. words_at p a first (length xs)) (λ x. times p a first) (a xs) (λ x e. words-enough (length xs) (suc (length x.1)) x.1 (eats xs x e) (omega arith))

  -- what is still to be expected, behind a turn
  pub more-words : (total : Expected) (xs ys : Rows Place) (x : A) → head_in p xs ≡ true → a xs ≡ Ok (x, ys) → times p a first xs ≡ total → times p a first ys ≡ total
  more-words total xs ys x test read so_far = ap (behind (first xs) (λ x. times p a first)) (sym read) ∙ sym (words-turn xs test) ∙ so_far

  pub last-words : (e : Refused) (total : Expected) (xs : Rows Place) → head_in p xs ≡ true → Fails e (a xs) → SaysOf e (first xs) → times p a first xs ≡ total → SaysOf e total
  last-words OutOfMemory total xs test fails says so_far = tt
  last-words (At left expected) total xs test fails says so_far = says ∙ ap (behind (first xs) (λ x. times p a first)) (sym fails) ∙ sym (words-turn xs test) ∙ so_far
  last-words (TooDeep left) total xs test fails says so_far = tt

  pub words-done : (xs : Rows Place) → head_in p xs ≡ false → times p a first xs ≡ first xs
  unfolding times words_at
  words-done xs h = ap (λ b. cond b (behind (first xs) (λ x. words_at p a first (length xs)) (a xs)) (first xs)) h
