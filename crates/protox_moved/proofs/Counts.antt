-- How many moves begin before a path, in moves that are sorted by where they begin; and what is left of
-- a list by a test that keeps a guess.
use Rattle.std.proofs.Common.{◌≡◌, ℕ, ◌-◌, ◌<◌, ◌≤◌, Bool, true, false, cond, List, [], ◌∷◌, length, get_or, refl, sym, ap, ◌∙◌, arith, inl, inr}
use Rattle.std.specs.Prelude.{ℤ}
use Rattle.std.specs.List.{AllWithin, filter, items_where_true}
use Rattle.std.specs.List.Retain.{IsFiltered, ReturnsInTurn}
use Rattle.std.proofs.lemmas.Bool.{cases_Bool, false≢true}
use Rattle.protox_moved.specs.declared.Move.{Move}
use Rattle.protox_moved.specs.inner.Sorting.{AreByStart, is_before}
use Rattle.protox_moved.proofs.Finding.{start-parted}

-- If the last move that is counted begins before the path, all that are counted do; and if the next one
-- doesn't, no other does.
module _ (moves : List Move) (path : List ℤ) (count : ℕ) (sorted : AreByStart moves) where
  pub counted-before : count ≤ length moves
      → ((m : Move) → 0 < count → is_before (get_or moves (count - 1) m).from path ≡ true)
      → AllWithin (λ (m : Move). is_before m.from path ≡ true) moves 0 count
  counted-before bound last k d low less =
      start-parted moves path sorted k (count - 1) d (omega arith) (omega arith) (last d (omega arith))

  pub counted-from : ((m : Move) → count < length moves → is_before (get_or moves count m).from path ≡ false)
      → AllWithin (λ (m : Move). is_before m.from path ≡ false) moves count (length moves)
  counted-from next k d low less = elim (cases_Bool (is_before (get_or moves k d).from path)) [
    | inl hit ↦
        absurd (false≢true (sym (next d (omega arith)) ∙ start-parted moves path sorted count k d low less hit))
    | inr miss ↦ miss
  ]

-- The answers of a test are those of a function, as long as its state has I, and it keeps I.
module _ {State X : Type 0} (answers : State → X → Bool → State → Type 0) (I : State → Type 0) (test : X → Bool)
    (says : (s : State) (x : X) (b : Bool) (t : State) → I s → answers s x b t → (b ≡ test x) × I t) where
  told : (s t : State) (bs : List Bool) (xs : List X) → I s → length bs ≡ length xs
      → ReturnsInTurn answers s bs xs t → items_where_true bs xs ≡ filter test xs
  told s t [] [] i e turn = refl
  told s t [] (x ∷ xs) i e turn = absurd (omega arith)
  told s t (b ∷ bs) [] i e turn = absurd turn
  told s t (b ∷ bs) (x ∷ xs) i e turn =
      let said = says s x b turn.0 i turn.1 in
      go b (test x) said.0 (told turn.0 t bs xs said.1 (omega arith) turn.2)
    where
      go : (a c : Bool) → a ≡ c → items_where_true bs xs ≡ filter test xs
          → items_where_true (a ∷ bs) (x ∷ xs) ≡ cond c (x ∷ filter test xs) (filter test xs)
      go true true same rest = ap (λ l. x ∷ l) rest
      go true false same rest = absurd (false≢true (sym same))
      go false true same rest = absurd (false≢true same)
      go false false same rest = rest

  pub kept_by_test : (s : State) (xs ys : List X) → I s → IsFiltered answers s xs ys → ys ≡ filter test xs
  kept_by_test s xs ys i left = left.4 ∙ told s left.1 left.0 xs i left.2 left.3
