-- Stretches of a source, and how one goes on where the one before it ends.
use Rattle.std.proofs.Common.{◌≡◌, ◌<◌, ◌≤◌, ◌+◌, ◌-◌, take, drop, inl, inr, length, arith, ℕ, List, [], ◌∷◌, ◌++◌, sym, ap, ◌∙◌, subst, append-nil, append_assoc, length-append}
use Rattle.std.proofs.lemmas.Bool.{cases_lt}
use Rattle.std.proofs.lemmas.List.Elements.{All-append}
use Rattle.std.proofs.Math.Seq.{take-append-add}
use Rattle.std.specs.List.{All}
use Rattle.protox_lexeme.specs.Lexemes.{Lexeme, cut}
use Rattle.protox_lex.specs.Parts.{EndsAt, IsReach}
use Rattle.protox_lex.specs.inner.Stretches.{IsStretch}
use Rattle.protox_lex.proofs.Tables.{none_at_end}

-- A stretch reaches the place that it is cut up to.
pub reach_of : (source : List ℕ) (from until end : ℕ) (xs : List Lexeme) → IsStretch source from until xs end → IsReach source from until end
reach_of source from until end xs s = record { lexemes = xs; ends = s.ends; before = s.before; stops = s.stops }

-- The lexemes of both stretches end where the second does.
pub ends_joined : (source : List ℕ) (from mid end : ℕ) (xs ys : List Lexeme) → EndsAt source from xs mid → EndsAt source mid ys end → EndsAt source from (xs ++ ys) end
ends_joined source from mid end xs ys first second =
    first ∙ ap (λ zs. xs ++ zs) second ∙ sym (append_assoc xs ys (cut end (drop end source)))

-- All but the last of two lists together: all of the first list, and all but the last of the second.
all_but_last : (xs : List Lexeme) (y : Lexeme) (ys : List Lexeme) → take (length (xs ++ y ∷ ys) - 1) (xs ++ y ∷ ys) ≡ xs ++ take (length (y ∷ ys) - 1) (y ∷ ys)
all_but_last xs y ys =
    let count : length (xs ++ y ∷ ys) - 1 ≡ length xs + (length (y ∷ ys) - 1) = let more = length-append xs (y ∷ ys) in omega (arith, more) in
    ap (λ n. take n (xs ++ y ∷ ys)) count ∙ take-append-add xs (y ∷ ys) (length (y ∷ ys) - 1)

-- Where a lexeme is left, the source has not ended.
goes_on : (source : List ℕ) (mid end : ℕ) (y : Lexeme) (ys : List Lexeme) → EndsAt source mid (y ∷ ys) end → mid < length source
goes_on source mid end y ys ends = elim (cases_lt mid (length source)) [
  | inl lt ↦ lt
  | inr past ↦ let none = sym (none_at_end source mid past) ∙ ends in absurd (cc)
]

before_joined : (source : List ℕ) (from until mid end : ℕ) (xs ys : List Lexeme) → until ≤ length source → IsStretch source from until xs mid → IsStretch source mid (length source) ys end
    → All (λ x. x.stop < length source) (take (length (xs ++ ys) - 1) (xs ++ ys))
before_joined source from until mid end xs [] fits first second =
    let P : List Lexeme → Type 0 = λ zs. All (λ x. x.stop < length source) (take (length zs - 1) zs) in
    subst P (sym (append-nil xs)) (λ k d h. let earlier = first.before k d h in omega (arith, earlier, fits))
before_joined source from until mid end xs (y ∷ ys) fits first second =
    let more = goes_on source mid end y ys second.ends in
    subst (All (λ x. x.stop < length source)) (sym (all_but_last xs y ys))
    (All-append (λ x. x.stop < length source) xs (take (length (y ∷ ys) - 1) (y ∷ ys)) (λ k d h. let earlier = first.stopped k d h in omega (arith, earlier, more)) second.before)

-- A stretch, and then the rest of the source.
pub reach_joined : (source : List ℕ) (from until mid end : ℕ) (xs ys : List Lexeme) → until ≤ length source → end ≡ length source → IsStretch source from until xs mid → IsStretch source mid (length source) ys end
    → IsReach source from (length source) end
reach_joined source from until mid end xs ys fits at_end first second =
    let ends = ends_joined source from mid end xs ys first.ends second.ends in
    record {
      lexemes = xs ++ ys;
      ends = ends;
      before = before_joined source from until mid end xs ys fits first second;
      stops = inr (at_end, ends ∙ ap (λ zs. (xs ++ ys) ++ zs) (none_at_end source end (omega (arith, at_end))) ∙ append-nil (xs ++ ys));
    }
