-- Fields that begin one after another, from the innermost outwards.
use Rattle.std.proofs.Common.{◌≡◌, ◌≤◌, ◌<◌, ◌+◌, ◌-◌, ◌++◌, append_assoc, append-nil, length-append, add-one, get_or, ℕ, List, [], ◌∷◌, length, take, drop, sym, ap, ◌∙◌, arith}
use Rattle.std.proofs.lemmas.List.{drop_more}
use Rattle.std.proofs.Math.Seq.{drop-length, take-length, take-suc}
use Rattle.protox_setting_bytes.specs.Bytes.{around, around_all}
use Rattle.protox_setting_bytes.specs.declared.step.Step.{Step}
use Rattle.protox_setting_bytes.specs.inner.Ends.{end_of, ends_of}

-- The fields from the ith on have begun. Behind them stand the ends of the others.
pub record AreStarted (steps : List Step) (given : List ℕ) (behind_all i : ℕ) (out : List ℕ) (behind : ℕ) : Type 0 where
  pub within : i ≤ length steps
  pub bytes_are : (bytes rest : List ℕ) → given ≡ bytes ++ (ends_of steps ++ rest) → behind_all ≡ length (ends_of steps ++ rest) → out ≡ around_all (drop i steps) bytes ++ (ends_of (take i steps) ++ rest)
  pub behind_is : (bytes rest : List ℕ) → given ≡ bytes ++ (ends_of steps ++ rest) → behind_all ≡ length (ends_of steps ++ rest) → behind ≡ length (ends_of (take i steps) ++ rest)

-- the end of the last of them stands in front
pub ends_last : (steps : List Step) (last : Step) → ends_of (steps ++ last ∷ []) ≡ end_of last ++ ends_of steps
ends_last [] last = sym (append-nil (end_of last))
ends_last (step ∷ steps) last = ap (λ ends. ends ++ end_of step) (ends_last steps last) ∙ append_assoc (end_of last) (ends_of steps) (end_of step)

-- the ends of one field more
ends_more : (steps : List Step) (i : ℕ) (d : Step) → i < length steps → ends_of (take (i + 1) steps) ≡ end_of (get_or steps i d) ++ ends_of (take i steps)
ends_more steps i d below =
    let more : take (i + 1) steps ≡ take i steps ++ get_or steps i d ∷ [] = rw add-one (take-suc steps i d below) in
    ap ends_of more ∙ ends_last (take i steps) (get_or steps i d)

-- a field more has begun
pub one_more : (steps : List Step) (given out made : List ℕ) (behind_all i behind inside : ℕ) (d : Step) → i < length steps
    → AreStarted steps given behind_all (i + 1) out behind → inside ≡ length out - behind
    → ((bytes rest : List ℕ) → out ≡ bytes ++ (end_of (get_or steps i d) ++ rest) → inside ≡ length bytes → made ≡ around (get_or steps i d) bytes ++ rest)
    → AreStarted steps given behind_all i made (behind - length (end_of (get_or steps i d)))
one_more steps given out made behind_all i behind inside d below before count begins = record {
  within = omega (arith, below);
  bytes_are = λ bytes rest is all.
      let inner = around_all (drop (i + 1) steps) bytes in
      let old : out ≡ inner ++ (ends_of (take (i + 1) steps) ++ rest) = before.bytes_are bytes rest is all in
      let split : out ≡ inner ++ (end_of step ++ (ends_of (take i steps) ++ rest)) = old ∙ ap (λ ends. inner ++ (ends ++ rest)) (ends_more steps i d below) ∙ ap (λ back. inner ++ back) (append_assoc (end_of step) (ends_of (take i steps)) rest) in
      let len : inside ≡ length inner = omega (arith, count, before.behind_is bytes rest is all, ap length old, length-append inner (ends_of (take (i + 1) steps) ++ rest)) in
      begins inner (ends_of (take i steps) ++ rest) split len
      ∙ ap (λ left. around_all left bytes ++ (ends_of (take i steps) ++ rest)) (sym (drop_more steps i d below));
  behind_is = λ bytes rest is all.
      omega (
        arith,
        before.behind_is bytes rest is all,
        ap length (ap (λ ends. ends ++ rest) (ends_more steps i d below) ∙ append_assoc (end_of step) (ends_of (take i steps)) rest),
        length-append (end_of step) (ends_of (take i steps) ++ rest),
      );
} where
  step : Step
  step = get_or steps i d

-- at first none has begun
pub none_yet : (steps : List Step) (given : List ℕ) (behind_all : ℕ) → AreStarted steps given behind_all (length steps) given behind_all
none_yet steps given behind_all = record {
  within = omega arith;
  bytes_are = λ bytes rest is all. is ∙ ap (λ left. around_all left bytes ++ (ends_of steps ++ rest)) (sym (drop-length steps)) ∙ ap (λ front. around_all (drop (length steps) steps) bytes ++ (ends_of front ++ rest)) (sym (take-length steps));
  behind_is = λ bytes rest is all. all ∙ ap (λ front. length (ends_of front ++ rest)) (sym (take-length steps));
}
