-- The first fault of the list. It is the fault of the first row with a fault in its mode, or the
-- first noted fault: the one that comes first.
use Rattle.std.proofs.Common.{◌≡◌, ◌≤◌, ◌<◌, ◌+◌, ◌-◌, ◌⊎◌, ℕ, zero, suc, List, [], ◌∷◌, ◌++◌, refl, sym, ap, subst, ◌∙◌, arith, inl, inr}
use Rattle.std.proofs.lemmas.Bool.{cases_lt}
use Rattle.protox_fault.specs.declared.error.ParseErrorKind.{ParseErrorKind}
use Rattle.protox_grammar.specs.Told.{Notes, IsFaultless}
use Rattle.protox_grammar.specs.declared.note.Noted.TheVariants.{Fault}
use Rattle.protox_syntax.specs.inner.Merge.{merged_faults}
use Rattle.protox_syntax.proofs.Merging.{Fall}
use Rattle.protox_syntax.proofs.MergeParts.{DownTo, all_from, note_at, seen_faults, merged_faults-note, merged_faults-rows}

abbrev Faults : Type 0
Faults = List ParseErrorKind

-- ---- the first row that has a fault

-- the list begins with this fault
abbrev pub HasFirst : ParseErrorKind → Faults → Type 0
HasFirst f all = (more : Faults) × (all ≡ f ∷ more)

-- none of the first `n` rows has a fault
abbrev pub AreClearBelow : (ℕ → Faults) → ℕ → Type 0
AreClearBelow g n = (j : ℕ) → j < n → g j ≡ []

-- One of the first `n` rows is the first with a fault, and the list begins with its first fault.
pub record IsFirstRow (g : ℕ → Faults) (n : ℕ) (all : Faults) : Type 0 where
  pub row : ℕ
  pub fault : ParseErrorKind
  pub within : row < n
  pub begins : HasFirst fault all
  pub here : HasFirst fault (g row)
  pub before : AreClearBelow g row

pub has-first-on : (f : ParseErrorKind) (all more : Faults) → HasFirst f all → HasFirst f (all ++ more)
has-first-on f all more h = (h.0 ++ more, ap (λ v. v ++ more) h.1)

pub has-first-as : (f : ParseErrorKind) (all same : Faults) → same ≡ all → HasFirst f all → HasFirst f same
has-first-as f all same e h = (h.0, e ∙ h.1)

-- A list that begins with the rows begins with their first fault.
pub first-row-on : (g : ℕ → Faults) (n : ℕ) (all more longer : Faults) → longer ≡ all ++ more → IsFirstRow g n all → IsFirstRow g n longer
first-row-on g n all more longer e r =
    record { row = r.row; fault = r.fault; within = r.within; begins = has-first-as r.fault (all ++ more) longer e (has-first-on r.fault all more r.begins); here = r.here; before = r.before }

-- The rows have the same faults in other words.
pub first-row-as : (g h : ℕ → Faults) (n : ℕ) (all : Faults) → ((k : ℕ) → k < n → h k ≡ g k) → IsFirstRow g n all → IsFirstRow h n all
first-row-as g h n all same r = record {
  row = r.row;
  fault = r.fault;
  within = r.within;
  begins = r.begins;
  here = has-first-as r.fault (g r.row) (h r.row) (same r.row r.within) r.here;
  before = λ j l. same j (omega (arith, l, r.within)) ∙ r.before j l;
}

one-more : (g : ℕ → Faults) (n : ℕ) (here : Faults) → g n ≡ here → (all_from g 0 n ≡ []) × AreClearBelow g n
    → ((all_from g 0 n ++ g n ≡ []) × AreClearBelow g (suc n)) ⊎ IsFirstRow g (suc n) (all_from g 0 n ++ g n)
one-more g n [] e h = inl (
  (λ i. h.0 i ++ e i),
  λ j l. elim (cases_lt j n) [
    | inl lt ↦ h.1 j lt
    | inr le ↦ let same : n ≡ j = omega (arith, l, le) in subst (λ v. g v ≡ []) same e
  ],
)
one-more g n (f ∷ more) e h = inr (
    record { row = n; fault = f; within = omega arith; begins = (more, λ i. h.0 i ++ e i); here = (more, e); before = h.1 }
    )

next-row : (g : ℕ → Faults) (n : ℕ) → ((all_from g 0 n ≡ []) × AreClearBelow g n) ⊎ IsFirstRow g n (all_from g 0 n)
    → ((all_from g 0 n ++ g n ≡ []) × AreClearBelow g (suc n)) ⊎ IsFirstRow g (suc n) (all_from g 0 n ++ g n)
next-row g n (inl h) = one-more g n (g n) refl h
next-row g n (inr r) = inr (
    record { row = r.row; fault = r.fault; within = omega (arith, r.within); begins = has-first-on r.fault (all_from g 0 n) (g n) r.begins; here = r.here; before = r.before }
    )

-- Either no row has a fault, or there is a first that has one.
pub first-row : (g : ℕ → Faults) (n : ℕ) → ((all_from g 0 n ≡ []) × AreClearBelow g n) ⊎ IsFirstRow g n (all_from g 0 n)
first-row g zero = inl (refl, λ j l. absurd (omega (arith, l)))
first-row g (suc n) =
    let place : n ≡ 0 + n = omega arith in
    subst (λ v. ((all_from g 0 n ++ g v ≡ []) × AreClearBelow g (suc n)) ⊎ IsFirstRow g (suc n) (all_from g 0 n ++ g v)) place (next-row g n (first-row g n))

-- ---- the first fault

module _ (faults : List Faults) (total : ℕ) where
  -- If no note is a fault: either no row up to there has a fault in its mode, or the list begins
  -- with that of the first that has one.
  pub first-row-to : (ns : Notes) (bound l : ℕ) → IsFaultless ns → Fall bound ns → DownTo l ns
      → ((merged_faults faults total ns l ≡ []) × AreClearBelow (seen_faults faults total ns) (total - l)) ⊎ IsFirstRow (seen_faults faults total ns) (total - l) (merged_faults faults total ns l)
  first-row-to ns bound l fine falls down =
      let g = seen_faults faults total ns in
      subst (λ v. ((v ≡ []) × AreClearBelow g (total - l)) ⊎ IsFirstRow g (total - l) v) (sym (merged_faults-rows faults total ns bound l fine falls down)) (first-row g (total - l))

  -- Up to a noted fault: either some row before it is the first with a fault in its mode, by the
  -- notes before; or none has one, and the list begins with the noted fault. The notes behind it
  -- may be any.
  pub front-first : (a b : Notes) (f : ParseErrorKind) (bound l left : ℕ) → IsFaultless a → Fall bound a → DownTo l a
      → IsFirstRow (seen_faults faults total a) (total - l) (merged_faults faults total (a ++ note_at l (Fault f) ∷ b) left)
      ⊎ (HasFirst f (merged_faults faults total (a ++ note_at l (Fault f) ∷ b) left) × AreClearBelow (seen_faults faults total a) (total - l))
  front-first a b f bound l left fine falls down =
      let w = merged_faults-note faults total a b f l left in
      elim (first-row-to a bound l fine falls down) [
        | inl h ↦ inr ((w.0, w.1 ∙ ap (λ v. v ++ f ∷ w.0) h.0), h.1)
        | inr r ↦ inl (first-row-on (seen_faults faults total a) (total - l) (merged_faults faults total a l) (f ∷ w.0) (merged_faults faults total (a ++ note_at l (Fault f) ∷ b) left) w.1 r)
      ]
