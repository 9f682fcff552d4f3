-- What is known of the bytes at the front of a text that fits a pattern.
use Rattle.std.proofs.Common.{◌≡◌, ℕ, zero, suc, ◌+◌, ◌-◌, ◌≤◌, Bool, true, false, ltb, inl, inr, List, [], ◌∷◌, length, drop, get_or, refl, sym, ◌∙◌, subst, length-drop, le_trans, arith}
use Rattle.std.proofs.lemmas.Bool.{cases_Bool, true≢false, false≢true, ltb-true, ltb-false}
use Rattle.std.proofs.lemmas.List.Sums.{prefix_len_passes, prefix_len-le-length}
use Rattle.std.specs.List.{prefix_len}
use Rattle.protox_lexeme.specs.Pattern.{Pattern, one, many, ◌⋅◌, ◌∣◌, maybe, some, Fits}

-- the first byte passes
pub first_passes : (p : ℕ → Bool) (text : List ℕ) → 1 ≤ prefix_len p text → p (get_or text 0 0) ≡ true
first_passes p text h = prefix_len_passes p text 0 0 (omega arith)

-- The first byte passes, if 0 doesn't.
pub passes_first : (p : ℕ → Bool) (text : List ℕ) → p 0 ≡ false → p (get_or text 0 0) ≡ true → 1 ≤ prefix_len p text
passes_first p [] z h = absurd (false≢true (sym z ∙ h))
passes_first p (b ∷ text) z h = rw h (omega arith)

pub some_bounds : (p : ℕ → Bool) (text : List ℕ) (n : ℕ) → Fits (some p) text n → (1 ≤ n) × (n ≤ prefix_len p text)
some_bounds p [] n (i, j, e, a, b) = absurd (omega arith)
some_bounds p (c ∷ text) n (i, j, e, a, b) =
    let passes : p c ≡ true = first_passes p (c ∷ text) a.1 in
    let rest : j ≤ prefix_len p text = rw (a.0) at b in
    (omega arith, rw passes (omega arith))

pub some_fits : (p : ℕ → Bool) (text : List ℕ) (n : ℕ) → 1 ≤ n → n ≤ prefix_len p text → Fits (some p) text n
some_fits p [] n low high = absurd (omega arith)
some_fits p (c ∷ text) n low high =
    let passes : p c ≡ true = first_passes p (c ∷ text) (omega arith) in
    let whole : n ≤ 1 + prefix_len p text = rw passes at high in
    (1, n - 1, omega arith, (refl, omega arith), omega arith)

-- A run is whole if it ends before a byte that doesn't pass.
pub run_ends : (p : ℕ → Bool) (text : List ℕ) (i : ℕ) → i ≤ prefix_len p text → p (get_or text i 0) ≡ false → i ≡ prefix_len p text
run_ends p text i h stops =
    elim (cases_Bool (ltb i (prefix_len p text))) [
      | inl less ↦ absurd (true≢false (sym (prefix_len_passes p text i 0 (omega (arith, ltb-true))) ∙ stops))
      | inr other ↦ omega (arith, ltb-false)
    ]

-- a byte that passes, and then a pattern
pub one_then : (p : ℕ → Bool) (q : Pattern) (b : ℕ) (text : List ℕ) (n : ℕ) → Fits (one p ⋅ q) (b ∷ text) n
    → (m : ℕ) × (n ≡ suc m) × (p b ≡ true) × Fits q text m
one_then p q b text n (i, j, e, (is_one, h), f) =
    let P : ℕ → Type 0 = λ k. Fits q (drop k (b ∷ text)) j in
    (j, omega arith, first_passes p (b ∷ text) h, subst P is_one f)

pub one_then_empty : (p : ℕ → Bool) (q : Pattern) (n : ℕ) → Fits (one p ⋅ q) [] n → ⊥
one_then_empty p q n (i, j, e, (is_one, h), f) = absurd (omega arith)

pub then_one : (p : ℕ → Bool) (q : Pattern) (b : ℕ) (text : List ℕ) (m : ℕ) → p b ≡ true → Fits q text m → Fits (one p ⋅ q) (b ∷ text) (suc m)
then_one p q b text m passes f = (1, m, omega arith, (refl, rw passes (omega arith)), f)

-- No run begins with a byte that doesn't pass.
pub no_run : (p : ℕ → Bool) (text : List ℕ) → p (get_or text 0 0) ≡ false → prefix_len p text ≡ 0
no_run p [] h = refl
no_run p (b ∷ text) h = rw h

pub run_more : (p : ℕ → Bool) (b : ℕ) (text : List ℕ) → p b ≡ true → prefix_len p (b ∷ text) ≡ suc (prefix_len p text)
run_more p b text h = rw h (omega arith)

-- A text that fits one byte and then a pattern has such a byte first. The rest fits the pattern.
pub one_then_rest : (p : ℕ → Bool) (q : Pattern) (text : List ℕ) (n : ℕ) → Fits (one p ⋅ q) text n
    → (m : ℕ) × (n ≡ suc m) × (p (get_or text 0 0) ≡ true) × Fits q (drop 1 text) m
one_then_rest p q [] n f = absurd (one_then_empty p q n f)
one_then_rest p q (b ∷ text) n f = one_then p q b text n f

pub then_one_rest : (p : ℕ → Bool) (q : Pattern) (text : List ℕ) (m : ℕ) → 1 ≤ prefix_len p text → Fits q (drop 1 text) m → Fits (one p ⋅ q) text (suc m)
then_one_rest p q text m starts f = (1, m, omega arith, (refl, starts), f)

-- A front that fits is no longer than the text.
pub fits_within : (p : Pattern) (text : List ℕ) (n : ℕ) → Fits p text n → n ≤ length text
fits_within (one p) text n (is_one, starts) = let within = prefix_len-le-length p text in omega arith
fits_within (many p) text n run = le_trans run (prefix_len-le-length p text)
fits_within (a ⋅ b) text n (i, j, size, f, g) =
    let front = fits_within a text i f in
    let back = fits_within b (drop i text) j g in
    omega (arith, length-drop i text)
fits_within (a ∣ b) text n (inl f) = fits_within a text n f
fits_within (a ∣ b) text n (inr f) = fits_within b text n f
fits_within (maybe a) text n (inl none) = omega arith
fits_within (maybe a) text n (inr f) = fits_within a text n f

-- ---- bytes of one kind

-- Whatever passes p passes q. Then the same for all tests of a pattern: what passes one passes q.
abbrev pub In : (ℕ → Bool) → (ℕ → Bool) → Type 0
In q p = (b : ℕ) → p b ≡ true → q b ≡ true

abbrev pub OnlyIn : (ℕ → Bool) → Pattern → Type 0
OnlyIn q (one p) = In q p
OnlyIn q (many p) = In q p
OnlyIn q (a ⋅ b) = OnlyIn q a × OnlyIn q b
OnlyIn q (a ∣ b) = OnlyIn q a × OnlyIn q b
OnlyIn q (maybe a) = OnlyIn q a

run_within : (p q : ℕ → Bool) (text : List ℕ) → In q p → prefix_len p text ≤ prefix_len q text
run_within p q [] f = omega arith
run_within p q (b ∷ text) f = elim (cases_Bool (p b)) [
  | inl e ↦ let more = run_within p q text f in rw (e, f b e) (omega arith)
  | inr e ↦ rw e (omega arith)
]

run_on : (q : ℕ → Bool) (i : ℕ) (text : List ℕ) → i ≤ prefix_len q text → i + prefix_len q (drop i text) ≤ prefix_len q text
run_on q zero text h = omega arith
run_on q (suc i) [] h = absurd (omega arith)
run_on q (suc i) (b ∷ text) h =
    let passes : q b ≡ true = first_passes q (b ∷ text) (omega arith) in
    let within : suc i ≤ 1 + prefix_len q text = rw passes at h in
    let more = run_on q i text (omega arith) in
    rw passes (omega arith)

-- a front that fits is a run
pub only_bound : (q : ℕ → Bool) (p : Pattern) (text : List ℕ) (n : ℕ) → OnlyIn q p → Fits p text n → n ≤ prefix_len q text
only_bound q (one p) text n only (is_one, starts) = let within = run_within p q text only in omega arith
only_bound q (many p) text n only run = le_trans run (run_within p q text only)
only_bound q (a ⋅ b) text n only (i, j, size, f, g) =
    let front = only_bound q a text i only.0 f in
    let back = only_bound q b (drop i text) j only.1 g in
    let all = run_on q i text front in
    omega arith
only_bound q (a ∣ b) text n only (inl f) = only_bound q a text n only.0 f
only_bound q (a ∣ b) text n only (inr f) = only_bound q b text n only.1 f
only_bound q (maybe a) text n only (inl none) = omega arith
only_bound q (maybe a) text n only (inr f) = only_bound q a text n only f
