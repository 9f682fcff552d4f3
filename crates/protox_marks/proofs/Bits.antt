-- Marks as bits of words.
use Rattle.std.proofs.Common.{◌≡◌, ◌≢◌, inl, inr, ℕ, zero, suc, ◌/◌, ◌%◌, ◌^◌, ◌<◌, ◌≤◌, ◌==◌, ◌||◌, Bool, true, false, List, length, replicate, set, bit_or, max, refl, sym, ap, ◌∙◌, arith, length-set}
use Rattle.std.proofs.lemmas.Bool.Decides.{eqb_tells, leb_tells}
use Rattle.std.proofs.lemmas.List.{ext_get_or, get_or-set_same, get_or-set_other, get_or_past, length-replicate, get_or-replicate}
use Rattle.std.proofs.lemmas.List.FromFn.{length-map-range_with_len, get_or-map-range_with_len}
use Rattle.std.proofs.lemmas.Nat.Bits.{bit_at_or, bit_at-lt, bit_at-zero, bit_at-pow_same, bit_at-pow_other}
use Rattle.std.specs.Int.{bit_at}
use Rattle.std.specs.Prelude.{slice_index_or}
use Rattle.protox_marks.specs.Marks.{is_set, marks_of}

pub count_of : (words : List ℕ) (count : ℕ) → length (marks_of words count) ≡ count
count_of words count = length-map-range_with_len (is_set words) 0 count

-- A number below the count is marked if its bit is set.
pub marked_below : (words : List ℕ) (count number : ℕ) → number < count → slice_index_or (marks_of words count) number false ≡ is_set words number
marked_below words count number below = get_or-map-range_with_len (is_set words) 0 count number number false below (omega arith)

-- No other number is marked.
pub marked_past : (words : List ℕ) (count number : ℕ) → count ≤ number → slice_index_or (marks_of words count) number false ≡ false
marked_past words count number past = get_or_past (marks_of words count) number false (omega (arith, count_of words count, past))

-- What is marked as the bits are is the marks.
are_marks : (words : List ℕ) (count : ℕ) (marks : List Bool) → length marks ≡ count
    → ((number : ℕ) → number < count → is_set words number ≡ slice_index_or marks number false) → marks_of words count ≡ marks
are_marks words count marks size each =
    ext_get_or false (marks_of words count) marks (count_of words count ∙ sym size)
    (λ number below. let less : number < count = omega (arith, below, count_of words count) in marked_below words count number less ∙ each number less)

-- ---- none

alike : (size index word : ℕ) → slice_index_or (replicate size word) index word ≡ word
alike zero index word = refl
alike (suc size) zero word = refl
alike (suc size) (suc index) word = alike size index word

-- In words that are 0 nothing is marked.
pub none_marked : (size count : ℕ) → marks_of (replicate size 0) count ≡ replicate count false
none_marked size count =
    are_marks (replicate size 0) count (replicate count false) (length-replicate count false)
    (λ number below. ap (λ word. bit_at word (number % 64) == 1) (alike size (number / 64) 0) ∙ ap (λ bit. bit == 1) (bit_at-zero (number % 64)) ∙ sym (get_or-replicate count number false false below))

-- ---- one more

one_or : (bit : ℕ) → bit < 2 → (max bit 1 == 1) ≡ true
one_or zero l = refl
one_or (suc zero) l = refl
one_or (suc (suc n)) l = absurd (omega arith)

or_none : (bit : ℕ) → bit < 2 → max bit 0 ≡ bit
or_none zero l = refl
or_none (suc zero) l = refl
or_none (suc (suc n)) l = absurd (omega arith)

-- The bit is set, and no other one changes.
pub set_bit : (word bit : ℕ) → (bit_at (bit_or word (2 ^ bit)) bit == 1) ≡ true
set_bit word bit = ap (λ b. b == 1) (bit_at_or word (2 ^ bit) bit ∙ ap (max (bit_at word bit)) (bit_at-pow_same bit)) ∙ one_or (bit_at word bit) (bit_at-lt word bit)

pub other_bit : (word bit other : ℕ) → other ≢ bit → bit_at (bit_or word (2 ^ bit)) other ≡ bit_at word other
other_bit word bit other differs = bit_at_or word (2 ^ bit) other ∙ ap (max (bit_at word other)) (bit_at-pow_other bit other differs) ∙ or_none (bit_at word other) (bit_at-lt word other)

module _ (words : List ℕ) (count number : ℕ) (below : number < count) (within : number / 64 < length words) where
  abbrev pub with_bit : List ℕ
  with_bit = set words (number / 64) (bit_or (slice_index_or words (number / 64) 0) (2 ^ (number % 64)))

  set_same : is_set with_bit number ≡ true
  set_same =
      ap (λ word. bit_at word (number % 64) == 1) (get_or-set_same words (number / 64) (bit_or (slice_index_or words (number / 64) 0) (2 ^ (number % 64))) 0 within)
      ∙ set_bit (slice_index_or words (number / 64) 0) (number % 64)

  pub set_other : (other : ℕ) → other ≢ number → is_set with_bit other ≡ is_set words other
  set_other other differs = elim (eqb_tells (other / 64) (number / 64)) [
    | inl (_, same) ↦
        ap (λ index. bit_at (slice_index_or with_bit index 0) (other % 64) == 1) same
        ∙ ap (λ word. bit_at word (other % 64) == 1) (get_or-set_same words (number / 64) (bit_or (slice_index_or words (number / 64) 0) (2 ^ (number % 64))) 0 within)
        ∙ ap (λ bit. bit == 1) (other_bit (slice_index_or words (number / 64) 0) (number % 64) (other % 64) (λ left. differs (omega (arith, same, left))))
        ∙ ap (λ index. bit_at (slice_index_or words index 0) (other % 64) == 1) (sym same)
    | inr (_, apart) ↦
        ap (λ word. bit_at word (other % 64) == 1) (get_or-set_other words (number / 64) (other / 64) (bit_or (slice_index_or words (number / 64) 0) (2 ^ (number % 64))) 0 apart)
  ]

  pub one_marked : marks_of with_bit count ≡ set (marks_of words count) number true
  one_marked =
      are_marks with_bit count (set (marks_of words count) number true) (length-set (marks_of words count) number true ∙ count_of words count) each where
        each : (other : ℕ) → other < count → is_set with_bit other ≡ slice_index_or (set (marks_of words count) number true) other false
        each other less = elim (eqb_tells other number) [
          | inl (_, same) ↦
              ap (is_set with_bit) same ∙ set_same
              ∙ sym (ap (λ index. slice_index_or (set (marks_of words count) number true) index false) same ∙ get_or-set_same (marks_of words count) number true false (omega (arith, count_of words count, below)))
          | inr (_, apart) ↦
              set_other other apart ∙ sym (get_or-set_other (marks_of words count) number other true false apart ∙ marked_below words count other less)
        ]

-- ---- those of two

either : (a b : ℕ) → a < 2 → b < 2 → (max a b == 1) ≡ ((a == 1) || (b == 1))
either zero zero l m = refl
either zero (suc zero) l m = refl
either (suc zero) zero l m = refl
either (suc zero) (suc zero) l m = refl
either (suc (suc a)) b l m = absurd (omega arith)
either zero (suc (suc b)) l m = absurd (omega arith)
either (suc zero) (suc (suc b)) l m = absurd (omega arith)

-- What is marked in one of two is marked.
pub both_marked : (words old more : List ℕ) (count number : ℕ)
    → ((index : ℕ) → slice_index_or words index 0 ≡ bit_or (slice_index_or old index 0) (slice_index_or more index 0))
    → slice_index_or (marks_of words count) number false ≡ (slice_index_or (marks_of old count) number false || slice_index_or (marks_of more count) number false)
both_marked words old more count number both = elim (leb_tells count number) [
  | inr (_, below) ↦
      let bit = number % 64 in
      let index = number / 64 in
      marked_below words count number below
      ∙ ap (λ word. bit_at word bit == 1) (both index)
      ∙ ap (λ b. b == 1) (bit_at_or (slice_index_or old index 0) (slice_index_or more index 0) bit)
      ∙ either (bit_at (slice_index_or old index 0) bit) (bit_at (slice_index_or more index 0) bit) (bit_at-lt (slice_index_or old index 0) bit) (bit_at-lt (slice_index_or more index 0) bit)
      ∙ rw (marked_below old count number below, marked_below more count number below) refl
  | inl (_, past) ↦
      rw (marked_past words count number past, marked_past old count number past, marked_past more count number past) refl
]

-- ---- no bit for other numbers

pub neither_set : (words old more : List ℕ) (number : ℕ) → ((index : ℕ) → slice_index_or words index 0 ≡ bit_or (slice_index_or old index 0) (slice_index_or more index 0)) → is_set old number ≡ false → is_set more number ≡ false → is_set words number ≡ false
neither_set words old more number both one other =
    let bit = number % 64 in
    let index = number / 64 in
    ap (λ word. bit_at word bit == 1) (both index)
    ∙ ap (λ b. b == 1) (bit_at_or (slice_index_or old index 0) (slice_index_or more index 0) bit)
    ∙ either (bit_at (slice_index_or old index 0) bit) (bit_at (slice_index_or more index 0) bit) (bit_at-lt (slice_index_or old index 0) bit) (bit_at-lt (slice_index_or more index 0) bit)
    ∙ ap (λ b. b || is_set more number) one ∙ other
