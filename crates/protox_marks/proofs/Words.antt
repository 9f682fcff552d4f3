-- Words of few marks, and marks that are in both.
use Rattle.std.proofs.Common.{◌≡◌, ◌≢◌, inl, inr, ℕ, zero, suc, ◌/◌, ◌%◌, ◌*◌, ◌+◌, ◌^◌, ◌<◌, ◌≤◌, ◌==◌, ◌||◌, ◌&&◌, ◌⊎◌, Bool, true, false, List, [], ◌∷◌, ◌++◌, length, set, get_or, bit_or, length-set, min, refl, sym, ap, ◌∙◌, arith}
use Rattle.std.proofs.lemmas.Bool.{false≢true}
use Rattle.std.proofs.lemmas.Bool.Decides.{Decides-eqb, eqb_tells, leb_tells}
use Rattle.std.proofs.lemmas.List.{ext_get_or, get_or-set_other, get_or-set_same}
use Rattle.std.proofs.lemmas.Nat.Bits.{bit_at_and, bit_at_above, bit_at_lowest, bit_at-lt, bit_at-pow_other, bit_at-pow_same, bit_at-suc, bit_at-zero}
use Rattle.std.specs.Int.{bit_at}
use Rattle.std.specs.Int.Bits.{bit_and}
use Rattle.std.specs.Prelude.{slice_index_or}
use Rattle.protox_marks.specs.Few.{has, holds}
use Rattle.protox_marks.specs.Marks.{any_marked, is_set, marks_of}
use Rattle.protox_marks.proofs.Bits.{marked_below, marked_past, other_bit, set_bit}
use Rattle.protox_marks.specs.declared.few.FewWord.{FewWord}

pub true_or_false : (b : Bool) → (b ≡ true) ⊎ (b ≡ false)
true_or_false true = inl refl
true_or_false false = inr refl

-- ---- a number that is in both

-- one is found
pub any_found : (marks : List Bool) (told : ℕ → Bool) → any_marked marks told ≡ true → (n : ℕ) × (slice_index_or marks n false ≡ true) × (told n ≡ true)
any_found [] told is = absurd (false≢true is)
any_found (true ∷ marks) told is = elim (true_or_false (told 0)) [
  | inl first ↦ (0, refl, first)
  | inr none ↦
      let more = any_found marks (λ n. told (suc n)) (sym (ap (λ b. b || any_marked marks (λ n. told (suc n))) none) ∙ is) in
      (suc more.0, more.1, more.2)
]
any_found (false ∷ marks) told is =
    let more = any_found marks (λ n. told (suc n)) is in
    (suc more.0, more.1, more.2)

or_right : (b : Bool) → (b || true) ≡ true
or_right true = refl
or_right false = refl

-- each tells
pub found_any : (marks : List Bool) (told : ℕ → Bool) (n : ℕ) → slice_index_or marks n false ≡ true → told n ≡ true → any_marked marks told ≡ true
found_any [] told zero marked is = absurd (false≢true marked)
found_any [] told (suc n) marked is = absurd (false≢true marked)
found_any (mark ∷ marks) told zero marked is = ap (λ b. (b && told 0) || any_marked marks (λ n. told (suc n))) marked ∙ ap (λ b. b || any_marked marks (λ n. told (suc n))) is
found_any (mark ∷ marks) told (suc n) marked is = ap (λ b. (mark && told 0) || b) (found_any marks (λ n. told (suc n)) n marked is) ∙ or_right (mark && told 0)

pub not_any : (marks : List Bool) (told : ℕ → Bool) → ((n : ℕ) → slice_index_or marks n false ≡ true → told n ≡ true → ⊥) → any_marked marks told ≡ false
not_any marks told none = elim (true_or_false (any_marked marks told)) [
  | inr none_is ↦ none_is
  | inl one_is ↦ let found = any_found marks told one_is in absurd (none found.0 found.1 found.2)
]

distribute : (m a b x y : Bool) → ((m && (a || b)) || (x || y)) ≡ (((m && a) || x) || ((m && b) || y))
distribute true true b x y = refl
distribute true false true true y = refl
distribute true false true false y = refl
distribute true false false true y = refl
distribute true false false false y = refl
distribute false a b true y = refl
distribute false a b false y = refl

-- among those that one of two tells
pub any_either : (marks : List Bool) (one other : ℕ → Bool) → any_marked marks (λ n. one n || other n) ≡ (any_marked marks one || any_marked marks other)
any_either [] one other = refl
any_either (mark ∷ marks) one other =
    ap (λ more. (mark && (one 0 || other 0)) || more) (any_either marks (λ n. one (suc n)) (λ n. other (suc n)))
    ∙ distribute mark (one 0) (other 0) (any_marked marks (λ n. one (suc n))) (any_marked marks (λ n. other (suc n)))

pub none_among : (marks : List Bool) → any_marked marks (λ n. false) ≡ false
none_among [] = refl
none_among (true ∷ marks) = none_among marks
none_among (false ∷ marks) = none_among marks

-- ---- bits

-- a number that is not zero has a bit
some_bit : (fuel word : ℕ) → word ≤ fuel → word ≢ 0 → (i : ℕ) × (bit_at word i ≡ 1)
some_bit zero word small some = absurd (some (omega (arith, small)))
some_bit (suc fuel) word small some = elim (eqb_tells (word % 2) 1) [
  | inl (_, odd) ↦ (0, bit_at_lowest word ∙ odd)
  | inr (_, even) ↦
      let rest = some_bit fuel (word / 2) (omega (arith, small)) (λ none. some (omega (arith, none, even))) in
      (suc rest.0, bit_at-suc word rest.0 ∙ rest.1)
]

both_bits : (a b : ℕ) → a < 2 → b < 2 → min a b ≡ 1 → (a ≡ 1) × (b ≡ 1)
both_bits (suc zero) (suc zero) l m is = (refl, refl)
both_bits zero b l m is = absurd (omega (arith, is))
both_bits (suc zero) zero l m is = absurd (omega (arith, is))
both_bits (suc (suc a)) b l m is = absurd (omega (arith, l))
both_bits (suc zero) (suc (suc b)) l m is = absurd (omega (arith, m))

-- two words that share something share a bit
pub shared_bit : (a b : ℕ) → a < 2 ^ 64 → bit_and a b ≢ 0 → (i : ℕ) × (i < 64) × (bit_at a i ≡ 1) × (bit_at b i ≡ 1)
shared_bit a b small some =
    let found = some_bit (bit_and a b) (bit_and a b) (omega arith) some in
    let i = found.0 in
    let both = both_bits (bit_at a i) (bit_at b i) (bit_at-lt a i) (bit_at-lt b i) (sym (bit_at_and a b i) ∙ found.1) in
    elim (leb_tells 64 i) [
      | inl (_, above) ↦ let gone = bit_at_above a 64 i small above in absurd (omega (arith, gone, both.0))
      | inr (_, below) ↦ (i, below, both.0, both.1)
    ]

-- a bit that both have, the words share
pub bit_shared : (a b i : ℕ) → bit_at a i ≡ 1 → bit_at b i ≡ 1 → bit_and a b ≢ 0
bit_shared a b i here there none =
    let gone = sym (ap (λ word. bit_at word i) none) ∙ bit_at_and a b i in
    let left = bit_at-zero i in
    let both = ap (λ x. min x (bit_at b i)) here ∙ ap (min 1) there in
    absurd (omega (arith, gone, left, both))

-- ---- one more mark among few

or_none : (b : Bool) → b ≡ (b || false)
or_none true = refl
or_none false = refl

-- a number's bit is set in its word
has_more : (word : FewWord) (number n : ℕ) → word.index ≡ number / 64 → has (record { index = word.index; bits = bit_or word.bits (2 ^ (number % 64)) }) n ≡ (has word n || (n == number))
has_more word number n here = elim (eqb_tells n number) [
  | inl (is, same) ↦
      ap (λ i. (i == n / 64) && (bit_at (bit_or word.bits (2 ^ (number % 64))) (n % 64) == 1)) (here ∙ sym (ap (λ m. m / 64) same))
      ∙ ap (λ b. b && (bit_at (bit_or word.bits (2 ^ (number % 64))) (n % 64) == 1)) ((Decides-eqb (n / 64) (n / 64)).1 refl)
      ∙ ap (λ m. bit_at (bit_or word.bits (2 ^ (number % 64))) (m % 64) == 1) same
      ∙ set_bit word.bits (number % 64)
      ∙ sym (or_right (has word n)) ∙ ap (λ b. has word n || b) (sym is)
  | inr (isnt, apart) ↦ elim (eqb_tells word.index (n / 64)) [
    | inr (other, _) ↦
        ap (λ b. b && (bit_at (bit_or word.bits (2 ^ (number % 64))) (n % 64) == 1)) other
        ∙ sym isnt ∙ sym (ap (λ b. (b && (bit_at word.bits (n % 64) == 1)) || (n == number)) other)
    | inl (_, same) ↦
        ap (λ bit. (word.index == n / 64) && (bit == 1)) (other_bit word.bits (number % 64) (n % 64) (λ left. apart (omega (arith, here, same, left))))
        ∙ or_none (has word n) ∙ ap (λ b. has word n || b) (sym isnt)
  ]
]

or_swap : (a b c : Bool) → ((a || b) || c) ≡ ((a || c) || b)
or_swap true b c = refl
or_swap false true true = refl
or_swap false true false = refl
or_swap false false true = refl
or_swap false false false = refl

or_assoc : (a b c : Bool) → (a || (b || c)) ≡ ((a || b) || c)
or_assoc true b c = refl
or_assoc false b c = refl

-- one word has one number more
pub word_more : (words : List FewWord) (i : ℕ) (old new : FewWord) (n : ℕ) (more : Bool) → i < length words → get_or words i old ≡ old → has new n ≡ (has old n || more) → holds (set words i new) n ≡ (holds words n || more)
word_more [] i old new n more within here is = absurd (omega (arith, within))
word_more (word ∷ words) zero old new n more within here is =
    ap (λ b. b || holds words n) (is ∙ ap (λ w. has w n || more) (sym here)) ∙ or_swap (has word n) more (holds words n)
word_more (word ∷ words) (suc i) old new n more within here is =
    ap (λ b. has word n || b) (word_more words i old new n more (omega (arith, within)) here is) ∙ or_assoc (has word n) (holds words n) more

pub mark_more : (words : List FewWord) (i number : ℕ) (old : FewWord) (n : ℕ) → i < length words → get_or words i old ≡ old → old.index ≡ number / 64
    → holds (set words i (record { index = old.index; bits = bit_or old.bits (2 ^ (number % 64)) })) n ≡ (holds words n || (n == number))
mark_more words i number old n within here same = word_more words i old _ n (n == number) within here (has_more old number n same)

-- a word of one bit
has_one : (number n : ℕ) → has (record { index = number / 64; bits = 2 ^ (number % 64) }) n ≡ (n == number)
has_one number n = elim (eqb_tells n number) [
  | inl (is, same) ↦
      ap (λ m. (number / 64 == m / 64) && (bit_at (2 ^ (number % 64)) (m % 64) == 1)) same
      ∙ ap (λ b. b && (bit_at (2 ^ (number % 64)) (number % 64) == 1)) ((Decides-eqb (number / 64) (number / 64)).1 refl)
      ∙ ap (λ bit. bit == 1) (bit_at-pow_same (number % 64))
      ∙ sym is
  | inr (isnt, apart) ↦ elim (eqb_tells (number / 64) (n / 64)) [
    | inr (other, _) ↦ ap (λ b. b && (bit_at (2 ^ (number % 64)) (n % 64) == 1)) other ∙ sym isnt
    | inl (is, same) ↦
        ap (λ b. b && (bit_at (2 ^ (number % 64)) (n % 64) == 1)) is
        ∙ ap (λ bit. bit == 1) (bit_at-pow_other (number % 64) (n % 64) (λ left. apart (omega (arith, same, left)))) ∙ sym isnt
  ]
]

-- a word more
pub mark_pushed : (words : List FewWord) (number n : ℕ) → holds (words ++ record { index = number / 64; bits = 2 ^ (number % 64) } ∷ []) n ≡ (holds words n || (n == number))
mark_pushed [] number n = sym (or_none (has (record { index = number / 64; bits = 2 ^ (number % 64) }) n)) ∙ has_one number n
mark_pushed (word ∷ words) number n = ap (λ b. has word n || b) (mark_pushed words number n) ∙ or_assoc (has word n) (holds words n) (n == number)

-- ---- marks and a word

both_true : (a b : Bool) → (a && b) ≡ true → (a ≡ true) × (b ≡ true)
both_true true b is = (refl, is)
both_true false b is = absurd (false≢true is)

module _ (words : List ℕ) (count : ℕ) (word : FewWord) where
  -- a number that both have
  pub meets_at : (i : ℕ) → ((n : ℕ) → count ≤ n → is_set words n ≡ false) → i < 64 → bit_at (slice_index_or words word.index 0) i ≡ 1 → bit_at word.bits i ≡ 1 → any_marked (marks_of words count) (has word) ≡ true
  meets_at i clean small own other =
      let n = word.index * 64 + i in
      let index : n / 64 ≡ word.index = omega (arith, small) in
      let bit : n % 64 ≡ i = omega (arith, small) in
      let set : is_set words n ≡ true = ap (λ j. bit_at (slice_index_or words j 0) (n % 64) == 1) index ∙ ap (λ j. bit_at (slice_index_or words word.index 0) j == 1) bit ∙ ap (λ b. b == 1) own in
      let there : has word n ≡ true = ap (λ j. (word.index == j) && (bit_at word.bits (n % 64) == 1)) index ∙ ap (λ b. b && (bit_at word.bits (n % 64) == 1)) ((Decides-eqb word.index word.index).1 refl) ∙ ap (λ j. bit_at word.bits j == 1) bit ∙ ap (λ b. b == 1) other in
      elim (leb_tells count n) [
        | inl (_, past) ↦ absurd (false≢true (sym (clean n past) ∙ set))
        | inr (_, below) ↦ found_any (marks_of words count) (has word) n (marked_below words count n below ∙ set) there
      ]

  -- what both have is a bit of both
  pub meets_none : ((i : ℕ) → i < 64 → bit_at (slice_index_or words word.index 0) i ≡ 1 → bit_at word.bits i ≡ 1 → ⊥) → any_marked (marks_of words count) (has word) ≡ false
  meets_none none = not_any (marks_of words count) (has word) (λ n marked there. elim (leb_tells count n) [
    | inl (_, past) ↦ false≢true (sym (marked_past words count n past) ∙ marked)
    | inr (_, below) ↦
        let two = both_true (word.index == n / 64) (bit_at word.bits (n % 64) == 1) there in
        let index = (Decides-eqb word.index (n / 64)).0 two.0 in
        let set = sym (marked_below words count n below) ∙ marked in
        none (n % 64) (omega arith) (ap (λ j. bit_at (slice_index_or words j 0) (n % 64)) index ∙ (Decides-eqb _ 1).0 set) ((Decides-eqb _ 1).0 two.1)
  ])

-- what is left of few marks
pub words_left : (marks : List Bool) (word : FewWord) (words : List FewWord) → any_marked marks (has word) ≡ false → any_marked marks (holds (word ∷ words)) ≡ any_marked marks (holds words)
words_left marks word words none = any_either marks (has word) (holds words) ∙ ap (λ b. b || any_marked marks (holds words)) none

pub word_met : (marks : List Bool) (word : FewWord) (words : List FewWord) → any_marked marks (has word) ≡ true → any_marked marks (holds (word ∷ words)) ≡ true
word_met marks word words met = any_either marks (has word) (holds words) ∙ ap (λ b. b || any_marked marks (holds words)) met

-- ---- one by one

-- The first of these are marked as they should be, and the others aren't yet.
pub record AreTaken (all : List Bool) (i : ℕ) (marks : List Bool) : Type 0 where
  pub count : length marks ≡ length all
  pub done : (n : ℕ) → n < i → get_or marks n false ≡ get_or all n false
  pub left : (n : ℕ) → i ≤ n → get_or marks n false ≡ false

pub one_taken : (marks all : List Bool) (i : ℕ) → i < length all → get_or all i false ≡ true → AreTaken all i marks → AreTaken all (i + 1) (set marks i true)
one_taken marks all i below marked before = record {
  count = length-set marks i true ∙ before.count;
  done = λ n less. elim (eqb_tells n i) [
    | inl (_, same) ↦
        ap (λ m. get_or (set marks i true) m false) same ∙ get_or-set_same marks i true false (omega (arith, before.count, below))
        ∙ sym (ap (λ m. get_or all m false) same ∙ marked)
    | inr (_, apart) ↦ get_or-set_other marks i n true false apart ∙ before.done n (omega (arith, less, apart))
  ];
  left = λ n past. get_or-set_other marks i n true false (λ same. omega (arith, same, past)) ∙ before.left n (omega (arith, past));
}

pub one_passed : (marks all : List Bool) (i : ℕ) → get_or all i false ≡ false → AreTaken all i marks → AreTaken all (i + 1) marks
one_passed marks all i none before = record {
  count = before.count;
  done = λ n less. elim (eqb_tells n i) [
    | inl (_, same) ↦ before.left n (omega (arith, same)) ∙ sym (ap (λ m. get_or all m false) same ∙ none)
    | inr (_, apart) ↦ before.done n (omega (arith, less, apart))
  ];
  left = λ n past. before.left n (omega (arith, past));
}

pub all_taken : (marks all : List Bool) (i : ℕ) → length all ≤ i → AreTaken all i marks → marks ≡ all
all_taken marks all i past taken = ext_get_or false marks all taken.count (λ n below. taken.done n (omega (arith, below, taken.count, past)))
