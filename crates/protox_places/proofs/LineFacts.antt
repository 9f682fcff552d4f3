-- The offsets behind newlines, and the result of a binary search among them.
use Rattle.std.proofs.Common.{◌≡◌, ℕ, zero, suc, ◌+◌, ◌-◌, ◌<◌, ◌≤◌, List, [], ◌∷◌, length, take, get_or, refl, ap, ◌∙◌, arith, true, false}
use Rattle.std.specs.Prelude.{if◌then◌else◌, ◌==◌}
use Rattle.std.proofs.lemmas.Bool.Decides.{nat_tests}
use Rattle.protox_fault.specs.Faults.{Span}
use Rattle.protox_places.specs.Lines.{numbers_at, span_numbers, count_le, last_le, newlines, behind_last, line, column, starts, Rises, Found}

pub starts-rise : (i low : ℕ) (bs : List ℕ) → low ≤ i → Rises low (starts i bs)
starts-rise i low [] h = tt
starts-rise i low (b ∷ bs) h = elim (b == 10) as (λ v. Rises low (if v then (i + 1) ∷ starts (i + 1) bs else starts (i + 1) bs)) [
  | true ↦ (omega arith, starts-rise (i + 1) (i + 1) bs (omega arith))
  | false ↦ starts-rise (i + 1) low bs (omega arith)
]

pub rises-above : (low : ℕ) (xs : List ℕ) (j d : ℕ) → Rises low xs → j < length xs → low + j < get_or xs j d
rises-above low [] j d r h = absurd (omega arith)
rises-above low (x ∷ xs) zero d r h = omega (arith, r.0)
rises-above low (x ∷ xs) (suc j) d r h = omega (arith, r.0, rises-above x xs j d r.1 (omega arith))

pub rises-up : (low : ℕ) (xs : List ℕ) (i j d : ℕ) → Rises low xs → i ≤ j → j < length xs → get_or xs i d ≤ get_or xs j d
rises-up low [] i j d r h l = absurd (omega arith)
rises-up low (x ∷ xs) zero zero d r h l = omega arith
rises-up low (x ∷ xs) zero (suc j) d r h l = omega (arith, rises-above x xs j d r.1 (omega arith))
rises-up low (x ∷ xs) (suc i) zero d r h l = absurd (omega arith)
rises-up low (x ∷ xs) (suc i) (suc j) d r h l = rises-up x xs i j d r.1 (omega arith) (omega arith)

pub count-none : (xs : List ℕ) (o : ℕ) → ((j : ℕ) → j < length xs → o < get_or xs j 0) → count_le o xs ≡ 0
count-none [] o hi = refl
count-none (x ∷ xs) o hi =
    let first : o < x = hi 0 (omega arith) in
    let others = count-none xs o (λ j h. hi (suc j) (omega arith)) in
    grind (arith, nat_tests)

pub count-found : (xs : List ℕ) (o k : ℕ) → k ≤ length xs → ((j : ℕ) → j < k → get_or xs j 0 ≤ o) → ((j : ℕ) → k ≤ j → j < length xs → o < get_or xs j 0) → count_le o xs ≡ k
count-found [] o k h lo hi = omega arith
count-found (x ∷ xs) o zero h lo hi = count-none (x ∷ xs) o (λ j l. hi j (omega arith) l)
count-found (x ∷ xs) o (suc k) h lo hi =
    let first : x ≤ o = lo 0 (omega arith) in
    let others = count-found xs o k (omega arith) (λ j l. lo (suc j) (omega arith)) (λ j l m. hi (suc j) (omega arith) (omega arith)) in
    grind (arith, nat_tests)

pub last-found : (xs : List ℕ) (d o k : ℕ) → k ≤ length xs → ((j : ℕ) → j < k → get_or xs j 0 ≤ o) → ((j : ℕ) → k ≤ j → j < length xs → o < get_or xs j 0) → last_le d o xs ≡ get_or (d ∷ xs) k 0
last-found [] d o zero h lo hi = refl
last-found [] d o (suc k) h lo hi = absurd (omega arith)
last-found (x ∷ xs) d o zero h lo hi =
    let first : o < x = hi 0 (omega arith) (omega arith) in
    grind (arith, nat_tests)
last-found (x ∷ xs) d o (suc k) h lo hi =
    let first : x ≤ o = lo 0 (omega arith) in
    let others = last-found xs x o k (omega arith) (λ j l. lo (suc j) (omega arith)) (λ j l m. hi (suc j) (omega arith) (omega arith)) in
    grind (arith, nat_tests)

pub starts-none : (i : ℕ) (bs : List ℕ) (o : ℕ) → o ≤ i → count_le o (starts i bs) ≡ 0
starts-none i bs o h = count-none (starts i bs) o (λ j l. omega (arith, rises-above i (starts i bs) j 0 (starts-rise i i bs (omega arith)) l))

pub last-none : (d i : ℕ) (bs : List ℕ) (o : ℕ) → o ≤ i → last_le d o (starts i bs) ≡ d
last-none d i bs o h = last-found (starts i bs) d o 0 (omega arith) (λ j l. absurd (omega arith)) (λ j l m. omega (arith, rises-above i (starts i bs) j 0 (starts-rise i i bs (omega arith)) m))

head-count : (x o : ℕ) (xs : List ℕ) (m : ℕ) → x ≤ o → count_le o xs ≡ m → count_le o (x ∷ xs) ≡ m + 1
head-count x o xs m h e = grind (arith, nat_tests)

head-last : (x d o : ℕ) (xs : List ℕ) (m : ℕ) → x ≤ o → last_le x o xs ≡ m → last_le d o (x ∷ xs) ≡ m
head-last x d o xs m h e = grind (arith, nat_tests)

-- the first n bytes of a text at i, and the offset n above i
pub count-starts : (n i : ℕ) (bs : List ℕ) → count_le (i + n) (starts i bs) ≡ newlines (take n bs)
count-starts zero i bs = starts-none i bs (i + 0) (omega arith)
count-starts (suc n) i [] = refl
count-starts (suc n) i (b ∷ bs) =
    let e : i + suc n ≡ i + 1 + n = omega arith in
    let others : count_le (i + suc n) (starts (i + 1) bs) ≡ newlines (take n bs) = rw e (count-starts n (i + 1) bs) in
    elim (b == 10) as (λ v. count_le (i + suc n) (if v then (i + 1) ∷ starts (i + 1) bs else starts (i + 1) bs) ≡ (if v then newlines (take n bs) + 1 else newlines (take n bs))) [
      | true ↦ head-count (i + 1) (i + suc n) (starts (i + 1) bs) (newlines (take n bs)) (omega arith) others
      | false ↦ others
    ]

pub last-starts : (d n i : ℕ) (bs : List ℕ) → last_le d (i + n) (starts i bs) ≡ behind_last d i (take n bs)
last-starts d zero i bs = last-none d i bs (i + 0) (omega arith)
last-starts d (suc n) i [] = refl
last-starts d (suc n) i (b ∷ bs) =
    let e : i + suc n ≡ i + 1 + n = omega arith in
    elim (b == 10) as (λ v. last_le d (i + suc n) (if v then (i + 1) ∷ starts (i + 1) bs else starts (i + 1) bs) ≡ (if v then behind_last (i + 1) (i + 1) (take n bs) else behind_last d (i + 1) (take n bs))) [
      | true ↦ head-last (i + 1) d (i + suc n) (starts (i + 1) bs) (behind_last (i + 1) (i + 1) (take n bs)) (omega arith) (rw e (last-starts (i + 1) n (i + 1) bs))
      | false ↦ rw e (last-starts d n (i + 1) bs)
    ]

pub below_all : (low : ℕ) (xs : List ℕ) (o k : ℕ) → Rises low xs → k ≤ length xs → ((j : ℕ) → j < k → get_or xs j 0 ≤ o) → k ≤ o
below_all low xs o zero r h b = omega arith
below_all low xs o (suc k) r h b = omega (arith, b k (omega arith), rises-above low xs k 0 r (omega arith))

-- in ascending numbers, the last that is counted and the next one decide
pub found-here : (xs : List ℕ) (o k : ℕ) → Rises 0 xs → k ≤ length xs → (0 < k → get_or xs (k - 1) 0 ≤ o) → (k < length xs → o < get_or xs k 0) → Found xs o k
found-here xs o k r within begun ended = record {
  within = within;
  below = λ j h. omega (arith, rises-up 0 xs j (k - 1) 0 r (omega arith) (omega arith), begun (omega arith));
  above = λ j h l. omega (arith, rises-up 0 xs k j 0 r h l, ended (omega arith));
}

-- the start of the line: of the first line, and of another
pub first-start : (xs : List ℕ) (k : ℕ) → k ≡ 0 → get_or (0 ∷ xs) k 0 ≡ 0
first-start xs k e = rw e refl

pub later-start : (xs : List ℕ) (k : ℕ) → 0 < k → get_or (0 ∷ xs) k 0 ≡ get_or xs (k - 1) 0
later-start xs zero h = absurd (omega arith)
later-start xs (suc k) h = let e : suc k - 1 ≡ k = omega arith in rw e refl

pub line-at : (source xs : List ℕ) (o : ℕ) → xs ≡ starts 0 source → count_le o xs ≡ line source o
line-at source xs o e = ap (count_le o) e ∙ ap (λ n. count_le n (starts 0 source)) (let z : o ≡ 0 + o = omega arith in z) ∙ count-starts o 0 source

pub column-at : (source xs : List ℕ) (o : ℕ) → xs ≡ starts 0 source → o - last_le 0 o xs ≡ column source o
column-at source xs o e =
    ap (λ n. o - n) (ap (last_le 0 o) e ∙ ap (λ n. last_le 0 n (starts 0 source)) (let z : o ≡ 0 + o = omega arith in z) ∙ last-starts 0 o 0 source)

numbers-same : (source xs : List ℕ) (span : Span) → xs ≡ starts 0 source → numbers_at xs span ≡ span_numbers source span
numbers-same source xs span e = rw (line-at source xs span.start e, line-at source xs span.end e, column-at source xs span.start e, column-at source xs span.end e) refl

pub numbers-are : (source xs : List ℕ) → xs ≡ starts 0 source → numbers_at xs ≡ span_numbers source
numbers-are source xs e = λ i span. numbers-same source xs span e i
