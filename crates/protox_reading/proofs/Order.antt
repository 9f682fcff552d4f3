-- Fields in the order of their numbers, and what is told of one of them.
use Rattle.std.proofs.Common.{◌≡◌, ℕ, suc, ◌≤◌, Bool, true, false, List, [], ◌∷◌, ◌++◌, refl, sym, ap, ◌∙◌, arith, map}
use Rattle.std.specs.Prelude.{nat_lt, ◌==◌, if◌then◌else◌}
use Rattle.std.proofs.lemmas.Bool.Decides.{nat_tests}
use Rattle.protox_message_bytes.specs.Bytes.{Field, by_number, placed}
use Rattle.protox_message_bytes.specs.Bytes.{joined as joined_fields, joined_to as joined_field}
use Rattle.protox_reading.proofs.Written.{written}
use Rattle.protox_reading.specs.Fields.{Payload}
use Rattle.protox_reading.specs.Said.{Told, Packed, Alone, joined, joined_to, those}

-- ---- what is told, as fields to be written

abbrev pub is_packed : Told → Bool
is_packed (Packed bytes) = true
is_packed (Alone payload) = false

abbrev pub told_bytes : ℕ → Told → List ℕ
told_bytes number (Packed bytes) = bytes
told_bytes number (Alone payload) = written (number, payload)

abbrev pub field_of : ℕ × Told → Field
field_of t = record { number = t.0; packed = is_packed t.1; bytes = told_bytes t.0 t.1 }

abbrev pub put_in : ℕ × Told → List (ℕ × Told) → List (ℕ × Told)
put_in f [] = f ∷ []
put_in f (g ∷ more) = if nat_lt g.0 f.0 then g ∷ put_in f more else f ∷ g ∷ more

abbrev pub sorted : List (ℕ × Told) → List (ℕ × Told)
sorted [] = []
sorted (f ∷ more) = put_in f (sorted more)

abbrev pub join_in : ℕ × Told → List (ℕ × Told) → List (ℕ × Told)
join_in (k, Packed a) ((l, Packed b) ∷ more) = if k == l then (k, Packed (a ++ b)) ∷ more else (k, Packed a) ∷ (l, Packed b) ∷ more
join_in f more = f ∷ more

abbrev pub all_joined : List (ℕ × Told) → List (ℕ × Told)
all_joined [] = []
all_joined (f ∷ more) = join_in f (all_joined more)

placed_is : (f : ℕ × Told) (gs : List (ℕ × Told)) → placed (field_of f) (map field_of gs) ≡ map field_of (put_in f gs)
placed_is f [] = refl
placed_is f (g ∷ more) = go (nat_lt g.0 f.0) (placed_is f more)
  where
    go : (b : Bool) → placed (field_of f) (map field_of more) ≡ map field_of (put_in f more)
        → (if b then field_of g ∷ placed (field_of f) (map field_of more) else field_of f ∷ field_of g ∷ map field_of more)
        ≡ map field_of (if b then g ∷ put_in f more else f ∷ g ∷ more)
    go true e = ap (λ fs. field_of g ∷ fs) e
    go false e = refl

pub sorted_is : (fs : List (ℕ × Told)) → by_number (map field_of fs) ≡ map field_of (sorted fs)
sorted_is [] = refl
sorted_is (f ∷ more) = ap (placed (field_of f)) (sorted_is more) ∙ placed_is f (sorted more)

join_is : (f : ℕ × Told) (gs : List (ℕ × Told)) → joined_field (field_of f) (map field_of gs) ≡ map field_of (join_in f gs)
join_is (k, Packed a) [] = refl
join_is (k, Packed a) ((l, Packed b) ∷ more) = go (k == l)
  where
    go : (c : Bool) → (if c then record { number = k; packed = true; bytes = a ++ b } ∷ map field_of more
        else field_of (k, Packed a) ∷ field_of (l, Packed b) ∷ map field_of more)
        ≡ map field_of (if c then (k, Packed (a ++ b)) ∷ more else (k, Packed a) ∷ (l, Packed b) ∷ more)
    go true = refl
    go false = refl
join_is (k, Packed a) ((l, Alone p) ∷ more) = refl
join_is (k, Alone p) [] = refl
join_is (k, Alone p) (g ∷ more) = refl

pub joined_is : (fs : List (ℕ × Told)) → joined_fields (map field_of fs) ≡ map field_of (all_joined fs)
joined_is [] = refl
joined_is (f ∷ more) = ap (joined_field (field_of f)) (joined_is more) ∙ join_is f (all_joined more)

-- ---- one number

-- two fields of which one has the number at most
swapped : (f g : Told) (ts : List Told) (c d : Bool) → (c ≡ true → d ≡ true → ⊥)
    → (if c then g ∷ (if d then f ∷ ts else ts) else (if d then f ∷ ts else ts)) ≡ (if d then f ∷ (if c then g ∷ ts else ts) else (if c then g ∷ ts else ts))
swapped f g ts true true h = absurd (h refl refl)
swapped f g ts true false h = refl
swapped f g ts false true h = refl
swapped f g ts false false h = refl

not_both : (j k n : ℕ) → nat_lt j k ≡ true → (j == n) ≡ true → (k == n) ≡ true → ⊥
not_both j k n a b c = grind (arith, nat_tests)

-- sorting keeps the order of the fields of one number
those_put : (n : ℕ) (f : ℕ × Told) (gs : List (ℕ × Told)) → those n (put_in f gs) ≡ those n (f ∷ gs)
those_put n f [] = refl
those_put n f (g ∷ more) = go (nat_lt g.0 f.0) refl (those_put n f more)
  where
    go : (b : Bool) → nat_lt g.0 f.0 ≡ b → those n (put_in f more) ≡ those n (f ∷ more) → those n (if b then g ∷ put_in f more else f ∷ g ∷ more) ≡ those n (f ∷ g ∷ more)
    go true e same =
        ap (λ us. if g.0 == n then g.1 ∷ us else us) same
        ∙ swapped f.1 g.1 (those n more) (g.0 == n) (f.0 == n) (not_both g.0 f.0 n e)
    go false e same = refl

pub those_sorted : (n : ℕ) (fs : List (ℕ × Told)) → those n (sorted fs) ≡ those n fs
those_sorted n [] = refl
those_sorted n (f ∷ more) = those_put n f (sorted more) ∙ ap (λ ts. if f.0 == n then f.1 ∷ ts else ts) (those_sorted n more)

-- ---- rising numbers

abbrev AtLeast : ℕ → List (ℕ × Told) → Type 0
AtLeast k [] = Unit {0}
AtLeast k (f ∷ more) = (k ≤ f.0) × AtLeast k more

abbrev pub Rising : List (ℕ × Told) → Type 0
Rising [] = Unit {0}
Rising (f ∷ more) = AtLeast f.0 more × Rising more

weaker : (j k : ℕ) (fs : List (ℕ × Told)) → j ≤ k → AtLeast k fs → AtLeast j fs
weaker j k [] h a = tt
weaker j k (f ∷ more) h a = (omega (arith, a.0), weaker j k more h a.1)

put_at_least : (k : ℕ) (f : ℕ × Told) (gs : List (ℕ × Told)) → k ≤ f.0 → AtLeast k gs → AtLeast k (put_in f gs)
put_at_least k f [] h a = (h, tt)
put_at_least k f (g ∷ more) h a = go (nat_lt g.0 f.0) (put_at_least k f more h a.1)
  where
    go : (b : Bool) → AtLeast k (put_in f more) → AtLeast k (if b then g ∷ put_in f more else f ∷ g ∷ more)
    go true r = (a.0, r)
    go false r = (h, a)

put_rising : (f : ℕ × Told) (gs : List (ℕ × Told)) → Rising gs → Rising (put_in f gs)
put_rising f [] r = (tt, tt)
put_rising f (g ∷ more) r = go (nat_lt g.0 f.0) refl (put_rising f more r.1)
  where
    less : nat_lt g.0 f.0 ≡ true → g.0 ≤ f.0
    less e = grind (arith, nat_tests)

    not_less : nat_lt g.0 f.0 ≡ false → f.0 ≤ g.0
    not_less e = grind (arith, nat_tests)

    go : (b : Bool) → nat_lt g.0 f.0 ≡ b → Rising (put_in f more) → Rising (if b then g ∷ put_in f more else f ∷ g ∷ more)
    go true e s = (put_at_least g.0 f more (less e) r.0, s)
    go false e s = ((not_less e, weaker f.0 g.0 more (not_less e) r.0), r)

pub rising : (fs : List (ℕ × Told)) → Rising (sorted fs)
rising [] = tt
rising (f ∷ more) = put_rising f (sorted more) (rising more)

join_at_least : (k : ℕ) (f : ℕ × Told) (gs : List (ℕ × Told)) → k ≤ f.0 → AtLeast k gs → AtLeast k (join_in f gs)
join_at_least k (j, Packed a) [] h r = (h, tt)
join_at_least k (j, Packed a) ((l, Packed b) ∷ more) h r = go (j == l)
  where
    go : (c : Bool) → AtLeast k (if c then (j, Packed (a ++ b)) ∷ more else (j, Packed a) ∷ (l, Packed b) ∷ more)
    go true = (h, r.1)
    go false = (h, r)
join_at_least k (j, Packed a) ((l, Alone p) ∷ more) h r = (h, r)
join_at_least k (j, Alone p) gs h r = (h, r)

joined_at_least : (k : ℕ) (fs : List (ℕ × Told)) → AtLeast k fs → AtLeast k (all_joined fs)
joined_at_least k [] a = tt
joined_at_least k (f ∷ more) a = join_at_least k f (all_joined more) a.0 (joined_at_least k more a.1)

join_rising : (f : ℕ × Told) (gs : List (ℕ × Told)) → AtLeast f.0 gs → Rising gs → Rising (join_in f gs)
join_rising (j, Packed a) [] h r = (tt, tt)
join_rising (j, Packed a) ((l, Packed b) ∷ more) h r = go (j == l)
  where
    go : (c : Bool) → Rising (if c then (j, Packed (a ++ b)) ∷ more else (j, Packed a) ∷ (l, Packed b) ∷ more)
    go true = (h.1, r.1)
    go false = (h, r)
join_rising (j, Packed a) ((l, Alone p) ∷ more) h r = (h, r)
join_rising (j, Alone p) gs h r = (h, r)

joined_rising : (fs : List (ℕ × Told)) → Rising fs → Rising (all_joined fs)
joined_rising [] r = tt
joined_rising (f ∷ more) r = join_rising f (all_joined more) (joined_at_least f.0 more r.0) (joined_rising more r.1)

-- ---- joined fields of one number

not_it : (k n : ℕ) → suc n ≤ k → (k == n) ≡ false
not_it k n h = grind (arith, nat_tests)

gone : (n : ℕ) (fs : List (ℕ × Told)) → AtLeast (suc n) fs → those n fs ≡ []
gone n [] a = refl
gone n (f ∷ more) a = ap (λ c. if c then f.1 ∷ those n more else those n more) (not_it f.0 n a.0) ∙ gone n more a.1

-- ---- one field in front of those that are joined already

same_number : (k l : ℕ) → (k == l) ≡ true → k ≡ l
same_number k l e = grind (arith, nat_tests)

above : (n l : ℕ) → n ≤ l → (l == n) ≡ false → suc n ≤ l
above n l h e = grind (arith, nat_tests)

other_above : (n k l : ℕ) → k ≤ l → (k == l) ≡ false → (k == n) ≡ true → suc n ≤ l
other_above n k l h e x = grind (arith, nat_tests)

if_same : (c : Bool) (x y z : List Told) → (c ≡ true → x ≡ y) → (if c then x else z) ≡ (if c then y else z)
if_same true x y z h = h refl
if_same false x y z h = refl

-- where nothing else is told of the number
lone : (a : List ℕ) (ts : List Told) → ts ≡ [] → Packed a ∷ ts ≡ joined_to (Packed a) ts
lone a ts e = ap (λ us. Packed a ∷ us) e ∙ sym (ap (joined_to (Packed a)) e)

module _ (n k : ℕ) (a : List ℕ) (l : ℕ) (more : List (ℕ × Told)) (low : k ≤ l) (rest : AtLeast l more) where
  before_packed : (b : List ℕ) (c : Bool) → (k == l) ≡ c
      → those n (if c then (k, Packed (a ++ b)) ∷ more else (k, Packed a) ∷ (l, Packed b) ∷ more)
      ≡ (if k == n then joined_to (Packed a) (those n ((l, Packed b) ∷ more)) else those n ((l, Packed b) ∷ more))
  before_packed b true e =
      merged (k == n)
      ∙ ap (λ m. if k == n then joined_to (Packed a) (those n ((m, Packed b) ∷ more)) else those n ((m, Packed b) ∷ more)) (same_number k l e)
    where
      merged : (c : Bool) → (if c then Packed (a ++ b) ∷ those n more else those n more)
          ≡ (if c then joined_to (Packed a) (if c then Packed b ∷ those n more else those n more) else (if c then Packed b ∷ those n more else those n more))
      merged true = refl
      merged false = refl
  before_packed b false e =
      if_same (k == n) (Packed a ∷ those n ((l, Packed b) ∷ more)) (joined_to (Packed a) (those n ((l, Packed b) ∷ more))) (those n ((l, Packed b) ∷ more)) (λ x.
      lone a (those n ((l, Packed b) ∷ more)) (gone n ((l, Packed b) ∷ more) (other_above n k l low e x, weaker (suc n) l more (other_above n k l low e x) rest)))

  before_alone : (p : Payload) → those n ((k, Packed a) ∷ (l, Alone p) ∷ more)
      ≡ (if k == n then joined_to (Packed a) (those n ((l, Alone p) ∷ more)) else those n ((l, Alone p) ∷ more))
  before_alone p =
      if_same (k == n) (Packed a ∷ those n ((l, Alone p) ∷ more)) (joined_to (Packed a) (those n ((l, Alone p) ∷ more))) (those n ((l, Alone p) ∷ more)) (λ x.
      go (l == n) refl (same_number k n x))
    where
      go : (c : Bool) → (l == n) ≡ c → k ≡ n
          → Packed a ∷ (if c then Alone p ∷ those n more else those n more) ≡ joined_to (Packed a) (if c then Alone p ∷ those n more else those n more)
      go true e x = refl
      go false e x = lone a (those n more) (gone n more (weaker (suc n) l more (above n l (omega arith) e) rest))

-- What is told of one number is joined as the fields are.
join_those : (n : ℕ) (f : ℕ × Told) (gs : List (ℕ × Told)) → AtLeast f.0 gs → Rising gs
    → those n (join_in f gs) ≡ (if f.0 == n then joined_to f.1 (those n gs) else those n gs)
join_those n (k, Packed a) [] h r = refl
join_those n (k, Packed a) ((l, Packed b) ∷ more) h r = before_packed n k a l more h.0 r.0 b (k == l) refl
join_those n (k, Packed a) ((l, Alone p) ∷ more) h r = before_alone n k a l more h.0 r.0 p
join_those n (k, Alone p) gs h r = refl

pub those_joined : (n : ℕ) (fs : List (ℕ × Told)) → Rising fs → those n (all_joined fs) ≡ joined (those n fs)
those_joined n [] r = refl
those_joined n (f ∷ more) r =
    join_those n f (all_joined more) (joined_at_least f.0 more r.0) (joined_rising more r.1)
    ∙ ap (λ ts. if f.0 == n then joined_to f.1 ts else ts) (those_joined n more r.1)
    ∙ go (f.0 == n)
  where
    go : (b : Bool) → (if b then joined_to f.1 (joined (those n more)) else joined (those n more)) ≡ joined (if b then f.1 ∷ those n more else those n more)
    go true = refl
    go false = refl
