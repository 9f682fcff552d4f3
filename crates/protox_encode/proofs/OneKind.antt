-- Two messages of one kind with the same bytes have the same values.
use Rattle.std.proofs.Common.{◌≡◌, ℕ, ◌<◌, ◌≤◌, true, List, [], ◌∷◌, ◌++◌, refl, sym, ap, ◌∙◌, arith, append_assoc}
use Rattle.std.specs.Prelude.{nat_lt}
use Rattle.std.specs.Cmp.{first_so, second_so}
use Rattle.std.proofs.lemmas.Bool.Decides.{nat_tests}
use Rattle.protox_encode.proofs.Readings.{one_reading, are_its_fields}
use Rattle.protox_encode.specs.Messages.{file_descriptor, file_set}
use Rattle.protox_encode.specs.Payloads.{each}
use Rattle.protox_encode.specs.Reading.{OneMessage, SetsJoin, fields_of, numbered, numbers, rise_from}
use Rattle.protox_encode.specs.Wire.{Payload, Bytes, Parts, field, message, part}

-- The numbers of all fields are greater.
abbrev Above : ℕ → List (ℕ × Payload) → Type 0
Above k [] = Unit {0}
Above k (f ∷ fs) = (k < f.0) × Above k fs

above-numbered : (k n : ℕ) (ps : List Payload) (fs : List (ℕ × Payload)) → k < n → Above k fs → Above k (numbered n ps ++ fs)
above-numbered k n [] fs h a = a
above-numbered k n (p ∷ ps) fs h a = (h, above-numbered k n ps fs h a)

less : (k n : ℕ) → nat_lt k n ≡ true → k < n
less k n h = grind (arith, nat_tests)

above-rising : (j k : ℕ) (p : Parts) → j ≤ k → rise_from k (numbers p) ≡ true → Above j (fields_of p)
above-rising j k [] h r = tt
above-rising j k ((n, ps) ∷ p) h r =
    let l : k < n = less k n (first_so (nat_lt k n) (rise_from n (numbers p)) r) in
    above-numbered j n ps (fields_of p) (omega arith)
    (above-rising j n p (omega arith) (second_so (nat_lt k n) (rise_from n (numbers p)) r))

-- If fields of one number come before fields of greater numbers, the bytes tell which is which.
cut : (k : ℕ) (ps qs : List Payload) (fs gs : List (ℕ × Payload)) → Above k fs → Above k gs → numbered k ps ++ fs ≡ numbered k qs ++ gs → (ps ≡ qs) × (fs ≡ gs)
cut k [] [] fs gs a b e = (refl, e)
cut k [] (q ∷ qs) [] gs a b e = cc
cut k [] (q ∷ qs) (f ∷ fs) gs a b e = let same : f.0 ≡ k = ap (λ (hs : List (ℕ × Payload)). first hs) e in absurd (omega (arith, a.0))
  where
    first : List (ℕ × Payload) → ℕ
    first [] = 0
    first (h ∷ hs) = h.0
cut k (p ∷ ps) [] fs [] a b e = cc
cut k (p ∷ ps) [] fs (g ∷ gs) a b e = let same : k ≡ g.0 = ap (λ (hs : List (ℕ × Payload)). first hs) e in absurd (omega (arith, b.0))
  where
    first : List (ℕ × Payload) → ℕ
    first [] = 0
    first (h ∷ hs) = h.0
cut k (p ∷ ps) (q ∷ qs) fs gs a b e =
    let t : numbered k ps ++ fs ≡ numbered k qs ++ gs = cc in
    let both : (k, p) ≡ (k, q) = cc in
    let h : p ≡ q = ap (λ (f : ℕ × Payload). f.1) both in
    let r : (ps ≡ qs) × (fs ≡ gs) = cut k ps qs fs gs a b t in
    (λ i. h i ∷ r.0 i, r.1)

one-kind : (k : ℕ) (p q : Parts) → numbers p ≡ numbers q → rise_from k (numbers p) ≡ true → rise_from k (numbers q) ≡ true → fields_of p ≡ fields_of q → p ≡ q
one-kind k [] [] n r s e = refl
one-kind k [] ((m, qs) ∷ q) n r s e = cc
one-kind k ((m, ps) ∷ p) [] n r s e = cc
one-kind k ((m, ps) ∷ p) ((l, qs) ∷ q) n r s e =
    let same : m ≡ l = cc in
    let rest : numbers p ≡ numbers q = cc in
    let r' : rise_from m (numbers p) ≡ true = second_so (nat_lt k m) (rise_from m (numbers p)) r in
    let s' : rise_from m (numbers q) ≡ true = rw (← rest) r' in
    let e' : numbered m ps ++ fields_of p ≡ numbered m qs ++ fields_of q = rw (← same) at e in
    let c : (ps ≡ qs) × (fields_of p ≡ fields_of q) = cut m ps qs (fields_of p) (fields_of q) (above-rising m m p (omega arith) r') (above-rising m m q (omega arith) s') e' in
    let t : p ≡ q = one-kind m p q rest r' s' c.1 in
    λ i. (same i, c.0 i) ∷ t i

pub one_message : OneMessage
one_message p q n r a b e =
    one-kind 0 p q n r (rw (← n) r) (one_reading (fields_of p) (fields_of q) a b (sym (are_its_fields p) ∙ e ∙ are_its_fields q))

part-append : (k : ℕ) (ps qs : List Payload) → part k (ps ++ qs) ≡ part k ps ++ part k qs
part-append k [] qs = refl
part-append k (p ∷ ps) qs = ap (λ bytes. field k p ++ bytes) (part-append k ps qs) ∙ sym (append_assoc (field k p) (part k ps) (part k qs))

each-append : {M : Type 0} (parts : M → Parts) (xs ys : List M) → each parts (xs ++ ys) ≡ each parts xs ++ each parts ys
each-append parts [] ys = refl
each-append parts (x ∷ xs) ys = ap (λ more. Bytes (message (parts x)) ∷ more) (each-append parts xs ys)

pub sets_join : SetsJoin
unfolding file_set
sets_join these those =
    rw (each-append file_descriptor these those, part-append 1 (each file_descriptor these) (each file_descriptor those)) (simp append_assoc)
