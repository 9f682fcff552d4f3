-- Bytes are the encoding of at most one list of fields.
use Rattle.std.proofs.Common.{◌≡◌, ℕ, ◌+◌, ◌*◌, ◌<◌, ◌^◌, List, [], ◌∷◌, ◌++◌, length, refl, sym, ap, ◌∙◌, arith, append_assoc}
use Rattle.std.specs.Int.{w64, to_le_bytes, from_le_bytes}
use Rattle.std.proofs.lemmas.Nat.{from_le_bytes-to_le_bytes_8}
use Rattle.protox_encode.proofs.Apart.{numbers_are_apart_law, one, more}
use Rattle.protox_encode.proofs.Varint.{either}
use Rattle.protox_encode.specs.Reading.{HasRoom, fields, OneReading, numbered, fields_of, AreItsFields}
use Rattle.protox_encode.specs.Wire.{Payload, Number, Eight, Bytes, field, header, part, varint}

cut_at : (a b x y : List ℕ) → length a ≡ length b → a ++ x ≡ b ++ y → (a ≡ b) × (x ≡ y)
cut_at [] [] x y l e = (refl, e)
cut_at [] (b ∷ bs) x y l e = absurd (omega arith)
cut_at (a ∷ more) [] x y l e = absurd (omega arith)
cut_at (a ∷ more) (b ∷ bs) x y l e =
    let t : more ++ x ≡ bs ++ y = cc in
    let h : a ≡ b = cc in
    let r : (more ≡ bs) × (x ≡ y) = cut_at more bs x y (omega arith) t in
    (ap (λ (z : ℕ). z ∷ more) h ∙ ap (λ (zs : List ℕ). b ∷ zs) r.0, r.1)

header_apart : (k l i j : ℕ) (x y : List ℕ) → i < 8 → j < 8 → header k i ++ x ≡ header l j ++ y → (k ≡ l) × (i ≡ j) × (x ≡ y)
header_apart k l i j x y c d e =
    let r = numbers_are_apart_law (8 * k + i) (8 * l + j) x y e in
    (omega (arith, r.0), omega (arith, r.0), r.1)

kind : Payload → ℕ
kind (Number n) = 0
kind (Eight n) = 1
kind (Bytes bytes) = 2

held : Payload → List ℕ
held (Number n) = varint n
held (Eight n) = to_le_bytes w64 n
held (Bytes bytes) = varint (length bytes) ++ bytes

parted : (k : ℕ) (p : Payload) (x : List ℕ) → field k p ++ x ≡ header k (kind p) ++ (held p ++ x)
unfolding kind held
parted k (Number n) x = simp append_assoc
parted k (Eight n) x = simp append_assoc
parted k (Bytes bytes) x = simp append_assoc

kind_low : (p : Payload) → kind p < 8
unfolding kind
kind_low (Number n) = omega arith
kind_low (Eight n) = omega arith
kind_low (Bytes bytes) = omega arith

eight_apart : (m n : ℕ) → m < 2 ^ 64 → n < 2 ^ 64 → to_le_bytes w64 m ≡ to_le_bytes w64 n → m ≡ n
eight_apart m n a b e = sym (from_le_bytes-to_le_bytes_8 m a) ∙ ap (from_le_bytes w64) e ∙ from_le_bytes-to_le_bytes_8 n b

held_apart : (p q : Payload) (x y : List ℕ) → HasRoom p → HasRoom q → kind p ≡ kind q → held p ++ x ≡ held q ++ y → (p ≡ q) × (x ≡ y)
unfolding kind held
held_apart (Number m) (Number n) x y a b k e = let r = numbers_are_apart_law m n x y e in (ap Number r.0, r.1)
held_apart (Eight m) (Eight n) x y a b k e =
    let r = cut_at (to_le_bytes w64 m) (to_le_bytes w64 n) x y refl e in
    (ap Eight (eight_apart m n a b r.0), r.1)
held_apart (Bytes m) (Bytes n) x y a b k e =
    let s = numbers_are_apart_law (length m) (length n) (m ++ x) (n ++ y) (sym (append_assoc (varint (length m)) m x) ∙ e ∙ append_assoc (varint (length n)) n y) in
    let r = cut_at m n x y s.0 s.1 in
    (ap Bytes r.0, r.1)
held_apart (Number m) (Eight n) x y a b k e = absurd (omega arith)
held_apart (Number m) (Bytes n) x y a b k e = absurd (omega arith)
held_apart (Eight m) (Number n) x y a b k e = absurd (omega arith)
held_apart (Eight m) (Bytes n) x y a b k e = absurd (omega arith)
held_apart (Bytes m) (Number n) x y a b k e = absurd (omega arith)
held_apart (Bytes m) (Eight n) x y a b k e = absurd (omega arith)

field_apart : (k l : ℕ) (p q : Payload) (x y : List ℕ) → HasRoom p → HasRoom q → field k p ++ x ≡ field l q ++ y → (k ≡ l) × (p ≡ q) × (x ≡ y)
field_apart k l p q x y a b e =
    let h = header_apart k l (kind p) (kind q) (held p ++ x) (held q ++ y) (kind_low p) (kind_low q) (sym (parted k p x) ∙ e ∙ parted l q y) in
    let r = held_apart p q x y a b h.1 h.2 in
    (h.0, r.0, r.1)

-- a number has at least one group
some : (a : ℕ) (x : List ℕ) → [] ≡ a ∷ x → ⊥
some a x e = cc

pub number_some : (n : ℕ) (x : List ℕ) → [] ≡ varint n ++ x → ⊥
unfolding varint
number_some n x e = either n (λ low. some _ _ (e ∙ one 9 n x low)) (λ high. some _ _ (e ∙ more 9 n x high))

pub one_reading : OneReading
one_reading [] [] a b e = refl
one_reading [] (g ∷ gs) a b e = absurd (number_some _ _ (e ∙ parted g.0 g.1 (fields gs)))
one_reading (f ∷ fs) [] a b e = absurd (number_some _ _ (sym e ∙ parted f.0 f.1 (fields fs)))
one_reading (f ∷ fs) (g ∷ gs) a b e =
    let r = field_apart f.0 g.0 f.1 g.1 (fields fs) (fields gs) a.0 b.0 e in
    let rest : fs ≡ gs = one_reading fs gs a.1 b.1 r.2 in
    ap (λ (k : ℕ). (k, f.1) ∷ fs) r.0 ∙ ap (λ (p : Payload). (g.0, p) ∷ fs) r.1 ∙ ap (λ (hs : List (ℕ × Payload)). g ∷ hs) rest

part_fields : (k : ℕ) (ps : List Payload) (rest : List (ℕ × Payload)) → part k ps ++ fields rest ≡ fields (numbered k ps ++ rest)
part_fields k [] rest = refl
part_fields k (p ∷ ps) rest = append_assoc (field k p) (part k ps) (fields rest) ∙ ap (λ bytes. field k p ++ bytes) (part_fields k ps rest)

pub are_its_fields : AreItsFields
are_its_fields [] = refl
are_its_fields ((k, ps) ∷ parts) = ap (λ bytes. part k ps ++ bytes) (are_its_fields parts) ∙ part_fields k ps (fields_of parts)
