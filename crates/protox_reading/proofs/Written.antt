-- The bytes of fields.
use Rattle.std.proofs.Common.{◌≡◌, ℕ, ◌+◌, ◌*◌, ◌<◌, List, ◌++◌, length, refl, sym, ap, ◌∙◌, arith, append_assoc}
use Rattle.std.specs.List.{flat_map}
use Rattle.protox_encode.proofs.Lemmas.{numbers_are_apart_law}
use Rattle.protox_encode.specs.Wire.{header, varint}
use Rattle.protox_reading.specs.Fields.{AreRead, NoField, ANumber, EightBytes, LongBytes, AGroup, FourBytes, Payload, Number, Eight, Bytes, Group, Four}

abbrev pub kind : Payload → ℕ
kind (Number n) = 0
kind (Eight bytes) = 1
kind (Bytes bytes) = 2
kind (Group inside) = 3
kind (Four bytes) = 5

-- what stands behind the header
abbrev pub held : ℕ → Payload → List ℕ
held number (Number n) = varint n
held number (Eight bytes) = bytes
held number (Bytes bytes) = varint (length bytes) ++ bytes
held number (Group inside) = inside ++ header number 4
held number (Four bytes) = bytes

abbrev pub written : ℕ × Payload → List ℕ
written f = header f.0 (kind f.1) ++ held f.0 f.1

abbrev pub all_written : List (ℕ × Payload) → List ℕ
all_written fs = flat_map written fs

kind_low : (p : Payload) → kind p < 8
kind_low (Number n) = omega arith
kind_low (Eight bytes) = omega arith
kind_low (Bytes bytes) = omega arith
kind_low (Group inside) = omega arith
kind_low (Four bytes) = omega arith

pub header_apart : (k l i j : ℕ) (x y : List ℕ) → i < 8 → j < 8 → header k i ++ x ≡ header l j ++ y → (k ≡ l) × (i ≡ j) × (x ≡ y)
header_apart k l i j x y c d e =
    let r = numbers_are_apart_law (8 * k + i) (8 * l + j) x y e in
    (omega (arith, r.0), omega (arith, r.0), r.1)

-- a field in front of others
pub next_written : (k : ℕ) (p : Payload) (bytes rest : List ℕ) (more : List (ℕ × Payload)) → bytes ≡ held k p ++ rest → rest ≡ all_written more
    → header k (kind p) ++ bytes ≡ written (k, p) ++ all_written more
next_written k p bytes rest more e r =
    ap (λ bs. header k (kind p) ++ bs) (e ∙ ap (λ bs. held k p ++ bs) r) ∙ sym (append_assoc (header k (kind p)) (held k p) (all_written more))

-- Bytes that are read as fields are those of the fields.
pub are_written : {a : List ℕ} {f : List (ℕ × Payload)} → AreRead a f → a ≡ all_written f
are_written NoField = refl
are_written (ANumber k n rest more d) = next_written k (Number n) _ rest more refl (are_written d)
are_written (EightBytes k bytes rest more long d) = next_written k (Eight bytes) _ rest more refl (are_written d)
are_written (LongBytes k bytes rest more d) = next_written k (Bytes bytes) _ rest more (sym (append_assoc (varint (length bytes)) bytes rest)) (are_written d)
are_written (AGroup k inside rest fields more c d) = next_written k (Group inside) _ rest more (sym (append_assoc inside (header k 4) rest)) (are_written d)
are_written (FourBytes k bytes rest more long d) = next_written k (Four bytes) _ rest more refl (are_written d)

-- Fields with the same bytes in front have the same number and kind.
pub first_apart : (k l : ℕ) (p q : Payload) (x y : List ℕ) → written (k, p) ++ x ≡ written (l, q) ++ y
    → (k ≡ l) × (kind p ≡ kind q) × (held k p ++ x ≡ held l q ++ y)
first_apart k l p q x y e =
    header_apart k l (kind p) (kind q) (held k p ++ x) (held l q ++ y) (kind_low p) (kind_low q)
    (sym (append_assoc (header k (kind p)) (held k p) x) ∙ e ∙ append_assoc (header l (kind q)) (held l q) y)

-- No field begins with the mark of the end of a group.
pub no_end : (k n : ℕ) (p : Payload) (x y : List ℕ) → header n 4 ++ y ≡ written (k, p) ++ x → ⊥
no_end k n p x y e =
    let r = header_apart n k 4 (kind p) y (held k p ++ x) (omega arith) (kind_low p) (e ∙ append_assoc (header k (kind p)) (held k p) x) in
    other p r.1
  where
    other : (p : Payload) → 4 ≡ kind p → ⊥
    other (Number n) e = omega (arith, e)
    other (Eight bytes) e = omega (arith, e)
    other (Bytes bytes) e = omega (arith, e)
    other (Group inside) e = omega (arith, e)
    other (Four bytes) e = omega (arith, e)
