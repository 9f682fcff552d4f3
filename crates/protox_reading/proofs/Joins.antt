-- What is read of bytes one behind the other.
use Rattle.std.proofs.Common.{◌≡◌, ℕ, Bool, true, false, List, [], ◌∷◌, ◌++◌, length, refl, sym, ap, subst, ◌∙◌, append_assoc}
use Rattle.std.specs.Prelude.{◌==◌, if◌then◌else◌}
use Rattle.protox_encode.specs.Wire.{header, varint}
use Rattle.protox_reading.specs.Fields.{AreRead, NoField, ANumber, EightBytes, LongBytes, AGroup, FourBytes, Payload, Number, Eight, Bytes, Group, Four}
use Rattle.protox_reading.specs.Finding.{Finds, one_message, payloads}

three : (a b c d : List ℕ) → a ++ (b ++ (c ++ d)) ≡ (a ++ (b ++ c)) ++ d
three a b c d = sym (append_assoc a (b ++ c) d ∙ ap (λ bs. a ++ bs) (append_assoc b c d))

four : (a b c d e : List ℕ) → a ++ (b ++ (c ++ (d ++ e))) ≡ (a ++ (b ++ (c ++ d))) ++ e
four a b c d e = sym (append_assoc a (b ++ (c ++ d)) e ∙ ap (λ bs. a ++ bs) (sym (three b c d e)))

pub read_append : {a b : List ℕ} {f g : List (ℕ × Payload)} → AreRead a f → AreRead b g → AreRead (a ++ b) (f ++ g)
read_append NoField e = e
read_append {b = b} {g = g} (ANumber k n rest more d) e =
    subst (λ bs. AreRead bs ((k, Number n) ∷ (more ++ g))) (three (header k 0) (varint n) rest b) (ANumber k n (rest ++ b) (more ++ g) (read_append d e))
read_append {b = b} {g = g} (EightBytes k v rest more long d) e =
    subst (λ bs. AreRead bs ((k, Eight v) ∷ (more ++ g))) (three (header k 1) v rest b) (EightBytes k v (rest ++ b) (more ++ g) long (read_append d e))
read_append {b = b} {g = g} (LongBytes k v rest more d) e =
    subst (λ bs. AreRead bs ((k, Bytes v) ∷ (more ++ g))) (four (header k 2) (varint (length v)) v rest b) (LongBytes k v (rest ++ b) (more ++ g) (read_append d e))
read_append {b = b} {g = g} (AGroup k v rest fields more c d) e =
    subst (λ bs. AreRead bs ((k, Group v) ∷ (more ++ g))) (four (header k 3) v (header k 4) rest b) (AGroup k v (rest ++ b) fields (more ++ g) c (read_append d e))
read_append {b = b} {g = g} (FourBytes k v rest more long d) e =
    subst (λ bs. AreRead bs ((k, Four v) ∷ (more ++ g))) (three (header k 5) v rest b) (FourBytes k v (rest ++ b) (more ++ g) long (read_append d e))

pub payloads-append : (n : ℕ) (f g : List (ℕ × Payload)) → payloads n (f ++ g) ≡ payloads n f ++ payloads n g
payloads-append n [] g = refl
payloads-append n ((k, p) ∷ f) g = go (k == n) (payloads n f) (payloads n (f ++ g)) (payloads-append n f g)
  where
    go : (b : Bool) (ps qs : List Payload) → qs ≡ ps ++ payloads n g → (if b then p ∷ qs else qs) ≡ (if b then p ∷ ps else ps) ++ payloads n g
    go true ps qs e = ap (λ rs. p ∷ rs) e
    go false ps qs e = e

pub one_message-append : (ps qs : List Payload) → one_message (ps ++ qs) ≡ one_message ps ++ one_message qs
one_message-append [] qs = refl
one_message-append (Bytes v ∷ ps) qs = ap (λ bs. v ++ bs) (one_message-append ps qs) ∙ sym (append_assoc v (one_message ps) (one_message qs))
one_message-append (Group v ∷ ps) qs = ap (λ bs. v ++ bs) (one_message-append ps qs) ∙ sym (append_assoc v (one_message ps) (one_message qs))
one_message-append (Number n ∷ ps) qs = one_message-append ps qs
one_message-append (Eight v ∷ ps) qs = one_message-append ps qs
one_message-append (Four v ∷ ps) qs = one_message-append ps qs

pub finds-append : (path a b : List ℕ) (x y : List Payload) → Finds a path x → Finds b path y → Finds (a ++ b) path (x ++ y)
finds-append [] a b x y h k = ap (λ z. z ++ y) h ∙ k
finds-append (n ∷ []) a b x y h k =
    (h.0 ++ k.0, read_append h.1 k.1, ap (λ z. z ++ y) h.2 ∙ ap (λ z. payloads n h.0 ++ z) k.2 ∙ sym (payloads-append n h.0 k.0))
finds-append (n ∷ next ∷ path) a b x y h k = (
  h.0 ++ k.0,
  read_append h.1 k.1,
  subst (λ bs. Finds bs (next ∷ path) (x ++ y))
      (sym (ap one_message (payloads-append n h.0 k.0) ∙ one_message-append (payloads n h.0) (payloads n k.0)))
      (finds-append (next ∷ path) (one_message (payloads n h.0)) (one_message (payloads n k.0)) x y h.2 k.2),
)

pub finds_nothing : (path : List ℕ) → Finds [] path []
finds_nothing [] = refl
finds_nothing (n ∷ []) = ([], NoField, refl)
finds_nothing (n ∷ next ∷ path) = ([], NoField, finds_nothing (next ∷ path))
