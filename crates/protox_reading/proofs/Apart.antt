-- Bytes are read as one list of fields at most.
use Rattle.std.proofs.Common.{◌≡◌, ℕ, List, [], ◌∷◌, ◌++◌, length, refl, sym, ap, subst, ◌∙◌, arith, append_assoc}
use Rattle.protox_encode.proofs.Lemmas.{number_some, numbers_are_apart_law}
use Rattle.protox_encode.specs.Wire.{header, varint}
use Rattle.protox_reading.proofs.Written.{all_written, are_written, first_apart, held, header_apart, kind, no_end, written}
use Rattle.protox_reading.specs.Fields.{AreRead, NoField, ANumber, EightBytes, LongBytes, AGroup, FourBytes, Payload, Number, Eight, Bytes, Group, Four}
use Rattle.protox_reading.specs.Finding.{Finds, one_message, payloads}
use Rattle.protox_reading.specs.Laws.{OneFound, OneReading}

-- What may stand behind the fields of a message: nothing, or the mark of the end of a group.
data IsEnd : List ℕ → Type 0 where
  Over : IsEnd []
  Mark : (number : ℕ) (rest : List ℕ) → IsEnd (header number 4 ++ rest)

pub cut_at : (a b x y : List ℕ) → length a ≡ length b → a ++ x ≡ b ++ y → (a ≡ b) × (x ≡ y)
cut_at [] [] x y l e = (refl, e)
cut_at [] (b ∷ bs) x y l e = absurd (omega arith)
cut_at (a ∷ more) [] x y l e = absurd (omega arith)
cut_at (a ∷ more) (b ∷ bs) x y l e =
    let t : more ++ x ≡ bs ++ y = cc in
    let h : a ≡ b = cc in
    let r : (more ≡ bs) × (x ≡ y) = cut_at more bs x y (omega arith) t in
    (ap (λ (z : ℕ). z ∷ more) h ∙ ap (λ (zs : List ℕ). b ∷ zs) r.0, r.1)

-- no field begins where fields end
no_field : {x : List ℕ} → IsEnd x → (k : ℕ) (p : Payload) (y : List ℕ) → x ≡ written (k, p) ++ y → ⊥
no_field Over k p y e = number_some _ _ (e ∙ append_assoc (header k (kind p)) (held k p) y)
no_field (Mark n rest) k p y e = no_end k n p y rest e

-- where fields end, no more of them are read
none_left : {x : List ℕ} → IsEnd x → (g : List (ℕ × Payload)) (y : List ℕ) → x ≡ all_written g ++ y → ([] ≡ g) × (x ≡ y)
none_left end [] y e = (refl, e)
none_left end ((l, q) ∷ more) y e = absurd (no_field end l q (all_written more ++ y) (e ∙ append_assoc (written (l, q)) (all_written more) y))

-- Two readings of the same bytes agree, and end at the same place.
record Agree (f g : List (ℕ × Payload)) (x y : List ℕ) : Type 0 where
  same : f ≡ g
  rest : x ≡ y

-- a field in front of others that agree
agree_next : (k l : ℕ) (p q : Payload) (f g : List (ℕ × Payload)) (x y : List ℕ) → k ≡ l → p ≡ q → Agree f g x y → Agree ((k, p) ∷ f) ((l, q) ∷ g) x y
agree_next k l p q f g x y a b c = record { same = λ i. (a i, b i) ∷ c.same i; rest = c.rest }

-- the fields in front are of one number and kind
fronts : {a b : List ℕ} {f g : List (ℕ × Payload)} → AreRead a f → AreRead b g → (x y : List ℕ) → a ++ x ≡ b ++ y → all_written f ++ x ≡ all_written g ++ y
fronts d e x y same = ap (λ bs. bs ++ x) (sym (are_written d)) ∙ same ∙ ap (λ bs. bs ++ y) (are_written e)

front_kinds : (f g : List (ℕ × Payload)) (k l : ℕ) (p q : Payload) (x y : List ℕ) → all_written ((k, p) ∷ f) ++ x ≡ all_written ((l, q) ∷ g) ++ y
    → (k ≡ l) × (kind p ≡ kind q) × (held k p ++ (all_written f ++ x) ≡ held l q ++ (all_written g ++ y))
front_kinds f g k l p q x y e =
    first_apart k l p q (all_written f ++ x) (all_written g ++ y)
    (sym (append_assoc (written (k, p)) (all_written f) x) ∙ e ∙ append_assoc (written (l, q)) (all_written g) y)

abbrev first_kind : List (ℕ × Payload) → ℕ
first_kind [] = 0
first_kind ((k, p) ∷ more) = kind p

abbrev IsSome : List (ℕ × Payload) → Type 0
IsSome [] = ⊥
IsSome (f ∷ more) = Unit {0}

same_first : (f g : List (ℕ × Payload)) (x y : List ℕ) → IsSome f → IsSome g → all_written f ++ x ≡ all_written g ++ y → first_kind f ≡ first_kind g
same_first [] g x y a b e = absurd a
same_first ((k, p) ∷ f) [] x y a b e = absurd b
same_first ((k, p) ∷ f) ((l, q) ∷ g) x y a b e = (front_kinds f g k l p q x y e).1

-- the bytes of what is read, in front of more
back : {a : List ℕ} {f : List (ℕ × Payload)} → AreRead a f → (x : List ℕ) → a ++ x ≡ all_written f ++ x
back d x = ap (λ bs. bs ++ x) (are_written d)

agree : {a b : List ℕ} {f g : List (ℕ × Payload)} → AreRead a f → AreRead b g → (x y : List ℕ) → IsEnd x → IsEnd y → a ++ x ≡ b ++ y → Agree f g x y
agree {g = g} NoField e x y ex ey same =
    let r = none_left ex g y (fronts NoField e x y same) in
    record { same = r.0; rest = r.1 }
agree {f = f} d NoField x y ex ey same =
    let r = none_left ey f x (sym (fronts d NoField x y same)) in
    record { same = sym r.0; rest = sym r.1 }
agree (ANumber k n a f d) (ANumber l m b g e) x y ex ey same =
    let r = front_kinds f g k l (Number n) (Number m) x y (fronts (ANumber k n a f d) (ANumber l m b g e) x y same) in
    let s = numbers_are_apart_law n m (all_written f ++ x) (all_written g ++ y) r.2 in
    agree_next k l (Number n) (Number m) f g x y r.0 (ap Number s.0) (agree d e x y ex ey (back d x ∙ s.1 ∙ sym (back e y)))
agree (EightBytes k v a f long d) (EightBytes l w b g long' e) x y ex ey same =
    let r = front_kinds f g k l (Eight v) (Eight w) x y (fronts (EightBytes k v a f long d) (EightBytes l w b g long' e) x y same) in
    let s = cut_at v w (all_written f ++ x) (all_written g ++ y) (long ∙ sym long') r.2 in
    agree_next k l (Eight v) (Eight w) f g x y r.0 (ap Eight s.0) (agree d e x y ex ey (back d x ∙ s.1 ∙ sym (back e y)))
agree (LongBytes k v a f d) (LongBytes l w b g e) x y ex ey same =
    let r = front_kinds f g k l (Bytes v) (Bytes w) x y (fronts (LongBytes k v a f d) (LongBytes l w b g e) x y same) in
    let t = numbers_are_apart_law (length v) (length w) (v ++ (all_written f ++ x)) (w ++ (all_written g ++ y))
    (sym (append_assoc (varint (length v)) v (all_written f ++ x)) ∙ r.2 ∙ append_assoc (varint (length w)) w (all_written g ++ y)) in
    let s = cut_at v w (all_written f ++ x) (all_written g ++ y) t.0 t.1 in
    agree_next k l (Bytes v) (Bytes w) f g x y r.0 (ap Bytes s.0) (agree d e x y ex ey (back d x ∙ s.1 ∙ sym (back e y)))
agree (AGroup k v a h f c d) (AGroup l w b i g c' e) x y ex ey same =
    let r = front_kinds f g k l (Group v) (Group w) x y (fronts (AGroup k v a h f c d) (AGroup l w b i g c' e) x y same) in
    let t = agree c c' (header k 4 ++ (all_written f ++ x)) (header l 4 ++ (all_written g ++ y)) (Mark k (all_written f ++ x)) (Mark l (all_written g ++ y))
    (sym (append_assoc v (header k 4) (all_written f ++ x)) ∙ r.2 ∙ append_assoc w (header l 4) (all_written g ++ y)) in
    let s = header_apart k l 4 4 (all_written f ++ x) (all_written g ++ y) (omega arith) (omega arith) t.rest in
    agree_next k l (Group v) (Group w) f g x y r.0 (ap Group (are_written c ∙ ap all_written t.same ∙ sym (are_written c'))) (agree d e x y ex ey (back d x ∙ s.2 ∙ sym (back e y)))
agree (FourBytes k v a f long d) (FourBytes l w b g long' e) x y ex ey same =
    let r = front_kinds f g k l (Four v) (Four w) x y (fronts (FourBytes k v a f long d) (FourBytes l w b g long' e) x y same) in
    let s = cut_at v w (all_written f ++ x) (all_written g ++ y) (long ∙ sym long') r.2 in
    agree_next k l (Four v) (Four w) f g x y r.0 (ap Four s.0) (agree d e x y ex ey (back d x ∙ s.1 ∙ sym (back e y)))
agree {f = f} {g = g} d e x y ex ey same = let r : first_kind f ≡ first_kind g = same_first f g x y tt tt (fronts d e x y same) in absurd (omega (arith, r))

pub one_reading : OneReading
one_reading bytes these those d e = (agree d e [] [] Over Over refl).same

pub one_found : OneFound
one_found bytes [] these those h k = h ∙ sym k
one_found bytes (number ∷ []) these those h k = h.2 ∙ ap (payloads number) (one_reading bytes h.0 k.0 h.1 k.1) ∙ sym k.2
one_found bytes (number ∷ next ∷ path) these those h k =
    one_found (one_message (payloads number k.0)) (next ∷ path) these those
    (subst (λ fields. Finds (one_message (payloads number fields)) (next ∷ path) these) (one_reading bytes h.0 k.0 h.1 k.1) h.2) k.2
