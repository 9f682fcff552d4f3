-- Values of one kind are read back.
use Rattle.std.proofs.Common.{◌≡◌, ℕ, suc, Bool, true, false, List, [], ◌∷◌, ◌++◌, length, refl, sym, ap, subst, ◌∙◌, arith, append_assoc, append-nil, map}
use Rattle.std.specs.Prelude.{◌==◌, if◌then◌else◌}
use Rattle.std.specs.Int.{w32, w64, to_le_bytes}
use Rattle.std.proofs.lemmas.Bool.{eqb-true, false≢true}
use Rattle.protox_encode.proofs.Lemmas.{number_some, numbers_are_apart_law}
use Rattle.protox_encode.specs.Wire.{varint}
use Rattle.protox_message_bytes.specs.Bytes.{message_bytes}
use Rattle.protox_message_bytes.specs.Parts.{Parts, NoMore, Value, Message}
use Rattle.protox_reading.proofs.Apart.{cut_at, one_found}
use Rattle.protox_reading.proofs.Messages.{messages_read_back}
use Rattle.protox_reading.specs.Fields.{Payload, Number, Eight, Bytes, Group, Four}
use Rattle.protox_reading.specs.Laws.{OneTaken, ValuesReadBack}
use Rattle.protox_reading.specs.Said.{GoesThrough, Told, Packed, Alone, all_told, joined, joined_to, payload_of, said_at, shown, those, told_message, told_value}
use Rattle.protox_reading.specs.Values.{AreIn, ArePacked, AreTaken, IsOf, Kind, Numbers, Eights, Fours, Texts, LeadsTo, values_at}
use Rattle.protox_values.specs.declared.setting.SettingValue.{SettingValue}
use Rattle.protox_values.specs.declared.setting.SettingValue.TheVariants as on_wire

-- ---- one list of values at most

no_bytes : (a x : List ℕ) (n : ℕ) → length a ≡ suc n → [] ≡ a ++ x → ⊥
no_bytes [] x n long e = absurd (omega arith)
no_bytes (b ∷ bs) x n long e = cc

unpack : {kind : Kind} {a b : List ℕ} {f g : List Payload} → ArePacked kind a f → ArePacked kind b g → a ≡ b → f ≡ g
unpack (ArePacked.NoneLeft kind) (ArePacked.NoneLeft kind') e = refl
unpack (ArePacked.NoneLeft kind) (ArePacked.NextNumber n rest more d) e = absurd (number_some n rest e)
unpack (ArePacked.NoneLeft kind) (ArePacked.NextEight v rest more long d) e = absurd (no_bytes v rest 7 long e)
unpack (ArePacked.NoneLeft kind) (ArePacked.NextFour v rest more long d) e = absurd (no_bytes v rest 3 long e)
unpack (ArePacked.NextNumber n rest more d) (ArePacked.NoneLeft kind) e = absurd (number_some n rest (sym e))
unpack (ArePacked.NextEight v rest more long d) (ArePacked.NoneLeft kind) e = absurd (no_bytes v rest 7 long (sym e))
unpack (ArePacked.NextFour v rest more long d) (ArePacked.NoneLeft kind) e = absurd (no_bytes v rest 3 long (sym e))
unpack (ArePacked.NextNumber n rest more d) (ArePacked.NextNumber m rest' more' d') e =
    let r = numbers_are_apart_law n m rest rest' e in
    ap (λ k. Number k ∷ more) r.0 ∙ ap (λ vs. Number m ∷ vs) (unpack d d' r.1)
unpack (ArePacked.NextEight v rest more long d) (ArePacked.NextEight w rest' more' long' d') e =
    let r = cut_at v w rest rest' (long ∙ sym long') e in
    ap (λ bs. Eight bs ∷ more) r.0 ∙ ap (λ vs. Eight w ∷ vs) (unpack d d' r.1)
unpack (ArePacked.NextFour v rest more long d) (ArePacked.NextFour w rest' more' long' d') e =
    let r = cut_at v w rest rest' (long ∙ sym long') e in
    ap (λ bs. Four bs ∷ more) r.0 ∙ ap (λ vs. Four w ∷ vs) (unpack d d' r.1)

one_in : (kind : Kind) (p : Payload) (these those : List Payload) → AreIn kind p these → AreIn kind p those → these ≡ those
one_in Numbers (Number n) these those a b = a ∙ sym b
one_in Numbers (Bytes bytes) these those a b = unpack a b refl
one_in Numbers (Eight bytes) these those a b = a ∙ sym b
one_in Numbers (Group bytes) these those a b = a ∙ sym b
one_in Numbers (Four bytes) these those a b = a ∙ sym b
one_in Eights (Number n) these those a b = a ∙ sym b
one_in Eights (Bytes bytes) these those a b = unpack a b refl
one_in Eights (Eight bytes) these those a b = a ∙ sym b
one_in Eights (Group bytes) these those a b = a ∙ sym b
one_in Eights (Four bytes) these those a b = a ∙ sym b
one_in Fours (Number n) these those a b = a ∙ sym b
one_in Fours (Bytes bytes) these those a b = unpack a b refl
one_in Fours (Eight bytes) these those a b = a ∙ sym b
one_in Fours (Group bytes) these those a b = a ∙ sym b
one_in Fours (Four bytes) these those a b = a ∙ sym b
one_in Texts (Number n) these those a b = a ∙ sym b
one_in Texts (Bytes bytes) these those a b = a ∙ sym b
one_in Texts (Eight bytes) these those a b = a ∙ sym b
one_in Texts (Group bytes) these those a b = a ∙ sym b
one_in Texts (Four bytes) these those a b = a ∙ sym b

taken_once : (kind : Kind) (found these those : List Payload) → AreTaken kind found these → AreTaken kind found those → these ≡ those
taken_once kind [] these those a b = a ∙ sym b
taken_once kind (p ∷ more) these those a b =
    a.4 ∙ ap (λ vs. vs ++ a.1) (one_in kind p a.0 b.0 a.2 b.2) ∙ ap (λ vs. b.0 ++ vs) (taken_once kind more a.1 b.1 a.3 b.3) ∙ sym b.4

pub taken_at_most_once : OneTaken
taken_at_most_once kind bytes path these those a b =
    taken_once kind b.0 these those (subst (λ found. AreTaken kind found these) (one_found bytes path a.0 b.0 a.1 b.1) a.2) b.2

-- ---- values one behind the other

packed_append : {kind : Kind} {a b : List ℕ} {f g : List Payload} → ArePacked kind a f → ArePacked kind b g → ArePacked kind (a ++ b) (f ++ g)
packed_append (ArePacked.NoneLeft kind) e = e
packed_append {b = b} {g = g} (ArePacked.NextNumber n rest more d) e =
    subst (λ bs. ArePacked Numbers bs (Number n ∷ (more ++ g))) (sym (append_assoc (varint n) rest b)) (ArePacked.NextNumber n (rest ++ b) (more ++ g) (packed_append d e))
packed_append {b = b} {g = g} (ArePacked.NextEight v rest more long d) e =
    subst (λ bs. ArePacked Eights bs (Eight v ∷ (more ++ g))) (sym (append_assoc v rest b)) (ArePacked.NextEight v (rest ++ b) (more ++ g) long (packed_append d e))
packed_append {b = b} {g = g} (ArePacked.NextFour v rest more long d) e =
    subst (λ bs. ArePacked Fours bs (Four v ∷ (more ++ g))) (sym (append_assoc v rest b)) (ArePacked.NextFour v (rest ++ b) (more ++ g) long (packed_append d e))

pub taken_append : (kind : Kind) (xs ys these those : List Payload) → AreTaken kind xs these → AreTaken kind ys those → AreTaken kind (xs ++ ys) (these ++ those)
taken_append kind [] ys these those a b = subst (λ vs. AreTaken kind ys (vs ++ those)) (sym a) b
taken_append kind (x ∷ xs) ys these those a b =
    (a.0, a.1 ++ those, a.2, taken_append kind xs ys a.1 those a.3 b, ap (λ vs. vs ++ those) a.4 ∙ append_assoc a.0 a.1 those)

-- ---- what is told of one number

-- What is told is one value of a kind.
abbrev IsTold : Kind → Told → Payload → Type 0
IsTold kind (Packed bytes) value = ArePacked kind bytes (value ∷ []) × (kind ≡ Texts → ⊥)
IsTold kind (Alone payload) value = AreIn kind payload (value ∷ [])

abbrev AreTold : Kind → List Told → List Payload → Type 0
AreTold kind [] [] = Unit {0}
AreTold kind [] (v ∷ vs) = ⊥
AreTold kind (t ∷ ts) [] = ⊥
AreTold kind (t ∷ ts) (v ∷ vs) = IsTold kind t v × AreTold kind ts vs

in_packed : (kind : Kind) (bytes : List ℕ) (values : List Payload) → (kind ≡ Texts → ⊥) → ArePacked kind bytes values → AreIn kind (Bytes bytes) values
in_packed Numbers bytes values h d = d
in_packed Eights bytes values h d = d
in_packed Fours bytes values h d = d
in_packed Texts bytes values h d = absurd (h refl)

packed_in : (kind : Kind) (bytes : List ℕ) (values : List Payload) → (kind ≡ Texts → ⊥) → AreIn kind (Bytes bytes) values → ArePacked kind bytes values
packed_in Numbers bytes values h d = d
packed_in Eights bytes values h d = d
packed_in Fours bytes values h d = d
packed_in Texts bytes values h d = absurd (h refl)

-- what is told, in front of what is joined
taken_next : (kind : Kind) (t : Told) (v : Payload) (ts : List Told) (vs : List Payload) → IsTold kind t v → AreTaken kind (map shown ts) vs
    → AreTaken kind (map shown (joined_to t ts)) (v ∷ vs)
taken_next kind (Alone p) v ts vs a b = (v ∷ [], vs, a, b, refl)
taken_next kind (Packed bytes) v [] vs a b = (v ∷ [], vs, in_packed kind bytes (v ∷ []) a.1 a.0, b, refl)
taken_next kind (Packed bytes) v (Alone p ∷ ts) vs a b = (v ∷ [], vs, in_packed kind bytes (v ∷ []) a.1 a.0, b, refl)
taken_next kind (Packed bytes) v (Packed more ∷ ts) vs a b =
    (v ∷ b.0, b.1, in_packed kind (bytes ++ more) (v ∷ b.0) a.1 (packed_append a.0 (packed_in kind more b.0 a.1 b.2)), b.3, ap (λ us. v ∷ us) b.4)

taken_all : (kind : Kind) (ts : List Told) (vs : List Payload) → AreTold kind ts vs → AreTaken kind (map shown (joined ts)) vs
taken_all kind [] [] a = refl
taken_all kind [] (v ∷ vs) a = absurd a
taken_all kind (t ∷ ts) [] a = absurd a
taken_all kind (t ∷ ts) (v ∷ vs) a = taken_next kind t v (joined ts) vs a.0 (taken_all kind ts vs a.1)

-- ---- the parts of a message

told_of : (kind : Kind) (packed : Bool) (value : SettingValue) → IsOf kind packed value → IsTold kind (told_value packed value) (payload_of value)
told_of Numbers true (on_wire.Varint n) h =
    (subst (λ bs. ArePacked Numbers bs (Number n ∷ [])) (append-nil (varint n)) (ArePacked.NextNumber n [] [] (ArePacked.NoneLeft Numbers)), λ e. cc)
told_of Numbers false (on_wire.Varint n) h = refl
told_of Eights true (on_wire.Eight n) h = (ArePacked.NextEight (to_le_bytes w64 n) [] [] refl (ArePacked.NoneLeft Eights), λ e. cc)
told_of Eights false (on_wire.Eight n) h = refl
told_of Fours true (on_wire.Four n) h = (ArePacked.NextFour (to_le_bytes w32 n) [] [] refl (ArePacked.NoneLeft Fours), λ e. cc)
told_of Fours false (on_wire.Four n) h = refl
told_of Texts true (on_wire.Bytes bytes) h = absurd (false≢true (sym h))
told_of Texts false (on_wire.Bytes bytes) h = refl
told_of kind packed value h = absurd h

told_there : (kind : Kind) (n : ℕ) (parts : Parts) → LeadsTo kind (n ∷ []) parts → AreTold kind (those n (all_told parts)) (values_at (n ∷ []) parts)
told_there kind n NoMore g = tt
told_there kind n (Value k packed value more) g = go (k == n) refl (told_there kind n more g.1)
  where
    go : (b : Bool) → (k == n) ≡ b → AreTold kind (those n (all_told more)) (values_at (n ∷ []) more)
        → AreTold kind (if b then told_value packed value ∷ those n (all_told more) else those n (all_told more))
        ((if b then payload_of value ∷ [] else []) ++ values_at (n ∷ []) more)
    go true e r = (told_of kind packed value (g.0 (eqb-true k n e)), r)
    go false e r = r
told_there kind n (Message k group inside more) g = go (k == n) refl (told_there kind n more g.1)
  where
    go : (b : Bool) → (k == n) ≡ b → AreTold kind (those n (all_told more)) (values_at (n ∷ []) more)
        → AreTold kind (if b then told_message group (message_bytes inside) ∷ those n (all_told more) else those n (all_told more)) (values_at (n ∷ []) more)
    go true e r = absurd (g.0 (eqb-true k n e))
    go false e r = r

pub goes_through : (kind : Kind) (path : List ℕ) (parts : Parts) → LeadsTo kind path parts → GoesThrough path parts
goes_through kind [] parts g = tt
goes_through kind (n ∷ []) parts g = tt
goes_through kind (n ∷ next ∷ path) NoMore g = tt
goes_through kind (n ∷ next ∷ path) (Value k packed value more) g = (g.0, goes_through kind (n ∷ next ∷ path) more g.1)
goes_through kind (n ∷ next ∷ path) (Message k group inside more) g =
    (λ e. goes_through kind (next ∷ path) inside (g.0 e), goes_through kind (n ∷ next ∷ path) more g.1)

-- The values are taken from what is said.
pub said_taken : (kind : Kind) (path : List ℕ) (parts : Parts) → LeadsTo kind path parts → AreTaken kind (said_at path parts) (values_at path parts)
said_taken kind [] parts g = refl
said_taken kind (n ∷ []) parts g = taken_all kind (those n (all_told parts)) (values_at (n ∷ []) parts) (told_there kind n parts g)
said_taken kind (n ∷ next ∷ path) NoMore g = refl
said_taken kind (n ∷ next ∷ path) (Value k packed value more) g = said_taken kind (n ∷ next ∷ path) more g.1
said_taken kind (n ∷ next ∷ path) (Message k group inside more) g =
    go (k == n) refl (λ h. said_taken kind (next ∷ path) inside h) (said_taken kind (n ∷ next ∷ path) more g.1)
  where
    go : (b : Bool) → (k == n) ≡ b → (LeadsTo kind (next ∷ path) inside → AreTaken kind (said_at (next ∷ path) inside) (values_at (next ∷ path) inside))
        → AreTaken kind (said_at (n ∷ next ∷ path) more) (values_at (n ∷ next ∷ path) more)
        → AreTaken kind ((if b then said_at (next ∷ path) inside else []) ++ said_at (n ∷ next ∷ path) more)
        ((if b then values_at (next ∷ path) inside else []) ++ values_at (n ∷ next ∷ path) more)
    go true e here r =
        taken_append kind (said_at (next ∷ path) inside) (said_at (n ∷ next ∷ path) more) (values_at (next ∷ path) inside) (values_at (n ∷ next ∷ path) more)
        (here (g.0 (eqb-true k n e))) r
    go false e here r = r

pub values_read_back : ValuesReadBack
values_read_back kind parts path g =
    (said_at path parts, messages_read_back parts path (goes_through kind path parts g), said_taken kind path parts g)
