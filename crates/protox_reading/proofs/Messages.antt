-- The bytes of a message are read back.
use Rattle.std.proofs.Common.{◌≡◌, ℕ, Bool, true, false, List, [], ◌∷◌, ◌++◌, length, refl, sym, ap, subst, ◌∙◌, append_assoc, map}
use Rattle.std.specs.Prelude.{nat_lt, ◌==◌, if◌then◌else◌}
use Rattle.std.specs.List.{flat_map}
use Rattle.std.proofs.lemmas.Bool.{eqb-true}
use Rattle.protox_encode.specs.Wire.{header, varint}
use Rattle.protox_message_bytes.specs.Bytes.{field_bytes, fields_of, in_order, message_bytes, message_field, value_field}
use Rattle.protox_message_bytes.specs.Bytes.{joined as joined_fields}
use Rattle.protox_message_bytes.specs.Parts.{Parts, NoMore, Value, Message}
use Rattle.protox_reading.proofs.Joins.{finds-append, finds_nothing}
use Rattle.protox_reading.proofs.Order.{all_joined, field_of, join_in, joined_is, put_in, rising, sorted, sorted_is, those_joined, those_sorted}
use Rattle.protox_reading.proofs.Written.{written}
use Rattle.protox_reading.specs.Fields.{AreRead, NoField, ANumber, EightBytes, LongBytes, AGroup, FourBytes, Payload, Number, Eight, Bytes, Group, Four}
use Rattle.protox_reading.specs.Finding.{Finds, one_message, payloads}
use Rattle.protox_reading.specs.Laws.{MessagesReadBack}
use Rattle.protox_reading.specs.Said.{GoesThrough, Told, Packed, Alone, all_told, joined, said_at, shown, those, told_message, told_value}
use Rattle.protox_values.specs.declared.setting.SettingValue.{SettingValue}
use Rattle.protox_values.specs.declared.setting.SettingValue.TheVariants as on_wire

-- ---- what can be read

-- what a payload owes to be read
abbrev pub IsSound : Payload → Type 0
IsSound (Eight bytes) = length bytes ≡ 8
IsSound (Four bytes) = length bytes ≡ 4
IsSound (Group inside) = (fields : List (ℕ × Payload)) × AreRead inside fields
IsSound _ = Unit {0}

abbrev pub IsSoundTold : Told → Type 0
IsSoundTold (Packed bytes) = Unit {0}
IsSoundTold (Alone payload) = IsSound payload

abbrev pub AllSound : List (ℕ × Told) → Type 0
AllSound [] = Unit {0}
AllSound (t ∷ more) = IsSoundTold t.1 × AllSound more

-- a field in front of others
pub read_next : (k : ℕ) (p : Payload) (rest : List ℕ) (more : List (ℕ × Payload)) → IsSound p → AreRead rest more → AreRead (written (k, p) ++ rest) ((k, p) ∷ more)
read_next k (Number n) rest more s d = subst (λ bs. AreRead bs ((k, Number n) ∷ more)) (sym (append_assoc (header k 0) (varint n) rest)) (ANumber k n rest more d)
read_next k (Eight v) rest more s d = subst (λ bs. AreRead bs ((k, Eight v) ∷ more)) (sym (append_assoc (header k 1) v rest)) (EightBytes k v rest more s d)
read_next k (Bytes v) rest more s d =
    subst (λ bs. AreRead bs ((k, Bytes v) ∷ more))
    (sym (append_assoc (header k 2) (varint (length v) ++ v) rest ∙ ap (λ bs. header k 2 ++ bs) (append_assoc (varint (length v)) v rest)))
    (LongBytes k v rest more d)
read_next k (Group v) rest more s d =
    subst (λ bs. AreRead bs ((k, Group v) ∷ more))
    (sym (append_assoc (header k 3) (v ++ header k 4) rest ∙ ap (λ bs. header k 3 ++ bs) (append_assoc v (header k 4) rest)))
    (AGroup k v rest s.0 more s.1 d)
read_next k (Four v) rest more s d = subst (λ bs. AreRead bs ((k, Four v) ∷ more)) (sym (append_assoc (header k 5) v rest)) (FourBytes k v rest more s d)

-- a field as it is read
abbrev pub plain : ℕ × Told → ℕ × Payload
plain t = (t.0, shown t.1)

pub read_told : (k : ℕ) (t : Told) (rest : List ℕ) (more : List (ℕ × Payload)) → IsSoundTold t → AreRead rest more
    → AreRead (field_bytes (field_of (k, t)) ++ rest) ((k, shown t) ∷ more)
read_told k (Packed bytes) rest more s d = read_next k (Bytes bytes) rest more tt d
read_told k (Alone p) rest more s d = read_next k p rest more s d

pub read_all : (ts : List (ℕ × Told)) → AllSound ts → AreRead (flat_map field_bytes (map field_of ts)) (map plain ts)
read_all [] s = NoField
read_all (t ∷ more) s = read_told t.0 t.1 (flat_map field_bytes (map field_of more)) (map plain more) s.0 (read_all more s.1)

pub payloads_told : (n : ℕ) (ts : List (ℕ × Told)) → payloads n (map plain ts) ≡ map shown (those n ts)
payloads_told n [] = refl
payloads_told n (t ∷ more) = ap (λ ps. if t.0 == n then shown t.1 ∷ ps else ps) (payloads_told n more) ∙ go (t.0 == n)
  where
    go : (b : Bool) → (if b then shown t.1 ∷ map shown (those n more) else map shown (those n more)) ≡ map shown (if b then t.1 ∷ those n more else those n more)
    go true = refl
    go false = refl

-- ---- sorted and joined

sound_put : (f : ℕ × Told) (gs : List (ℕ × Told)) → IsSoundTold f.1 → AllSound gs → AllSound (put_in f gs)
sound_put f [] a s = (a, tt)
sound_put f (g ∷ more) a s = go (nat_lt g.0 f.0) (sound_put f more a s.1)
  where
    go : (b : Bool) → AllSound (put_in f more) → AllSound (if b then g ∷ put_in f more else f ∷ g ∷ more)
    go true r = (s.0, r)
    go false r = (a, s)

sound_sorted : (ts : List (ℕ × Told)) → AllSound ts → AllSound (sorted ts)
sound_sorted [] s = tt
sound_sorted (f ∷ more) s = sound_put f (sorted more) s.0 (sound_sorted more s.1)

sound_join : (f : ℕ × Told) (gs : List (ℕ × Told)) → IsSoundTold f.1 → AllSound gs → AllSound (join_in f gs)
sound_join (k, Packed a) [] h s = (h, s)
sound_join (k, Packed a) ((l, Packed b) ∷ more) h s = go (k == l)
  where
    go : (c : Bool) → AllSound (if c then (k, Packed (a ++ b)) ∷ more else (k, Packed a) ∷ (l, Packed b) ∷ more)
    go true = (tt, s.1)
    go false = (h, s)
sound_join (k, Packed a) ((l, Alone p) ∷ more) h s = (h, s)
sound_join (k, Alone p) gs h s = (h, s)

sound_joined : (ts : List (ℕ × Told)) → AllSound ts → AllSound (all_joined ts)
sound_joined [] s = tt
sound_joined (f ∷ more) s = sound_join f (all_joined more) s.0 (sound_joined more s.1)

-- the fields that are read of fields in order
abbrev pub read_in_order : List (ℕ × Told) → List (ℕ × Payload)
read_in_order ts = map plain (all_joined (sorted ts))

pub order_read : (ts : List (ℕ × Told)) → AllSound ts → AreRead (in_order (map field_of ts)) (read_in_order ts)
order_read ts s =
    subst (λ fs. AreRead (flat_map field_bytes fs) (read_in_order ts))
    (sym (ap joined_fields (sorted_is ts) ∙ joined_is (sorted ts)))
    (read_all (all_joined (sorted ts)) (sound_joined (sorted ts) (sound_sorted ts s)))

pub order_told : (n : ℕ) (ts : List (ℕ × Told)) → payloads n (read_in_order ts) ≡ map shown (joined (those n ts))
order_told n ts =
    payloads_told n (all_joined (sorted ts)) ∙ ap (λ us. map shown us) (those_joined n (sorted ts) (rising ts) ∙ ap joined (those_sorted n ts))

-- ---- the parts of a message

value_is : (number : ℕ) (packed : Bool) (value : SettingValue) → value_field number packed value ≡ field_of (number, told_value packed value)
value_is number true value = refl
value_is number false (on_wire.Varint n) = refl
value_is number false (on_wire.Eight n) = refl
value_is number false (on_wire.Bytes bytes) = refl
value_is number false (on_wire.Four n) = refl

message_is : (number : ℕ) (group : Bool) (inside : List ℕ) → message_field number group inside ≡ field_of (number, told_message group inside)
message_is number true inside = refl
message_is number false inside = refl

pub fields_are : (parts : Parts) → fields_of parts ≡ map field_of (all_told parts)
fields_are NoMore = refl
fields_are (Value number packed value more) =
    ap (λ f. f ∷ fields_of more) (value_is number packed value) ∙ ap (λ fs. field_of (number, told_value packed value) ∷ fs) (fields_are more)
fields_are (Message number group inside more) =
    ap (λ f. f ∷ fields_of more) (message_is number group (message_bytes inside))
    ∙ ap (λ fs. field_of (number, told_message group (message_bytes inside)) ∷ fs) (fields_are more)

sound_value : (packed : Bool) (value : SettingValue) → IsSoundTold (told_value packed value)
sound_value true value = tt
sound_value false (on_wire.Varint n) = tt
sound_value false (on_wire.Eight n) = refl
sound_value false (on_wire.Bytes bytes) = tt
sound_value false (on_wire.Four n) = refl

-- the message is read
message_read : (parts : Parts) → AllSound (all_told parts) → AreRead (message_bytes parts) (read_in_order (all_told parts))
message_read parts s =
    subst (λ fs. AreRead (in_order fs) (read_in_order (all_told parts))) (sym (fields_are parts)) (order_read (all_told parts) s)

sound_message : (group : Bool) (inside : List ℕ) (fields : List (ℕ × Payload)) → AreRead inside fields → IsSoundTold (told_message group inside)
sound_message true inside fields d = (fields, d)
sound_message false inside fields d = tt

pub sound_parts : (parts : Parts) → AllSound (all_told parts)
sound_parts NoMore = tt
sound_parts (Value number packed value more) = (sound_value packed value, sound_parts more)
sound_parts (Message number group inside more) =
    (sound_message group (message_bytes inside) (read_in_order (all_told inside)) (message_read inside (sound_parts inside)), sound_parts more)

pub parts_read : (parts : Parts) → AreRead (message_bytes parts) (read_in_order (all_told parts))
parts_read parts = message_read parts (sound_parts parts)

-- ---- paths

-- where a path goes on, nothing is packed
abbrev pub AreAlone : List Told → Type 0
AreAlone [] = Unit {0}
AreAlone (Packed bytes ∷ more) = ⊥
AreAlone (Alone payload ∷ more) = AreAlone more

pub joined_alone : (ts : List Told) → AreAlone ts → joined ts ≡ ts
joined_alone [] a = refl
joined_alone (Packed bytes ∷ more) a = absurd a
joined_alone (Alone payload ∷ more) a = ap (λ us. Alone payload ∷ us) (joined_alone more a)

passed : (k n : ℕ) (t : Told) (ts : List Told) → (k ≡ n → ⊥) → (if k == n then t ∷ ts else ts) ≡ ts
passed k n t ts h = go (k == n) refl
  where
    go : (b : Bool) → (k == n) ≡ b → (if b then t ∷ ts else ts) ≡ ts
    go true e = absurd (h (eqb-true k n e))
    go false e = refl

alone_there : (n next : ℕ) (path : List ℕ) (parts : Parts) → GoesThrough (n ∷ next ∷ path) parts → AreAlone (those n (all_told parts))
alone_there n next path NoMore g = tt
alone_there n next path (Value k packed value more) g =
    subst AreAlone (sym (passed k n (told_value packed value) (those n (all_told more)) g.0)) (alone_there n next path more g.1)
alone_there n next path (Message k group inside more) g = go (k == n) (alone_there n next path more g.1)
  where
    go : (b : Bool) → AreAlone (those n (all_told more)) → AreAlone (if b then told_message group (message_bytes inside) ∷ those n (all_told more) else those n (all_told more))
    go true a = a
    go false a = a

-- what a path finds in the messages with a number
abbrev pub messages_at : ℕ → Parts → List ℕ
messages_at n parts = one_message (map shown (those n (all_told parts)))

message_shown : (group : Bool) (inside : List ℕ) (more : List Told) → one_message (map shown (told_message group inside ∷ more)) ≡ inside ++ one_message (map shown more)
message_shown true inside more = refl
message_shown false inside more = refl

-- from what is found behind the first number
abbrev Deeper : Parts → ℕ → List ℕ → Type 0
Deeper parts n [] = Unit {0}
Deeper parts n (next ∷ path) = Finds (messages_at n parts) (next ∷ path) (said_at (n ∷ next ∷ path) parts)

found_by : (parts : Parts) (n : ℕ) (path : List ℕ) → GoesThrough (n ∷ path) parts → Deeper parts n path → Finds (message_bytes parts) (n ∷ path) (said_at (n ∷ path) parts)
found_by parts n [] g deeper = (read_in_order (all_told parts), parts_read parts, sym (order_told n (all_told parts)))
found_by parts n (next ∷ path) g deeper = (
  read_in_order (all_told parts),
  parts_read parts,
  subst (λ ps. Finds (one_message ps) (next ∷ path) (said_at (n ∷ next ∷ path) parts))
      (sym (order_told n (all_told parts) ∙ ap (λ ts. map shown ts) (joined_alone (those n (all_told parts)) (alone_there n next path parts g))))
      deeper,
)

deeper : (parts : Parts) (n : ℕ) (path : List ℕ) → GoesThrough (n ∷ path) parts → Deeper parts n path
deeper parts n [] g = tt
deeper NoMore n (next ∷ path) g = finds_nothing (next ∷ path)
deeper (Value k packed value more) n (next ∷ path) g =
    subst (λ ts. Finds (one_message (map shown ts)) (next ∷ path) (said_at (n ∷ next ∷ path) more))
    (sym (passed k n (told_value packed value) (those n (all_told more)) g.0))
    (deeper more n (next ∷ path) g.1)
deeper (Message k group inside more) n (next ∷ path) g =
    go (k == n) refl (deeper more n (next ∷ path) g.1) (λ h. found_by inside next path h (deeper inside next path h))
  where
    go : (b : Bool) → (k == n) ≡ b → Finds (messages_at n more) (next ∷ path) (said_at (n ∷ next ∷ path) more)
        → (GoesThrough (next ∷ path) inside → Finds (message_bytes inside) (next ∷ path) (said_at (next ∷ path) inside))
        → Finds (one_message (map shown (if b then told_message group (message_bytes inside) ∷ those n (all_told more) else those n (all_told more)))) (next ∷ path)
        ((if b then said_at (next ∷ path) inside else []) ++ said_at (n ∷ next ∷ path) more)
    go true e rest here =
        subst (λ bs. Finds bs (next ∷ path) (said_at (next ∷ path) inside ++ said_at (n ∷ next ∷ path) more))
        (sym (message_shown group (message_bytes inside) (those n (all_told more))))
        (finds-append (next ∷ path) (message_bytes inside) (messages_at n more) (said_at (next ∷ path) inside) (said_at (n ∷ next ∷ path) more)
        (here (g.0 (eqb-true k n e))) rest)
    go false e rest here = rest

pub messages_there : (parts : Parts) (n next : ℕ) (path : List ℕ) → GoesThrough (n ∷ next ∷ path) parts → Finds (messages_at n parts) (next ∷ path) (said_at (n ∷ next ∷ path) parts)
messages_there parts n next path g = deeper parts n (next ∷ path) g

pub messages_read_back : MessagesReadBack
messages_read_back parts [] g = refl
messages_read_back parts (n ∷ path) g = found_by parts n path g (deeper parts n path g)
