-- What bytes mean by the wire format alone: the list of fields that they hold, for any kind of
-- message.
use Rattle.std.specs.Prelude.{◌≡◌, ℕ, ◌<◌, ◌^◌, Bool, true, ◌&&◌, nat_lt, List, [], ◌∷◌, ◌++◌}
use Rattle.protox_descriptor.specs.declared.descriptor.FileDescriptorProto.{FileDescriptorProto}
use Rattle.protox_encode.specs.Messages.{file_descriptor, file_set}
use Rattle.protox_encode.specs.Wire.{Payload, Number, Eight, Bytes, Parts, field, message, varint}

-- No encoded number is the beginning of another. So the bytes determine the number in front, and
-- what follows it.
abbrev pub NumbersAreApart : Type 0
NumbersAreApart = (m n : ℕ) (x y : List ℕ) → varint m ++ x ≡ varint n ++ y → (m ≡ n) × (x ≡ y)

-- A payload has room for its value. Eight bytes hold a number below 2 ^ 64; the other payloads hold
-- anything.
abbrev pub HasRoom : Payload → Type 0
HasRoom (Number n) = Unit {0}
HasRoom (Eight n) = n < 2 ^ 64
HasRoom (Bytes bytes) = Unit {0}

-- Every field has room for its value.
abbrev pub HaveRoom : List (ℕ × Payload) → Type 0
HaveRoom [] = Unit {0}
HaveRoom (f ∷ fs) = HasRoom f.1 × HaveRoom fs

-- The bytes of a list of fields.
abbrev pub fields : List (ℕ × Payload) → List ℕ
fields [] = []
fields (f ∷ fs) = field f.0 f.1 ++ fields fs

-- Bytes are the encoding of at most one list of fields, for any kind of message.
abbrev pub OneReading : Type 0
OneReading = (fs gs : List (ℕ × Payload)) → HaveRoom fs → HaveRoom gs → fields fs ≡ fields gs → fs ≡ gs

-- Several payloads under one field number, in order.
abbrev pub numbered : ℕ → List Payload → List (ℕ × Payload)
numbered number [] = []
numbered number (payload ∷ payloads) = (number, payload) ∷ numbered number payloads

-- All fields of a message, in the order in which they are written.
abbrev pub fields_of : Parts → List (ℕ × Payload)
fields_of [] = []
fields_of ((number, payloads) ∷ parts) = numbered number payloads ++ fields_of parts

-- The bytes of a message are the bytes of its fields, one after another.
abbrev pub AreItsFields : Type 0
AreItsFields = (parts : Parts) → message parts ≡ fields (fields_of parts)

-- Every field of a file has room for its value. So the bytes of a file determine its fields.
abbrev pub FilesHaveRoom : Type 0
FilesHaveRoom = (file : FileDescriptorProto) → HaveRoom (fields_of (file_descriptor file))

-- The field numbers of a message.
abbrev pub numbers : Parts → List ℕ
numbers [] = []
numbers ((number, payloads) ∷ parts) = number ∷ numbers parts

-- Whether the numbers rise, and all are greater than k.
abbrev pub rise_from : ℕ → List ℕ → Bool
rise_from k [] = true
rise_from k (number ∷ more) = nat_lt k number && rise_from number more

-- Two messages with the same rising field numbers and the same bytes hold the same values.
abbrev pub OneMessage : Type 0
OneMessage = (p q : Parts) → numbers p ≡ numbers q → rise_from 0 (numbers p) ≡ true → HaveRoom (fields_of p) → HaveRoom (fields_of q)
    → message p ≡ message q → p ≡ q

-- The bytes of two file sets, one after the other, are the bytes of the set of all their files.
abbrev pub SetsJoin : Type 0
SetsJoin = (these those : List FileDescriptorProto) → message (file_set (these ++ those)) ≡ message (file_set these) ++ message (file_set those)
