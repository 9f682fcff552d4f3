-- The wire format of Protocol Buffers: the bytes of a message's fields.
use Rattle.std.specs.Prelude.{ℕ, zero, suc, ◌+◌, ◌*◌, ◌/◌, ◌%◌, List, [], ◌∷◌, ◌++◌, length, nat_lt, if◌then◌else◌}
use Rattle.std.specs.List.{flat_map}
use Rattle.std.specs.Int.{w64, to_le_bytes}

-- A number in groups of seven bits, the lowest first. Each group but the last has 128 added. After
-- that many groups the rest of the number stands as it is.
unfoldable pub varint_within : ℕ → ℕ → List ℕ
varint_within zero n = n ∷ []
varint_within (suc groups) n = if nat_lt n 128 then n ∷ [] else (128 + n % 128) ∷ varint_within groups (n / 128)

-- A number below 2 ^ 64 as bytes. Ten groups hold all of it.
unfoldable pub varint : ℕ → List ℕ
varint n = varint_within 10 n

-- What a field holds: a number, the eight bytes of a float, or bytes. Bytes are a text, a message
-- or packed numbers.
pub data Payload : Type 0 where
  Number : ℕ → Payload
  Eight : ℕ → Payload
  Bytes : List ℕ → Payload

-- The header of a field: its number, and the kind of its payload.
abbrev pub header : ℕ → ℕ → List ℕ
header number kind = varint (8 * number + kind)

-- A field: its header, then its payload. Bytes have their length in front.
abbrev pub field : ℕ → Payload → List ℕ
field number (Number n) = header number 0 ++ varint n
field number (Eight n) = header number 1 ++ to_le_bytes w64 n
field number (Bytes bytes) = header number 2 ++ (varint (length bytes) ++ bytes)

-- A field that occurs once for each of the payloads.
abbrev pub part : ℕ → List Payload → List ℕ
part number payloads = flat_map (field number) payloads

-- What a message holds: the numbers of its fields in the order in which they are written, each with
-- its payloads.
abbrev pub Parts : Type 0
Parts = List (ℕ × List Payload)

-- The bytes of a message: its fields, one after another.
abbrev pub message : Parts → List ℕ
message [] = []
message ((number, payloads) ∷ parts) = part number payloads ++ message parts
