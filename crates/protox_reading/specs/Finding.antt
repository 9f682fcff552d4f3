-- What a reader finds at a path.
use Rattle.std.specs.Prelude.{◌≡◌, ℕ, ◌==◌, List, [], ◌∷◌, ◌++◌, if◌then◌else◌}
use Rattle.protox_reading.specs.Fields.{AreRead, Payload, Bytes, Group}

-- what stands in the fields with a number, in their order
abbrev pub payloads : ℕ → List (ℕ × Payload) → List Payload
payloads number [] = []
payloads number ((k, payload) ∷ more) = if k == number then payload ∷ payloads number more else payloads number more

-- Several messages in fields of one number are one message, which has the bytes of all of them, one
-- behind the other. A field that can hold no message is passed over.
abbrev pub one_message : List Payload → List ℕ
one_message [] = []
one_message (Bytes inside ∷ more) = inside ++ one_message more
one_message (Group inside ∷ more) = inside ++ one_message more
one_message (_ ∷ more) = one_message more

-- Who reads the bytes of a message finds this at a path. A path is the numbers of fields within one
-- another, the outermost first. Where it goes on behind a number, the fields with the number are
-- read as messages.
abbrev pub Finds : List ℕ → List ℕ → List Payload → Type 0
Finds bytes [] found = found ≡ []
Finds bytes (number ∷ []) found = (fields : List (ℕ × Payload)) × AreRead bytes fields × (found ≡ payloads number fields)
Finds bytes (number ∷ next ∷ path) found =
    (fields : List (ℕ × Payload)) × AreRead bytes fields × Finds (one_message (payloads number fields)) (next ∷ path) found
