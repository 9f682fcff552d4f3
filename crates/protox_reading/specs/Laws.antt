-- The laws of reading.
use Rattle.std.specs.Prelude.{◌≡◌, ℕ, ◌<◌, ◌^◌, List, []}
use Rattle.std.specs.Option.{option_map_or}
use Rattle.protox_descriptor.specs.declared.descriptor.options.UninterpretedOption.{UninterpretedOption}
use Rattle.protox_encode.specs.Wire.{varint}
use Rattle.protox_interpret.specs.Answers.{IsAnswer}
use Rattle.protox_interpret.specs.Statements.{numbers_of}
use Rattle.protox_interpret.specs.declared.site.Interpreted.{Interpreted}
use Rattle.protox_interpret.specs.declared.site.Site.{Site}
use Rattle.protox_message_bytes.specs.Bytes.{message_bytes}
use Rattle.protox_message_bytes.specs.Parts.{Parts}
use Rattle.protox_reading.specs.Fields.{AreRead, IsNumber, Payload}
use Rattle.protox_reading.specs.Finding.{Finds}
use Rattle.protox_reading.specs.Said.{GoesThrough, said_at}
use Rattle.protox_reading.specs.Statements.{IsReadBack, behind, within}
use Rattle.protox_reading.specs.Values.{FindsValues, Kind, LeadsTo, values_at}
use Rattle.protox_setting_bytes.specs.declared.step.Step.{Step}

-- The bytes that stand for a number are read as this number.
abbrev pub NumbersAreRead : Type 0
NumbersAreRead = (n : ℕ) → n < 2 ^ 64 → IsNumber (varint n) n

-- Bytes are read as one list of fields at most.
abbrev pub OneReading : Type 0
OneReading = (bytes : List ℕ) (these those : List (ℕ × Payload)) → AreRead bytes these → AreRead bytes those → these ≡ those

-- So at most one list of payloads is found at a path.
abbrev pub OneFound : Type 0
OneFound = (bytes path : List ℕ) (these those : List Payload) → Finds bytes path these → Finds bytes path those → these ≡ those

-- In the bytes of a message what its parts say is found again, and nothing else: at each path that
-- goes through messages alone.
abbrev pub MessagesReadBack : Type 0
MessagesReadBack = (parts : Parts) (path : List ℕ) → GoesThrough path parts → Finds (message_bytes parts) path (said_at path parts)

-- At most one list of values of a kind is found at a path.
abbrev pub OneTaken : Type 0
OneTaken = (kind : Kind) (bytes path : List ℕ) (these those : List Payload) → FindsValues kind bytes path these → FindsValues kind bytes path those → these ≡ those

-- In the bytes of a message the values that its parts say are found again, and no others, whether
-- they are packed or not: at each path that leads to values of one kind.
abbrev pub ValuesReadBack : Type 0
ValuesReadBack = (kind : Kind) (parts : Parts) (path : List ℕ) → LeadsTo kind path parts → FindsValues kind (message_bytes parts) path (values_at path parts)

-- What a statement gives is said at the path of its name, or behind it, and nowhere else.
abbrev pub NamedValues : Type 0
NamedValues = (outer : List Step) (given : Parts) (path : List ℕ)
    → values_at path (within outer given) ≡ option_map_or (λ rest. values_at rest given) (behind (numbers_of outer) path) []

-- In the bytes that are answered of statements of options what they say is found again.
abbrev pub OptionsReadBack : Type 0
OptionsReadBack = (here : Site) (statements : List UninterpretedOption) (answer : Interpreted) → IsAnswer here statements answer
    → IsReadBack here statements answer.bytes.items
