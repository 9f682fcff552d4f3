-- What statements of options say, as parts of the options message.
use Rattle.std.specs.Prelude.{◌≡◌, ℕ, ◌==◌, Bool, false, not, List, [], ◌∷◌, ◌++◌, Option, Some, None, Ok, if◌then◌else◌}
use Rattle.std.specs.List.{AllByRecursion, filter, flat_map}
use Rattle.protox_aggregate.specs.Fields.{is_group, wire_number}
use Rattle.protox_descriptor.specs.FieldDescriptorProto.{FieldDescriptorProto}
use Rattle.protox_descriptor.specs.declared.descriptor.options.UninterpretedOption.{UninterpretedOption}
use Rattle.protox_interpret.specs.Braces.{IsMessage}
use Rattle.protox_interpret.specs.Sites.{named, table}
use Rattle.protox_interpret.specs.Statements.{is_standard, steps_of}
use Rattle.protox_interpret.specs.declared.site.Site.{Site}
use Rattle.protox_message_bytes.specs.Parts.{Parts, NoMore, Value, Message}
use Rattle.protox_reading.specs.Fields.{Payload}
use Rattle.protox_reading.specs.Finding.{Finds}
use Rattle.protox_reading.specs.Said.{GoesThrough, said_at}
use Rattle.protox_reading.specs.Values.{FindsValues, Kind, LeadsTo, values_at}
use Rattle.protox_setting_bytes.specs.declared.step.Step.{Step}
use Rattle.protox_settings.specs.Fields.{field_numbered}
use Rattle.protox_settings.specs.Settings.{field_said}
use Rattle.protox_settings.specs.declared.setting.Said.TheVariants as said
use Rattle.protox_values.specs.declared.setting.SettingValue.{SettingValue}
use Rattle.protox_walk.specs.Declarations.{text_of}

-- ---- one statement

-- The statement gives this to the field: a value, or a message with the parts of the text in
-- braces.
pub data IsGiven (here : Site) (field : FieldDescriptorProto) (statement : UninterpretedOption) : Parts → Type 0 where
  AValue : (value : SettingValue) → field_said here.files.now (table here) field statement ≡ Ok (said.Value value)
      → IsGiven here field statement (Value (wire_number field) false value NoMore)
  AMessage : (message : ℕ) (parts : Parts) → field_said here.files.now (table here) field statement ≡ Ok (said.Aggregate message)
      → IsMessage here message (text_of statement.aggregate_value) parts
      → IsGiven here field statement (Message (wire_number field) (is_group field) parts NoMore)

-- parts in messages within one another, of which each holds the next, the outermost first
abbrev pub within : List Step → Parts → Parts
within [] parts = parts
within (step ∷ more) parts = Message step.number step.is_group (within more parts) NoMore

-- what is left of a path behind its front; nothing, if it doesn't begin so
abbrev pub behind : List ℕ → List ℕ → Option (List ℕ)
behind [] path = Some path
behind (m ∷ front) [] = None
behind (m ∷ front) (n ∷ path) = if m == n then behind front path else None

-- What a statement says: the parts that it adds to the options message; and whether the first field
-- of its name is no extension.
pub record Saying : Type 0 where
  pub parts : Parts
  pub standard : Bool

-- The statement says this: what it gives to the last field of its name, in messages of the other
-- fields.
pub record Says (here : Site) (statement : UninterpretedOption) (saying : Saying) : Type 0 where
  pub outer : List ℕ
  pub last : ℕ
  pub field : FieldDescriptorProto
  pub named : named here statement.name ≡ Ok (outer ++ last ∷ [])
  pub declared : field_numbered here.files.now (table here) last ≡ Some field
  pub given : Parts
  pub gives : IsGiven here field statement given
  pub parts : saying.parts ≡ within (steps_of here outer) given
  pub standard : saying.standard ≡ is_standard here (outer ++ last ∷ [])

-- ---- all statements

-- Each of the statements says this.
abbrev pub AreSaid : Site → List UninterpretedOption → List Saying → Type 0
AreSaid here [] [] = Unit {0}
AreSaid here [] (saying ∷ more) = ⊥
AreSaid here (statement ∷ statements) [] = ⊥
AreSaid here (statement ∷ statements) (saying ∷ more) = Says here statement saying × AreSaid here statements more

-- what they say at a path, and which values, in the order of the statements
abbrev pub all_said_at : List ℕ → List Saying → List Payload
all_said_at path sayings = flat_map (λ s. said_at path s.parts) sayings

abbrev pub all_values_at : List ℕ → List Saying → List Payload
all_values_at path sayings = flat_map (λ s. values_at path s.parts) sayings

-- statements that set extensions behind the others
abbrev pub extensions_last : List Saying → List Saying
extensions_last sayings = filter (λ s. s.standard) sayings ++ filter (λ s. not s.standard) sayings

-- For each statement the path goes through messages alone.
abbrev pub AllGoThrough : List ℕ → List Saying → Type 0
AllGoThrough path sayings = AllByRecursion (λ s. GoesThrough path s.parts) sayings

-- For each statement the path goes through messages alone, and ends at values of the kind.
abbrev pub AllLeadTo : Kind → List ℕ → List Saying → Type 0
AllLeadTo kind path sayings = AllByRecursion (λ s. LeadsTo kind path s.parts) sayings

-- the number of the first of the parts
abbrev pub first_number : Parts → ℕ
first_number NoMore = 0
first_number (Value number packed value more) = number
first_number (Message number group inside more) = number

-- The first number of the path is that of an extension or of another field, but not of both: it is
-- one or the other for all statements that say something of it.
abbrev pub IsUnmixed : List ℕ → List Saying → Type 0
IsUnmixed [] sayings = Unit {0}
IsUnmixed (number ∷ path) sayings =
    (standard : Bool) × AllByRecursion (λ s. first_number s.parts ≡ number → s.standard ≡ standard) sayings

-- What the statements say is found in these bytes, and nothing else, in the order of the
-- statements: the values at each path that leads to values of one kind, and the payloads at each
-- path that goes through messages alone. Where a number is that of an extension and of another
-- field, the payloads of the extension stand behind those of the other field.
pub record IsReadBack (here : Site) (statements : List UninterpretedOption) (bytes : List ℕ) : Type 0 where
  pub sayings : List Saying
  pub said : AreSaid here statements sayings
  pub values : (kind : Kind) (path : List ℕ) → AllLeadTo kind path sayings → IsUnmixed path sayings
      → FindsValues kind bytes path (all_values_at path sayings)
  pub payloads : (path : List ℕ) → AllGoThrough path sayings → IsUnmixed path sayings → Finds bytes path (all_said_at path sayings)
  pub mixed : (path : List ℕ) → AllGoThrough path sayings → Finds bytes path (all_said_at path (extensions_last sayings))
