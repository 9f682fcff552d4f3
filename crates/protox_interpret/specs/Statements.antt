-- What statements set.
use Rattle.std.specs.Prelude.{◌≡◌, ℕ, Bool, true, false, not, List, [], ◌∷◌, ◌++◌, Option, Some, None, Ok, Err, is_some, map, slice_get, take}
use Rattle.std.specs.Option.{option_map_or}
use Rattle.std.specs.List.{flat_map}
use Rattle.protox_aggregate.specs.Fields.{is_group, wire_number}
use Rattle.protox_descriptor.specs.FieldDescriptorProto.{FieldDescriptorProto}
use Rattle.protox_descriptor.specs.declared.descriptor.options.UninterpretedOption.{UninterpretedOption}
use Rattle.protox_interpret.specs.Braces.{IsMessage, IsNoMessage}
use Rattle.protox_interpret.specs.Settings.{Setting, is_free, paths_of}
use Rattle.protox_interpret.specs.Sites.{named, table}
use Rattle.protox_interpret.specs.declared.fault.StatementFault.{StatementFault}
use Rattle.protox_interpret.specs.declared.fault.StatementFaultKind.{StatementFaultKind}
use Rattle.protox_interpret.specs.declared.fault.StatementFaultKind.TheVariants as kind
use Rattle.protox_interpret.specs.declared.site.Site.{Site}
use Rattle.protox_message_bytes.specs.Bytes.{message_bytes}
use Rattle.protox_message_bytes.specs.Parts.{Parts, steps}
use Rattle.protox_message_bytes.specs.declared.entry.Entry.{Entry}
use Rattle.protox_set_paths.specs.Paths.{is_set}
use Rattle.protox_setting_bytes.specs.Bytes.{around_all, setting_bytes}
use Rattle.protox_setting_bytes.specs.declared.step.Step.{Step}
use Rattle.protox_settings.specs.Fields.{field_numbered, is_repeated}
use Rattle.protox_settings.specs.Settings.{field_said}
use Rattle.protox_settings.specs.declared.fault.NameFault.{NameFault}
use Rattle.protox_settings.specs.declared.fault.SettingFault.{SettingFault}
use Rattle.protox_settings.specs.declared.setting.Said.TheVariants as said
use Rattle.protox_values.specs.declared.setting.SettingValue.{SettingValue}
use Rattle.protox_walk.specs.Declarations.{text_of}

-- ---- the fields of a name

-- the field with a number, as it stands on the wire
abbrev pub step_of : Option FieldDescriptorProto → Step
step_of None = record { number = 0; is_group = false }
step_of (Some field) = record { number = wire_number field; is_group = is_group field }

abbrev pub steps_of : Site → List ℕ → List Step
steps_of here fields = map (λ n. step_of (field_numbered here.files.now (table here) n)) fields

abbrev pub numbers_of : List Step → List ℕ
numbers_of steps = map (λ step. step.number) steps

-- whether the first of the fields is no extension
abbrev pub is_standard : Site → List ℕ → Bool
is_standard here [] = false
is_standard here (n ∷ more) = option_map_or (λ field. not (is_some field.extendee)) (field_numbered here.files.now (table here) n) false

-- ---- one statement

-- The statement gives a field its value: what stands in its braces, and the bytes of the value in the
-- fields that its name goes through, of which the last is this one.
pub data Gives (here : Site) (outer : List Step) (field : FieldDescriptorProto) (statement : UninterpretedOption) : List Entry → List ℕ → Type 0 where
  AValue : (value : SettingValue) → field_said here.files.now (table here) field statement ≡ Ok (said.Value value)
      → Gives here outer field statement [] (setting_bytes outer (wire_number field) value)
  AMessage : (message : ℕ) (parts : Parts) → field_said here.files.now (table here) field statement ≡ Ok (said.Aggregate message)
      → IsMessage here message (text_of statement.aggregate_value) parts
      → Gives here outer field statement (steps parts) (around_all (outer ++ step_of (Some field) ∷ []) (message_bytes parts))

-- The statement sets this.
pub record Sets (here : Site) (statement : UninterpretedOption) (setting : Setting) : Type 0 where
  pub outer : List ℕ
  pub last : ℕ
  pub field : FieldDescriptorProto
  pub named : named here statement.name ≡ Ok (outer ++ last ∷ [])
  pub declared : field_numbered here.files.now (table here) last ≡ Some field
  pub gives : Gives here (steps_of here outer) field statement setting.inside setting.bytes
  pub path : setting.path ≡ numbers_of (steps_of here (outer ++ last ∷ []))
  pub standard : setting.standard ≡ is_standard here (outer ++ last ∷ [])
  pub repeated : setting.repeated ≡ is_repeated field

-- ---- statements one behind the other

-- The statements set these, and none of them what was set before it.
pub data AreSet (here : Site) : List UninterpretedOption → List Setting → Type 0 where
  NoStatement : AreSet here [] []
  NextStatement : (statements : List UninterpretedOption) (statement : UninterpretedOption) (settings : List Setting) (setting : Setting)
      → AreSet here statements settings → Sets here statement setting → is_free (is_set (flat_map paths_of settings)) setting ≡ true
      → AreSet here (statements ++ statement ∷ []) (settings ++ setting ∷ [])

-- ---- faults

-- The statement gives the field no value, for this reason.
pub data GivesNothing (here : Site) (field : FieldDescriptorProto) (statement : UninterpretedOption) : StatementFaultKind → Type 0 where
  NoValue : (fault : SettingFault) → field_said here.files.now (table here) field statement ≡ Err fault
      → GivesNothing here field statement (kind.Value fault)
  NoMessage : (message : ℕ) (wrong : StatementFaultKind) → field_said here.files.now (table here) field statement ≡ Ok (said.Aggregate message)
      → IsNoMessage here message (text_of statement.aggregate_value) wrong
      → GivesNothing here field statement wrong

-- What is wrong with a statement, where this is set already.
pub data IsWrong (here : Site) (is_set_before : List ℕ → Bool) (statement : UninterpretedOption) : StatementFaultKind → Type 0 where
  NoName : (fault : NameFault) → named here statement.name ≡ Err fault → IsWrong here is_set_before statement (kind.Name fault)
  Again : (outer : List ℕ) (last : ℕ) (field : FieldDescriptorProto) → named here statement.name ≡ Ok (outer ++ last ∷ [])
      → field_numbered here.files.now (table here) last ≡ Some field → is_repeated field ≡ false
      → is_set_before (numbers_of (steps_of here (outer ++ last ∷ []))) ≡ true
      → IsWrong here is_set_before statement kind.AlreadySet
  Nothing : (outer : List ℕ) (last : ℕ) (field : FieldDescriptorProto) (wrong : StatementFaultKind) → named here statement.name ≡ Ok (outer ++ last ∷ [])
      → field_numbered here.files.now (table here) last ≡ Some field → GivesNothing here field statement wrong
      → IsWrong here is_set_before statement wrong

-- The statement with this index is the first that is wrong.
pub record IsFirstFault (here : Site) (statements : List UninterpretedOption) (fault : StatementFault) : Type 0 where
  pub before : List Setting
  pub right : AreSet here (take fault.index statements) before
  pub statement : UninterpretedOption
  pub there : slice_get statements fault.index ≡ Some statement
  pub wrong : IsWrong here (is_set (flat_map paths_of before)) statement fault.kind
