-- What one statement says, and its bytes.
use Rattle.std.proofs.Common.{◌≡◌, ℕ, Bool, false, List, [], ◌∷◌, ◌++◌, refl, sym, ap, ◌∙◌, append-nil, map, Some}
use Rattle.std.specs.Prelude.{if◌then◌else◌}
use Rattle.protox_aggregate.specs.Fields.{is_group, wire_number}
use Rattle.protox_descriptor.specs.FieldDescriptorProto.{FieldDescriptorProto}
use Rattle.protox_descriptor.specs.declared.descriptor.options.UninterpretedOption.{UninterpretedOption}
use Rattle.protox_interpret.specs.Settings.{Setting, first_of}
use Rattle.protox_interpret.specs.Sites.{table}
use Rattle.protox_interpret.specs.Statements.{Gives, Sets, numbers_of, step_of, steps_of}
use Rattle.protox_interpret.specs.declared.site.Site.{Site}
use Rattle.protox_message_bytes.specs.Bytes.{in_order, message_bytes}
use Rattle.protox_message_bytes.specs.Parts.{Parts, NoMore, Value, Message}
use Rattle.protox_message_bytes.specs.declared.entry.Entry.{Entry}
use Rattle.protox_reading.proofs.Messages.{fields_are}
use Rattle.protox_reading.proofs.Order.{field_of}
use Rattle.protox_reading.proofs.Written.{written}
use Rattle.protox_reading.specs.Fields.{Payload, Bytes, Group}
use Rattle.protox_reading.specs.Said.{Alone, all_told, payload_of}
use Rattle.protox_reading.specs.Statements.{IsGiven, Saying, Says, first_number, within}
use Rattle.protox_setting_bytes.specs.Bytes.{around, around_all, value_bytes}
use Rattle.protox_setting_bytes.specs.declared.step.Step.{Step}
use Rattle.protox_settings.specs.Fields.{field_numbered}
use Rattle.protox_values.specs.declared.setting.SettingValue.{SettingValue}

-- ---- bytes

-- a message in which one message stands
message_alone : (number : ℕ) (group : Bool) (inside : Parts) → message_bytes (Message number group inside NoMore) ≡ around (record { number = number; is_group = group }) (message_bytes inside)
message_alone number group inside = append-nil (around (record { number = number; is_group = group }) (message_bytes inside))

value_alone : (number : ℕ) (value : SettingValue) → message_bytes (Value number false value NoMore) ≡ value_bytes number value
value_alone number value = append-nil (value_bytes number value)

within_bytes : (steps : List Step) (parts : Parts) → message_bytes (within steps parts) ≡ around_all steps (message_bytes parts)
within_bytes [] parts = refl
within_bytes (step ∷ more) parts = message_alone step.number step.is_group (within more parts) ∙ ap (around step) (within_bytes more parts)

around_last : (steps : List Step) (step : Step) (inside : List ℕ) → around_all (steps ++ step ∷ []) inside ≡ around_all steps (around step inside)
around_last [] step inside = refl
around_last (s ∷ more) step inside = ap (around s) (around_last more step inside)

-- ---- one field

-- The parts are one field.
pub record IsOne (parts : Parts) : Type 0 where
  pub payload : Payload
  pub told : all_told parts ≡ (first_number parts, Alone payload) ∷ []

pub one_bytes : (parts : Parts) (one : IsOne parts) → message_bytes parts ≡ written (first_number parts, one.payload)
one_bytes parts one =
    ap in_order (fields_are parts ∙ ap (λ ts. map field_of ts) one.told) ∙ append-nil (written (first_number parts, one.payload))

within_one : (steps : List Step) (parts : Parts) → IsOne parts → IsOne (within steps parts)
within_one [] parts one = one
within_one (step ∷ more) parts one = record {
  payload = if step.is_group then Group (message_bytes (within more parts)) else Bytes (message_bytes (within more parts));
  told = refl;
}

-- ---- what a statement gives

-- What a statement gives, and its bytes.
record IsGivenIn (here : Site) (outer : List Step) (field : FieldDescriptorProto) (statement : UninterpretedOption) (bytes : List ℕ) : Type 0 where
  given : Parts
  gives : IsGiven here field statement given
  one : IsOne given
  number : first_number given ≡ wire_number field
  bytes_are : bytes ≡ message_bytes (within outer given)

given_in : {here : Site} {outer : List Step} {field : FieldDescriptorProto} {statement : UninterpretedOption} {inside : List Entry} {bytes : List ℕ}
    → Gives here outer field statement inside bytes → IsGivenIn here outer field statement bytes
given_in {outer = outer} {field = field} (Gives.AValue value said) = record {
  given = Value (wire_number field) false value NoMore;
  gives = IsGiven.AValue value said;
  one = record { payload = payload_of value; told = refl };
  number = refl;
  bytes_are = ap (around_all outer) (sym (value_alone (wire_number field) value)) ∙ sym (within_bytes outer (Value (wire_number field) false value NoMore));
}
given_in {outer = outer} {field = field} (Gives.AMessage message parts said is) = record {
  given = Message (wire_number field) (is_group field) parts NoMore;
  gives = IsGiven.AMessage message parts said is;
  one = record { payload = if is_group field then Group (message_bytes parts) else Bytes (message_bytes parts); told = refl };
  number = refl;
  bytes_are =
      around_last outer (step_of (Some field)) (message_bytes parts)
      ∙ ap (around_all outer) (sym (message_alone (wire_number field) (is_group field) parts))
      ∙ sym (within_bytes outer (Message (wire_number field) (is_group field) parts NoMore));
}

-- ---- a setting, and what is said

pub record Stands (setting : Setting) (saying : Saying) : Type 0 where
  pub one : IsOne saying.parts
  pub bytes : setting.bytes ≡ message_bytes saying.parts
  pub first : first_of setting.path ≡ first_number saying.parts
  pub standard : setting.standard ≡ saying.standard

pub record IsSaidBy (here : Site) (statement : UninterpretedOption) (setting : Setting) : Type 0 where
  pub saying : Saying
  pub says : Says here statement saying
  pub stands : Stands setting saying

first_is : (here : Site) (outer : List ℕ) (last : ℕ) (field : FieldDescriptorProto) (given : Parts) → field_numbered here.files.now (table here) last ≡ Some field
    → first_number given ≡ wire_number field
    → first_of (numbers_of (steps_of here (outer ++ last ∷ []))) ≡ first_number (within (steps_of here outer) given)
first_is here [] last field given declared number = ap (λ f. (step_of f).number) declared ∙ sym number
first_is here (n ∷ outer) last field given declared number = refl

pub said_by : (here : Site) (statement : UninterpretedOption) (setting : Setting) → Sets here statement setting → IsSaidBy here statement setting
said_by here statement setting sets =
    let there = given_in sets.gives in
    let parts = within (steps_of here sets.outer) there.given in
    record {
      saying = record { parts = parts; standard = setting.standard };
      says = record {
        outer = sets.outer;
        last = sets.last;
        field = sets.field;
        named = sets.named;
        declared = sets.declared;
        given = there.given;
        gives = there.gives;
        parts = refl;
        standard = sets.standard;
      };
      stands = record {
        one = within_one (steps_of here sets.outer) there.given there.one;
        bytes = there.bytes_are;
        first = ap first_of sets.path ∙ first_is here sets.outer sets.last sets.field there.given sets.declared there.number;
        standard = refl;
      };
    }
