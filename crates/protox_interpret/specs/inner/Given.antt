-- What a statement gives, and what it sets.
use Rattle.std.specs.Prelude.{◌≡◌, ℕ, Bool, true, List, [], ◌∷◌, ◌++◌, Some}
use Rattle.protox_descriptor.specs.FieldDescriptorProto.{FieldDescriptorProto}
use Rattle.protox_descriptor.specs.declared.descriptor.options.UninterpretedOption.{UninterpretedOption}
use Rattle.protox_interpret.specs.Failure.{IfRefusal}
use Rattle.protox_interpret.specs.Settings.{Setting, is_free}
use Rattle.protox_interpret.specs.Statements.{Gives, GivesNothing, IsWrong, Sets, step_of, steps_of}
use Rattle.protox_interpret.specs.declared.fault.Refusal.{Refusal}
use Rattle.protox_interpret.specs.declared.site.Site.{Site}
use Rattle.protox_message_bytes.specs.declared.entry.Entry.{Entry}

-- The statement gives this to a field that stands behind the outer ones.
abbrev pub IsGiven : Site → List ℕ → List ℕ → FieldDescriptorProto → UninterpretedOption → List Entry → List ℕ → Type 0
IsGiven here fields outer field statement inside bytes =
    steps_of here fields ≡ steps_of here outer ++ step_of (Some field) ∷ [] → Gives here (steps_of here outer) field statement inside bytes

-- It gives nothing, unless memory ran out.
abbrev pub IsNotGiven : Site → FieldDescriptorProto → UninterpretedOption → Refusal → Type 0
IsNotGiven here field statement refusal = IfRefusal refusal (GivesNothing here field statement)

-- It sets this, where this is set already.
abbrev pub IsSetBy : Site → (List ℕ → Bool) → UninterpretedOption → Setting → Type 0
IsSetBy here is_set_before statement setting = Sets here statement setting × (is_free is_set_before setting ≡ true)

-- It is wrong, unless memory ran out.
abbrev pub IsNotSet : Site → (List ℕ → Bool) → UninterpretedOption → Refusal → Type 0
IsNotSet here is_set_before statement refusal = IfRefusal refusal (IsWrong here is_set_before statement)
