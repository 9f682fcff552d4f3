-- What a statement sets, where its name leads to fields.
use Rattle.std.proofs.Common.{◌≡◌, ℕ, Bool, true, false, not, refl, List, [], ◌∷◌, ◌++◌, length, None, Some, Ok, sym, ap, subst, ◌∙◌, arith, length-append}
use Rattle.std.specs.Prelude.{◌&&◌, ◌||◌}
use Rattle.std.proofs.lemmas.Bool.{false≢true}
use Rattle.std.proofs.lemmas.List.{map-append}
use Rattle.std.proofs.lemmas.Option.{none-some}
use Rattle.protox_aggregate.specs.Fields.{wire_number}
use Rattle.protox_descriptor.specs.FieldDescriptorProto.{FieldDescriptorProto}
use Rattle.protox_descriptor.specs.declared.descriptor.options.UninterpretedOption.{UninterpretedOption}
use Rattle.protox_descriptor.specs.declared.descriptor.uninterpreted_option.NamePart.{NamePart}
use Rattle.protox_interpret.specs.Braces.{IsMessage, IsNoMessage}
use Rattle.protox_interpret.specs.Failure.{IfRefusal}
use Rattle.protox_interpret.specs.Settings.{Setting}
use Rattle.protox_interpret.specs.Sites.{named, scope, table}
use Rattle.protox_interpret.specs.Statements.{AMessage, AValue, Again, Gives, IsWrong, NoMessage, Nothing, is_standard, numbers_of, step_of, steps_of}
use Rattle.protox_interpret.specs.declared.fault.Refusal.{Refusal}
use Rattle.protox_interpret.specs.declared.fault.Refusal.TheVariants as refusal
use Rattle.protox_interpret.specs.declared.fault.StatementFaultKind.TheVariants as kind
use Rattle.protox_interpret.specs.declared.site.Site.{Site}
use Rattle.protox_interpret.specs.inner.Given.{IsGiven, IsNotGiven, IsNotSet, IsSetBy}
use Rattle.protox_message_bytes.specs.Bytes.{message_bytes}
use Rattle.protox_message_bytes.specs.Parts.{Parts}
use Rattle.protox_message_bytes.specs.Parts.{steps as told}
use Rattle.protox_message_bytes.specs.declared.entry.Entry.{Entry}
use Rattle.protox_interpret.proofs.Named.{EndsDeclared, last_declared}
use Rattle.protox_set_paths.proofs.Lemmas.{same_ends}
use Rattle.protox_set_paths.specs.Paths.{is_set}
use Rattle.protox_setting_bytes.specs.Bytes.{around_all, setting_bytes}
use Rattle.protox_settings.specs.Fields.{field_numbered, is_repeated}
use Rattle.protox_settings.specs.Settings.{field_said}
use Rattle.protox_settings.specs.declared.setting.Said.TheVariants as said
use Rattle.protox_values.specs.declared.setting.SettingValue.{SettingValue}
use Rattle.protox_walk.specs.Declarations.{text_of}

-- ---- the name

-- The last of the fields that a name leads to is declared.
pub last_there : (here : Site) (name : List NamePart) (fields : List ℕ) → named here name ≡ Ok fields → EndsDeclared (field_numbered here.files.now (table here)) fields
last_there here name fields leads =
    last_declared here.files.now (table here) here.view.now.sees.now here.view.now.packages (scope here) here.message name fields leads

pub never_empty : (here : Site) (name : List NamePart) (fields : List ℕ) → named here name ≡ Ok fields → length fields ≡ 0 → ⊥
never_empty here name fields leads none =
    let end = last_there here name fields leads in
    omega (arith, none, ap length end.ends, length-append end.outer (end.last ∷ []))

pub never_undeclared : (here : Site) (name : List NamePart) (fields outer : List ℕ) (last : ℕ) → named here name ≡ Ok fields → fields ≡ outer ++ last ∷ []
    → field_numbered here.files.now (table here) last ≡ None → ⊥
never_undeclared here name fields outer last leads are none =
    let end = last_there here name fields leads in
    let lasts : end.last ≡ last = (same_ends end.outer outer end.last last (sym end.ends ∙ are)).1 in
    none-some end.field (sym none ∙ sym (ap (field_numbered here.files.now (table here)) lasts) ∙ end.there)

-- ---- the value

module _ (here : Site) (fields outer : List ℕ) (field : FieldDescriptorProto) (statement : UninterpretedOption) (inside : List Entry) (bytes : List ℕ) where
  pub gives_value : (value : SettingValue) → field_said here.files.now (table here) field statement ≡ Ok (said.Value value)
      → inside ≡ [] → bytes ≡ setting_bytes (steps_of here outer) (wire_number field) value → IsGiven here fields outer field statement inside bytes
  gives_value value says none are steps =
      subst (λ i. Gives here (steps_of here outer) field statement i bytes) (sym none)
      (subst (λ b. Gives here (steps_of here outer) field statement [] b) (sym are) (AValue value says))

  pub gives_message : (message : ℕ) (parts : Parts) → field_said here.files.now (table here) field statement ≡ Ok (said.Aggregate message)
      → inside ≡ told parts → IsMessage here message (text_of statement.aggregate_value) parts
      → bytes ≡ around_all (steps_of here fields) (message_bytes parts) → IsGiven here fields outer field statement inside bytes
  gives_message message parts says told_are is are steps =
      subst (λ i. Gives here (steps_of here outer) field statement i bytes) (sym told_are)
      (subst (λ b. Gives here (steps_of here outer) field statement (told parts) b) (sym (are ∙ ap (λ ss. around_all ss (message_bytes parts)) steps))
      (AMessage message parts says is))

pub no_message : (here : Site) (field : FieldDescriptorProto) (statement : UninterpretedOption) (message : ℕ)
    → field_said here.files.now (table here) field statement ≡ Ok (said.Aggregate message) → (why : Refusal)
    → IfRefusal why (IsNoMessage here message (text_of statement.aggregate_value)) → IsNotGiven here field statement why
no_message here field statement message says refusal.OutOfMemory none = tt
no_message here field statement message says (refusal.Fault wrong) none = NoMessage message wrong says none

-- ---- whether the field is set already

if_taken : (repeated set : Bool) → (not repeated && set) ≡ true → (repeated ≡ false) × (set ≡ true)
if_taken true set h = absurd (false≢true h)
if_taken false set h = (refl, h)

if_not_taken : (repeated set : Bool) → (not repeated && set) ≡ false → (repeated || not set) ≡ true
if_not_taken true set h = refl
if_not_taken false set h = ap not h

-- ---- both

module _ (here : Site) (statement : UninterpretedOption) (set : List (List ℕ)) (fields outer : List ℕ) (last : ℕ) (field : FieldDescriptorProto)
    (are : fields ≡ outer ++ last ∷ []) (leads : named here statement.name ≡ Ok fields) (declared : field_numbered here.files.now (table here) last ≡ Some field)
  where
    steps_are : steps_of here fields ≡ steps_of here outer ++ step_of (Some field) ∷ []
    steps_are =
        ap (steps_of here) are
        ∙ map-append (λ n. step_of (field_numbered here.files.now (table here) n)) outer (last ∷ [])
        ∙ ap (λ f. steps_of here outer ++ step_of f ∷ []) declared

    leads_to : named here statement.name ≡ Ok (outer ++ last ∷ [])
    leads_to = leads ∙ ap Ok are

    pub set_by_it : (path : List ℕ) (setting : Setting) → path ≡ numbers_of (steps_of here fields) → (not (is_repeated field) && is_set set path) ≡ false
        → setting.path ≡ path → setting.standard ≡ is_standard here fields → setting.repeated ≡ is_repeated field
        → IsGiven here fields outer field statement setting.inside setting.bytes → IsSetBy here (is_set set) statement setting
    set_by_it path setting numbers free path_is standard_is repeated_is gives = (
      record {
        outer = outer;
        last = last;
        field = field;
        named = leads_to;
        declared = declared;
        gives = gives steps_are;
        path = path_is ∙ numbers ∙ ap (λ fs. numbers_of (steps_of here fs)) are;
        standard = standard_is ∙ ap (is_standard here) are;
        repeated = repeated_is;
      },
      ap (λ b. b || not (is_set set setting.path)) repeated_is ∙ ap (λ p. is_repeated field || not (is_set set p)) path_is ∙ if_not_taken (is_repeated field) (is_set set path) free,
    )

    pub set_already : (path : List ℕ) → path ≡ numbers_of (steps_of here fields) → (not (is_repeated field) && is_set set path) ≡ true
        → IsWrong here (is_set set) statement kind.AlreadySet
    set_already path numbers taken =
        let both = if_taken (is_repeated field) (is_set set path) taken in
        Again outer last field leads_to declared both.0
        (sym (ap (is_set set) (numbers ∙ ap (λ fs. numbers_of (steps_of here fs)) are)) ∙ both.1)

    pub not_set_by_it : (why : Refusal) → IsNotGiven here field statement why → IsNotSet here (is_set set) statement why
    not_set_by_it refusal.OutOfMemory nothing = tt
    not_set_by_it (refusal.Fault wrong) nothing = Nothing outer last field wrong leads_to declared nothing
