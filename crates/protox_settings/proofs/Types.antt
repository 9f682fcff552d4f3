-- Types of fields by their numbers.
use Rattle.std.proofs.Common.{◌≡◌, ◌≢◌, ℤ, Bool, true, false, cond, List, [], ◌∷◌, Option, Some, None, IfNone, IfSome, find, refl, sym, ap, ◌∙◌}
use Rattle.std.specs.Ordering.{int_eq}
use Rattle.std.proofs.lemmas.Bool.Decides.{Decides-int_eq}
use Rattle.protox_descriptor.specs.FieldWords.{type_number}
use Rattle.protox_descriptor.specs.declared.descriptor.field_descriptor_proto.FieldType.{FieldType}
use Rattle.protox_descriptor.specs.declared.descriptor.field_descriptor_proto.FieldType.TheVariants as type
use Rattle.protox_settings.specs.Settings.{type_numbered, types}

back : (t : FieldType) → type_numbered (type_number t) ≡ Some t
unfolding type_numbered
back type.Double = refl
back type.Float = refl
back type.Int64 = refl
back type.Uint64 = refl
back type.Int32 = refl
back type.Fixed64 = refl
back type.Fixed32 = refl
back type.Bool = refl
back type.String = refl
back type.Group = refl
back type.Message = refl
back type.Bytes = refl
back type.Uint32 = refl
back type.Enum = refl
back type.Sfixed32 = refl
back type.Sfixed64 = refl
back type.Sint32 = refl
back type.Sint64 = refl

is_false : {P : Type 0} (b : Bool) → (b ≡ true → P) → (P → ⊥) → b ≡ false
is_false true holds not_so = absurd (not_so (holds refl))
is_false false holds not_so = refl

none_found : {A : Type 0} (test : A → Bool) (xs : List A) → ((x : A) → test x ≡ false) → find test xs ≡ None
none_found test [] fails = refl
none_found test (x ∷ xs) fails = ap (λ (b : Bool). cond b (Some x) (find test xs)) (fails x) ∙ none_found test xs fails

pub tells : (n : ℤ) (r : Option FieldType) → IfSome r (λ t. type_number t ≡ n) → IfNone r ((t : FieldType) → type_number t ≢ n) → r ≡ type_numbered n
unfolding type_numbered
tells n (Some t) is none = sym (back t) ∙ ap type_numbered is
tells n None is none = sym (none_found (λ t. int_eq (type_number t) n) types (λ t. is_false (int_eq (type_number t) n) (Decides-int_eq (type_number t) n).0 (none t)))
