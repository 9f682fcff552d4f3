-- `==` on fields, part by part, is a partial equivalence.
use Rattle.std.specs.Prelude.{◌≡◌, ◌==◌, ℕ, Bool, true, List, Option, Some, None}
use Rattle.std.specs.Option.{option_eq}
use Rattle.std.specs.Ordering.{int_eq, on, eq_of_both}
use Rattle.std.specs.Cmp.{IsPartialEquivalence, partial_equiv_from_equiv, on_per, and_per, int_eq_equiv, nat_eq_equiv, bool_eq_equiv}
use Rattle.std.specs.Cmp.Lexicographic.{pointwise, lists_per}
use Rattle.std.proofs.Common.{refl, sym, true≢false}
use mathlib.Core.Bool.{beq}
use Rattle.protox_descriptor.specs.FieldDescriptorProto.{FieldDescriptorProto}
use Rattle.protox_descriptor.specs.declared.descriptor.options.FieldOptions.{FieldOptions}
use Rattle.protox_descriptor.specs.contracts.descriptor.options.FieldOptionsPartialEq.TheImpl as options
use Rattle.protox_descriptor.specs.contracts.descriptor.options.FieldOptionsPartialEq.TheImpl.Laws.{laws-law}

-- If a test is a partial equivalence, so is the test of options by it.
pub options_per : {T : Type 0} {E : T → T → Bool} → IsPartialEquivalence E → IsPartialEquivalence (option_eq E)
options_per {T} {E} p = record { symm = symm; trans = trans }
  where
    symm : (x y : Option T) → option_eq E x y ≡ option_eq E y x
    symm None None = refl
    symm None (Some y) = refl
    symm (Some x) None = refl
    symm (Some x) (Some y) = p.symm x y

    trans : (x y z : Option T) → option_eq E x y ≡ true → option_eq E y z ≡ true → option_eq E x z ≡ true
    trans None None z h g = g
    trans None (Some y) z h g = absurd (true≢false (sym h))
    trans (Some x) None z h g = absurd (true≢false (sym h))
    trans (Some x) (Some y) None h g = g
    trans (Some x) (Some y) (Some z) h g = p.trans x y z h g

-- Whether two texts, or their lack, are equal.
abbrev text_eq : Option (List ℕ) → Option (List ℕ) → Bool
text_eq = option_eq (pointwise ◌==◌)

text_per : IsPartialEquivalence text_eq
text_per = options_per (lists_per (partial_equiv_from_equiv nat_eq_equiv))

number_per : IsPartialEquivalence (option_eq int_eq)
number_per = options_per (partial_equiv_from_equiv int_eq_equiv)

-- Whether the options of two fields, or their lack, are equal.
abbrev pub options_eq : Option FieldOptions → Option FieldOptions → Bool
options_eq = option_eq (options.ghosts).eq

-- Whether two fields agree in the parts that most fields lack.
abbrev pub rare_eq : FieldDescriptorProto → FieldDescriptorProto → Bool
rare_eq =
    eq_of_both (on (λ f. f.extendee) text_eq)
    (eq_of_both (on (λ f. f.default_value) text_eq)
    (eq_of_both (on (λ f. f.oneof_index) (option_eq int_eq))
    (eq_of_both (on (λ f. f.json_name) text_eq)
    (eq_of_both (on (λ f. f.options) options_eq) (on (λ f. f.proto3_optional) (option_eq beq))))))

rare_per : IsPartialEquivalence rare_eq
rare_per =
    and_per (on_per (λ (f : FieldDescriptorProto). f.extendee) text_per)
    (and_per (on_per (λ (f : FieldDescriptorProto). f.default_value) text_per)
    (and_per (on_per (λ (f : FieldDescriptorProto). f.oneof_index) number_per)
    (and_per (on_per (λ (f : FieldDescriptorProto). f.json_name) text_per)
    (and_per (on_per (λ (f : FieldDescriptorProto). f.options) (options_per laws-law))
    (on_per (λ (f : FieldDescriptorProto). f.proto3_optional) (options_per (partial_equiv_from_equiv bool_eq_equiv)))))))

-- Whether two fields agree in all parts.
abbrev pub field_eq : FieldDescriptorProto → FieldDescriptorProto → Bool
field_eq =
    eq_of_both (on (λ f. f.name) text_eq)
    (eq_of_both (on (λ f. f.number) (option_eq int_eq))
    (eq_of_both (on (λ f. f.label) (option_eq int_eq))
    (eq_of_both (on (λ f. f.field_type) (option_eq int_eq))
    (eq_of_both (on (λ f. f.type_name) text_eq) rare_eq))))

-- `field_eq` is a partial equivalence.
pub field_per : IsPartialEquivalence field_eq
field_per =
    and_per (on_per (λ (f : FieldDescriptorProto). f.name) text_per)
    (and_per (on_per (λ (f : FieldDescriptorProto). f.number) number_per)
    (and_per (on_per (λ (f : FieldDescriptorProto). f.label) number_per)
    (and_per (on_per (λ (f : FieldDescriptorProto). f.field_type) number_per)
    (and_per (on_per (λ (f : FieldDescriptorProto). f.type_name) text_per) rare_per))))
