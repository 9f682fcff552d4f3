-- Paths that lead into messages.
use Rattle.std.proofs.Common.{◌≡◌, ◌≤◌, ◌-◌, pos, true, cond, [], ◌∷◌, length, take, drop, get_or, Option, None, Some, sym, ap, ◌∙◌, arith}
use Rattle.std.proofs.lemmas.List.{take_all}
use Rattle.std.specs.Option.{option_and_then}
use Rattle.std.specs.Ordering.{int_eq}
use Rattle.protox_descriptor.specs.FieldDescriptorProto.{FieldDescriptorProto}
use Rattle.protox_descriptor.specs.declared.descriptor.DescriptorProto.{DescriptorProto, out-DescriptorProto}
use Rattle.protox_descriptor.specs.declared.descriptor.EnumDescriptorProto.{EnumDescriptorProto}
use Rattle.protox_descriptor.specs.declared.tag.message.TheConstants.{NESTED_TYPE}
use Rattle.protox_settings.specs.Fields.{enum_in, field_in, message_in, own_enum, own_field, part_at}
use Rattle.protox_walk.specs.Declarations.{Path}

-- one step of a path to a field
pub field_stepped : (m inner : DescriptorProto) (path : Path) → 2 ≤ length path → int_eq (get_or path 0 (pos 0)) NESTED_TYPE ≡ true
    → part_at (out-DescriptorProto m).nested_type (get_or path 1 (pos 0)) ≡ Some inner
    → field_in inner (take (length path - 2) (drop 2 path)) ≡ field_in m path
field_stepped m inner [] h is at = absurd (omega (arith, h))
field_stepped m inner (tag ∷ []) h is at = absurd (omega (arith, h))
field_stepped m inner (tag ∷ n ∷ more) h is at =
    let len : length more ≤ length (tag ∷ n ∷ more) - 2 = omega arith in
    ap (field_in inner) (take_all (length (tag ∷ n ∷ more) - 2) more len)
    ∙ sym (ap (λ b. cond {A = Option FieldDescriptorProto} b (option_and_then (λ i. field_in i more) (part_at (out-DescriptorProto m).nested_type n)) (own_field m tag n more)) is
    ∙ ap (option_and_then (λ i. field_in i more)) at)

-- one step of a path to an enum
pub enum_stepped : (m inner : DescriptorProto) (path : Path) → 2 ≤ length path → int_eq (get_or path 0 (pos 0)) NESTED_TYPE ≡ true
    → part_at (out-DescriptorProto m).nested_type (get_or path 1 (pos 0)) ≡ Some inner
    → enum_in inner (take (length path - 2) (drop 2 path)) ≡ enum_in m path
enum_stepped m inner [] h is at = absurd (omega (arith, h))
enum_stepped m inner (tag ∷ []) h is at = absurd (omega (arith, h))
enum_stepped m inner (tag ∷ n ∷ more) h is at =
    let len : length more ≤ length (tag ∷ n ∷ more) - 2 = omega arith in
    ap (enum_in inner) (take_all (length (tag ∷ n ∷ more) - 2) more len)
    ∙ sym (ap (λ b. cond {A = Option EnumDescriptorProto} b (option_and_then (λ i. enum_in i more) (part_at (out-DescriptorProto m).nested_type n)) (own_enum m tag n more)) is
    ∙ ap (option_and_then (λ i. enum_in i more)) at)

-- one step of a path to a message
pub message_stepped : (m inner : DescriptorProto) (path : Path) → 2 ≤ length path → int_eq (get_or path 0 (pos 0)) NESTED_TYPE ≡ true
    → part_at (out-DescriptorProto m).nested_type (get_or path 1 (pos 0)) ≡ Some inner
    → message_in inner (take (length path - 2) (drop 2 path)) ≡ message_in m path
message_stepped m inner [] h is at = absurd (omega (arith, h))
message_stepped m inner (tag ∷ []) h is at = absurd (omega (arith, h))
message_stepped m inner (tag ∷ n ∷ more) h is at =
    let len : length more ≤ length (tag ∷ n ∷ more) - 2 = omega arith in
    ap (message_in inner) (take_all (length (tag ∷ n ∷ more) - 2) more len)
    ∙ sym (ap (λ b. cond {A = Option DescriptorProto} b (option_and_then (λ i. message_in i more) (part_at (out-DescriptorProto m).nested_type n)) None) is
    ∙ ap (option_and_then (λ i. message_in i more)) at)
