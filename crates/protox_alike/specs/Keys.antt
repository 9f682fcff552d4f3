-- How most languages spell the name of a field, and that of a value of an enum.
use Rattle.std.specs.Prelude.{ℕ, ◌==◌, Bool, true, false, List, [], ◌∷◌, Option, Some, None, if◌then◌else◌}
use Rattle.std.specs.Char.{to_ascii_lowercase, to_ascii_uppercase}
use Rattle.std.specs.List.{list_all}
use Rattle.std.specs.Option.{unwrap_or}
use Rattle.protox_descriptor.specs.FieldDescriptorProto.{FieldDescriptorProto}
use Rattle.protox_descriptor.specs.declared.descriptor.EnumDescriptorProto.{EnumDescriptorProto}
use Rattle.protox_descriptor.specs.declared.descriptor.EnumValueDescriptorProto.{EnumValueDescriptorProto}
use Rattle.protox_names.specs.Cases.{is_underscore, without_case}

-- Fields are told apart without case and `_`. An unset name counts as empty.
abbrev pub key_of_field : FieldDescriptorProto → List ℕ
key_of_field field = without_case (unwrap_or field.name [])

-- ---- values

-- a byte of a word, at its start or behind
abbrev pub spelled : Bool → ℕ → ℕ
spelled starts byte = if starts then to_ascii_uppercase byte else to_ascii_lowercase byte

-- in small letters, but with a capital behind each `_`, which is dropped, and at the start if `starts`
abbrev pub pascal_from : Bool → List ℕ → List ℕ
pascal_from starts [] = []
pascal_from starts (byte ∷ rest) =
    if is_underscore byte then pascal_from true rest
    else spelled starts byte ∷ pascal_from false rest

-- What stands behind a prefix in a name. Case and `_` don't count, and the prefix is without them.
abbrev pub behind : List ℕ → List ℕ → Option (List ℕ)
behind [] name = Some name
behind (first ∷ prefix) [] = None
behind (first ∷ prefix) (byte ∷ name) =
    if is_underscore byte then behind (first ∷ prefix) name
    else if to_ascii_lowercase byte == first then behind prefix name
    else None

abbrev pub if_more : List ℕ → Option (List ℕ) → List ℕ
if_more name None = name
if_more name (Some rest) = if list_all is_underscore rest then name else rest

-- the name without the prefix; the whole name, if nothing but `_` stands behind the prefix
abbrev pub without_prefix : List ℕ → List ℕ → List ℕ
without_prefix prefix name = if_more name (behind prefix name)

-- Values are told apart without the prefix, and with capitals where words begin.
abbrev pub value_key : List ℕ → EnumValueDescriptorProto → List ℕ
value_key prefix value = pascal_from true (without_prefix prefix (unwrap_or value.name []))

-- The prefix is the name of their enum.
abbrev pub key_of_value : EnumDescriptorProto → EnumValueDescriptorProto → List ℕ
key_of_value enum value = value_key (without_case (unwrap_or enum.name [])) value
