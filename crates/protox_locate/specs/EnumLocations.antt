-- The locations of an enum's parts. Paths begin at the enum's path.
use Rattle.std.specs.Prelude.{List, ◌∷◌, ◌++◌, map, ℤ}
use Rattle.protox_fault.specs.Faults.{Span}
use Rattle.protox_ast.specs.declared.ast.Enum.{Enum}
use Rattle.protox_ast.specs.declared.ast.EnumValue.{EnumValue}
use Rattle.protox_descriptor.specs.declared.tag.enum_.TheConstants as enum_tag
use Rattle.protox_descriptor.specs.declared.tag.enum_value.TheConstants as value_tag
use Rattle.protox_locate.specs.LocationWords.{Part, part, siblings_at, commented, bare, option_list, option_statements, range_statements, name_statements}
use Rattle.protox_ast.specs.Options.{listed}

module _ (numbers : Span → List ℤ) where
  -- the locations of an enum value
  abbrev pub enum_value_locations : EnumValue → Part
  enum_value_locations value path =
      commented numbers path value.span value.comments
      ∷ bare numbers (part path value_tag.NAME) value.name.span
      ∷ bare numbers (part path value_tag.NUMBER) value.number.span
      ∷ option_list numbers (part path value_tag.OPTIONS) value.options (listed value.options)

  -- the locations of an enum
  abbrev pub enum_locations : Enum → Part
  enum_locations enum path =
      commented numbers path enum.span enum.comments
      ∷ bare numbers (part path enum_tag.NAME) enum.name.span
      ∷ (siblings_at path enum_tag.VALUE (map enum_value_locations enum.values)
      ++ (option_statements numbers (part path enum_tag.OPTIONS) enum.options
      ++ (range_statements numbers path enum_tag.RESERVED_RANGE enum.reserved
      ++ name_statements numbers path enum_tag.RESERVED_NAME enum.reserved)))
