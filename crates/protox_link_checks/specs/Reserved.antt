-- Names that a message reserves, so that none of its fields has one; and names that an enum reserves.
use Rattle.std.specs.Prelude.{ℕ, ◌+◌, ℤ, Bool, map, List, [], ◌∷◌, ◌++◌, bytes_eq, if◌then◌else◌}
use Rattle.std.specs.List.{list_any}
use Rattle.protox_descriptor.specs.FieldDescriptorProto.{FieldDescriptorProto}
use Rattle.protox_descriptor.specs.declared.descriptor.DescriptorProto.{DescriptorProto, out-DescriptorProto}
use Rattle.protox_descriptor.specs.declared.descriptor.EnumDescriptorProto.{EnumDescriptorProto}
use Rattle.protox_descriptor.specs.declared.descriptor.EnumValueDescriptorProto.{EnumValueDescriptorProto}
use Rattle.protox_descriptor.specs.declared.tag.enum_.TheConstants as enum_tag
use Rattle.protox_descriptor.specs.declared.tag.message.TheConstants as message_tag
use Rattle.protox_link_fault.specs.declared.LinkFault.{LinkFault}
use Rattle.protox_link_fault.specs.declared.LinkFaultKind.TheVariants.{ReservedAgain, ReservedName}
use Rattle.protox_walk.specs.Declarations.{Path, nth, text_of}

-- One of these names is the name.
abbrev pub is_among : List (List ℕ) → List ℕ → Bool
is_among names name = list_any (bytes_eq name) names

abbrev pub name_of_field : FieldDescriptorProto → List ℕ
name_of_field field = text_of field.name

abbrev pub name_of_value : EnumValueDescriptorProto → List ℕ
name_of_value value = text_of value.name

module _ (file : ℕ) (path : Path) where
  -- the fault of the name with index n that was reserved before
  abbrev pub again_fault : ℕ → LinkFault
  again_fault n = record { file = file; path = path ++ message_tag.NAME ∷ []; kind = ReservedAgain n }

  -- Each name is reserved once. The first one left has the index n, and `earlier` are those before it.
  abbrev pub again_faults : List (List ℕ) → ℕ → List (List ℕ) → List LinkFault
  again_faults earlier n [] = []
  again_faults earlier n (name ∷ more) =
      (if is_among earlier name then again_fault n ∷ [] else []) ++ again_faults (earlier ++ name ∷ []) (n + 1) more

module _ (file : ℕ) (path : Path) (tag : ℤ) where
  -- the fault of the sibling with index n, whose name is reserved
  abbrev pub reserved_fault : ℕ → LinkFault
  reserved_fault n = record { file = file; path = nth path tag n ++ message_tag.NAME ∷ []; kind = ReservedName }

  -- No name of like siblings is reserved. The first one left has the index n.
  abbrev pub reserved_faults : (List ℕ → Bool) → ℕ → List (List ℕ) → List LinkFault
  reserved_faults is_reserved n [] = []
  reserved_faults is_reserved n (name ∷ more) =
      (if is_reserved name then reserved_fault n ∷ [] else []) ++ reserved_faults is_reserved (n + 1) more

  -- Of these names, each is reserved once, and none is that of a sibling.
  abbrev pub name_faults : List (List ℕ) → List (List ℕ) → List LinkFault
  name_faults reserved names =
      again_faults file path [] 0 reserved ++ reserved_faults (is_among reserved) 0 names

module _ (file : ℕ) (path : Path) where
  abbrev pub message_name_faults : DescriptorProto → List LinkFault
  message_name_faults message =
      name_faults file path message_tag.FIELD (out-DescriptorProto message).reserved_name
      (map name_of_field (out-DescriptorProto message).field)

  abbrev pub enum_name_faults : EnumDescriptorProto → List LinkFault
  enum_name_faults enum =
      name_faults file path enum_tag.VALUE enum.reserved_name (map name_of_value enum.value)
