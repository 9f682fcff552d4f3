-- The steps of a walk at a message: what it declares before the messages in it, and behind them.
use Rattle.std.specs.Prelude.{ℕ, List, ◌∷◌, ◌++◌}
use Rattle.protox_descriptor.specs.declared.descriptor.DescriptorProto.{DescriptorProto, out-DescriptorProto}
use Rattle.protox_descriptor.specs.declared.tag.message.TheConstants as message_tag
use Rattle.protox_walk.specs.Declarations.{At, all_in, declared, enum_at, field_at, full_name, oneof_at, siblings_at}
use Rattle.protox_walk.specs.Parts.{Message}

-- the full name of a message
abbrev pub name_of_message : DescriptorProto → List ℕ → List ℕ
name_of_message message scope = full_name scope (out-DescriptorProto message).name

-- a message of this name, and its fields
abbrev pub front_at : DescriptorProto → List ℕ → At
front_at message name path =
    declared path name (Message message)
    ∷ siblings_at path message_tag.FIELD (all_in field_at name (out-DescriptorProto message).field)

-- the enums and the extensions in a message of this name, and its oneofs
abbrev pub back_at : DescriptorProto → List ℕ → At
back_at message name path =
    siblings_at path message_tag.ENUM_TYPE (all_in enum_at name (out-DescriptorProto message).enum_type)
    ++ (siblings_at path message_tag.EXTENSION (all_in field_at name (out-DescriptorProto message).extension)
    ++ siblings_at path message_tag.ONEOF_DECL (all_in oneof_at name (out-DescriptorProto message).oneof_decl))

-- the messages in a message
abbrev pub nested_of : DescriptorProto → List DescriptorProto
nested_of message = (out-DescriptorProto message).nested_type
