-- What an item contributes while the code goes through a body; and a message's parts
-- without its nested messages.
use Rattle.std.specs.Prelude.{ℕ, List, [], ◌∷◌, map, Some, pos}
use Rattle.protox_descriptor.specs.declared.descriptor.DescriptorProto.{DescriptorProto}
use Rattle.protox_descriptor.specs.FieldDescriptorProto.{FieldDescriptorProto}
use Rattle.protox_describe.specs.Descriptor.{Item, OfField, OfOneof, in_oneof, synthetic_index}
use Rattle.protox_describe.specs.Fields.{Parts}
use Rattle.protox_describe.specs.declared.messages.Unnested.{Unnested}

-- The fields of an item. `written` is the index of the next oneof that the source writes. `made` is
-- the index of the next oneof made for a field.
abbrev pub item_fields : ℕ → ℕ → Item → List FieldDescriptorProto
item_fields written made (OfField gives) = in_oneof (synthetic_index made gives) gives ∷ []
item_fields written made (OfOneof gives) = map (in_oneof (Some (pos written))) gives.fields
item_fields written made _ = []

-- these parts with these nested messages
abbrev pub with_nested : Unnested → List DescriptorProto → Parts
with_nested unnested nested = record {
  field = unnested.field;
  extension = unnested.extension;
  nested = nested;
  enum = unnested.enum_type;
  extension_range = unnested.extension_range;
  oneof = unnested.oneof_decl;
  options = unnested.options;
  reserved_range = unnested.reserved_range;
  reserved_name = unnested.reserved_name;
}
