-- What becomes of a message, by what becomes of the messages in it.
use Rattle.std.proofs.Common.{◌≡◌, List, Result, Ok, Err, OnOk, map, refl}
use Rattle.protox_descriptor.specs.FieldDescriptorProto.{FieldDescriptorProto}
use Rattle.protox_descriptor.specs.declared.descriptor.DescriptorProto.{DescriptorProto, out-DescriptorProto, roll-DescriptorProto}
use Rattle.protox_descriptor.specs.declared.descriptor.DescriptorProto.TheFolds.{fold_out-DescriptorProto}
use Rattle.protox_float_defaults.specs.Printed.{message_step, printed_message, with_new_default}

module _ (m : DescriptorProto) where
  -- a message whose parts are printed, one list after the other
  pub parts-printed : {T E : Type 0} (r : Result T E) (field extension : List FieldDescriptorProto) (nested : List DescriptorProto)
      → nested ≡ map printed_message (out-DescriptorProto m).nested_type
      → field ≡ map with_new_default (out-DescriptorProto m).field
      → OnOk r (extension ≡ map with_new_default (out-DescriptorProto m).extension)
      → OnOk r (roll-DescriptorProto (record {
        name = (out-DescriptorProto m).name;
        field = field;
        extension = extension;
        nested_type = nested;
        enum_type = (out-DescriptorProto m).enum_type;
        extension_range = (out-DescriptorProto m).extension_range;
        oneof_decl = (out-DescriptorProto m).oneof_decl;
        options = (out-DescriptorProto m).options;
        reserved_range = (out-DescriptorProto m).reserved_range;
        reserved_name = (out-DescriptorProto m).reserved_name;
      }) ≡ printed_message m)
  parts-printed (Ok x) field extension nested nested-is field-is extension-is =
      rw (nested-is, field-is, extension-is, fold_out-DescriptorProto DescriptorProto message_step m) refl
  parts-printed (Err e) field extension nested nested-is field-is extension-is = tt
