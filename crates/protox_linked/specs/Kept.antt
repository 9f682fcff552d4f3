-- What linking keeps of a file: all but the names that it uses, and what these tell.
use Rattle.std.specs.Prelude.{ℕ, ℤ, List, [], map, Option, Some, None, option_map}
use Rattle.protox_descriptor.specs.FieldDescriptorProto.{FieldDescriptorProto}
use Rattle.protox_descriptor.specs.declared.descriptor.DescriptorProto.{DescriptorProto, roll-DescriptorProto}
use Rattle.protox_descriptor.specs.declared.descriptor.DescriptorProto.TheFolds.{fold-DescriptorProto}
use Rattle.protox_descriptor.specs.declared.descriptor.DescriptorProto.TheOpen.{DescriptorProto-F}
use Rattle.protox_descriptor.specs.declared.descriptor.FileDescriptorProto.{FileDescriptorProto}
use Rattle.protox_descriptor.specs.declared.descriptor.MethodDescriptorProto.{MethodDescriptorProto}
use Rattle.protox_descriptor.specs.declared.descriptor.ServiceDescriptorProto.{ServiceDescriptorProto}

-- Of a name that is used, only that there is one.
abbrev pub any_name : Option (List ℕ) → Option (List ℕ)
any_name name = option_map (λ written. []) name

-- The type of a field, if no name tells it.
abbrev pub unnamed_type : Option (List ℕ) → Option ℤ → Option ℤ
unnamed_type None type = type
unnamed_type (Some name) type = None

-- A field, or an extension, without what linking sets: the names that it uses, the type that a name
-- tells, and its name in JSON.
abbrev pub field_kept : FieldDescriptorProto → FieldDescriptorProto
field_kept field = record field {
  type_name = any_name field.type_name;
  field_type = unnamed_type field.type_name field.field_type;
  extendee = any_name field.extendee;
  json_name = None;
}

abbrev pub method_kept : MethodDescriptorProto → MethodDescriptorProto
method_kept method = record method {
  input_type = any_name method.input_type;
  output_type = any_name method.output_type;
}

abbrev pub service_kept : ServiceDescriptorProto → ServiceDescriptorProto
service_kept service = record service { method = map method_kept service.method }

abbrev pub kept_step : DescriptorProto-F DescriptorProto → DescriptorProto
kept_step m = roll-DescriptorProto (record m {
  field = map field_kept m.field;
  extension = map field_kept m.extension;
})

-- A message, and those in it.
abbrev pub message_kept : DescriptorProto → DescriptorProto
message_kept = fold-DescriptorProto DescriptorProto kept_step

-- Numbers, names, labels, options, defaults, comments and places stay, and the order of all parts.
abbrev pub file_kept : FileDescriptorProto → FileDescriptorProto
file_kept file = record file {
  message_type = map message_kept file.message_type;
  service = map service_kept file.service;
  extension = map field_kept file.extension;
}
