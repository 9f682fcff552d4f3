-- What is known of a declaration: its path, its full name and its descriptor, by its kind.
use Rattle.std.specs.Prelude.{ℕ, ℤ, List}
use Rattle.protox_descriptor.specs.FieldDescriptorProto.{FieldDescriptorProto}
use Rattle.protox_descriptor.specs.declared.descriptor.DescriptorProto.{DescriptorProto}
use Rattle.protox_descriptor.specs.declared.descriptor.EnumDescriptorProto.{EnumDescriptorProto}
use Rattle.protox_descriptor.specs.declared.descriptor.EnumValueDescriptorProto.{EnumValueDescriptorProto}
use Rattle.protox_descriptor.specs.declared.descriptor.MethodDescriptorProto.{MethodDescriptorProto}
use Rattle.protox_descriptor.specs.declared.descriptor.OneofDescriptorProto.{OneofDescriptorProto}
use Rattle.protox_descriptor.specs.declared.descriptor.ServiceDescriptorProto.{ServiceDescriptorProto}
use Rattle.protox_walk.specs.declared.part.Part.{Part}
use Rattle.protox_walk.specs.declared.part.Part.TheVariants as value
use Rattle.protox_walk.specs.declared.Declaration.{Declaration}

-- A descriptor, by its kind.
pub data Described : Type 0 where
  Message : DescriptorProto → Described
  Field : FieldDescriptorProto → Described
  Oneof : OneofDescriptorProto → Described
  Enum : EnumDescriptorProto → Described
  Value : EnumValueDescriptorProto → Described
  Service : ServiceDescriptorProto → Described
  Method : MethodDescriptorProto → Described

-- A declaration.
pub record Declared : Type 0 where
  pub path : List ℤ
  pub full_name : List ℕ
  pub part : Described

-- what a part lends
abbrev pub part_of : Part → Described
part_of (value.Message message) = Message message.now
part_of (value.Field field) = Field field.now
part_of (value.Oneof oneof) = Oneof oneof.now
part_of (value.Enum enum) = Enum enum.now
part_of (value.Value value) = Value value.now
part_of (value.Service service) = Service service.now
part_of (value.Method method) = Method method.now

-- what a program sees of a declaration
abbrev pub seen : Declaration → Declared
seen d = record { path = d.path; full_name = d.full_name; part = part_of d.part }
