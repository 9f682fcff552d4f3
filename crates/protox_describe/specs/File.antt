-- The descriptor of a file without its locations.
use Rattle.std.specs.Prelude.{ℕ, List, [], ◌∷◌, map, Some, None}
use Rattle.std.specs.List.{flat_map}
use Rattle.protox_ast.specs.Steps.{of_extend, of_message}
use Rattle.protox_ast.specs.declared.ast.File.{File}
use Rattle.protox_ast.specs.declared.ast.FileItem.{FileItem}
use Rattle.protox_ast.specs.declared.ast.FileItem.TheVariants as item
use Rattle.protox_ast.specs.declared.ast.Syntax.{Syntax}
use Rattle.protox_descriptor.specs.declared.descriptor.DescriptorProto.{DescriptorProto}
use Rattle.protox_descriptor.specs.declared.descriptor.EnumDescriptorProto.{EnumDescriptorProto}
use Rattle.protox_descriptor.specs.FieldDescriptorProto.{FieldDescriptorProto}
use Rattle.protox_descriptor.specs.declared.descriptor.FileDescriptorProto.{FileDescriptorProto}
use Rattle.protox_descriptor.specs.declared.descriptor.ServiceDescriptorProto.{ServiceDescriptorProto}
use Rattle.protox_describe.specs.Descriptor.{descriptor_steps}
use Rattle.protox_describe.specs.Enums.{enum_proto}
use Rattle.protox_describe.specs.Head.{syntax_name, package_name, is_public, is_weak}
use Rattle.protox_ast.specs.Options.{bodies_of, options_message}
use Rattle.protox_describe.specs.Services.{service_proto}
use Rattle.protox_describe.specs.Siblings.{places}

-- the messages of an item; an `extend` has those of its groups and maps
abbrev pub item_messages : Syntax → FileItem → List DescriptorProto
item_messages syntax (item.Message message) = of_message (descriptor_steps syntax) message ∷ []
item_messages syntax (item.Extend extend) = flat_map (λ gives. gives.nested) (of_extend (descriptor_steps syntax) extend)
item_messages syntax _ = []

-- the enum that an item is, if it is one
abbrev pub item_enums : FileItem → List EnumDescriptorProto
item_enums (item.Enum enum) = enum_proto enum ∷ []
item_enums _ = []

-- the service that an item is, if it is one
abbrev pub item_services : FileItem → List ServiceDescriptorProto
item_services (item.Service service) = service_proto service ∷ []
item_services _ = []

-- the extensions that an item declares
abbrev pub item_extensions : Syntax → FileItem → List FieldDescriptorProto
item_extensions syntax (item.Extend extend) = map (λ gives. gives.field) (of_extend (descriptor_steps syntax) extend)
item_extensions syntax _ = []

-- the descriptor of a file of this name, without locations
abbrev pub file_proto : List ℕ → File → FileDescriptorProto
file_proto name file = record {
  name = Some name;
  «package» = package_name file.«package»;
  dependency = map (λ statement. statement.value) file.imports;
  public_dependency = places is_public 0 file.imports;
  weak_dependency = places is_weak 0 file.imports;
  message_type = flat_map (item_messages file.syntax) file.items;
  enum_type = flat_map item_enums file.items;
  service = flat_map item_services file.items;
  extension = flat_map (item_extensions file.syntax) file.items;
  options = options_message (λ options. record { uninterpreted_option = options }) (bodies_of file.options);
  source_code_info = None;
  syntax = syntax_name file.syntax;
}
