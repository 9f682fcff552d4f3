-- The locations of all parts of a file, in the order of their paths. A path is made of field
-- numbers and indices. Kinds of parts come by their field numbers, and parts of one kind are
-- numbered from 0.
use Rattle.std.specs.Prelude.{List, [], ◌∷◌, ◌++◌, map, flat_map, Option, Some, None, ℤ}
use Rattle.protox_fault.specs.Faults.{Span}
use Rattle.protox_ast.specs.Options.{OptionStatement}
use Rattle.protox_ast.specs.Steps.{Steps, of_extend, of_message}
use Rattle.protox_ast.specs.declared.ast.Comments.{Comments}
use Rattle.protox_ast.specs.declared.ast.FieldKind.TheOpen.{Extend-F, MessageBody-F, MessageItem-F, Oneof-F}
use Rattle.protox_ast.specs.declared.ast.File.{File}
use Rattle.protox_ast.specs.declared.ast.FileItem.{FileItem}
use Rattle.protox_ast.specs.declared.ast.FileItem.TheVariants as item
use Rattle.protox_ast.specs.declared.ast.Import.{Import}
use Rattle.protox_ast.specs.declared.ast.ImportKind.{ImportKind}
use Rattle.protox_ast.specs.declared.ast.ImportKind.TheVariants as import_kind
use Rattle.protox_ast.specs.declared.ast.Package.{Package}
use Rattle.protox_ast.specs.declared.ast.Reserved.{Reserved}
use Rattle.protox_descriptor.specs.declared.descriptor.source_code_info.Location.{Location}
use Rattle.protox_descriptor.specs.declared.tag.file.TheConstants as file_tag
use Rattle.protox_descriptor.specs.declared.tag.message.TheConstants as message_tag
use Rattle.protox_descriptor.specs.declared.tag.oneof.TheConstants as oneof_tag
use Rattle.protox_locate.specs.EnumLocations.{enum_locations}
use Rattle.protox_locate.specs.FieldLocations.{OfField, OfKind, kind_step, field_step}
use Rattle.protox_locate.specs.LocationWords.{Path, Part, part, each_at, siblings_at, commented, bare, extensions_statements, option_statements, range_statements, name_statements}
use Rattle.protox_locate.specs.ServiceLocations.{service_locations}

-- ---- what an item contributes of each kind

-- the locations that an item contributes, by kinds
pub record OfItem : Type 0 where
  pub fields : List Part
  pub messages : List Part
  pub enums : List Part
  -- the `extend` statements, at the path of all extensions
  pub blocks : List Part
  pub extensions : List Part
  pub oneofs : List Part

-- an item that contributes nothing
abbrev pub nothing : OfItem
nothing = record { fields = []; messages = []; enums = []; blocks = []; extensions = []; oneofs = [] }

-- a oneof: its own locations, and its fields
pub record OfOneof : Type 0 where
  pub own : Part
  pub fields : List OfField

-- an `extend`: its own location, its extensions, and the messages of their groups and map entries
pub record OfExtend : Type 0 where
  pub block : Part
  pub extensions : List Part
  pub messages : List Part

-- the messages of the groups and map entries among these fields
abbrev pub messages_of : List OfField → List Part
messages_of fields = flat_map (λ f. f.messages) fields

-- the locations of all parts of one kind, numbered from 0
abbrev pub all_of : (OfItem → List Part) → Path → ℤ → List OfItem → List Location
all_of kind path tag items = siblings_at path tag (flat_map kind items)

module _ (numbers : Span → List ℤ) where
  -- a node of the tree, with the locations of each node below in its place
  abbrev Layer : (Type 0 → Type 0 → Type 0 → Type 0 → Type 0 → Type 0 → Type 0 → Type 0) → Type 0
  Layer F = F OfKind OfItem OfExtend OfField Part Part OfOneof

  -- ---- messages

  -- the locations of an item of a message
  abbrev pub item_step : Layer MessageItem-F → OfItem
  item_step (MessageItem-F.Field f) = record nothing { fields = f.own None ∷ []; messages = f.messages }
  item_step (MessageItem-F.Enum e) = record nothing { enums = enum_locations numbers e ∷ [] }
  item_step (MessageItem-F.Message m) = record nothing { messages = m ∷ [] }
  item_step (MessageItem-F.Extend e) = record nothing { messages = e.messages; blocks = e.block ∷ []; extensions = e.extensions }
  item_step (MessageItem-F.Oneof o) = record nothing { fields = map (λ f. f.own None) o.fields; messages = messages_of o.fields; oneofs = o.own ∷ [] }

  -- the locations of an `extend`, given those of its fields
  abbrev pub extend_step : Layer Extend-F → OfExtend
  extend_step e = record {
    block = λ path. commented numbers path e.span e.comments ∷ [];
    extensions = map (λ f. f.own (Some e.extendee)) e.fields;
    messages = messages_of e.fields;
  }

  -- the locations of a oneof, given those of its fields
  abbrev pub oneof_step : Layer Oneof-F → OfOneof
  oneof_step o = record {
    own = λ path.
        commented numbers path o.span o.comments
        ∷ bare numbers (part path oneof_tag.NAME) o.name.span
        ∷ option_statements numbers (part path oneof_tag.OPTIONS) o.options;
    fields = o.fields;
  }

  -- the locations in a message, from its `extend` statements on
  abbrev pub from_blocks : Path → List OfItem → List OptionStatement → List Reserved → List Location
  from_blocks path items options reserved =
      each_at (part path message_tag.EXTENSION) (flat_map (λ i. i.blocks) items)
      ++ (all_of (λ i. i.extensions) path message_tag.EXTENSION items
      ++ (option_statements numbers (part path message_tag.OPTIONS) options
      ++ (all_of (λ i. i.oneofs) path message_tag.ONEOF_DECL items
      ++ (range_statements numbers path message_tag.RESERVED_RANGE reserved
      ++ name_statements numbers path message_tag.RESERVED_NAME reserved))))

  -- the locations in a body, in the order of the paths
  abbrev pub body_step : Layer MessageBody-F → Part
  body_step b path =
      all_of (λ i. i.fields) path message_tag.FIELD b.items
      ++ (all_of (λ i. i.messages) path message_tag.NESTED_TYPE b.items
      ++ (all_of (λ i. i.enums) path message_tag.ENUM_TYPE b.items
      ++ (extensions_statements numbers path b.extensions
      ++ from_blocks path b.items b.options b.reserved)))

  -- The steps that compute a message's locations: `of_message location_steps message path`. `path`
  -- is the message's own path.
  abbrev pub location_steps : Steps OfKind OfItem OfExtend OfField Part Part OfOneof
  location_steps = record {
    kind = kind_step numbers;
    item = item_step;
    extend = extend_step;
    field = field_step numbers;
    message = λ m path. commented numbers path m.span m.comments ∷ bare numbers (part path message_tag.NAME) m.name.span ∷ m.body path;
    body = body_step;
    oneof = oneof_step;
  }

  -- ---- the items of a file

  -- the locations of a message; for an `extend` those of the messages of its groups and map entries
  abbrev pub item_messages : FileItem → List Part
  item_messages (item.Message message) = of_message location_steps message ∷ []
  item_messages (item.Extend extend) = (of_extend location_steps extend).messages
  item_messages (item.Enum enum) = []
  item_messages (item.Service service) = []

  -- the locations of the enum that an item is, if it is one
  abbrev pub item_enums : FileItem → List Part
  item_enums (item.Enum enum) = enum_locations numbers enum ∷ []
  item_enums _ = []

  -- the locations of the service that an item is, if it is one
  abbrev pub item_services : FileItem → List Part
  item_services (item.Service service) = service_locations numbers service ∷ []
  item_services _ = []

  -- the location of an `extend` statement
  abbrev pub item_blocks : FileItem → List Part
  item_blocks (item.Extend extend) = (of_extend location_steps extend).block ∷ []
  item_blocks _ = []

  -- the locations of the extensions that an item declares
  abbrev pub item_extensions : FileItem → List Part
  item_extensions (item.Extend extend) = (of_extend location_steps extend).extensions
  item_extensions _ = []

  -- ---- the head of a file

  -- the location of the syntax statement, if there is one
  abbrev pub syntax_locations : Path → Option (Span × Comments) → List Location
  syntax_locations path None = []
  syntax_locations path (Some syntax) = commented numbers (part path file_tag.SYNTAX) syntax.0 syntax.1 ∷ []

  -- the location of the package statement, if there is one
  abbrev pub package_locations : Path → Option Package → List Location
  package_locations path None = []
  package_locations path (Some statement) = commented numbers (part path file_tag.PACKAGE) statement.span statement.comments ∷ []

  -- the location of an import statement
  abbrev pub import_locations : Import → Part
  import_locations statement path = commented numbers path statement.span statement.comments ∷ []

  -- the word `public` of an import, if it has one
  abbrev pub public_words : Option (ImportKind × Span) → List Part
  public_words (Some (import_kind.Public, span)) = (λ path. bare numbers path span ∷ []) ∷ []
  public_words _ = []

  -- the word `weak` of an import, if it has one
  abbrev pub weak_words : Option (ImportKind × Span) → List Part
  weak_words (Some (import_kind.Weak, span)) = (λ path. bare numbers path span ∷ []) ∷ []
  weak_words _ = []

  -- ---- a file

  -- the locations in a file, from its `extend` statements on
  abbrev pub file_from_blocks : File → Part
  file_from_blocks file path =
      each_at (part path file_tag.EXTENSION) (flat_map item_blocks file.items)
      ++ (siblings_at path file_tag.EXTENSION (flat_map item_extensions file.items)
      ++ (option_statements numbers (part path file_tag.OPTIONS) file.options
      ++ (siblings_at path file_tag.PUBLIC_DEPENDENCY (flat_map (λ (statement : Import). public_words statement.kind) file.imports)
      ++ (siblings_at path file_tag.WEAK_DEPENDENCY (flat_map (λ (statement : Import). weak_words statement.kind) file.imports)
      ++ syntax_locations path file.syntax_span))))

  -- the locations of a file at this path
  abbrev pub file_at : File → Part
  file_at file path =
      bare numbers path file.span
      ∷ (package_locations path file.«package»
      ++ (siblings_at path file_tag.DEPENDENCY (map import_locations file.imports)
      ++ (siblings_at path file_tag.MESSAGE_TYPE (flat_map item_messages file.items)
      ++ (siblings_at path file_tag.ENUM_TYPE (flat_map item_enums file.items)
      ++ (siblings_at path file_tag.SERVICE (flat_map item_services file.items)
      ++ file_from_blocks file path)))))

  -- all locations of a file; its path is empty
  abbrev pub file_locations : File → List Location
  file_locations file = file_at file []
