-- Files for examples: their descriptors, locations and faults are computed, each with its law.
use Prim.Native.String.{String}
use Rattle.std.proofs.Common.{◌≡◌, ℕ, List, [], ◌∷◌, ◌++◌, map, flat_map, codes, refl, ap, ap₂, ℤ}
use Rattle.protox_fault.specs.Faults.{Span}
use Rattle.protox_ast.specs.declared.ast.File.{File}
use Rattle.protox_ast.specs.declared.ast.FileItem.{FileItem}
use Rattle.protox_ast.specs.declared.ast.FileItem.TheVariants as file_item
use Rattle.protox_ast.specs.declared.ast.Syntax.{Syntax}
use Rattle.protox_descriptor.specs.declared.descriptor.DescriptorProto.{DescriptorProto}
use Rattle.protox_descriptor.specs.FieldDescriptorProto.{FieldDescriptorProto}
use Rattle.protox_descriptor.specs.declared.descriptor.source_code_info.Location.{Location}
use Rattle.protox_descriptor.specs.declared.tag.file.TheConstants as file_tag
use Rattle.protox_describe.specs.Descriptor.{descriptor_steps}
use Rattle.protox_describe.specs.File.{item_messages, item_extensions, file_proto}
use Rattle.protox_ast.specs.declared.ast.Import.{Import}
use Rattle.protox_checks.specs.Checks.{node_faults, file_faults}
use Rattle.protox_places.specs.Lines.{span_numbers}
use Rattle.protox_locate.specs.LocationWords.{Part, part, each_at, siblings_at, bare, option_statements}
use Rattle.protox_locate.specs.Locations as locations
use Rattle.protox_locate.specs.Locations.{location_steps, file_locations, item_enums, item_services, item_blocks, package_locations, import_locations, public_words, weak_words, syntax_locations}
use Rattle.protox_checks.specs.Nodes.{Node, node_steps, item_nodes, option_nodes}
use Rattle.protox_ast.specs.Options.{bodies_of}
use Rattle.protox_generate.proofs.samples.Trees.{Tree, MessageSort, ExtendSort, make, give, given}
use Rattle.protox_generate.proofs.samples.Written.{shown, shown_whole}

pub data FileTree : Type 0 where
  AMessage : Tree MessageSort → FileTree
  AnExtend : Tree ExtendSort → FileTree
  Another : FileItem → FileTree

abbrev pub make_item : FileTree → FileItem
make_item (AMessage t) = file_item.Message (make t)
make_item (AnExtend t) = file_item.Extend (make t)
make_item (Another i) = i

-- the file with these items
abbrev pub filled : File → List FileTree → File
filled file trees = record file { items = map make_item trees }

pub flat-given : {A : Type 0} (f : FileItem → List A) (g : FileTree → List A) → ((t : FileTree) → f (make_item t) ≡ g t) → (ts : List FileTree) → flat_map f (map make_item ts) ≡ flat_map g ts
flat-given f g same [] = refl
flat-given f g same (t ∷ ts) = ap₂ (λ x y. x ++ y) (same t) (flat-given f g same ts)

map-given : {A : Type 0} (f : FileItem → A) (g : FileTree → A) → ((t : FileTree) → f (make_item t) ≡ g t) → (ts : List FileTree) → map f (map make_item ts) ≡ map g ts
map-given f g same [] = refl
map-given f g same (t ∷ ts) = ap₂ (λ x y. x ∷ y) (same t) (map-given f g same ts)

-- ---- descriptors

module _ (syntax : Syntax) where
  abbrev given_messages : FileTree → List DescriptorProto
  given_messages (AMessage t) = give (descriptor_steps syntax) t ∷ []
  given_messages (AnExtend t) = flat_map (λ gives. gives.nested) (give (descriptor_steps syntax) t)
  given_messages (Another i) = item_messages syntax i

  same-messages : (t : FileTree) → item_messages syntax (make_item t) ≡ given_messages t
  same-messages (AMessage t) = ap (λ m. m ∷ []) (given (descriptor_steps syntax) t)
  same-messages (AnExtend t) = ap (flat_map (λ gives. gives.nested)) (given (descriptor_steps syntax) t)
  same-messages (Another i) = refl

  abbrev given_extensions : FileTree → List FieldDescriptorProto
  given_extensions (AnExtend t) = map (λ gives. gives.field) (give (descriptor_steps syntax) t)
  given_extensions (AMessage t) = []
  given_extensions (Another i) = item_extensions syntax i

  same-extensions : (t : FileTree) → item_extensions syntax (make_item t) ≡ given_extensions t
  same-extensions (AnExtend t) = ap (map (λ gives. gives.field)) (given (descriptor_steps syntax) t)
  same-extensions (AMessage t) = refl
  same-extensions (Another i) = refl

abbrev pub messages : File → List DescriptorProto
messages file = (file_proto (codes "a.proto") file).message_type

abbrev pub extensions : File → List FieldDescriptorProto
extensions file = (file_proto (codes "a.proto") file).extension

pub messages-of : (file : File) (trees : List FileTree) → messages (filled file trees) ≡ flat_map (given_messages file.syntax) trees
messages-of file trees = flat-given (item_messages file.syntax) (given_messages file.syntax) (same-messages file.syntax) trees

pub extensions-of : (file : File) (trees : List FileTree) → extensions (filled file trees) ≡ flat_map (given_extensions file.syntax) trees
extensions-of file trees = flat-given (item_extensions file.syntax) (given_extensions file.syntax) (same-extensions file.syntax) trees

-- ---- locations

module _ (numbers : Span → List ℤ) where
  abbrev message_parts : FileTree → List Part
  message_parts (AMessage x) = give (location_steps numbers) x ∷ []
  message_parts (AnExtend x) = (give (location_steps numbers) x).messages
  message_parts (Another i) = locations.item_messages numbers i

  message_parts-same : (x : FileTree) → locations.item_messages numbers (make_item x) ≡ message_parts x
  message_parts-same (AMessage x) = ap (λ m. m ∷ []) (given (location_steps numbers) x)
  message_parts-same (AnExtend x) = ap (λ e. e.messages) (given (location_steps numbers) x)
  message_parts-same (Another i) = refl

  abbrev given_blocks : FileTree → List Part
  given_blocks (AMessage x) = []
  given_blocks (AnExtend x) = (give (location_steps numbers) x).block ∷ []
  given_blocks (Another i) = item_blocks numbers i

  same-blocks : (x : FileTree) → item_blocks numbers (make_item x) ≡ given_blocks x
  same-blocks (AMessage x) = refl
  same-blocks (AnExtend x) = ap (λ e. e.block ∷ []) (given (location_steps numbers) x)
  same-blocks (Another i) = refl

  abbrev extension_parts : FileTree → List Part
  extension_parts (AMessage x) = []
  extension_parts (AnExtend x) = (give (location_steps numbers) x).extensions
  extension_parts (Another i) = locations.item_extensions numbers i

  extension_parts-same : (x : FileTree) → locations.item_extensions numbers (make_item x) ≡ extension_parts x
  extension_parts-same (AMessage x) = refl
  extension_parts-same (AnExtend x) = ap (λ e. e.extensions) (given (location_steps numbers) x)
  extension_parts-same (Another i) = refl

  abbrev given_enums : FileTree → List Part
  given_enums (AMessage x) = []
  given_enums (AnExtend x) = []
  given_enums (Another i) = item_enums numbers i

  same-enums : (x : FileTree) → item_enums numbers (make_item x) ≡ given_enums x
  same-enums (AMessage x) = refl
  same-enums (AnExtend x) = refl
  same-enums (Another i) = refl

  abbrev given_services : FileTree → List Part
  given_services (AMessage x) = []
  given_services (AnExtend x) = []
  given_services (Another i) = item_services numbers i

  same-services : (x : FileTree) → item_services numbers (make_item x) ≡ given_services x
  same-services (AMessage x) = refl
  same-services (AnExtend x) = refl
  same-services (Another i) = refl

  -- the locations of a file whose items bring these
  abbrev with_parts : File → List Part → List Part → List Part → List Part → List Part → List Location
  with_parts file messages enums services blocks extensions =
      bare numbers [] file.span
      ∷ (package_locations numbers [] file.«package»
      ++ (siblings_at [] file_tag.DEPENDENCY (map (import_locations numbers) file.imports)
      ++ (siblings_at [] file_tag.MESSAGE_TYPE messages
      ++ (siblings_at [] file_tag.ENUM_TYPE enums
      ++ (siblings_at [] file_tag.SERVICE services
      ++ (each_at (part [] file_tag.EXTENSION) blocks
      ++ (siblings_at [] file_tag.EXTENSION extensions
      ++ (option_statements numbers (part [] file_tag.OPTIONS) file.options
      ++ (siblings_at [] file_tag.PUBLIC_DEPENDENCY (flat_map (λ (statement : Import). public_words numbers statement.kind) file.imports)
      ++ (siblings_at [] file_tag.WEAK_DEPENDENCY (flat_map (λ (statement : Import). weak_words numbers statement.kind) file.imports)
      ++ syntax_locations numbers [] file.syntax_span))))))))))

  abbrev pub listed : File → List FileTree → List Location
  listed file trees =
      with_parts file (flat_map message_parts trees) (flat_map given_enums trees) (flat_map given_services trees) (flat_map given_blocks trees) (flat_map extension_parts trees)

  pub listed-of : (file : File) (trees : List FileTree) → file_locations numbers (filled file trees) ≡ listed file trees
  listed-of file trees =
      rw (
        flat-given (locations.item_messages numbers) message_parts message_parts-same trees,
        flat-given (item_enums numbers) given_enums same-enums trees,
        flat-given (item_services numbers) given_services same-services trees,
        flat-given (item_blocks numbers) given_blocks same-blocks trees,
        flat-given (locations.item_extensions numbers) extension_parts extension_parts-same trees,
      ) refl

-- all locations of a file of that source, each as its path and its span, in their order
abbrev pub table : String → File → List (List ℕ × List ℕ)
table source file = map shown (file_locations (span_numbers (codes source)) file)

-- the same with the comment that leads it
abbrev pub whole_table : String → File → List (List ℕ × List ℕ × List ℕ)
whole_table source file = map shown_whole (file_locations (span_numbers (codes source)) file)

pub table-of : (source : String) (file : File) (trees : List FileTree) → table source (filled file trees) ≡ map shown (listed (span_numbers (codes source)) file trees)
table-of source file trees = ap (map shown) (listed-of (span_numbers (codes source)) file trees)

pub whole_table-of : (source : String) (file : File) (trees : List FileTree) → whole_table source (filled file trees) ≡ map shown_whole (listed (span_numbers (codes source)) file trees)
whole_table-of source file trees = ap (map shown_whole) (listed-of (span_numbers (codes source)) file trees)

-- ---- faults

abbrev given_nodes : FileTree → List Node
given_nodes (AMessage t) = give node_steps t
given_nodes (AnExtend t) = give node_steps t
given_nodes (Another i) = item_nodes i

same-nodes : (t : FileTree) → item_nodes (make_item t) ≡ given_nodes t
same-nodes (AMessage t) = given node_steps t
same-nodes (AnExtend t) = given node_steps t
same-nodes (Another i) = refl

pub faults-of : (file : File) (trees : List FileTree)
    → file_faults (filled file trees) ≡ flat_map (node_faults file.syntax) (flat_map given_nodes trees ++ option_nodes (bodies_of file.options))
faults-of file trees = ap (λ nodes. flat_map (node_faults file.syntax) (nodes ++ option_nodes (bodies_of file.options))) (flat-given item_nodes given_nodes same-nodes trees)
