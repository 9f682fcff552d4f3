-- The locations of a file while its items are located one by one. There is a list for each kind of
-- parts; at the end they stand one behind the other.
use Rattle.std.specs.Prelude.{ℕ, ◌≡◌, List, [], ◌∷◌, ◌++◌, length, map, flat_map, ℤ}
use Rattle.protox_ast.specs.declared.ast.File.{File}
use Rattle.protox_ast.specs.declared.ast.FileItem.{FileItem}
use Rattle.protox_ast.specs.declared.ast.Import.{Import}
use Rattle.protox_descriptor.specs.declared.descriptor.source_code_info.Location.{Location}
use Rattle.protox_descriptor.specs.declared.tag.file.TheConstants as tag
use Rattle.protox_fault.specs.Faults.{Span}
use Rattle.protox_locate.specs.LocationWords.{Part, part, bare, each_at, siblings_at, option_statements}
use Rattle.protox_locate.specs.Locations.{item_blocks, item_enums, item_extensions, item_messages, item_services, import_locations, package_locations, public_words, weak_words, syntax_locations}
use Rattle.protox_locate.specs.declared.context.Context.{Context}
use Rattle.protox_locate.specs.declared.file.LocationDraft.{LocationDraft}

-- The context stands at the file itself, whose path is empty. It has the locations `front`, and then
-- those of these siblings. `next` is the index behind the last of them.
pub record AreSiblings (context : Context) (next : ℕ) (tag : ℤ) (front : List Location) (siblings : List Part) : Type 0 where
  pub path : context.path ≡ []
  pub locations : context.locations ≡ front ++ siblings_at [] tag siblings
  pub counted : next ≡ length siblings

-- The context stands at the file itself, and has the locations of these parts. They all have the
-- path of their list.
pub record AreParts (context : Context) (tag : ℤ) (parts : List Part) : Type 0 where
  pub path : context.path ≡ []
  pub locations : context.locations ≡ each_at (part [] tag) parts

module _ (numbers : Span → List ℤ) where
  -- the locations of a file that come before its items: its own, its package's and its imports'
  abbrev pub file_front : File → Part
  file_front file path =
      bare numbers path file.span
      ∷ (package_locations numbers path file.«package» ++ siblings_at path tag.DEPENDENCY (map (import_locations numbers) file.imports))

  -- The locations of a file that come behind its items: its options', the words `public` and `weak`,
  -- and the syntax statement's.
  abbrev pub file_end : File → Part
  file_end file path =
      option_statements numbers (part path tag.OPTIONS) file.options
      ++ (siblings_at path tag.PUBLIC_DEPENDENCY (flat_map (λ (statement : Import). public_words numbers statement.kind) file.imports)
      ++ (siblings_at path tag.WEAK_DEPENDENCY (flat_map (λ (statement : Import). weak_words numbers statement.kind) file.imports)
      ++ syntax_locations numbers path file.syntax_span))

  -- These items have been located. In front of those of the messages stand as many locations as are
  -- reserved.
  pub record IsDraft (items : List FileItem) (draft : LocationDraft) : Type 0 where
    pub front : List Location
    pub reserved : length front ≡ draft.reserved
    pub messages : AreSiblings draft.messages draft.next_message tag.MESSAGE_TYPE front (flat_map (item_messages numbers) items)
    pub enums : AreSiblings draft.enums draft.next_enum tag.ENUM_TYPE [] (flat_map (item_enums numbers) items)
    pub services : AreSiblings draft.services draft.next_service tag.SERVICE [] (flat_map (item_services numbers) items)
    pub blocks : AreParts draft.blocks tag.EXTENSION (flat_map (item_blocks numbers) items)
    pub extensions : AreSiblings draft.extensions draft.next_extension tag.EXTENSION [] (flat_map (item_extensions numbers) items)
