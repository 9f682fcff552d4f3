-- The names of a file have their locations.
use Rattle.std.proofs.Common.{◌≡◌, ℕ, List, [], ◌∷◌, ◌++◌, length, map, flat_map, Option, Some, None, refl, sym, subst, arith, append_assoc}
use Rattle.std.specs.Prelude.{ℤ, pos}
use Rattle.protox_ast.proofs.Lemmas.{Pairs}
use Rattle.protox_ast.specs.Basics.{Each}
use Rattle.protox_ast.specs.declared.ast.Comments.{Comments}
use Rattle.protox_ast.specs.declared.ast.File.{File}
use Rattle.protox_ast.specs.declared.ast.FileItem.{FileItem}
use Rattle.protox_ast.specs.declared.ast.FileItem.TheVariants as item
use Rattle.protox_ast.specs.declared.ast.Import.{Import}
use Rattle.protox_ast.specs.declared.ast.ImportKind.{ImportKind}
use Rattle.protox_ast.specs.declared.ast.ImportKind.TheVariants as import_kind
use Rattle.protox_ast.specs.declared.ast.Package.{Package}
use Rattle.protox_ast.specs.declared.ast.Syntax.{Syntax}
use Rattle.protox_describe.specs.File as d
use Rattle.protox_describe.specs.File.{file_proto}
use Rattle.protox_descriptor.specs.declared.descriptor.FileDescriptorProto.{FileDescriptorProto}
use Rattle.protox_descriptor.specs.declared.descriptor.source_code_info.Location.{Location}
use Rattle.protox_fault.specs.Faults.{Span}
use Rattle.protox_generate.proofs.Leads.{Starts, bare-starts, commented-starts, each-both, each-flat, each-map, numbered-starts}
use Rattle.protox_generate.proofs.Named.{BlockAt, pairs-both}
use Rattle.protox_generate.proofs.Placed.{Placed, Row, all-at, below-tag, joined, node, one-below, quiet-then, siblings, statements, then-quiet}
use Rattle.protox_generate.proofs.PlacedParts.{enum-placed, options-below, service-placed}
use Rattle.protox_generate.proofs.PlacedTrees.{FieldAt, MessageAt, blocks-at, extend-has, message-has}
use Rattle.protox_generate.specs.File.{file_descriptor}
use Rattle.protox_generate.specs.NamePaths.{HasPlaces, enum_paths, field_paths, in_list, in_places, message_paths, name_paths, service_paths}
use Rattle.protox_locate.proofs.Lemmas.{Below}
use Rattle.protox_locate.specs.LocationWords.{Path, part, bare, each_at, numbered, option_statements}
use Rattle.protox_locate.specs.Locations as l
use Rattle.protox_locate.specs.Locations.{file_at, import_locations, package_locations, public_words, syntax_locations, weak_words}
use Rattle.protox_places.specs.Lines.{span_numbers}

module _ (syntax : Syntax) (numbers : Span → List ℤ) where
  -- ---- items

  record ItemHas (x : FileItem) : Type 0 where
    pub messages : Pairs MessageAt (d.item_messages syntax x) (l.item_messages numbers x)
    pub enums : Pairs (λ e at. Placed (enum_paths e) at) (d.item_enums x) (l.item_enums numbers x)
    pub services : Pairs (λ s at. Placed (service_paths s) at) (d.item_services x) (l.item_services numbers x)
    pub extensions : Pairs FieldAt (d.item_extensions syntax x) (l.item_extensions numbers x)
    pub blocks : Each BlockAt (l.item_blocks numbers x)

  item-has : (x : FileItem) → ItemHas x
  item-has (item.Message x) = record { messages = (message-has syntax numbers x, tt); enums = tt; services = tt; extensions = tt; blocks = tt }
  item-has (item.Enum x) = record { messages = tt; enums = (enum-placed numbers x, tt); services = tt; extensions = tt; blocks = tt }
  item-has (item.Service x) = record { messages = tt; enums = tt; services = (service-placed numbers x, tt); extensions = tt; blocks = tt }
  item-has (item.Extend x) = let e = extend-has syntax numbers x in record { messages = e.messages; enums = tt; services = tt; extensions = e.extensions; blocks = (e.block, tt) }

  flat : {A B : Type 0} (P : A → B → Type 0) (f : FileItem → List A) (g : FileItem → List B) → ((x : FileItem) → ItemHas x → Pairs P (f x) (g x)) → (xs : List FileItem) → Pairs P (flat_map f xs) (flat_map g xs)
  flat P f g h [] = tt
  flat P f g h (x ∷ xs) = pairs-both P (f x) (flat_map f xs) (g x) (flat_map g xs) (h x (item-has x)) (flat P f g h xs)

  all-blocks : (xs : List FileItem) → Each BlockAt (flat_map (l.item_blocks numbers) xs)
  all-blocks [] = tt
  all-blocks (x ∷ xs) = each-both BlockAt (l.item_blocks numbers x) (flat_map (l.item_blocks numbers) xs) (item-has x).blocks (all-blocks xs)

  -- ---- the head of a file

  package-below : (path : Path) (x : Option Package) → Each (Below path 2 3) (package_locations numbers path x)
  package-below path None = tt
  package-below path (Some x) = one-below path 2 2 3 _ (omega arith) (omega arith) refl

  syntax-below : (path : Path) (x : Option (Span × Comments)) → Each (Below path 8 13) (syntax_locations numbers path x)
  syntax-below path None = tt
  syntax-below path (Some x) = one-below path 12 8 13 _ (omega arith) (omega arith) refl

  public-starts : (kind : Option (ImportKind × Span)) → Each Starts (public_words numbers kind)
  public-starts None = tt
  public-starts (Some (import_kind.Public, span)) = (bare-starts numbers span, tt)
  public-starts (Some (import_kind.Weak, span)) = tt

  weak-starts : (kind : Option (ImportKind × Span)) → Each Starts (weak_words numbers kind)
  weak-starts None = tt
  weak-starts (Some (import_kind.Public, span)) = tt
  weak-starts (Some (import_kind.Weak, span)) = (bare-starts numbers span, tt)

  -- ---- a file

  file-placed : (name : List ℕ) (file : File) → file.syntax ≡ syntax → Placed (name_paths (file_proto name file)) (file_at numbers file)
  file-placed name file same =
      let proto = file_proto name file in
      let items = file.items in
      let messages = subst (λ x. Pairs MessageAt (flat_map (d.item_messages x) items) (flat_map (l.item_messages numbers) items)) (sym same)
      (flat MessageAt (d.item_messages syntax) (l.item_messages numbers) (λ x f. f.messages) items) in
      let extensions = subst (λ x. Pairs FieldAt (flat_map (d.item_extensions x) items) (flat_map (l.item_extensions numbers) items)) (sym same)
      (flat FieldAt (d.item_extensions syntax) (l.item_extensions numbers) (λ x f. f.extensions) items) in
      node (name_paths proto) (λ path. bare numbers path file.span) _ 2 13 (λ path. refl)
      (λ path.
      let head = numbered path (pos 3) 0 (map (import_locations numbers) file.imports) in
      let blocks = each_at (part path (pos 7)) (flat_map (l.item_blocks numbers) items) in
      let ats = flat_map (l.item_extensions numbers) items in
      let extending = numbered path (pos 7) 0 ats in
      let publics = numbered path (pos 10) 0 (flat_map (λ (x : Import). public_words numbers x.kind) file.imports) in
      let weaks = numbered path (pos 11) 0 (flat_map (λ (x : Import). weak_words numbers x.kind) file.imports) in
      let rest = option_statements numbers (part path (pos 8)) file.options ++ (publics ++ (weaks ++ syntax_locations numbers path file.syntax_span)) in
      let extended = in_list (pos 7) (map field_paths proto.extension) in
      let all-rest : Each (Below path 8 13) rest =
      each-both (Below path 8 13) _ _ (options-below numbers path 8 8 13 file.options (omega arith) (omega arith))
      (each-both (Below path 8 13) publics _ (below-tag path 10 8 13 publics (omega arith) (omega arith) (numbered-starts path (pos 10) 0 _ (each-flat Starts _ file.imports (λ (x : Import). public-starts x.kind))))
      (each-both (Below path 8 13) weaks _ (below-tag path 11 8 13 weaks (omega arith) (omega arith) (numbered-starts path (pos 11) 0 _ (each-flat Starts _ file.imports (λ (x : Import). weak-starts x.kind))))
      (syntax-below path file.syntax_span))) in
      let all-extended : Row path 7 13 extended (blocks ++ (extending ++ rest)) =
      subst (λ (ls : List Location). Row path 7 13 extended ls) (append_assoc blocks extending rest)
      (then-quiet path 7 8 13 extended (blocks ++ extending) rest (omega arith)
      (statements path 7 0 (length proto.extension) 7 8 (in_places 0 (map field_paths proto.extension)) blocks extending (omega arith) (omega arith) (blocks-at (part path (pos 7)) (flat_map (l.item_blocks numbers) items) (all-blocks items))
      (siblings field_paths path (pos 7) 0 (length proto.extension) proto.extension ats extensions (omega arith)))
      all-rest) in
      quiet-then path 2 3 13 _ (package_locations numbers path file.«package») _ (omega arith) (package-below path file.«package»)
      (quiet-then path 3 4 13 _ head _ (omega arith)
      (below-tag path 3 3 4 head (omega arith) (omega arith) (numbered-starts path (pos 3) 0 _ (each-map Starts (import_locations numbers) file.imports (λ (x : Import). commented-starts numbers x.span x.comments))))
      (joined path 4 5 13 (in_list (pos 4) (map message_paths proto.message_type)) _ _ _
      (all-at message_paths path 4 4 5 proto.message_type (flat_map (l.item_messages numbers) items) (omega arith) (omega arith) messages)
      (joined path 5 6 13 (in_list (pos 5) (map enum_paths proto.enum_type)) _ _ _
      (all-at enum_paths path 5 5 6 proto.enum_type (flat_map (l.item_enums numbers) items) (omega arith) (omega arith) (flat _ d.item_enums (l.item_enums numbers) (λ x f. f.enums) items))
      (joined path 6 7 13 (in_list (pos 6) (map service_paths proto.service)) _ _ _
      (all-at service_paths path 6 6 7 proto.service (flat_map (l.item_services numbers) items) (omega arith) (omega arith) (flat _ d.item_services (l.item_services numbers) (λ x f. f.services) items))
      all-extended)))))

pub answer-placed : (name source : List ℕ) (file : File) (found : FileDescriptorProto) → found ≡ file_descriptor name source file → HasPlaces found
unfolding file_descriptor
answer-placed name source file found e = subst HasPlaces (sym e) ((file-placed file.syntax (span_numbers source) name file refl).once [])
