-- The locations of a file lead to its names.
use Rattle.std.proofs.Common.{◌≡◌, ℕ, List, [], ◌∷◌, flat_map, Option, Some, None, refl, sym, subst}
use Rattle.std.specs.Prelude.{ℤ, pos}
use Rattle.std.specs.List.{filter_map}
use Rattle.std.specs.Str.{IsUtf8}
use Rattle.protox_ast.proofs.Lemmas.{Pairs, each-back, each-front}
use Rattle.protox_ast.specs.Accepted.{IsFileOf}
use Rattle.protox_ast.specs.Ast as ast
use Rattle.protox_ast.specs.Basics.{Each}
use Rattle.protox_describe.specs.Siblings.{Given}
use Rattle.protox_ast.specs.Places.{Place}
use Rattle.protox_ast.specs.Spelling as s
use Rattle.protox_ast.specs.Tree as t
use Rattle.protox_ast.specs.declared.ast.Comments.{Comments}
use Rattle.protox_ast.specs.declared.ast.File.{File}
use Rattle.protox_ast.specs.declared.ast.FileItem.{FileItem}
use Rattle.protox_ast.specs.declared.ast.Import.{Import}
use Rattle.protox_ast.specs.declared.ast.ImportKind.{ImportKind}
use Rattle.protox_ast.specs.declared.ast.ImportKind.TheVariants as import_kind
use Rattle.protox_ast.specs.declared.ast.Package.{Package}
use Rattle.protox_ast.specs.declared.ast.Syntax.{Syntax}
use Rattle.protox_describe.specs.File as d
use Rattle.protox_describe.specs.File.{file_proto}
use Rattle.protox_descriptor.specs.declared.descriptor.FileDescriptorProto.{FileDescriptorProto}
use Rattle.protox_descriptor.specs.declared.descriptor.source_code_info.Location.{Location}
use Rattle.protox_fault.specs.Faults.{Span}
use Rattle.protox_generate.proofs.Leads.{Fits, Leads, Starts, all-fronts, alone, apart, bare-starts, commented-starts, each-both, each-flat, each-map, each-so, leaf, numbered-starts, options-start, siblings}
use Rattle.protox_generate.proofs.Named.{FieldAt, MessageAt, BlockAt, blocks-row, pairs-both}
use Rattle.protox_generate.proofs.NamedParts.{enum-fits, service-fits}
use Rattle.protox_generate.proofs.NamedTrees.{extend-has, message-has}
use Rattle.protox_generate.proofs.Spelled.{RowSpelled, rows-spelled}
use Rattle.protox_generate.specs.File.{file_descriptor}
use Rattle.protox_generate.specs.Names.{HasNames, IsNamed, Lookup, in_enum, in_field, in_file, in_message, in_service}
use Rattle.protox_places.specs.Lines.{span_numbers}
use Rattle.protox_locate.specs.LocationWords.{Path, part}
use Rattle.protox_locate.specs.Locations as l
use Rattle.protox_locate.specs.Locations.{file_at, file_locations, import_locations, package_locations, public_words, weak_words, syntax_locations}

module _ (syntax : Syntax) (source : List ℕ) where
  abbrev numbers : Span → List ℤ
  numbers = span_numbers source

  record ItemFits (x : FileItem) : Type 0 where
    pub messages : Pairs (MessageAt source) (d.item_messages syntax x) (l.item_messages numbers x)
    pub enums : Pairs (λ e. Fits source (in_enum e)) (d.item_enums x) (l.item_enums numbers x)
    pub services : Pairs (λ e. Fits source (in_service e)) (d.item_services x) (l.item_services numbers x)
    pub extensions : Pairs (FieldAt source) (d.item_extensions syntax x) (l.item_extensions numbers x)
    pub blocks : Each BlockAt (l.item_blocks numbers x)

  -- ---- items

  items-fit : (xs : List (t.Statement Place)) → Each (RowSpelled source) (s.many s.statement xs) → Each ItemFits (filter_map ast.file_element xs)
  items-fit [] h = tt
  items-fit (t.a_message x ∷ xs) h = (
    record { messages = (message-has syntax source x (each-front (RowSpelled source) (s.message x) (s.many s.statement xs) h), tt); enums = tt; services = tt; extensions = tt; blocks = tt },
    items-fit xs (each-back (RowSpelled source) (s.message x) (s.many s.statement xs) h),
  )
  items-fit (t.an_enum x ∷ xs) h = (
    record { messages = tt; enums = (enum-fits source x (each-front (RowSpelled source) (s.enum x) (s.many s.statement xs) h), tt); services = tt; extensions = tt; blocks = tt },
    items-fit xs (each-back (RowSpelled source) (s.enum x) (s.many s.statement xs) h),
  )
  items-fit (t.a_service x ∷ xs) h = (
    record { messages = tt; enums = tt; services = (service-fits source x (each-front (RowSpelled source) (s.service x) (s.many s.statement xs) h), tt); extensions = tt; blocks = tt },
    items-fit xs (each-back (RowSpelled source) (s.service x) (s.many s.statement xs) h),
  )
  items-fit (t.an_extend x ∷ xs) h =
      let e = extend-has syntax source x (each-front (RowSpelled source) (s.extend x) (s.many s.statement xs) h) in (
        record { messages = e.messages; enums = tt; services = tt; extensions = e.extensions; blocks = (e.block, tt) },
        items-fit xs (each-back (RowSpelled source) (s.extend x) (s.many s.statement xs) h),
      )
  items-fit (t.an_empty m ∷ xs) h = items-fit xs h.1
  items-fit (t.an_import x ∷ xs) h = items-fit xs (each-back (RowSpelled source) (s.«import» x) (s.many s.statement xs) h)
  items-fit (t.a_package x ∷ xs) h = items-fit xs (each-back (RowSpelled source) (s.«package» x) (s.many s.statement xs) h)
  items-fit (t.an_option x ∷ xs) h = items-fit xs (each-back (RowSpelled source) (s.option x) (s.many s.statement xs) h)

  flat : {A B : Type 0} (P : A → B → Type 0) (f : FileItem → List A) (g : FileItem → List B) → ((x : FileItem) → ItemFits x → Pairs P (f x) (g x)) → (xs : List FileItem) → Each ItemFits xs
      → Pairs P (flat_map f xs) (flat_map g xs)
  flat P f g h [] k = tt
  flat P f g h (x ∷ xs) k = pairs-both P (f x) (flat_map f xs) (g x) (flat_map g xs) (h x k.0) (flat P f g h xs k.1)

  all-blocks : (xs : List FileItem) → Each ItemFits xs → Each BlockAt (flat_map (l.item_blocks numbers) xs)
  all-blocks [] k = tt
  all-blocks (x ∷ xs) k = each-both BlockAt (l.item_blocks numbers x) (flat_map (l.item_blocks numbers) xs) k.0.blocks (all-blocks xs k.1)

  -- ---- the head of a file

  package-row : (look : Lookup) (path : Path) (x : Option Package) → look (pos 2 ∷ []) ≡ None → Each (Leads source look path) (package_locations numbers path x)
  package-row look path None e = tt
  package-row look path (Some x) e = (leaf source look path (pos 2) _ e refl, tt)

  syntax-row : (look : Lookup) (path : Path) (x : Option (Span × Comments)) → look (pos 12 ∷ []) ≡ None → Each (Leads source look path) (syntax_locations numbers path x)
  syntax-row look path None e = tt
  syntax-row look path (Some x) e = (leaf source look path (pos 12) _ e refl, tt)

  public-starts : (kind : Option (ImportKind × Span)) → Each Starts (public_words numbers kind)
  public-starts None = tt
  public-starts (Some (import_kind.Public, span)) = (bare-starts numbers span, tt)
  public-starts (Some (import_kind.Weak, span)) = tt

  weak-starts : (kind : Option (ImportKind × Span)) → Each Starts (weak_words numbers kind)
  weak-starts None = tt
  weak-starts (Some (import_kind.Public, span)) = tt
  weak-starts (Some (import_kind.Weak, span)) = (bare-starts numbers span, tt)

  -- ---- a file

  apart-in : (file : FileDescriptorProto) (tag : ℤ) → ((place : ℤ) (rest : Path) → in_file file (tag ∷ place ∷ rest) ≡ None) → (rest : Path) → in_file file (tag ∷ rest) ≡ None
  apart-in file tag more [] = refl
  apart-in file tag more (place ∷ rest) = more place rest

  file-fits : (name : List ℕ) (file : File) → file.syntax ≡ syntax → Each ItemFits file.items → (path : Path) → Each (Leads source (in_file (file_proto name file)) path) (file_at numbers file path)
  file-fits name file same items path =
      let proto = file_proto name file in
      let look = in_file proto in
      let P = Leads source look path in
      let of-messages = subst (λ x. Pairs (MessageAt source) (flat_map (d.item_messages x) file.items) (flat_map (l.item_messages numbers) file.items)) (sym same)
      (flat (MessageAt source) (d.item_messages syntax) (l.item_messages numbers) (λ x f. f.messages) file.items items) in
      let of-extensions = subst (λ x. Pairs (FieldAt source) (flat_map (d.item_extensions x) file.items) (flat_map (l.item_extensions numbers) file.items)) (sym same)
      (flat (FieldAt source) (d.item_extensions syntax) (l.item_extensions numbers) (λ x f. f.extensions) file.items items) in (
        alone source look path _ refl refl,
        each-both P _ _ (package-row look path file.«package» refl)
            (each-both P _ _
            (apart source look path (pos 3) _ (apart-in proto (pos 3) (λ place rest. refl))
            (numbered-starts path (pos 3) 0 _ (each-map Starts (import_locations numbers) file.imports (λ (x : Import). commented-starts numbers x.span x.comments))))
            (each-both P _ _ (siblings source in_message look (pos 4) proto.message_type _ (λ place rest. refl) (all-fronts _ _ _ of-messages) path)
            (each-both P _ _
            (siblings source in_enum look (pos 5) proto.enum_type _ (λ place rest. refl) (all-fronts _ _ _ (flat _ d.item_enums (l.item_enums numbers) (λ x f. f.enums) file.items items)) path)
            (each-both P _ _
            (siblings source in_service look (pos 6) proto.service _ (λ place rest. refl) (all-fronts _ _ _ (flat _ d.item_services (l.item_services numbers) (λ x f. f.services) file.items items)) path)
            (each-both P _ _ (blocks-row source look path (pos 7) _ refl (all-blocks file.items items))
            (each-both P _ _ (siblings source in_field look (pos 7) proto.extension _ (λ place rest. refl) (all-fronts _ _ _ of-extensions) path)
            (each-both P _ _ (apart source look path (pos 8) _ (apart-in proto (pos 8) (λ place rest. refl)) (options-start numbers file.options (part path (pos 8))))
            (each-both P _ _
            (apart source look path (pos 10) _ (apart-in proto (pos 10) (λ place rest. refl)) (numbered-starts path (pos 10) 0 _ (each-flat Starts _ file.imports (λ (x : Import). public-starts x.kind))))
            (each-both P _ _
            (apart source look path (pos 11) _ (apart-in proto (pos 11) (λ place rest. refl)) (numbered-starts path (pos 11) 0 _ (each-flat Starts _ file.imports (λ (x : Import). weak-starts x.kind))))
            (syntax-row look path file.syntax_span refl)))))))))),
      )

-- For an accepted source's tree: if a path leads to a name, the source writes that name there.
names-of : (name source : List ℕ) (file : File) → IsUtf8 source → IsFileOf source file → (path : Path) → Each (Leads source (in_file (file_proto name file)) path) (file_at (span_numbers source) file path)
names-of name source file u (f, accepted, is) path =
    let rows = subst (Each (RowSpelled source)) accepted.spells.0 (rows-spelled source u) in
    let items = items-fit file.syntax source f.statements (each-back (RowSpelled source) (s.maybe s.syntax f.syntax) (s.many s.statement f.statements) rows) in
    file-fits file.syntax source name file refl (subst (λ (x : File). Each (ItemFits file.syntax source) x.items) (sym is) items) path

pub answer-named : (name source : List ℕ) (file : File) (found : FileDescriptorProto) → IsUtf8 source → IsFileOf source file → found ≡ file_descriptor name source file → HasNames source found
unfolding file_descriptor
answer-named name source file found u is e =
    subst (HasNames source) (sym e)
    (each-so (Leads source (in_file (file_proto name file)) []) (λ (x : Location). Given (IsNamed source x.span) (in_file (file_proto name file) x.path)) (file_locations (span_numbers source) file)
    (λ x leads. subst (λ p. Given (IsNamed source x.span) (in_file (file_proto name file) p)) (sym leads.is) leads.named) (names-of name source file u is []))
