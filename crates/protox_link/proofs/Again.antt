-- Linking linked files changes nothing.
use Rattle.std.proofs.Common.{◌≡◌, ◌≢◌, ◌<◌, ℕ, ◌+◌, Bool, true, false, cond, List, [], ◌∷◌, ◌++◌, fold, map, Option, Some, None, is_some, refl, sym, ap, subst, ◌∙◌, length, suc}
use Rattle.std.specs.Prelude.{ℤ, All}
use Rattle.std.specs.List.{position_from}
use Rattle.std.specs.Option.{option_and_then, option_map, option_map_or, unwrap_or}
use Rattle.std.proofs.lemmas.Iterator.Adapters.{position_from-zero}
use Rattle.std.proofs.lemmas.List.{map-append}
use Rattle.std.proofs.lemmas.List.Elements.{All-append, All-cons, All-nil}
use Rattle.std.proofs.lemmas.Option.{get_or_from_slice_get}
use Rattle.protox_descriptor.specs.declared.descriptor.DescriptorProto.{DescriptorProto, DescriptorProto-F, ind-DescriptorProto, out-DescriptorProto, out-roll-DescriptorProto, roll-DescriptorProto}
use Rattle.protox_descriptor.specs.declared.descriptor.FileDescriptorProto.{FileDescriptorProto}
use Rattle.protox_descriptor.specs.declared.descriptor.ServiceDescriptorProto.{ServiceDescriptorProto}
use Rattle.protox_descriptor.specs.declared.tag.file.TheConstants as file_tag
use Rattle.protox_descriptor.specs.declared.tag.message.TheConstants as message_tag
use Rattle.protox_descriptor.specs.declared.tag.service.TheConstants as service_tag
use Rattle.protox_imports.specs.Names.{is_named, number_of as number_of_file}
use Rattle.protox_imports.specs.Rows.{row_by, rows_of}
use Rattle.protox_imports.specs.Seen.{AreSeen}
use Rattle.protox_link.proofs.Closing.{linked_declares, linked_parts, seen_by_name}
use Rattle.protox_link.proofs.Seeing.{same_linked, split_linked}
use Rattle.protox_link.proofs.Standing.{same_text}
use Rattle.protox_link.specs.Files.{AreLinked, linked_in}
use Rattle.protox_link.specs.Laws.{KnownAgain, LinkedAgain}
use Rattle.protox_link.specs.Seen.{IsSeenBy, packages_of}
use Rattle.protox_linked.proofs.Lemmas.{file_twice}
use Rattle.protox_linked.specs.Linked.{linked_field, linked_file, linked_message, linked_method, linked_name, linked_service}
use Rattle.protox_linked.specs.Linked as linked
use Rattle.protox_linked.specs.declared.target.Target.{Target}
use Rattle.protox_name_tree.proofs.Lemmas.{all_at, found_name}
use Rattle.protox_name_tree.specs.Tree.{can_stand, dotted, kind_at, name_at, number_of, with_name}
use Rattle.protox_names.specs.Names.{within}
use Rattle.protox_scopes.specs.Scopes.{resolve}
use Rattle.protox_scopes.specs.declared.kind.Kind.{Kind}
use Rattle.protox_scopes.specs.declared.kind.Wanted.{Wanted}
use Rattle.protox_symbols.proofs.Lemmas.{inside, message_declares}
use Rattle.protox_symbols.specs.Symbols.{Table}
use Rattle.protox_symbols.specs.Things.{Entry, entries, entries_from, entry_of, file_entries, no_things, package_entries, table_of, with_entry}
use Rattle.protox_views.specs.FilesOf.{AreFilesOf}
use Rattle.protox_views.specs.Packages.{is_package_seen}
use Rattle.protox_views.specs.Views.{is_seen, meaning, seen, target}
use Rattle.protox_walk.specs.Declarations.{At, Path, all_in, declared, enum_at, field_at, file_declarations, full_name, message_at, method_at, nth, numbered, oneof_at, service_at, siblings_at, text_of}
use Rattle.protox_walk.specs.Parts.{Declared, Message, Service}

-- ---- what linked files declare

module _ (t : Table) (sees packages : List Bool) (file : ℕ) where
  abbrev meaning1 : Wanted → List ℕ → List ℕ → Option Target
  meaning1 = meaning t sees packages

  abbrev told_of : List Declared → List Entry
  told_of ds = map (entry_of file) ds

  -- siblings that declare the same after linking
  all_alike : {A : Type 0} (at : A → List ℕ → At) (link : A → A) (full : List ℕ) (path : Path) (tag : ℤ) → ((x : A) (place : Path) → told_of (at (link x) full place) ≡ told_of (at x full place))
      → (n : ℕ) (xs : List A) → told_of (numbered path tag n (all_in at full (map link xs))) ≡ told_of (numbered path tag n (all_in at full xs))
  all_alike at link full path tag each n [] = refl
  all_alike at link full path tag each n (x ∷ xs) =
      map-append (entry_of file) (at (link x) full (nth path tag n)) _
      ∙ (λ i. each x (nth path tag n) i ++ all_alike at link full path tag each (n + 1) xs i)
      ∙ sym (map-append (entry_of file) (at x full (nth path tag n)) _)

  -- two lists, one after the other
  both_alike : (xs ys xs' ys' : List Declared) → told_of xs ≡ told_of xs' → told_of ys ≡ told_of ys' → told_of (xs ++ ys) ≡ told_of (xs' ++ ys')
  both_alike xs ys xs' ys' here there =
      map-append (entry_of file) xs ys ∙ (λ i. here i ++ there i) ∙ sym (map-append (entry_of file) xs' ys')

  service_alike : (full : List ℕ) (s : ServiceDescriptorProto) (path : Path) → told_of (service_at (linked_service meaning1 full s) full path) ≡ told_of (service_at s full path)
  service_alike full s path =
      ap (λ more. entry_of file (declared path (full_name full s.name) (Service s)) ∷ more)
      (all_alike method_at (linked_method meaning1 (within full (linked.text_of s.name))) (full_name full s.name) path service_tag.METHOD (λ m place. refl) 0 s.method)

  abbrev IsAlike : DescriptorProto → Type 0
  IsAlike m = (full : List ℕ) (path : Path) → told_of (message_at (linked_message meaning1 full m) full path) ≡ told_of (message_at m full path)

  abbrev AreAlike : List DescriptorProto → Type 0
  AreAlike ms = (full : List ℕ) (path : Path) (tag : ℤ) (n : ℕ) → told_of (numbered path tag n (all_in message_at full (map (linked_message meaning1 full) ms))) ≡ told_of (numbered path tag n (all_in message_at full ms))

  are_alike : (held : List ((m : DescriptorProto) × IsAlike m)) → AreAlike (map (λ e. e.0) held)
  are_alike [] full path tag n = refl
  are_alike (m ∷ ms) full path tag n =
      map-append (entry_of file) (message_at (linked_message meaning1 full m.0) full (nth path tag n)) _
      ∙ (λ i. m.1 full (nth path tag n) i ++ are_alike ms full path tag (n + 1) i)
      ∙ sym (map-append (entry_of file) (message_at m.0 full (nth path tag n)) _)

  alike_from : (m : DescriptorProto) → AreAlike (out-DescriptorProto m).nested_type → IsAlike m
  alike_from m nested full path =
      let name = full_name full (out-DescriptorProto m).name in
      let parts = out-DescriptorProto m in
      let made = linked_parts t sees packages file name m in
      let fields = all_alike field_at (linked_field meaning1 name) name path message_tag.FIELD (λ f place. refl) 0 parts.field in
      let extensions = all_alike field_at (linked_field meaning1 name) name path message_tag.EXTENSION (λ f place. refl) 0 parts.extension in
      ap told_of (linked_declares t sees packages file full path m)
      ∙ ap (λ more. entry_of file (declared path name (Message m)) ∷ more)
      (both_alike (siblings_at path message_tag.FIELD (all_in field_at name made.field)) _ (siblings_at path message_tag.FIELD (all_in field_at name parts.field)) _ fields
      (both_alike (siblings_at path message_tag.NESTED_TYPE (all_in message_at name made.nested_type)) _ (siblings_at path message_tag.NESTED_TYPE (all_in message_at name parts.nested_type)) _ (nested name path message_tag.NESTED_TYPE 0)
      (both_alike (siblings_at path message_tag.ENUM_TYPE (all_in enum_at name parts.enum_type)) _ (siblings_at path message_tag.ENUM_TYPE (all_in enum_at name parts.enum_type)) _ refl
      (both_alike (siblings_at path message_tag.EXTENSION (all_in field_at name made.extension)) (siblings_at path message_tag.ONEOF_DECL (all_in oneof_at name parts.oneof_decl)) (siblings_at path message_tag.EXTENSION (all_in field_at name parts.extension)) (siblings_at path message_tag.ONEOF_DECL (all_in oneof_at name parts.oneof_decl)) extensions refl))))
      ∙ sym (ap told_of (message_declares m full path))

  message_alike : (m : DescriptorProto) → IsAlike m
  message_alike = ind-DescriptorProto IsAlike
      (λ x held e. alike_from (roll-DescriptorProto x)
      (subst (λ (z : DescriptorProto-F DescriptorProto). AreAlike z.nested_type) (e ∙ sym (out-roll-DescriptorProto x))
      (are_alike held.nested_type)))

  abbrev declared_by : List ℕ → FileDescriptorProto → FileDescriptorProto → List Declared
  declared_by scope f made =
      siblings_at [] file_tag.MESSAGE_TYPE (all_in message_at scope made.message_type)
      ++ (siblings_at [] file_tag.ENUM_TYPE (all_in enum_at scope f.enum_type)
      ++ (siblings_at [] file_tag.SERVICE (all_in service_at scope made.service)
      ++ siblings_at [] file_tag.EXTENSION (all_in field_at scope made.extension)))

  abbrev linked_at : List ℕ → FileDescriptorProto → FileDescriptorProto
  linked_at scope f = record f {
    message_type = map (linked_message meaning1 scope) f.message_type;
    service = map (linked_service meaning1 scope) f.service;
    extension = map (linked_field meaning1 scope) f.extension;
  }

  file_alike : (f : FileDescriptorProto) → told_of (file_declarations (linked_file meaning1 f)) ≡ told_of (file_declarations f)
  file_alike f =
      let scope = text_of f.«package» in
      let made = linked_at scope f in
      ap (λ inside. told_of (declared_by scope f (linked_at inside f))) (same_text f.«package»)
      ∙ both_alike (siblings_at [] file_tag.MESSAGE_TYPE (all_in message_at scope made.message_type)) _ (siblings_at [] file_tag.MESSAGE_TYPE (all_in message_at scope f.message_type)) _
      (all_alike message_at (linked_message meaning1 scope) scope [] file_tag.MESSAGE_TYPE (λ m place. message_alike m scope place) 0 f.message_type)
      (both_alike (siblings_at [] file_tag.ENUM_TYPE (all_in enum_at scope f.enum_type)) _ (siblings_at [] file_tag.ENUM_TYPE (all_in enum_at scope f.enum_type)) _ refl
      (both_alike (siblings_at [] file_tag.SERVICE (all_in service_at scope made.service)) (siblings_at [] file_tag.EXTENSION (all_in field_at scope made.extension)) (siblings_at [] file_tag.SERVICE (all_in service_at scope f.service)) (siblings_at [] file_tag.EXTENSION (all_in field_at scope f.extension))
      (all_alike service_at (linked_service meaning1 scope) scope [] file_tag.SERVICE (λ s place. service_alike scope s place) 0 f.service)
      (all_alike field_at (linked_field meaning1 scope) scope [] file_tag.EXTENSION (λ x place. refl) 0 f.extension)))

  pub entries_alike : (f : FileDescriptorProto) → file_entries file (linked_file meaning1 f) ≡ file_entries file f
  entries_alike f = ap (λ ds. package_entries file (text_of f.«package») ++ ds) (file_alike f)

-- ---- what is known of linked files

module _ (all : List FileDescriptorProto) where
  entries_same : (files : List FileDescriptorProto) (n : ℕ) (made : List FileDescriptorProto) → AreLinked all n files made → entries_from n made ≡ entries_from n files
  entries_same [] n made linked = ap (entries_from n) (split_linked all n [] made linked)
  entries_same (file ∷ more) n made linked =
      let parts = split_linked all n (file ∷ more) made linked in
      ap (entries_from n) parts.5
      ∙ (λ i. entries_alike (table_of all) parts.0 parts.1 n file i ++ entries_same more (n + 1) parts.2 parts.4 i)

  length_same : (files : List FileDescriptorProto) (n : ℕ) (made : List FileDescriptorProto) → AreLinked all n files made → length made ≡ length files
  length_same [] n made linked = ap length (split_linked all n [] made linked)
  length_same (file ∷ more) n made linked =
      let parts = split_linked all n (file ∷ more) made linked in
      ap length parts.5 ∙ ap suc (length_same more (n + 1) parts.2 parts.4)

  -- What looks at a file's name, its imports or its package sees no change.
  mapped_same : {X : Type 0} (look : FileDescriptorProto → X) → ((sees packages : List Bool) (f : FileDescriptorProto) → look (linked_in all sees packages f) ≡ look f) → (files : List FileDescriptorProto) (n : ℕ) (made : List FileDescriptorProto) → AreLinked all n files made → map look made ≡ map look files
  mapped_same look each [] n made linked = ap (map look) (split_linked all n [] made linked)
  mapped_same look each (file ∷ more) n made linked =
      let parts = split_linked all n (file ∷ more) made linked in
      ap (map look) parts.5 ∙ (λ i. each parts.0 parts.1 file i ∷ mapped_same look each more (n + 1) parts.2 parts.4 i)

  from_same : (test : FileDescriptorProto → Bool) → ((sees packages : List Bool) (f : FileDescriptorProto) → test (linked_in all sees packages f) ≡ test f) → (files : List FileDescriptorProto) (n i : ℕ) (made : List FileDescriptorProto) → AreLinked all n files made → position_from test i made ≡ position_from test i files
  from_same test each [] n i made linked = ap (position_from test i) (split_linked all n [] made linked)
  from_same test each (file ∷ more) n i made linked =
      let parts = split_linked all n (file ∷ more) made linked in
      ap (position_from test i) parts.5
      ∙ (λ k. cond (each parts.0 parts.1 file k) (Some i) (from_same test each more (n + 1) (i + 1) parts.2 parts.4 k))

module _ (files made : List FileDescriptorProto) (is : AreLinked files 0 files made) where
  table_same : table_of made ≡ table_of files
  table_same = ap (fold with_entry no_things) (entries_same files files 0 made is)

  number_same : (name : List ℕ) → number_of_file made name ≡ number_of_file files name
  number_same name =
      position_from-zero (is_named name) made
      ∙ from_same files (is_named name) (λ sees packages f. refl) files 0 0 made is
      ∙ sym (position_from-zero (is_named name) files)

  rows_same : rows_of made ≡ rows_of files
  rows_same =
      mapped_same files (row_by (number_of_file made)) (λ sees packages f. refl) files 0 made is
      ∙ ap (λ find. map (row_by find) files) (λ i name. number_same name i)

  packages_same : packages_of (table_of made) made ≡ packages_of (table_of files) files
  packages_same =
      mapped_same files (λ file. number_of (table_of made).names (text_of file.«package»)) (λ sees packages f. refl) files 0 made is
      ∙ ap (λ (t : Table). packages_of t files) table_same

  seen_same : (n : ℕ) (sees packages : List Bool) → IsSeenBy made n sees packages → IsSeenBy files n sees packages
  seen_same n sees packages by = record {
    as_many = by.as_many ∙ length_same files files 0 made is;
    of_files = subst (λ rows. AreSeen rows n sees) rows_same by.of_files;
    of_packages = λ k below.
        by.of_packages k (subst (λ (t : Table). k < length t.names.full_names) (sym table_same) below)
        ∙ ap (λ (t : Table). is_package_seen t.names (packages_of (table_of made) made) sees k) table_same
        ∙ ap (λ numbers. is_package_seen (table_of files).names numbers sees k) packages_same;
  }

-- ---- no name of a table is empty

abbrev AreNamed : Table → Type 0
AreNamed t = All (λ name. name ≢ []) t.names.full_names

stands_not : (t : Table) (name : List ℕ) → can_stand t.names name ≡ true → name ≢ []
stands_not t [] stand empty = cc
stands_not t (byte ∷ rest) stand empty = cc

named_one : (t : Table) (name : List ℕ) (kind : Kind) (known : Bool) → AreNamed t → name ≢ [] → All (λ name. name ≢ []) (cond known t.names (record { full_names = t.names.full_names ++ name ∷ []; kinds = t.names.kinds ++ kind ∷ [] })).full_names
named_one t name kind true named some = named
named_one t name kind false named some = All-append (λ name. name ≢ []) t.names.full_names (name ∷ []) named (All-cons (λ name. name ≢ []) name [] some (All-nil (λ name. name ≢ [])))

named_if : (t : Table) (e : Entry) (b : Bool) → can_stand t.names e.full_name ≡ b → AreNamed t → All (λ name. name ≢ []) (cond b (with_name t.names e.full_name e.kind) t.names).full_names
named_if t e true stand named = named_one t e.full_name e.kind (is_some (number_of t.names e.full_name)) named (stands_not t e.full_name stand)
named_if t e false stand named = named

named_with : (t : Table) (es : List Entry) → AreNamed t → AreNamed (fold with_entry t es)
named_with t [] named = named
named_with t (e ∷ es) named = named_with (with_entry t e) es (named_if t e (can_stand t.names e.full_name) refl named)

table_named : (files : List FileDescriptorProto) → AreNamed (table_of files)
table_named files = named_with no_things (entries files) (All-nil (λ name. name ≢ []))

-- ---- a full name means itself

module _ (t : Table) (sees packages : List Bool) (named : AreNamed t) where
  abbrev looked : List ℕ → Option ℕ
  looked = seen t sees packages

  -- what a name stands for has a full name that is seen
  seen_if : (n m : ℕ) (b : Bool) (full : List ℕ) → number_of t.names full ≡ Some m → is_seen t sees packages m ≡ b → cond b (Some m) None ≡ Some n → name_at t.names n ≡ full
  seen_if n m true full found is same =
      ap (name_at t.names) (sym (ap (λ (o : Option ℕ). unwrap_or o m) same))
      ∙ get_or_from_slice_get t.names.full_names m full [] (found_name t.names.full_names full m found)
  seen_if n m false full found is same = cc

  seen_at : (n : ℕ) (full : List ℕ) (number : Option ℕ) → number_of t.names full ≡ number → option_and_then (λ m. cond (is_seen t sees packages m) (Some m) None) number ≡ Some n → name_at t.names n ≡ full
  seen_at n full None found same = cc
  seen_at n full (Some m) found same = seen_if n m (is_seen t sees packages m) full found refl same

  not_empty : (n : ℕ) (full : List ℕ) (number : Option ℕ) → number_of t.names full ≡ number → option_and_then (λ m. cond (is_seen t sees packages m) (Some m) None) number ≡ Some n → full ≢ []
  not_empty n full None found same = cc
  not_empty n full (Some m) found same = all_at (λ name. name ≢ []) t.names.full_names m full named (found_name t.names.full_names full m found)

  dotted_means : (kind : ℕ → Kind) (wanted : Wanted) (full user : List ℕ) → full ≢ [] → resolve kind looked wanted (dotted full) user ≡ looked full
  dotted_means kind wanted [] user some = absurd (some refl)
  dotted_means kind wanted (byte ∷ rest) user some = refl

  means_itself : (wanted : Wanted) (scope name : List ℕ) (found : Option ℕ) → resolve (kind_at t.names) looked wanted name (within scope []) ≡ found
      → meaning t sees packages wanted scope (option_map_or (λ (target : Target). target.name) (option_map (target t sees packages) found) name) ≡ option_map (target t sees packages) found
  means_itself wanted scope name None is = ap (option_map (target t sees packages)) is
  means_itself wanted scope name (Some n) is =
      let by = seen_by_name (kind_at t.names) looked wanted name (within scope []) n is in
      let full : name_at t.names n ≡ by.0 = seen_at n by.0 (number_of t.names by.0) refl by.1 in
      let some : by.0 ≢ [] = not_empty n by.0 (number_of t.names by.0) refl by.1 in
      ap (option_map (target t sees packages))
      (ap (λ name. resolve (kind_at t.names) looked wanted (dotted name) (within scope [])) full
      ∙ dotted_means (kind_at t.names) wanted by.0 (within scope []) some
      ∙ by.1)

  itself : (wanted : Wanted) (scope name : List ℕ) → meaning t sees packages wanted scope (linked_name (meaning t sees packages) wanted scope name) ≡ meaning t sees packages wanted scope name
  itself wanted scope name = means_itself wanted scope name (resolve (kind_at t.names) looked wanted name (within scope [])) refl

-- ---- the law

module _ (files made : List FileDescriptorProto) (is : AreLinked files 0 files made) where
  again_from : (rest : List FileDescriptorProto) (n : ℕ) (linked again : List FileDescriptorProto) → AreLinked files n rest linked → AreLinked made n linked again → again ≡ linked
  again_from [] n linked again one two =
      let none = split_linked files n [] linked one in
      split_linked made n [] again (subst (λ files. AreLinked made n files again) none two) ∙ sym none
  again_from (file ∷ more) n linked again one two =
      let a = split_linked files n (file ∷ more) linked one in
      let first = linked_in files a.0 a.1 file in
      let b = split_linked made n (first ∷ a.2) again (subst (λ files. AreLinked made n files again) a.5 two) in
      b.5
      ∙ ap (λ (t : Table). linked_file (meaning t b.0 b.1) first ∷ b.2) (table_same files made is)
      ∙ ap (λ file. file ∷ b.2) (same_linked files n b.0 a.0 b.1 a.1 first (seen_same files made is n b.0 b.1 b.3) a.3)
      ∙ ap (λ file. file ∷ b.2) (file_twice (meaning (table_of files) a.0 a.1) (itself (table_of files) a.0 a.1 (table_named files)) file)
      ∙ ap (λ rest. first ∷ rest) (again_from more (n + 1) a.2 b.2 a.4 b.4)
      ∙ sym a.5

pub linked_again : LinkedAgain
linked_again files made again one two = again_from files made one files 0 made again one two

pub known_again : KnownAgain
known_again files made known is of_made = record {
  rows = of_made.rows ∙ rows_same files made is;
  table = of_made.table ∙ table_same files made is;
  passes = of_made.passes;
  packages = subst (λ (t : Table). AreFilesOf t.names (packages_of (table_of files) files) known.packages) (table_same files made is)
      (subst (λ (ps : List (Option ℕ)). AreFilesOf (table_of made).names ps known.packages) (packages_same files made is) of_made.packages);
}
