-- What a file sees tells one list of faults, and one linked file.
use Rattle.std.proofs.Common.{◌≡◌, ◌<◌, ◌+◌, ◌⊎◌, inl, inr, ℕ, Bool, true, false, cond, List, [], ◌∷◌, ◌++◌, get_or, length, Option, Some, None, refl, sym, ap, subst, ◌∙◌}
use Rattle.std.specs.Prelude.{ℤ}
use Rattle.std.specs.List.{flat_map, slice_get}
use Rattle.std.specs.Option.{option_and_then, option_map}
use Rattle.std.proofs.lemmas.List.{ext_get_or}
use Rattle.std.proofs.lemmas.Option.{get_or_from_slice_get, slice_get-get_or}
use Rattle.protox_descriptor.specs.declared.descriptor.FileDescriptorProto.{FileDescriptorProto}
use Rattle.protox_descriptor.specs.declared.tag.field.TheConstants as field_tag
use Rattle.protox_descriptor.specs.declared.tag.method.TheConstants as method_tag
use Rattle.protox_imports.proofs.Lemmas.{ordered_has_no_cycle}
use Rattle.protox_imports.specs.Imports.{Imports}
use Rattle.protox_imports.specs.Order.{IsInOrder}
use Rattle.protox_imports.specs.Rows.{named_of, rows_of}
use Rattle.protox_imports.specs.Seen.{AreSeen}
use Rattle.protox_link.specs.Files.{AreFaults, AreLinked, NoFile, NoMore, OneFile, OneMore, faults_in, linked_in}
use Rattle.protox_link.specs.Link.{IsCircleAlone, IsFailureOf}
use Rattle.protox_link.specs.Seen.{IsSeenBy}
use Rattle.protox_link_checks.specs.Faults.{declared_faults, faults_named}
use Rattle.protox_link_checks.specs.Imports.{import_faults, package_faults}
use Rattle.protox_link_checks.specs.Extensions.{all_extension_faults, if_message, numbered_extension, part_extension}
use Rattle.protox_link_checks.specs.Proto3.{is_proto3, proto3_faults}
use Rattle.protox_link_checks.specs.declared.extensions.Extension.{Extension}
use Rattle.protox_names.specs.Names.{is_identifier}
use Rattle.protox_link_checks.specs.Numbers.{implementation_faults}
use Rattle.protox_link_checks.specs.Defaults.{wrong_default}
use Rattle.protox_link_checks.specs.Uses.{default_faults, faults_at, kind_named, message_faults, type_faults, uses_of, wrong_message, wrong_type}
use Rattle.protox_link_fault.specs.declared.LinkFailure.{LinkFailure}
use Rattle.protox_link_fault.specs.declared.LinkFailure.TheVariants.{OutOfMemory, Refused}
use Rattle.protox_link_fault.specs.declared.LinkFault.{LinkFault}
use Rattle.protox_linked.specs.Linked.{linked_file}
use Rattle.protox_linked.specs.declared.target.Target.{Target}
use Rattle.protox_name_tree.proofs.Lemmas.{found_known}
use Rattle.protox_name_tree.specs.Tree.{kind_at, number_of}
use Rattle.protox_names.specs.Names.{within}
use Rattle.protox_scopes.specs.Scopes.{resolve}
use Rattle.protox_scopes.specs.declared.kind.Kind.{Kind}
use Rattle.protox_scopes.specs.declared.kind.Kind.TheVariants as kind
use Rattle.protox_scopes.specs.declared.kind.Wanted.{Wanted}
use Rattle.protox_scopes.specs.declared.kind.Wanted.TheVariants.{AType, Anything}
use Rattle.protox_symbols.specs.Symbols.{Table}
use Rattle.protox_symbols.specs.Things.{table_of}
use Rattle.protox_views.specs.Views.{is_seen, is_seen_as, meaning, seen, target}
use Rattle.protox_walk.specs.Declarations.{Path, file_declarations, text_of}
use Rattle.protox_walk.specs.Parts.{Declared, Described, Message, Field, Oneof, Enum, Value, Service, Method}
use Rattle.protox_walk.specs.Words.{name_of}

-- ---- the same marks

true_or_false : (b : Bool) → (b ≡ true) ⊎ (b ≡ false)
true_or_false true = inl refl
true_or_false false = inr refl

same_bools : (a b : Bool) → (a ≡ true → b ≡ true) → (b ≡ true → a ≡ true) → a ≡ b
same_bools true true to from = refl
same_bools true false to from = sym (to refl)
same_bools false true to from = from refl
same_bools false false to from = refl

mark_at : (marks : List Bool) (h : ℕ) → h < length marks → get_or marks h false ≡ true → slice_get marks h ≡ Some true
mark_at marks h below marked = slice_get-get_or marks h false below ∙ ap (λ m. Some m) marked

marked_alike : (all : List FileDescriptorProto) (n : ℕ) (sees other : List Bool) → AreSeen (rows_of all) n sees → AreSeen (rows_of all) n other → (h : ℕ) → h < length sees → get_or sees h false ≡ true → get_or other h false ≡ true
marked_alike all n sees other here there h below marked =
    get_or_from_slice_get other h true false ((there h).1 ((here h).0 (mark_at sees h below marked)))

pub same_marks : (all : List FileDescriptorProto) (n : ℕ) (sees other packages packages' : List Bool) → IsSeenBy all n sees packages → IsSeenBy all n other packages' → sees ≡ other
same_marks all n sees other packages packages' here there =
    let long = here.as_many ∙ sym there.as_many in
    ext_get_or false sees other long (λ h below. same_bools (get_or sees h false) (get_or other h false)
    (marked_alike all n sees other here.of_files there.of_files h below)
    (marked_alike all n other sees there.of_files here.of_files h (subst (λ count. h < count) long below)))

-- With one mark for each number of the table, the marks of packages are the same.
pub same_packages : (all : List FileDescriptorProto) (n : ℕ) (sees packages packages' : List Bool) → IsSeenBy all n sees packages → IsSeenBy all n sees packages'
    → length packages ≡ length (table_of all).names.full_names → length packages' ≡ length (table_of all).names.full_names → packages ≡ packages'
same_packages all n sees packages packages' here there long long' =
    ext_get_or false packages packages' (long ∙ sym long') (λ h below.
    let inside : h < length (table_of all).names.full_names = subst (λ count. h < count) long below in
    here.of_packages h inside ∙ sym (there.of_packages h inside))

-- ---- the same things are seen

module _ (all : List FileDescriptorProto) (n : ℕ) (sees packages packages' : List Bool) (here : IsSeenBy all n sees packages) (there : IsSeenBy all n sees packages') where
  abbrev table : Table
  table = table_of all

  seen_as_kind : (k : Kind) (m : ℕ) → m < length table.names.full_names → is_seen_as table sees packages k m ≡ is_seen_as table sees packages' k m
  seen_as_kind kind.Package m below = here.of_packages m below ∙ sym (there.of_packages m below)
  seen_as_kind kind.Message m below = refl
  seen_as_kind kind.Enum m below = refl
  seen_as_kind kind.Service m below = refl
  seen_as_kind kind.Member m below = refl

  found_alike : (number : Option ℕ) → ((m : ℕ) → number ≡ Some m → m < length table.names.full_names)
      → option_and_then (λ m. cond (is_seen table sees packages m) (Some m) None) number ≡ option_and_then (λ m. cond (is_seen table sees packages' m) (Some m) None) number
  found_alike None known = refl
  found_alike (Some m) known = ap (λ b. cond b (Some m) None) (seen_as_kind (kind_at table.names m) m (known m refl))

  pub seen_alike : seen table sees packages ≡ seen table sees packages'
  seen_alike = λ i full_name. found_alike (number_of table.names full_name) (λ m found. found_known table.names.full_names full_name m found) i

  -- ---- the same meanings

  meaning_alike : meaning table sees packages ≡ meaning table sees packages'
  meaning_alike = λ i wanted scope name. option_map (target table sees packages) (resolve (kind_at table.names) (seen_alike i) wanted name (within scope []))

  pub linked_alike : (file : FileDescriptorProto) → linked_in all sees packages file ≡ linked_in all sees packages' file
  linked_alike file = ap (λ (m : Wanted → List ℕ → List ℕ → Option Target). linked_file m file) meaning_alike

  kind_alike : (wanted : Wanted) (user name : List ℕ) → kind_named table sees packages wanted user name ≡ kind_named table sees packages' wanted user name
  kind_alike wanted user name = ap (λ (s : List ℕ → Option ℕ). option_map (kind_at table.names) (resolve (kind_at table.names) s wanted name user)) seen_alike

  -- ---- the same faults

  types_alike : (file : ℕ) (path : Path) (tag : ℤ) (user : List ℕ) (name : Option (List ℕ)) → type_faults table sees packages file path tag user name ≡ type_faults table sees packages' file path tag user name
  types_alike file path tag user None = refl
  types_alike file path tag user (Some name) = ap (λ (k : Option Kind). faults_at file path tag (wrong_type name k)) (kind_alike AType user name)

  messages_alike : (file : ℕ) (path : Path) (tag : ℤ) (user : List ℕ) (name : Option (List ℕ)) → message_faults table sees packages file path tag user name ≡ message_faults table sees packages' file path tag user name
  messages_alike file path tag user None = refl
  messages_alike file path tag user (Some name) = ap (λ (k : Option Kind). faults_at file path tag (wrong_message name k)) (kind_alike Anything user name)

  defaults_alike : (file : ℕ) (path : Path) (user : List ℕ) (name default : Option (List ℕ)) → default_faults table sees packages file path user name default ≡ default_faults table sees packages' file path user name default
  defaults_alike file path user None default = refl
  defaults_alike file path user (Some name) None = refl
  defaults_alike file path user (Some name) (Some default) = ap (λ (s : List ℕ → Option ℕ). faults_at file path field_tag.DEFAULT_VALUE (wrong_default table (resolve (kind_at table.names) s AType name user) default)) seen_alike

  uses_alike : (file : ℕ) (path : Path) (user : List ℕ) (part : Described) → uses_of table sees packages file path user part ≡ uses_of table sees packages' file path user part
  uses_alike file path user (Message message) = refl
  uses_alike file path user (Field field) = λ i. (implementation_faults file path field ++ types_alike file path field_tag.TYPE_NAME user field.type_name i) ++ (messages_alike file path field_tag.EXTENDEE user field.extendee i ++ defaults_alike file path user field.type_name field.default_value i)
  uses_alike file path user (Oneof oneof) = refl
  uses_alike file path user (Enum enum) = refl
  uses_alike file path user (Value value) = refl
  uses_alike file path user (Service service) = refl
  uses_alike file path user (Method method) = λ i. messages_alike file path method_tag.INPUT_TYPE user method.input_type i ++ messages_alike file path method_tag.OUTPUT_TYPE user method.output_type i

  declared_alike : (file : ℕ) (d : Declared) → declared_faults table sees packages file d ≡ declared_faults table sees packages' file d
  declared_alike file d = ap (faults_named table sees packages file d.path d.full_name (text_of (name_of d.part))) (uses_alike file d.path d.full_name d.part)

  -- ---- the same extensions

  extension_alike : (path : Path) (full_name : List ℕ) (part : Described) → part_extension table sees packages path full_name part ≡ part_extension table sees packages' path full_name part
  extension_alike path full_name (Message message) = refl
  extension_alike path full_name (Field field) =
      ap (λ (s : List ℕ → Option ℕ). cond {A = List Extension} (is_identifier (text_of field.name)) (numbered_extension path field.number (number_of table.names full_name) (option_and_then (λ name. option_and_then (if_message table) (resolve (kind_at table.names) s Anything name full_name)) field.extendee)) []) seen_alike
  extension_alike path full_name (Oneof oneof) = refl
  extension_alike path full_name (Enum enum) = refl
  extension_alike path full_name (Value value) = refl
  extension_alike path full_name (Service service) = refl
  extension_alike path full_name (Method method) = refl

  pub faults_alike : (file : FileDescriptorProto) → faults_in all n sees packages file ≡ faults_in all n sees packages' file
  faults_alike file = λ i.
      (import_faults n (named_of (rows_of all) n) ++ (package_faults table n (text_of file.«package») ++ (flat_map (λ d. declared_alike n d i) (file_declarations file) ++ proto3_faults n file)))
      ++ all_extension_faults all table n (is_proto3 file) (flat_map (λ d. extension_alike d.path d.full_name d.part i) (file_declarations file))

-- ---- file by file

module _ (all : List FileDescriptorProto) where
  abbrev pub AreSplit : ℕ → List FileDescriptorProto → List LinkFault → Type 0
  AreSplit n [] faults = faults ≡ []
  AreSplit n (file ∷ more) faults = (sees : List Bool) × (packages : List Bool) × (rest : List LinkFault) × IsSeenBy all n sees packages × AreFaults all (n + 1) more rest × (faults ≡ faults_in all n sees packages file ++ rest)

  pub split : (n : ℕ) (files : List FileDescriptorProto) (faults : List LinkFault) → AreFaults all n files faults → AreSplit n files faults
  split n files faults h = elim h as (λ m fs ws _. AreSplit m fs ws) [
    | NoMore m ↦ refl
    | OneMore m file more sees packages rest seen behind ↦ (sees, packages, rest, seen, behind, refl)
  ]

  pub same_faults : (n : ℕ) (sees other packages packages' : List Bool) (file : FileDescriptorProto) → IsSeenBy all n sees packages → IsSeenBy all n other packages' → faults_in all n sees packages file ≡ faults_in all n other packages' file
  same_faults n sees other packages packages' file here there =
      let same = same_marks all n sees other packages packages' here there in
      faults_alike all n sees packages packages' here (subst (λ marks. IsSeenBy all n marks packages') (sym same) there) file
      ∙ ap (λ marks. faults_in all n marks packages' file) same

  pub one_list : (files : List FileDescriptorProto) (n : ℕ) (faults other : List LinkFault) → AreFaults all n files faults → AreFaults all n files other → faults ≡ other
  one_list [] n faults other here there = split n [] faults here ∙ sym (split n [] other there)
  one_list (file ∷ more) n faults other here there =
      let a = split n (file ∷ more) faults here in
      let b = split n (file ∷ more) other there in
      a.5
      ∙ ap (λ front. front ++ a.2) (same_faults n a.0 b.0 a.1 b.1 file a.3 b.3)
      ∙ ap (λ rest. faults_in all n b.0 b.1 file ++ rest) (one_list more (n + 1) a.2 b.2 a.4 b.4)
      ∙ sym b.5

  abbrev pub AreSplitLinked : ℕ → List FileDescriptorProto → List FileDescriptorProto → Type 0
  AreSplitLinked n [] made = made ≡ []
  AreSplitLinked n (file ∷ more) made = (sees : List Bool) × (packages : List Bool) × (rest : List FileDescriptorProto) × IsSeenBy all n sees packages × AreLinked all (n + 1) more rest × (made ≡ linked_in all sees packages file ∷ rest)

  pub split_linked : (n : ℕ) (files made : List FileDescriptorProto) → AreLinked all n files made → AreSplitLinked n files made
  split_linked n files made h = elim h as (λ m fs ms _. AreSplitLinked m fs ms) [
    | NoFile m ↦ refl
    | OneFile m file more sees packages rest seen behind ↦ (sees, packages, rest, seen, behind, refl)
  ]

  pub same_linked : (n : ℕ) (sees other packages packages' : List Bool) (file : FileDescriptorProto) → IsSeenBy all n sees packages → IsSeenBy all n other packages' → linked_in all sees packages file ≡ linked_in all other packages' file
  same_linked n sees other packages packages' file here there =
      let same = same_marks all n sees other packages packages' here there in
      linked_alike all n sees packages packages' here (subst (λ marks. IsSeenBy all n marks packages') (sym same) there) file
      ∙ ap (λ marks. linked_in all marks packages' file) same

  pub one_linking : (files : List FileDescriptorProto) (n : ℕ) (made other : List FileDescriptorProto) → AreLinked all n files made → AreLinked all n files other → made ≡ other
  one_linking [] n made other here there = split_linked n [] made here ∙ sym (split_linked n [] other there)
  one_linking (file ∷ more) n made other here there =
      let a = split_linked n (file ∷ more) made here in
      let b = split_linked n (file ∷ more) other there in
      a.5
      ∙ ap (λ first. first ∷ a.2) (same_linked n a.0 b.0 a.1 b.1 file a.3 b.3)
      ∙ ap (λ rest. linked_in all b.0 b.1 file ∷ rest) (one_linking more (n + 1) a.2 b.2 a.4 b.4)
      ∙ sym b.5

-- ---- why files are refused

pub only_where_wrong : (files : List FileDescriptorProto) (order : List ℕ) (failure : LinkFailure) → IsInOrder (Imports files) (length files) order → AreFaults files 0 files [] → IsFailureOf files failure → failure ≡ OutOfMemory
only_where_wrong files order OutOfMemory ordered right why = refl
only_where_wrong files order (Refused faults) ordered right (inl circle) = absurd (ordered_has_no_cycle files order circle.2.circle ordered circle.2.is)
only_where_wrong files order (Refused faults) ordered right (inr wrong) = absurd (wrong.0 (one_list files files 0 faults.items [] wrong.1 right))

-- Of a circle something is told.
pub no_circle_told : (files : List FileDescriptorProto) (faults : List LinkFault) → IsCircleAlone files faults → faults ≡ [] → ⊥
no_circle_told files faults alone none =
    let told : [] ≡ alone.0 ∷ [] = sym none ∙ alone.1 in
    cc
