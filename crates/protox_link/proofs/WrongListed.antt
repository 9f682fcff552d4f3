-- What is wrong with files is in the list of faults.
use Rattle.std.proofs.Common.{◌≡◌, ◌≢◌, ◌+◌, ◌==◌, inl, inr, is_some, ℕ, zero, suc, Bool, true, false, cond, List, [], ◌∷◌, ◌++◌, length, map, Option, Some, None, refl, sym, ap, subst, ◌∙◌, arith, slice_get, ◌<◌, ◌≤◌, nat_lt}
use Rattle.std.specs.Prelude.{ℤ, pos, Contains, bytes_eq, count_by}
use Rattle.std.specs.Option.{option_map}
use Rattle.std.proofs.lemmas.Bool.{false≢true}
use Rattle.std.proofs.lemmas.Bool.Decides.{Decides-eqb, Decides-ltb}
use Rattle.std.proofs.lemmas.List.{append_assoc}
use Rattle.std.specs.List.{flat_map}
use Rattle.std.proofs.lemmas.Option.{same_Some}
use Rattle.protox_alike.specs.Alike.{fields_alike, is_of_two, values_alike}
use Rattle.protox_alike.specs.Keys.{key_of_field, key_of_value}
use Rattle.protox_ast.proofs.Lemmas.{Among, among-from, among-left, among-right, contains-from}
use Rattle.protox_descriptor.specs.declared.descriptor.DescriptorProto.{DescriptorProto, out-DescriptorProto}
use Rattle.protox_descriptor.specs.declared.descriptor.EnumDescriptorProto.{EnumDescriptorProto}
use Rattle.protox_descriptor.specs.declared.descriptor.EnumValueDescriptorProto.{EnumValueDescriptorProto}
use Rattle.protox_descriptor.specs.declared.descriptor.FileDescriptorProto.{FileDescriptorProto}
use Rattle.protox_descriptor.specs.declared.descriptor.descriptor_proto.ExtensionRange.{ExtensionRange}
use Rattle.protox_descriptor.specs.declared.tag.enum_.TheConstants as enum_tag
use Rattle.protox_descriptor.specs.declared.tag.enum_value.TheConstants as value_tag
use Rattle.protox_descriptor.specs.declared.tag.field.TheConstants as field_tag
use Rattle.protox_descriptor.specs.declared.tag.file.TheConstants as file_tag
use Rattle.protox_descriptor.specs.declared.tag.message.TheConstants as message_tag
use Rattle.protox_descriptor.specs.declared.tag.method.TheConstants as method_tag
use Rattle.protox_imports.specs.Rows.{named_of, rows_of}
use Rattle.protox_link.proofs.Passing.{among_filter}
use Rattle.protox_link.proofs.Seeing.{same_faults, split}
use Rattle.protox_link.proofs.Extending.{extension_listed}
use Rattle.protox_link.proofs.Standing.{thing_is, true_or_false}
use Rattle.protox_link.proofs.Telling.{among_flat}
use Rattle.protox_link.proofs.WrongClashes.{earlier_listed, first_listed}
use Rattle.protox_link.proofs.WrongImports.{import_listed, named_by}
use Rattle.protox_link.proofs.WrongNames.{again_listed, own_listed}
use Rattle.protox_link.specs.Closed.{is_message}
use Rattle.protox_link.specs.Files.{AreFaults, faults_in}
use Rattle.protox_link.specs.Seen.{IsSeenBy}
use Rattle.protox_link.specs.Wrong.{AsExtendee, AsInput, AsOutput, AsType, BeginsOtherwise, Clashes, Clashing, DefaultIsNoValue, DefaultIsNoWord, EnumReservesAgain, FieldIsReserved, FieldsAreAlike, HasBadName, HasDefault, HasExtensions, HasNameOfOther, HasNoName, HasNoNumber, HasNoNumbers, HasNoValue, IsBackward, IsNamed, IsNoPackage, IsNotThere, IsTaken, IsTooDeep, IsTooLong, MessageHasDefault, MessageReservesAgain, OfExtension, OfExtensions, OfExtensionsReserved, OfExtensionsTwice, OfField, OfImport, OfName, OfNumber, OfPackage, OfProto3, OfReserved, OfReservedName, OfReservedTwice, OfReused, OfUse, OfValues, OfValuesTwice, StandsForNoMessage, StandsForNoType, StandsForNothing, Uses, ValueIsReserved, ValuesAreAlike, WrongImport, WrongInProto3, WrongLink, WrongName, WrongNumber, WrongPackage, WrongReserved, WrongUse, stands_for}
use Rattle.protox_link_checks.specs.Defaults.{has_value, is_word, wrong_default, wrong_default_of, wrong_value}
use Rattle.protox_link_checks.specs.Empty.{empty_fault, empty_faults}
use Rattle.protox_link_checks.specs.Extensions.{extended_faults}
use Rattle.protox_link_checks.specs.File.{file_faults}
use Rattle.protox_link_checks.specs.Faults.{all_declared_faults, bad_name, clash_faults, declared_faults, is_declared_at}
use Rattle.protox_link_checks.specs.Imports.{if_found, import_faults, is_package, no_packages, package_faults, wrong_length, wrong_package, wrong_package_found}
use Rattle.protox_link_checks.specs.Numbers as numbers
use Rattle.protox_link_checks.specs.Proto3.{alike_fault, alike_faults, extension_faults, faults_of_proto3, first_value_faults, is_proto3, part_faults, proto3_faults}
use Rattle.protox_link_checks.specs.Reserved.{again_faults, enum_name_faults, message_name_faults, name_of_field, name_of_value}
use Rattle.protox_link_checks.specs.Uses.{default_faults, fault_at, message_faults, type_faults, uses_of, wrong_message, wrong_type}
use Rattle.protox_link_fault.specs.declared.LinkFault.{LinkFault}
use Rattle.protox_link_fault.specs.declared.LinkFaultKind.{LinkFaultKind}
use Rattle.protox_link_fault.specs.declared.LinkFaultKind.TheVariants as told
use Rattle.protox_link_fault.specs.declared.NumberFault.{NumberFault}
use Rattle.protox_link_fault.specs.declared.NumberFault.TheVariants as how
use Rattle.protox_name_tree.specs.Tree.{has_innermost, kind_at, number_of}
use Rattle.protox_names.specs.Names.{is_identifier, scopes}
use Rattle.protox_numbers.specs.Enums as of_enum
use Rattle.protox_numbers.specs.Enums.{begins_with_zero, range_spans, value_spans}
use Rattle.protox_numbers.specs.Message as of_message
use Rattle.protox_numbers.specs.Message.{extension_spans, field_spans, reserved_spans}
use Rattle.protox_numbers.specs.Parts.{is_backward_enum_range, is_empty_extension_range}
use Rattle.protox_numbers.specs.declared.clash.Clash.{Clash}
use Rattle.protox_scopes.specs.Scopes.{is_type}
use Rattle.protox_spans.specs.Spans.{meets}
use Rattle.protox_scopes.specs.declared.kind.Kind.{Kind}
use Rattle.protox_scopes.specs.declared.kind.Kind.TheVariants as kinds
use Rattle.protox_scopes.specs.declared.kind.Wanted.{Wanted}
use Rattle.protox_scopes.specs.declared.kind.Wanted.TheVariants.{AType, Anything}
use Rattle.protox_symbols.specs.Symbols.{Table}
use Rattle.protox_symbols.specs.Things.{table_of}
use Rattle.protox_walk.specs.Declarations.{Path, file_declarations, nth, text_of}
use Rattle.protox_walk.specs.Parts.{Declared, Described, Enum, Message}
use Rattle.protox_walk.specs.Words.{name_of}

-- ---- lists

among_map : {X Y : Type 0} (f : X → Y) (xs : List X) (x : X) → Among xs x → Among (map f xs) (f x)
among_map f [] x there = absurd there
among_map f (first ∷ more) x (inl is) = inl (ap f is)
among_map f (first ∷ more) x (inr there) = inr (among_map f more x there)

not_less : (a b : ℕ) → b ≤ a → nat_lt a b ≡ false
not_less a b below = elim (true_or_false (nat_lt a b)) [
  | inl less ↦ let above = (Decides-ltb a b).0 less in absurd (omega (arith, above, below))
  | inr not ↦ not
]

-- ---- packages

module _ (t : Table) where
  no_package_listed : (names : List (List ℕ)) (around : List ℕ) (n : ℕ) → Among names around → number_of t.names around ≡ Some n → is_package (kind_at t.names n) ≡ false → Among (no_packages t names) n
  no_package_listed [] around n there is not = absurd there
  no_package_listed (first ∷ more) around n (inl same) is not =
      among-left (if_found t (number_of t.names first)) (no_packages t more) n
      (subst (λ o. Among (if_found t o) n) (sym (ap (number_of t.names) same ∙ is)) (subst (λ b. Among (cond b [] (n ∷ [])) n) (sym not) (inl refl)))
  no_package_listed (first ∷ more) around n (inr there) is not =
      among-right (if_found t (number_of t.names first)) (no_packages t more) n (no_package_listed more around n there is not)

  found_listed : (name : List ℕ) (o : Option ℕ) (kind : LinkFaultKind) → is_some o ≡ true → Among (map told.NotAPackage (no_packages t (name ∷ scopes name))) kind → Among (wrong_package_found t name o) kind
  found_listed name None kind there listed = absurd (false≢true there)
  found_listed name (Some n) kind there listed = listed

  -- first what is wrong with its length
  abbrev of_package : List ℕ → List LinkFaultKind
  of_package name = wrong_length name ++ wrong_package_found t name (number_of t.names name)

  long_told : (name : List ℕ) → 511 < length name → Among (wrong_length name) told.LongPackage
  long_told name long =
      subst (λ b. Among (cond b (told.LongPackage ∷ []) (cond (nat_lt 100 (count_by (λ byte. byte == 46) name)) (told.DeepPackage ∷ []) [])) told.LongPackage) (sym ((Decides-ltb 511 (length name)).1 long)) (inl refl)

  deep_told : (name : List ℕ) → length name ≤ 511 → 100 < count_by (λ byte. byte == 46) name → Among (wrong_length name) told.DeepPackage
  deep_told name short deep =
      let dots = count_by (λ byte. byte == 46) name in
      subst (λ b. Among (cond b (told.LongPackage ∷ []) (cond (nat_lt 100 dots) (told.DeepPackage ∷ []) [])) told.DeepPackage) (sym (not_less 511 (length name) short))
      (subst (λ b. Among (cond b (told.DeepPackage ∷ []) []) told.DeepPackage) (sym ((Decides-ltb 100 dots).1 deep)) (inl refl))

  package_found : (name : List ℕ) (kind : LinkFaultKind) → WrongPackage t name kind → Among (of_package name) kind
  package_found name kind wrong = elim wrong as (λ kind _. Among (of_package name) kind) [
    | IsNotThere is ↦ among-right (wrong_length name) _ _ (subst (λ o. Among (wrong_package_found t name o) told.BadName) (sym is) (inl refl))
    | IsTooLong long ↦ among-left (wrong_length name) _ _ (long_told name long)
    | IsTooDeep short deep ↦ among-left (wrong_length name) _ _ (deep_told name short deep)
    | IsNoPackage around n there has is not ↦
        among-right (wrong_length name) _ _ (found_listed name (number_of t.names name) (told.NotAPackage n) there
        (among_map told.NotAPackage (no_packages t (name ∷ scopes name)) n (no_package_listed (name ∷ scopes name) around n (among-from (name ∷ scopes name) around has) is not)))
  ]

  package_listed : (name : List ℕ) (kind : LinkFaultKind) → name ≢ [] → WrongPackage t name kind → Among (wrong_package t name) kind
  package_listed [] kind some wrong = absurd (some refl)
  package_listed (byte ∷ rest) kind some wrong = package_found (byte ∷ rest) kind wrong

-- ---- what is declared

module _ (file : ℕ) (path : Path) where
  abbrev at : Path → LinkFaultKind → LinkFault
  at rest kind = record { file = file; path = path ++ rest; kind = kind }

  clash_listed : (fault : NumberFault) (tag : ℤ) (rest : Path) (clashes : List Clash) (clash : Clash) → Among clashes clash → Among (numbers.clash_faults file path tag rest fault clashes) (at (tag ∷ pos clash.part ∷ rest) (told.Clash fault clash.«with»))
  clash_listed fault tag rest clashes clash has =
      subst (λ (p : Path). Among (numbers.clash_faults file path tag rest fault clashes) (record { file = file; path = p; kind = told.Clash fault clash.«with» })) (append_assoc path (tag ∷ pos clash.part ∷ []) rest)
      (among_map (numbers.clash_fault file path tag rest fault) clashes clash has)

  range_listed : {A : Type 0} (tag : ℤ) (is_empty : A → Bool) (i : ℕ) (ranges : List A) (k m : ℕ) (range : A) → m ≡ i + k → slice_get ranges k ≡ Some range → is_empty range ≡ true → Among (empty_faults file path tag is_empty i ranges) (at (tag ∷ pos m ∷ []) told.EmptyRange)
  range_listed tag is_empty i [] k m range same is empty = cc
  range_listed tag is_empty i (first ∷ more) zero m range same is empty =
      among-left (cond (is_empty first) (empty_fault file path tag i ∷ []) []) (empty_faults file path tag is_empty (i + 1) more) _
      (subst (λ b. Among (cond b (empty_fault file path tag i ∷ []) []) (at (tag ∷ pos m ∷ []) told.EmptyRange)) (sym (ap is_empty (same_Some first range is) ∙ empty))
      (inl (ap (λ (j : ℕ). at (tag ∷ pos j ∷ []) told.EmptyRange) (omega (arith, same)))))
  range_listed tag is_empty i (first ∷ more) (suc k) m range same is empty =
      among-right (cond (is_empty first) (empty_fault file path tag i ∷ []) []) (empty_faults file path tag is_empty (i + 1) more) _
      (range_listed tag is_empty (i + 1) more k m range (omega (arith, same)) is empty)

  module _ (t : Table) (sees packages : List Bool) (user : List ℕ) where
    abbrev faults : Described → List LinkFault
    faults part = uses_of t sees packages file path user part

    -- the places of these faults among all of a declaration
    in_message : (m : DescriptorProto) (fault : LinkFault) → Among (numbers.message_number_faults file path m) fault → Among (faults (Message m)) fault
    in_message m fault there = among-left (numbers.message_number_faults file path m) (message_name_faults file path m) fault there

    in_enum : (e : EnumDescriptorProto) (fault : LinkFault) → Among (numbers.enum_number_faults file path e) fault → Among (faults (Enum e)) fault
    in_enum e fault there = among-left (numbers.enum_number_faults file path e) (enum_name_faults file path e) fault there

    fields_in : (m : DescriptorProto) (fault : LinkFault) → Among (numbers.field_number_faults file path m) fault → Among (faults (Message m)) fault
    fields_in m fault there = in_message m fault (among-left (numbers.field_number_faults file path m) _ fault there)

    empty_in : (m : DescriptorProto) (fault : LinkFault) → Among (numbers.empty_ranges file path m) fault → Among (faults (Message m)) fault
    empty_in m fault there = in_message m fault (among-right (numbers.field_number_faults file path m) _ fault (among-left (numbers.empty_ranges file path m) _ fault there))

    ranges_in : (m : DescriptorProto) (fault : LinkFault) → Among (numbers.clashing_ranges file path m) fault → Among (faults (Message m)) fault
    ranges_in m fault there = in_message m fault (among-right (numbers.field_number_faults file path m) _ fault (among-right (numbers.empty_ranges file path m) _ fault there))

    values_in : (e : EnumDescriptorProto) (fault : LinkFault) → Among (numbers.clashing_values file path e) fault → Among (faults (Enum e)) fault
    values_in e fault there = in_enum e fault (among-right (numbers.no_value file path e) _ fault (among-right (empty_faults file path enum_tag.RESERVED_RANGE is_backward_enum_range 0 e.reserved_range) _ fault there))

    abbrev reused : DescriptorProto → List LinkFault
    reused m = numbers.clash_faults file path message_tag.FIELD (field_tag.NUMBER ∷ []) how.Reused (of_message.reused_numbers m)

    abbrev reserved : DescriptorProto → List LinkFault
    reserved m = numbers.clash_faults file path message_tag.FIELD (field_tag.NUMBER ∷ []) how.Reserved (of_message.fields_in_reserved_ranges m)

    abbrev reserved_twice : DescriptorProto → List LinkFault
    reserved_twice m = numbers.clash_faults file path message_tag.RESERVED_RANGE [] how.ReservedTwice (of_message.overlapping_reserved_ranges m)

    abbrev extensions_twice : DescriptorProto → List LinkFault
    extensions_twice m = numbers.clash_faults file path message_tag.EXTENSION_RANGE [] how.ExtensionsTwice (of_message.overlapping_extension_ranges m)

    abbrev values : EnumDescriptorProto → List LinkFault
    values e = numbers.clash_faults file path enum_tag.VALUE (value_tag.NUMBER ∷ []) how.ValueReserved (of_enum.values_in_reserved_ranges e)

    clashing_listed : (part : Described) (fault : NumberFault) (tag : ℤ) (rest : Path) (clash : Clash) → Clashes part fault tag rest clash → Among (faults part) (at (tag ∷ pos clash.part ∷ rest) (told.Clash fault clash.«with»))
    clashing_listed part fault tag rest clash are = elim are as (λ part fault tag rest clash _. Among (faults part) (at (tag ∷ pos clash.part ∷ rest) (told.Clash fault clash.«with»))) [
      | OfReused m c is ↦ fields_in m _ (among-left (reused m) _ _ (clash_listed how.Reused message_tag.FIELD (field_tag.NUMBER ∷ []) (of_message.reused_numbers m) c (earlier_listed meets (field_spans m) c is)))
      | OfReserved m c is ↦ fields_in m _ (among-right (reused m) _ _ (among-left (reserved m) _ _ (clash_listed how.Reserved message_tag.FIELD (field_tag.NUMBER ∷ []) (of_message.fields_in_reserved_ranges m) c (first_listed meets (field_spans m) (reserved_spans m) c is))))
      | OfExtensions m c is ↦ fields_in m _ (among-right (reused m) _ _ (among-right (reserved m) _ _ (clash_listed how.ForExtensions message_tag.FIELD (field_tag.NUMBER ∷ []) (of_message.fields_in_extension_ranges m) c (first_listed meets (field_spans m) (extension_spans m) c is))))
      | OfReservedTwice m c is ↦ ranges_in m _ (among-left (reserved_twice m) _ _ (clash_listed how.ReservedTwice message_tag.RESERVED_RANGE [] (of_message.overlapping_reserved_ranges m) c (earlier_listed meets (reserved_spans m) c is)))
      | OfExtensionsTwice m c is ↦ ranges_in m _ (among-right (reserved_twice m) _ _ (among-left (extensions_twice m) _ _ (clash_listed how.ExtensionsTwice message_tag.EXTENSION_RANGE [] (of_message.overlapping_extension_ranges m) c (earlier_listed meets (extension_spans m) c is))))
      | OfExtensionsReserved m c is ↦ ranges_in m _ (among-right (reserved_twice m) _ _ (among-right (extensions_twice m) _ _ (clash_listed how.ExtensionsReserved message_tag.EXTENSION_RANGE [] (of_message.extension_ranges_in_reserved m) c (first_listed meets (extension_spans m) (reserved_spans m) c is))))
      | OfValues e c is ↦ values_in e _ (among-left (values e) _ _ (clash_listed how.ValueReserved enum_tag.VALUE (value_tag.NUMBER ∷ []) (of_enum.values_in_reserved_ranges e) c (first_listed meets (value_spans e) (range_spans e) c is)))
      | OfValuesTwice e c is ↦ values_in e _ (among-right (values e) _ _ (clash_listed how.ValuesReservedTwice enum_tag.RESERVED_RANGE [] (of_enum.overlapping_enum_ranges e) c (earlier_listed meets (range_spans e) c is)))
    ]

    number_listed : (part : Described) (rest : Path) (kind : LinkFaultKind) → WrongNumber part rest kind → Among (faults part) (at rest kind)
    number_listed part rest kind wrong = elim wrong as (λ part rest kind _. Among (faults part) (at rest kind)) [
      | IsTaken f is ↦
          among-left (numbers.implementation_faults file path f ++ type_faults t sees packages file path field_tag.TYPE_NAME user f.type_name) _ _
          (among-left (numbers.implementation_faults file path f) _ _
          (subst (λ b. Among (cond b (at (field_tag.NUMBER ∷ []) told.ForImplementation ∷ []) []) (at (field_tag.NUMBER ∷ []) told.ForImplementation)) (sym is) (inl refl)))
      | HasNoValue e is ↦
          in_enum e _ (among-left (numbers.no_value file path e) _ _
          (subst (λ (values : List EnumValueDescriptorProto). Among (cond (length values == 0) (at (enum_tag.NAME ∷ []) told.NoValue ∷ []) []) (at (enum_tag.NAME ∷ []) told.NoValue)) (sym is) (inl refl)))
      | HasNoNumbers m i range is empty ↦ empty_in m _ (range_listed message_tag.EXTENSION_RANGE is_empty_extension_range 0 (out-DescriptorProto m).extension_range i i range (omega arith) is empty)
      | IsBackward e i range is empty ↦
          in_enum e _ (among-right (numbers.no_value file path e) _ _ (among-left (empty_faults file path enum_tag.RESERVED_RANGE is_backward_enum_range 0 e.reserved_range) _ _
          (range_listed enum_tag.RESERVED_RANGE is_backward_enum_range 0 e.reserved_range i i range (omega arith) is empty)))
      | Clashing part fault tag rest clash are ↦ clashing_listed part fault tag rest clash are
    ]

    -- ---- reserved names

    reserved_listed : (part : Described) (rest : Path) (kind : LinkFaultKind) → WrongReserved part rest kind → Among (faults part) (at rest kind)
    reserved_listed part rest kind wrong = elim wrong as (λ part rest kind _. Among (faults part) (at rest kind)) [
      | MessageReservesAgain m i earlier name is before same ↦
          among-right (numbers.message_number_faults file path m) (message_name_faults file path m) _
          (among-left (again_faults file path [] 0 (out-DescriptorProto m).reserved_name) _ _ (again_listed file path (out-DescriptorProto m).reserved_name i earlier name is before same))
      | EnumReservesAgain e i earlier name is before same ↦
          among-right (numbers.enum_number_faults file path e) (enum_name_faults file path e) _
          (among-left (again_faults file path [] 0 e.reserved_name) _ _ (again_listed file path e.reserved_name i earlier name is before same))
      | FieldIsReserved m i f is has ↦
          among-right (numbers.message_number_faults file path m) (message_name_faults file path m) _
          (among-right (again_faults file path [] 0 (out-DescriptorProto m).reserved_name) _ _ (own_listed file path message_tag.FIELD name_of_field (out-DescriptorProto m).reserved_name (out-DescriptorProto m).field i f is has))
      | ValueIsReserved e i v is has ↦
          among-right (numbers.enum_number_faults file path e) (enum_name_faults file path e) _
          (among-right (again_faults file path [] 0 e.reserved_name) _ _ (own_listed file path enum_tag.VALUE name_of_value e.reserved_name e.value i v is has))
    ]

    -- ---- the names that it uses

    abbrev kinds_of : Wanted → List ℕ → Option ℕ → List LinkFaultKind
    kinds_of AType name o = wrong_type name (option_map (kind_at t.names) o)
    kinds_of Anything name o = wrong_message name (option_map (kind_at t.names) o)

    abbrev told_of : Wanted → List ℕ → List LinkFaultKind
    told_of wanted name = kinds_of wanted name (stands_for t sees packages user wanted name)

    type_in : (tag : ℤ) (name : Option (List ℕ)) (own : List ℕ) (kind : LinkFaultKind) → name ≡ Some own → Among (told_of AType own) kind → Among (type_faults t sees packages file path tag user name) (at (tag ∷ []) kind)
    type_in tag name own kind is there =
        subst (λ (o : Option (List ℕ)). Among (type_faults t sees packages file path tag user o) (at (tag ∷ []) kind)) (sym is) (among_map (fault_at file path tag) (told_of AType own) kind there)

    message_in : (tag : ℤ) (name : Option (List ℕ)) (own : List ℕ) (kind : LinkFaultKind) → name ≡ Some own → Among (told_of Anything own) kind → Among (message_faults t sees packages file path tag user name) (at (tag ∷ []) kind)
    message_in tag name own kind is there =
        subst (λ (o : Option (List ℕ)). Among (message_faults t sees packages file path tag user o) (at (tag ∷ []) kind)) (sym is) (among_map (fault_at file path tag) (told_of Anything own) kind there)

    use_in : (part : Described) (tag : ℤ) (wanted : Wanted) (name : List ℕ) (kind : LinkFaultKind) → Uses part tag wanted name → Among (told_of wanted name) kind → Among (faults part) (at (tag ∷ []) kind)
    use_in part tag wanted name kind uses = elim uses as (λ part tag wanted name _. Among (told_of wanted name) kind → Among (faults part) (at (tag ∷ []) kind)) [
      | AsType f name is ↦ λ there.
          among-left (numbers.implementation_faults file path f ++ type_faults t sees packages file path field_tag.TYPE_NAME user f.type_name) _ _
          (among-right (numbers.implementation_faults file path f) _ _ (type_in field_tag.TYPE_NAME f.type_name name kind is there))
      | AsExtendee f name is ↦ λ there.
          among-right (numbers.implementation_faults file path f ++ type_faults t sees packages file path field_tag.TYPE_NAME user f.type_name) _ _
          (among-left (message_faults t sees packages file path field_tag.EXTENDEE user f.extendee) _ _ (message_in field_tag.EXTENDEE f.extendee name kind is there))
      | AsInput m name is ↦ λ there. among-left (message_faults t sees packages file path method_tag.INPUT_TYPE user m.input_type) _ _ (message_in method_tag.INPUT_TYPE m.input_type name kind is there)
      | AsOutput m name is ↦ λ there. among-right (message_faults t sees packages file path method_tag.INPUT_TYPE user m.input_type) _ _ (message_in method_tag.OUTPUT_TYPE m.output_type name kind is there)
    ]

    nothing_told : (wanted : Wanted) (name : List ℕ) (o : Option ℕ) → o ≡ None → Among (kinds_of wanted name o) (told.NotDefined name)
    nothing_told AType name o is = subst (λ (x : Option ℕ). Among (kinds_of AType name x) (told.NotDefined name)) (sym is) (inl refl)
    nothing_told Anything name o is = subst (λ (x : Option ℕ). Among (kinds_of Anything name x) (told.NotDefined name)) (sym is) (inl refl)

    no_type_told : (name : List ℕ) (o : Option ℕ) (n : ℕ) → o ≡ Some n → is_type (kind_at t.names n) ≡ false → Among (kinds_of AType name o) (told.NotAType name)
    no_type_told name o n is not =
        subst (λ (x : Option ℕ). Among (kinds_of AType name x) (told.NotAType name)) (sym is)
        (subst (λ b. Among (cond b [] (told.NotAType name ∷ [])) (told.NotAType name)) (sym not) (inl refl))

    no_message_kind : (name : List ℕ) (k : Kind) → is_message k ≡ false → Among (wrong_message name (Some k)) (told.NotAMessage name)
    no_message_kind name kinds.Message not = absurd (false≢true (sym not))
    no_message_kind name kinds.Enum not = inl refl
    no_message_kind name kinds.Service not = inl refl
    no_message_kind name kinds.Package not = inl refl
    no_message_kind name kinds.Member not = inl refl

    no_message_told : (name : List ℕ) (o : Option ℕ) (n : ℕ) → o ≡ Some n → is_message (kind_at t.names n) ≡ false → Among (kinds_of Anything name o) (told.NotAMessage name)
    no_message_told name o n is not =
        subst (λ (x : Option ℕ). Among (kinds_of Anything name x) (told.NotAMessage name)) (sym is) (no_message_kind name (kind_at t.names n) not)

    default_in : (part : Described) (name default : List ℕ) (kind : LinkFaultKind) → HasDefault part name default → Among (wrong_default t (stands_for t sees packages user AType name) default) kind → Among (faults part) (at (field_tag.DEFAULT_VALUE ∷ []) kind)
    default_in part name default kind has = elim has as (λ part name default _. Among (wrong_default t (stands_for t sees packages user AType name) default) kind → Among (faults part) (at (field_tag.DEFAULT_VALUE ∷ []) kind)) [
      | OfField f name default of_type is ↦ λ there.
          among-right (numbers.implementation_faults file path f ++ type_faults t sees packages file path field_tag.TYPE_NAME user f.type_name) _ _
          (among-right (message_faults t sees packages file path field_tag.EXTENDEE user f.extendee) _ _
          (subst (λ (o : Option (List ℕ)). Among (default_faults t sees packages file path user o f.default_value) (at (field_tag.DEFAULT_VALUE ∷ []) kind)) (sym of_type)
          (subst (λ (o : Option (List ℕ)). Among (default_faults t sees packages file path user (Some name) o) (at (field_tag.DEFAULT_VALUE ∷ []) kind)) (sym is)
          (among_map (fault_at file path field_tag.DEFAULT_VALUE) (wrong_default t (stands_for t sees packages user AType name) default) kind there))))
    ]

    -- a default by the kind of the type
    default_told_by : (o : Option ℕ) (n : ℕ) (k : Kind) (default : List ℕ) (kind : LinkFaultKind) → o ≡ Some n → kind_at t.names n ≡ k → Among (wrong_default_of t k n default) kind → Among (wrong_default t o default) kind
    default_told_by o n k default kind is same there =
        subst (λ (x : Option ℕ). Among (wrong_default t x default) kind) (sym is)
        (subst (λ (x : Kind). Among (wrong_default_of t x n default) kind) (sym same) there)

    no_word_told : (n : ℕ) (default : List ℕ) → is_word default ≡ false → Among (wrong_value t n default) told.BadDefault
    no_word_told n default not =
        subst (λ b. Among (cond b (cond (has_value t n default) [] (told.NoSuchValue n ∷ [])) (told.BadDefault ∷ [])) told.BadDefault) (sym not) (inl refl)

    no_value_told : (n : ℕ) (default : List ℕ) → is_word default ≡ true → has_value t n default ≡ false → Among (wrong_value t n default) (told.NoSuchValue n)
    no_value_told n default word none =
        subst (λ b. Among (cond b (cond (has_value t n default) [] (told.NoSuchValue n ∷ [])) (told.BadDefault ∷ [])) (told.NoSuchValue n)) (sym word)
        (subst (λ b. Among (cond b [] (told.NoSuchValue n ∷ [])) (told.NoSuchValue n)) (sym none) (inl refl))

    use_listed : (part : Described) (tag : ℤ) (kind : LinkFaultKind) → WrongUse t sees packages user part tag kind → Among (faults part) (at (tag ∷ []) kind)
    use_listed part tag kind wrong = elim wrong as (λ tag kind _. Among (faults part) (at (tag ∷ []) kind)) [
      | StandsForNothing tag wanted name uses is ↦ use_in part tag wanted name (told.NotDefined name) uses (nothing_told wanted name _ is)
      | StandsForNoType tag name n uses is not ↦ use_in part tag AType name (told.NotAType name) uses (no_type_told name _ n is not)
      | StandsForNoMessage tag name n uses is not ↦ use_in part tag Anything name (told.NotAMessage name) uses (no_message_told name _ n is not)
      | MessageHasDefault name default n has is same ↦ default_in part name default told.MessageDefault has (default_told_by _ n kinds.Message default told.MessageDefault is same (inl refl))
      | DefaultIsNoWord name default n has is same not ↦ default_in part name default told.BadDefault has (default_told_by _ n kinds.Enum default told.BadDefault is same (no_word_told n default not))
      | DefaultIsNoValue name default n has is same word none ↦ default_in part name default (told.NoSuchValue n) has (default_told_by _ n kinds.Enum default (told.NoSuchValue n) is same (no_value_told n default word none))
    ]

-- ---- its name

module _ (t : Table) (sees packages : List Bool) (file : ℕ) (d : Declared) where
  abbrev own : List ℕ
  own = text_of (name_of d.part)

  abbrev clash : List LinkFault
  clash = clash_faults t sees packages file d.path (number_of t.names d.full_name)

  abbrev uses : List LinkFault
  uses = uses_of t sees packages file d.path d.full_name d.part

  named_in : (fault : LinkFault) → IsNamed t d → Among (clash ++ uses) fault → Among (declared_faults t sees packages file d) fault
  named_in fault named there =
      subst (λ b. Among (cond b (cond (has_innermost t.names (scopes d.full_name)) (clash ++ uses) []) (fault_at file d.path message_tag.NAME (bad_name own) ∷ [])) fault) (sym named.identifier)
      (subst (λ b. Among (cond b (clash ++ uses) []) fault) (sym named.scope) there)

  misnamed_in : (kind : LinkFaultKind) → is_identifier own ≡ false → bad_name own ≡ kind → Among (declared_faults t sees packages file d) (fault_at file d.path message_tag.NAME kind)
  misnamed_in kind not is =
      subst (λ b. Among (cond b (cond (has_innermost t.names (scopes d.full_name)) (clash ++ uses) []) (fault_at file d.path message_tag.NAME (bad_name own) ∷ [])) (fault_at file d.path message_tag.NAME kind)) (sym not)
      (inl (ap (fault_at file d.path message_tag.NAME) is))

  bad_kind : (name : List ℕ) → name ≢ [] → bad_name name ≡ told.BadName
  bad_kind [] some = absurd (some refl)
  bad_kind (byte ∷ rest) some = elim (true_or_false (length (byte ∷ rest) == 0)) [
    | inl none ↦ absurd (omega (arith, (Decides-eqb (length (byte ∷ rest)) 0).0 none))
    | inr long ↦ ap (λ b. cond b told.MissingName told.BadName) long
  ]

  other_in : (n : ℕ) (b : Bool) → is_declared_at t sees packages file d.path n ≡ b → slice_get t.things n ≢ Some (record { file = file; path = d.path }) → Among (cond b [] (fault_at file d.path message_tag.NAME (told.AlreadyDefined n) ∷ [])) (fault_at file d.path message_tag.NAME (told.AlreadyDefined n))
  other_in n true is other = absurd (other (thing_is t sees packages file d.path (slice_get t.things n) is))
  other_in n false is other = inl refl

  clash_in : (kind : LinkFaultKind) (o : Option ℕ) → number_of t.names d.full_name ≡ o → Among (clash_faults t sees packages file d.path o) (fault_at file d.path message_tag.NAME kind) → Among (clash ++ uses) (fault_at file d.path message_tag.NAME kind)
  clash_in kind o is there =
      among-left clash uses _ (subst (λ (x : Option ℕ). Among (clash_faults t sees packages file d.path x) (fault_at file d.path message_tag.NAME kind)) (sym is) there)

  name_listed : (kind : LinkFaultKind) → WrongName t file d kind → Among (declared_faults t sees packages file d) (fault_at file d.path message_tag.NAME kind)
  name_listed kind wrong = elim wrong as (λ kind _. Among (declared_faults t sees packages file d) (fault_at file d.path message_tag.NAME kind)) [
    | HasNoName is ↦ misnamed_in told.MissingName (ap is_identifier is) (ap bad_name is)
    | HasBadName some not ↦ misnamed_in told.BadName not (bad_kind own some)
    | HasNameOfOther n named is other ↦ named_in _ named (clash_in (told.AlreadyDefined n) (Some n) is (other_in n (is_declared_at t sees packages file d.path n) refl other))
    | HasNoNumber named is ↦ named_in _ named (clash_in told.NotInTable None is (inl refl))
  ]

-- ---- a file

module _ (files : List FileDescriptorProto) (n : ℕ) (file : FileDescriptorProto) (sees packages : List Bool) where
  abbrev table : Table
  table = table_of files

  abbrev told_in : List LinkFault
  told_in = file_faults table sees packages n (named_of (rows_of files) n) file

  import_in : (i : ℕ) (kind : LinkFaultKind) → slice_get files n ≡ Some file → WrongImport files file.dependency i kind → Among told_in (fault_at n (file_tag.DEPENDENCY ∷ []) (pos i) kind)
  import_in i kind here wrong =
      among-left (import_faults n (named_of (rows_of files) n)) _ _
      (subst (λ (named : List (Option ℕ)). Among (import_faults n named) (fault_at n (file_tag.DEPENDENCY ∷ []) (pos i) kind)) (sym (named_by files n file here))
      (import_listed n files file file.dependency i kind wrong))

  package_in : (name : List ℕ) (kind : LinkFaultKind) → file.«package» ≡ Some name → name ≢ [] → WrongPackage table name kind → Among told_in (fault_at n [] file_tag.PACKAGE kind)
  package_in name kind is some wrong =
      among-right (import_faults n (named_of (rows_of files) n)) _ _
      (among-left (package_faults table n (text_of file.«package»)) _ _
      (subst (λ (o : Option (List ℕ)). Among (package_faults table n (text_of o)) (fault_at n [] file_tag.PACKAGE kind)) (sym is)
      (among_map (fault_at n [] file_tag.PACKAGE) (wrong_package table name) kind (package_listed table name kind some wrong))))

  declared_in : (d : Declared) (fault : LinkFault) → Contains (file_declarations file) d → Among (declared_faults table sees packages n d) fault → Among told_in fault
  declared_in d fault has there =
      among-right (import_faults n (named_of (rows_of files) n)) _ fault
      (among-right (package_faults table n (text_of file.«package»)) _ fault
      (among-left (all_declared_faults table sees packages n file) (proto3_faults n file) fault
      (among_flat (declared_faults table sees packages n) (file_declarations file) d fault has there)))

  first_told : (path : Path) (e : EnumDescriptorProto) (values : List EnumValueDescriptorProto) (v : EnumValueDescriptorProto) → slice_get values 0 ≡ Some v → begins_with_zero e ≡ false → Among (first_value_faults n path e values) (record { file = n; path = path ++ (enum_tag.VALUE ∷ pos 0 ∷ value_tag.NUMBER ∷ []); kind = told.FirstNotZero })
  first_told path e [] v is not = cc
  first_told path e (first ∷ more) v is not =
      let fault : LinkFault = record { file = n; path = path ++ (enum_tag.VALUE ∷ pos 0 ∷ value_tag.NUMBER ∷ []); kind = told.FirstNotZero } in
      let listed : LinkFault = record { file = n; path = nth path enum_tag.VALUE 0 ++ value_tag.NUMBER ∷ []; kind = told.FirstNotZero } in
      let same : listed ≡ fault = ap (λ (p : Path). record { file = n; path = p; kind = told.FirstNotZero }) (append_assoc path (enum_tag.VALUE ∷ pos 0 ∷ []) (value_tag.NUMBER ∷ [])) in
      subst (λ (b : Bool). Among {A = LinkFault} (cond b [] (listed ∷ [])) fault) (sym not) (inl same)

  extensions_listed : (path : Path) (ranges : List ExtensionRange) (range : ExtensionRange) → slice_get ranges 0 ≡ Some range → Among (extension_faults n path ranges) (record { file = n; path = path ++ (message_tag.EXTENSION_RANGE ∷ pos 0 ∷ []); kind = told.ExtensionsInProto3 })
  extensions_listed path [] range is = cc
  extensions_listed path (first ∷ more) range is = inl refl

  alike_listed : (path : Path) (tag : ℤ) (clashes : List Clash) (clash : Clash) → Among clashes clash → Among (alike_faults n path tag clashes) (record { file = n; path = path ++ (tag ∷ pos clash.part ∷ message_tag.NAME ∷ []); kind = told.Alike clash.«with» })
  alike_listed path tag clashes clash there =
      subst (λ (p : Path). Among (alike_faults n path tag clashes) (record { file = n; path = p; kind = told.Alike clash.«with» })) (append_assoc path (tag ∷ pos clash.part ∷ []) (message_tag.NAME ∷ []))
      (among_map (alike_fault n path tag) clashes clash there)

  part_listed : (path : Path) (part : Described) (rest : Path) (kind : LinkFaultKind) → WrongInProto3 part rest kind → Among (part_faults n path part) (record { file = n; path = path ++ rest; kind = kind })
  part_listed path part rest kind wrong = elim wrong as (λ part rest kind _. Among (part_faults n path part) (record { file = n; path = path ++ rest; kind = kind })) [
    | BeginsOtherwise e v is not ↦ among-left (first_value_faults n path e e.value) (alike_faults n path enum_tag.VALUE (values_alike e)) _ (first_told path e e.value v is not)
    | HasExtensions m range is ↦
        among-left (extension_faults n path (out-DescriptorProto m).extension_range) (alike_faults n path message_tag.FIELD (fields_alike m)) _
        (extensions_listed path (out-DescriptorProto m).extension_range range is)
    | FieldsAreAlike m clash is ↦
        among-right (extension_faults n path (out-DescriptorProto m).extension_range) (alike_faults n path message_tag.FIELD (fields_alike m)) _
        (alike_listed path message_tag.FIELD (fields_alike m) clash (earlier_listed bytes_eq (map key_of_field (out-DescriptorProto m).field) clash is))
    | ValuesAreAlike e clash is two ↦
        among-right (first_value_faults n path e e.value) (alike_faults n path enum_tag.VALUE (values_alike e)) _
        (alike_listed path enum_tag.VALUE (values_alike e) clash (among_filter (is_of_two e.value) _ clash (earlier_listed bytes_eq (map (key_of_value e) e.value) clash is) two))
  ]

  proto3_in : (d : Declared) (rest : Path) (kind : LinkFaultKind) → Contains (file_declarations file) d → is_proto3 file ≡ true → WrongInProto3 d.part rest kind → Among told_in (record { file = n; path = d.path ++ rest; kind = kind })
  proto3_in d rest kind has is wrong =
      among-right (import_faults n (named_of (rows_of files) n)) _ _
      (among-right (package_faults table n (text_of file.«package»)) _ _
      (among-right (all_declared_faults table sees packages n file) (proto3_faults n file) _
      (subst (λ b. Among (cond b (flat_map (faults_of_proto3 n) (file_declarations file)) []) (record { file = n; path = d.path ++ rest; kind = kind })) (sym is)
      (among_flat (faults_of_proto3 n) (file_declarations file) d _ has (part_listed d.path d.part rest kind wrong)))))

  within_in : (d : Declared) (fault : LinkFault) → Contains (file_declarations file) d → IsNamed table d → Among (uses_of table sees packages n d.path d.full_name d.part) fault → Among told_in fault
  within_in d fault has named there =
      declared_in d fault has (named_in table sees packages n d fault named (among-right (clash_faults table sees packages n d.path (number_of table.names d.full_name)) _ fault there))

-- ---- all files

module _ (all : List FileDescriptorProto) where
  -- The file that has this number sees something, and its faults are among these.
  abbrev AreListed : ℕ → FileDescriptorProto → List LinkFault → Type 0
  AreListed n file faults = (sees : List Bool) × (packages : List Bool) × IsSeenBy all n sees packages × ((fault : LinkFault) → Among (faults_in all n sees packages file) fault → Among faults fault)

  file_listed : (files : List FileDescriptorProto) (n : ℕ) (faults : List LinkFault) (k m : ℕ) (file : FileDescriptorProto) → m ≡ n + k → slice_get files k ≡ Some file → AreFaults all n files faults → AreListed m file faults
  file_listed [] n faults k m file same is told = cc
  file_listed (first ∷ more) n faults zero m file same is told =
      let parts = split all n (first ∷ more) faults told in
      let here : n ≡ m = omega (arith, same) in
      subst (λ j. AreListed j file faults) here (
        parts.0,
        parts.1,
        parts.3,
        λ fault there. subst (λ (fs : List LinkFault). Among fs fault) (sym parts.5)
            (among-left (faults_in all n parts.0 parts.1 first) parts.2 fault
            (subst (λ (f : FileDescriptorProto). Among (faults_in all n parts.0 parts.1 f) fault) (sym (same_Some first file is)) there)),
      )
  file_listed (first ∷ more) n faults (suc k) m file same is told =
      let parts = split all n (first ∷ more) faults told in
      let rest = file_listed more (n + 1) parts.2 k m file (omega (arith, same)) is parts.4 in (
        rest.0,
        rest.1,
        rest.2,
        λ fault there. subst (λ (fs : List LinkFault). Among fs fault) (sym parts.5)
            (among-right (faults_in all n parts.0 parts.1 first) parts.2 fault (rest.3 fault there)),
      )

  -- what is wrong with a file itself
  in_front : (n : ℕ) (file : FileDescriptorProto) (sees packages : List Bool) (fault : LinkFault) → Among (file_faults (table_of all) sees packages n (named_of (rows_of all) n) file) fault → Among (faults_in all n sees packages file) fault
  in_front n file sees packages fault there =
      among-left (file_faults (table_of all) sees packages n (named_of (rows_of all) n) file) (extended_faults all (table_of all) n sees packages file) fault there

  -- What is wrong with the files is a fault of the list.
  pub wrong_is_told : (faults : List LinkFault) → AreFaults all 0 all faults → (fault : LinkFault) → WrongLink all fault → Contains faults fault
  wrong_is_told faults told fault wrong = elim wrong as (λ fault _. Contains faults fault) [
    | OfImport n file i kind here wrong ↦
        let listed = file_listed all 0 faults n n file (omega arith) here told in
        contains-from faults _ (listed.3 _ (in_front n file listed.0 listed.1 _ (import_in all n file listed.0 listed.1 i kind here wrong)))
    | OfPackage n file name kind here is some wrong ↦
        let listed = file_listed all 0 faults n n file (omega arith) here told in
        contains-from faults _ (listed.3 _ (in_front n file listed.0 listed.1 _ (package_in all n file listed.0 listed.1 name kind is some wrong)))
    | OfName n d kind in_file wrong ↦
        let listed = file_listed all 0 faults n n in_file.file (omega arith) in_file.is_there told in
        contains-from faults _ (listed.3 _ (in_front n in_file.file listed.0 listed.1 _ (declared_in all n in_file.file listed.0 listed.1 d _ in_file.declares (name_listed (table_of all) listed.0 listed.1 n d kind wrong))))
    | OfUse n d sees packages tag kind in_file named seen wrong ↦
        let listed = file_listed all 0 faults n n in_file.file (omega arith) in_file.is_there told in
        contains-from faults _ (listed.3 _
        (subst (λ (fs : List LinkFault). Among fs (fault_at n d.path tag kind)) (same_faults all n sees listed.0 packages listed.1 in_file.file seen listed.2)
        (in_front n in_file.file sees packages _ (within_in all n in_file.file sees packages d _ in_file.declares named (use_listed n d.path (table_of all) sees packages d.full_name d.part tag kind wrong)))))
    | OfNumber n d rest kind in_file named wrong ↦
        let listed = file_listed all 0 faults n n in_file.file (omega arith) in_file.is_there told in
        contains-from faults _ (listed.3 _ (in_front n in_file.file listed.0 listed.1 _ (within_in all n in_file.file listed.0 listed.1 d _ in_file.declares named (number_listed n d.path (table_of all) listed.0 listed.1 d.full_name d.part rest kind wrong))))
    | OfReservedName n d rest kind in_file named wrong ↦
        let listed = file_listed all 0 faults n n in_file.file (omega arith) in_file.is_there told in
        contains-from faults _ (listed.3 _ (in_front n in_file.file listed.0 listed.1 _ (within_in all n in_file.file listed.0 listed.1 d _ in_file.declares named (reserved_listed n d.path (table_of all) listed.0 listed.1 d.full_name d.part rest kind wrong))))
    | OfProto3 n d rest kind in_file is wrong ↦
        let listed = file_listed all 0 faults n n in_file.file (omega arith) in_file.is_there told in
        contains-from faults _ (listed.3 _ (in_front n in_file.file listed.0 listed.1 _ (proto3_in all n in_file.file listed.0 listed.1 d rest kind in_file.declares is wrong)))
    | OfExtension n file sees packages path kind here seen wrong ↦
        let listed = file_listed all 0 faults n n file (omega arith) here told in
        contains-from faults _ (listed.3 _
        (subst (λ (fs : List LinkFault). Among fs (record { file = n; path = path; kind = kind })) (same_faults all n sees listed.0 packages listed.1 file seen listed.2)
        (among-right (file_faults (table_of all) sees packages n (named_of (rows_of all) n) file) _ _ (extension_listed all n file sees packages path kind wrong))))
  ]
