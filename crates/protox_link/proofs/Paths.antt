-- The path of each fault leads to a part of its file.
use Rattle.std.proofs.Common.{◌≡◌, ◌<◌, ℕ, ◌+◌, ◌-◌, Bool, true, List, [], ◌∷◌, ◌++◌, map, Option, Some, None, is_some, refl, sym, ap, subst, ◌∙◌, arith, length, nat_lt, slice_get, suc, zero}
use Rattle.std.specs.Prelude.{ℤ, pos, All, Contains}
use Rattle.std.specs.List.{flat_map}
use Rattle.std.specs.Option.{option_and_then, option_map, option_map_or}
use Rattle.std.proofs.lemmas.List.{append_assoc, length-map}
use Rattle.std.proofs.lemmas.List.Elements.{All-append, All-cons, All-contains_itself, All-filter, All-head, All-nil, All-tail, All-weaker}
use Rattle.std.proofs.lemmas.Option.{slice_get-map}
use Rattle.protox_alike.specs.Alike.{fields_alike, first_same, is_of_two, same_names, values_alike}
use Rattle.protox_alike.specs.Keys.{key_of_field, key_of_value}
use Rattle.protox_descriptor.specs.declared.descriptor.DescriptorProto.{DescriptorProto, out-DescriptorProto}
use Rattle.protox_descriptor.specs.declared.descriptor.EnumDescriptorProto.{EnumDescriptorProto}
use Rattle.protox_descriptor.specs.declared.descriptor.EnumValueDescriptorProto.{EnumValueDescriptorProto}
use Rattle.protox_descriptor.specs.declared.descriptor.FileDescriptorProto.{FileDescriptorProto}
use Rattle.protox_descriptor.specs.declared.descriptor.descriptor_proto.ExtensionRange.{ExtensionRange}
use Rattle.protox_descriptor.specs.declared.tag.enum_.TheConstants as enum_tag
use Rattle.protox_descriptor.specs.declared.tag.enum_value.TheConstants as value_tag
use Rattle.protox_descriptor.specs.declared.tag.field.TheConstants as field_tag
use Rattle.protox_descriptor.specs.declared.tag.file.TheConstants as file_tag
use Rattle.protox_descriptor.specs.declared.tag.message.TheConstants as message_tag
use Rattle.protox_descriptor.specs.declared.tag.method.TheConstants as method_tag
use Rattle.protox_imports.specs.Imports.{Imports}
use Rattle.protox_imports.specs.Names.{number_of as number_of_file}
use Rattle.protox_imports.specs.Order.{IsCycle}
use Rattle.protox_imports.specs.Rows.{named_of, row_by, rows_of}
use Rattle.protox_imports.specs.declared.row.FileImports.{FileImports}
use Rattle.protox_link.proofs.Extending.{extended_told}
use Rattle.protox_link.proofs.Seeing.{split}
use Rattle.protox_link.proofs.Telling.{IsToldOfFile, all_flat, all_if, one}
use Rattle.protox_link.specs.Files.{AreFaults, faults_in}
use Rattle.protox_link.specs.Stands.{LeadsInto, LeadsWithin, Stands, ToDeclared, ToDefault, ToExtendee, ToExtensionRange, ToImport, ToImports, ToInput, ToName, ToNameOfField, ToNameOfValue, ToNumber, ToNumberOfField, ToNumberOfValue, ToOutput, ToPackage, ToRangeOfEnum, ToReservedRange, ToType}
use Rattle.protox_link_checks.specs.Defaults.{wrong_default}
use Rattle.protox_link_checks.specs.Empty.{empty_fault, empty_faults}
use Rattle.protox_link_checks.specs.File.{file_faults}
use Rattle.protox_link_checks.specs.Faults.{bad_name, clash_faults, declared_faults, is_declared_at}
use Rattle.protox_link_checks.specs.Imports.{import_faults, import_faults_from, package_faults, wrong_import, wrong_package}
use Rattle.protox_link_checks.specs.Numbers as numbers
use Rattle.protox_link_checks.specs.Proto3.{alike_fault, alike_faults, extension_faults, faults_of_proto3, first_value_faults, is_proto3, part_faults, proto3_faults}
use Rattle.protox_link_checks.specs.Reserved.{again_fault, again_faults, is_among, name_of_field, name_of_value, reserved_fault, reserved_faults}
use Rattle.protox_link_checks.specs.Uses.{default_faults, enum_itself, fault_at, faults_at, kind_named, message_faults, message_itself, type_faults, uses_of, wrong_message, wrong_type}
use Rattle.protox_link_fault.specs.declared.LinkFault.{LinkFault}
use Rattle.protox_link_fault.specs.declared.LinkFaultKind.{LinkFaultKind}
use Rattle.protox_link_fault.specs.declared.LinkFaultKind.TheVariants.{AlreadyDefined, EmptyRange, ExtensionsInProto3, FirstNotZero, ForImplementation, NoValue, NotInTable, ReservedAgain, ReservedName}
use Rattle.protox_link_fault.specs.declared.NumberFault.{NumberFault}
use Rattle.protox_name_tree.specs.Tree.{has_innermost, kind_at, number_of}
use Rattle.protox_names.specs.Names.{is_identifier, scopes}
use Rattle.protox_numbers.specs.Clashes.{clash_of, clashes_from, with_earlier, with_first}
use Rattle.protox_numbers.specs.Enums as of_enum
use Rattle.protox_numbers.specs.Enums.{begins_with_zero}
use Rattle.protox_numbers.specs.Message as of_message
use Rattle.protox_numbers.specs.Parts.{is_backward_enum_range, is_empty_extension_range, is_for_implementation}
use Rattle.protox_numbers.specs.declared.clash.Clash.{Clash}
use Rattle.protox_scopes.specs.Scopes.{resolve}
use Rattle.protox_scopes.specs.declared.kind.Wanted.TheVariants.{AType, Anything}
use Rattle.protox_spans.specs.Spans.{first_met_in}
use Rattle.protox_spans.specs.declared.span.Span.{Span}
use Rattle.protox_symbols.specs.Symbols.{Table}
use Rattle.protox_symbols.specs.Things.{table_of}
use Rattle.protox_views.specs.Views.{seen}
use Rattle.protox_walk.specs.Declarations.{Path, file_declarations, nth, text_of}
use Rattle.protox_walk.specs.Parts.{Declared, Described, Enum, Field, Message, Method, Oneof, Service, Value}
use Rattle.protox_walk.specs.Words.{name_of}

-- ---- parts that clash

clash_below : (counts : ℕ → ℕ → Bool) (part : ℕ) (met : Option ℕ) (bound : ℕ) → part < bound → All (λ (c : Clash). c.part < bound) (clash_of counts part met)
clash_below counts part None bound below = All-nil _
clash_below counts part (Some other) bound below = all_if (λ (c : Clash). c.part < bound) (counts part other) _ [] (one (λ (c : Clash). c.part < bound) (record { part = part; «with» = other }) below) (All-nil _)

clashes_below : (counts : ℕ → ℕ → Bool) (part : ℕ) (met : List (Option ℕ)) (bound : ℕ) → part + length met ≡ bound → All (λ (c : Clash). c.part < bound) (clashes_from counts part met)
clashes_below counts part [] bound is = All-nil _
clashes_below counts part (first ∷ more) bound is =
    All-append (λ (c : Clash). c.part < bound) (clash_of counts part first) (clashes_from counts (part + 1) more)
    (clash_below counts part first bound (omega (arith, is)))
    (clashes_below counts (part + 1) more bound (omega (arith, is)))

-- the parts that clash are of the list
module _ {A : Type 0} (spans : List Span) (span : A → Span) (xs : List A) where
  met : List (Option ℕ)
  met = map (first_met_in spans) (map span xs)

  pub with_first_below : All (λ (c : Clash). c.part < length xs) (with_first (map (first_met_in spans) (map span xs)))
  with_first_below = clashes_below (λ part other. true) 0 (map (first_met_in spans) (map span xs)) (length xs) (omega (arith, length-map (map span xs) (first_met_in spans) ∙ length-map xs span))

  pub with_earlier_below : All (λ (c : Clash). c.part < length xs) (with_earlier (map (first_met_in spans) (map span xs)))
  with_earlier_below = clashes_below (λ part other. nat_lt other part) 0 (map (first_met_in spans) (map span xs)) (length xs) (omega (arith, length-map (map span xs) (first_met_in spans) ∙ length-map xs span))

names_below : (names : List (List ℕ)) → All (λ (c : Clash). c.part < length names) (same_names names)
names_below names = clashes_below (λ part other. nat_lt other part) 0 (map (first_same names) names) (length names) (omega (arith, length-map names (first_same names)))

-- ---- one declaration

-- P holds of each fault that is told at a part of what is declared at this path.
module _ (P : LinkFault → Type 0) (file : ℕ) (path : Path) (part : Described) (told : (rest : Path) (kind : LinkFaultKind) → LeadsWithin part rest → P (record { file = file; path = path ++ rest; kind = kind })) where
  all_at : (tag : ℤ) (kinds : List LinkFaultKind) → LeadsWithin part (tag ∷ []) → All P (faults_at file path tag kinds)
  all_at tag [] leads = All-nil P
  all_at tag (kind ∷ more) leads = All-cons P (fault_at file path tag kind) (faults_at file path tag more) (told (tag ∷ []) kind leads) (all_at tag more leads)

  told_below : (tag : ℤ) (n : ℕ) (at : Path) (kind : LinkFaultKind) → LeadsWithin part (tag ∷ pos n ∷ at) → P (record { file = file; path = nth path tag n ++ at; kind = kind })
  told_below tag n at kind leads =
      subst (λ (p : Path). P (record { file = file; path = p; kind = kind })) (sym (append_assoc path (tag ∷ pos n ∷ []) at)) (told (tag ∷ pos n ∷ at) kind leads)

  all_clashes : (tag : ℤ) (at : Path) (how : NumberFault) (count : ℕ) → ((n : ℕ) → n < count → LeadsWithin part (tag ∷ pos n ∷ at)) → (clashes : List Clash) → All (λ (c : Clash). c.part < count) clashes → All P (numbers.clash_faults file path tag at how clashes)
  all_clashes tag at how count leads [] below = All-nil P
  all_clashes tag at how count leads (clash ∷ more) below =
      All-cons P (numbers.clash_fault file path tag at how clash) (numbers.clash_faults file path tag at how more)
      (told_below tag clash.part at _ (leads clash.part (All-head (λ (c : Clash). c.part < count) clash more below)))
      (all_clashes tag at how count leads more (All-tail (λ (c : Clash). c.part < count) clash more below))

  all_empty : {A : Type 0} (tag : ℤ) (is_empty : A → Bool) (count : ℕ) → ((n : ℕ) → n < count → LeadsWithin part (tag ∷ pos n ∷ [])) → (n : ℕ) (ranges : List A) → n + length ranges ≡ count → All P (empty_faults file path tag is_empty n ranges)
  all_empty tag is_empty count leads n [] is = All-nil P
  all_empty tag is_empty count leads n (range ∷ more) is =
      All-append P _ (empty_faults file path tag is_empty (n + 1) more)
      (all_if P (is_empty range) (empty_fault file path tag n ∷ []) [] (one P (empty_fault file path tag n) (told (tag ∷ pos n ∷ []) EmptyRange (leads n (omega (arith, is))))) (All-nil P))
      (all_empty tag is_empty count leads (n + 1) more (omega (arith, is)))

  all_again : (earlier : List (List ℕ)) (n : ℕ) (names : List (List ℕ)) → All P (again_faults file path earlier n names)
  all_again earlier n [] = All-nil P
  all_again earlier n (name ∷ more) =
      All-append P _ (again_faults file path (earlier ++ name ∷ []) (n + 1) more)
      (all_if P (is_among earlier name) (again_fault file path n ∷ []) [] (one P (again_fault file path n) (told (message_tag.NAME ∷ []) (ReservedAgain n) (ToName part))) (All-nil P))
      (all_again (earlier ++ name ∷ []) (n + 1) more)

  all_reserved : (tag : ℤ) (is_reserved : List ℕ → Bool) (count : ℕ) → ((n : ℕ) → n < count → LeadsWithin part (tag ∷ pos n ∷ message_tag.NAME ∷ [])) → (n : ℕ) (names : List (List ℕ)) → n + length names ≡ count → All P (reserved_faults file path tag is_reserved n names)
  all_reserved tag is_reserved count leads n [] is = All-nil P
  all_reserved tag is_reserved count leads n (name ∷ more) is =
      All-append P _ (reserved_faults file path tag is_reserved (n + 1) more)
      (all_if P (is_reserved name) (reserved_fault file path tag n ∷ []) [] (one P (reserved_fault file path tag n) (told_below tag n (message_tag.NAME ∷ []) ReservedName (leads n (omega (arith, is))))) (All-nil P))
      (all_reserved tag is_reserved count leads (n + 1) more (omega (arith, is)))

  module _ (t : Table) (sees packages : List Bool) where
    type_told : (tag : ℤ) (user : List ℕ) (name : Option (List ℕ)) → (is_some name ≡ true → LeadsWithin part (tag ∷ [])) → All P (type_faults t sees packages file path tag user name)
    type_told tag user None leads = All-nil P
    type_told tag user (Some name) leads = all_at tag (wrong_type name (kind_named t sees packages AType user name)) (leads refl)

    default_told : (user : List ℕ) (name default : Option (List ℕ)) → (is_some default ≡ true → LeadsWithin part (field_tag.DEFAULT_VALUE ∷ [])) → All P (default_faults t sees packages file path user name default)
    default_told user None default leads = All-nil P
    default_told user (Some name) None leads = All-nil P
    default_told user (Some name) (Some default) leads = all_at field_tag.DEFAULT_VALUE (wrong_default t (resolve (kind_at t.names) (seen t sees packages) AType name user) default) (leads refl)

    message_told : (tag : ℤ) (user : List ℕ) (name : Option (List ℕ)) → (is_some name ≡ true → LeadsWithin part (tag ∷ [])) → All P (message_faults t sees packages file path tag user name)
    message_told tag user None leads = All-nil P
    message_told tag user (Some name) leads = all_at tag (wrong_message name (kind_named t sees packages Anything user name)) (leads refl)

    clash_told : (number : Option ℕ) → All P (clash_faults t sees packages file path number)
    clash_told None = one P (fault_at file path message_tag.NAME NotInTable) (told (message_tag.NAME ∷ []) NotInTable (ToName part))
    clash_told (Some n) = all_if P (is_declared_at t sees packages file path n) [] (fault_at file path message_tag.NAME (AlreadyDefined n) ∷ []) (All-nil P) (one P (fault_at file path message_tag.NAME (AlreadyDefined n)) (told (message_tag.NAME ∷ []) (AlreadyDefined n) (ToName part)))

-- ---- what is wrong with it but for its name

module _ (P : LinkFault → Type 0) (file : ℕ) (path : Path) where
  abbrev IsToldAt : Described → Type 0
  IsToldAt part = (rest : Path) (kind : LinkFaultKind) → LeadsWithin part rest → P (record { file = file; path = path ++ rest; kind = kind })

  message_numbers_told : (m : DescriptorProto) → IsToldAt (Message m) → All P (numbers.message_number_faults file path m)
  message_numbers_told m told =
      let parts = out-DescriptorProto m in
      let of_fields = λ (how : NumberFault) (clashes : List Clash) (below : All (λ (c : Clash). c.part < length parts.field) clashes). all_clashes P file path (Message m) told message_tag.FIELD (field_tag.NUMBER ∷ []) how (length parts.field) (λ n below. ToNumberOfField m n below) clashes below in
      let of_reserved = λ (how : NumberFault) (clashes : List Clash) (below : All (λ (c : Clash). c.part < length parts.reserved_range) clashes). all_clashes P file path (Message m) told message_tag.RESERVED_RANGE [] how (length parts.reserved_range) (λ n below. ToReservedRange m n below) clashes below in
      let of_extension = λ (how : NumberFault) (clashes : List Clash) (below : All (λ (c : Clash). c.part < length parts.extension_range) clashes). all_clashes P file path (Message m) told message_tag.EXTENSION_RANGE [] how (length parts.extension_range) (λ n below. ToExtensionRange m n below) clashes below in
      All-append P (numbers.field_number_faults file path m) _
      (All-append P _ _ (of_fields _ (of_message.reused_numbers m) (with_earlier_below _ _ parts.field))
      (All-append P _ _ (of_fields _ (of_message.fields_in_reserved_ranges m) (with_first_below _ _ parts.field))
      (of_fields _ (of_message.fields_in_extension_ranges m) (with_first_below _ _ parts.field))))
      (All-append P (numbers.empty_ranges file path m) _
      (all_empty P file path (Message m) told message_tag.EXTENSION_RANGE is_empty_extension_range (length parts.extension_range) (λ n below. ToExtensionRange m n below) 0 parts.extension_range (omega arith))
      (All-append P _ _ (of_reserved _ (of_message.overlapping_reserved_ranges m) (with_earlier_below _ _ parts.reserved_range))
      (All-append P _ _ (of_extension _ (of_message.overlapping_extension_ranges m) (with_earlier_below _ _ parts.extension_range))
      (of_extension _ (of_message.extension_ranges_in_reserved m) (with_first_below _ _ parts.extension_range)))))

  enum_numbers_told : (e : EnumDescriptorProto) → IsToldAt (Enum e) → All P (numbers.enum_number_faults file path e)
  enum_numbers_told e told =
      All-append P (numbers.no_value file path e) _
      (all_if P _ (record { file = file; path = path ++ enum_tag.NAME ∷ []; kind = NoValue } ∷ []) [] (one P _ (told (enum_tag.NAME ∷ []) NoValue (ToName (Enum e)))) (All-nil P))
      (All-append P _ _
      (all_empty P file path (Enum e) told enum_tag.RESERVED_RANGE is_backward_enum_range (length e.reserved_range) (λ n below. ToRangeOfEnum e n below) 0 e.reserved_range (omega arith))
      (All-append P _ _
      (all_clashes P file path (Enum e) told enum_tag.VALUE (value_tag.NUMBER ∷ []) _ (length e.value) (λ n below. ToNumberOfValue e n below) (of_enum.values_in_reserved_ranges e) (with_first_below _ _ e.value))
      (all_clashes P file path (Enum e) told enum_tag.RESERVED_RANGE [] _ (length e.reserved_range) (λ n below. ToRangeOfEnum e n below) (of_enum.overlapping_enum_ranges e) (with_earlier_below _ _ e.reserved_range))))

  message_itself_told : (m : DescriptorProto) → IsToldAt (Message m) → All P (message_itself file path m)
  message_itself_told m told =
      let parts = out-DescriptorProto m in
      All-append P (numbers.message_number_faults file path m) _ (message_numbers_told m told)
      (All-append P (again_faults file path [] 0 parts.reserved_name) _
      (all_again P file path (Message m) told [] 0 parts.reserved_name)
      (all_reserved P file path (Message m) told message_tag.FIELD (is_among parts.reserved_name) (length parts.field) (λ n below. ToNameOfField m n below) 0 (map name_of_field parts.field) (omega (arith, length-map parts.field name_of_field))))

  enum_itself_told : (e : EnumDescriptorProto) → IsToldAt (Enum e) → All P (enum_itself file path e)
  enum_itself_told e told =
      All-append P (numbers.enum_number_faults file path e) _ (enum_numbers_told e told)
      (All-append P (again_faults file path [] 0 e.reserved_name) _
      (all_again P file path (Enum e) told [] 0 e.reserved_name)
      (all_reserved P file path (Enum e) told enum_tag.VALUE (is_among e.reserved_name) (length e.value) (λ n below. ToNameOfValue e n below) 0 (map name_of_value e.value) (omega (arith, length-map e.value name_of_value))))

  module _ (t : Table) (sees packages : List Bool) where
    uses_told : (user : List ℕ) (part : Described) → IsToldAt part → All P (uses_of t sees packages file path user part)
    uses_told user (Message m) told = message_itself_told m told
    uses_told user (Field f) told =
        All-append P (numbers.implementation_faults file path f ++ type_faults t sees packages file path field_tag.TYPE_NAME user f.type_name) _
        (All-append P (numbers.implementation_faults file path f) _
        (all_if P (is_for_implementation f) (record { file = file; path = path ++ field_tag.NUMBER ∷ []; kind = ForImplementation } ∷ []) [] (one P _ (told (field_tag.NUMBER ∷ []) ForImplementation (ToNumber f))) (All-nil P))
        (type_told P file path (Field f) told t sees packages field_tag.TYPE_NAME user f.type_name (λ is. ToType f is)))
        (All-append P (message_faults t sees packages file path field_tag.EXTENDEE user f.extendee) _
        (message_told P file path (Field f) told t sees packages field_tag.EXTENDEE user f.extendee (λ is. ToExtendee f is))
        (default_told P file path (Field f) told t sees packages user f.type_name f.default_value (λ is. ToDefault f is)))
    uses_told user (Oneof o) told = All-nil P
    uses_told user (Enum e) told = enum_itself_told e told
    uses_told user (Value v) told = All-nil P
    uses_told user (Service s) told = All-nil P
    uses_told user (Method m) told =
        All-append P (message_faults t sees packages file path method_tag.INPUT_TYPE user m.input_type) _
        (message_told P file path (Method m) told t sees packages method_tag.INPUT_TYPE user m.input_type (λ is. ToInput m is))
        (message_told P file path (Method m) told t sees packages method_tag.OUTPUT_TYPE user m.output_type (λ is. ToOutput m is))

-- ---- a file

module _ (number : ℕ) (file : FileDescriptorProto) where
  abbrev IsTold : LinkFault → Type 0
  IsTold = IsToldOfFile number file

  declared_told : (t : Table) (sees packages : List Bool) (d : Declared) → Contains (file_declarations file) d → All IsTold (declared_faults t sees packages number d)
  declared_told t sees packages d here =
      let told : (rest : Path) (kind : LinkFaultKind) → LeadsWithin d.part rest → IsTold (record { file = number; path = d.path ++ rest; kind = kind }) = λ rest kind leads. record { of_file = refl; leads = ToDeclared d rest here leads } in
      let own = text_of (name_of d.part) in
      let uses = uses_of t sees packages number d.path d.full_name d.part in
      all_if IsTold (is_identifier own) _ (fault_at number d.path message_tag.NAME (bad_name own) ∷ [])
      (all_if IsTold (has_innermost t.names (scopes d.full_name)) (clash_faults t sees packages number d.path (number_of t.names d.full_name) ++ uses) []
      (All-append IsTold (clash_faults t sees packages number d.path (number_of t.names d.full_name)) uses
      (clash_told IsTold number d.path d.part told t sees packages (number_of t.names d.full_name))
      (uses_told IsTold number d.path t sees packages d.full_name d.part told))
      (All-nil IsTold))
      (one IsTold (fault_at number d.path message_tag.NAME (bad_name own)) (told (message_tag.NAME ∷ []) (bad_name own) (ToName d.part)))

  first_value_told : (path : Path) (e : EnumDescriptorProto) (values : List EnumValueDescriptorProto) → (0 < length values → LeadsInto file (path ++ (enum_tag.VALUE ∷ pos 0 ∷ value_tag.NUMBER ∷ []))) → All IsTold (first_value_faults number path e values)
  first_value_told path e [] leads = All-nil IsTold
  first_value_told path e (value ∷ more) leads =
      all_if IsTold (begins_with_zero e) [] _ (All-nil IsTold)
      (one IsTold (record { file = number; path = nth path enum_tag.VALUE 0 ++ value_tag.NUMBER ∷ []; kind = FirstNotZero })
      (record { of_file = refl; leads = subst (LeadsInto file) (sym (append_assoc path (enum_tag.VALUE ∷ pos 0 ∷ []) (value_tag.NUMBER ∷ []))) (leads (omega arith)) }))

  extensions_told : (path : Path) (ranges : List ExtensionRange) → (0 < length ranges → LeadsInto file (path ++ (message_tag.EXTENSION_RANGE ∷ pos 0 ∷ []))) → All IsTold (extension_faults number path ranges)
  extensions_told path [] leads = All-nil IsTold
  extensions_told path (range ∷ more) leads =
      one IsTold (record { file = number; path = nth path message_tag.EXTENSION_RANGE 0; kind = ExtensionsInProto3 }) (record { of_file = refl; leads = leads (omega arith) })

  alike_told : (path : Path) (tag : ℤ) (count : ℕ) → ((n : ℕ) → n < count → LeadsInto file (path ++ (tag ∷ pos n ∷ message_tag.NAME ∷ []))) → (clashes : List Clash) → All (λ (c : Clash). c.part < count) clashes → All IsTold (alike_faults number path tag clashes)
  alike_told path tag count leads [] below = All-nil IsTold
  alike_told path tag count leads (clash ∷ more) below =
      All-cons IsTold (alike_fault number path tag clash) (alike_faults number path tag more)
      (record { of_file = refl; leads = subst (LeadsInto file) (sym (append_assoc path (tag ∷ pos clash.part ∷ []) (message_tag.NAME ∷ []))) (leads clash.part (All-head (λ (c : Clash). c.part < count) clash more below)) })
      (alike_told path tag count leads more (All-tail (λ (c : Clash). c.part < count) clash more below))

  part_told : (path : Path) (part : Described) → ((rest : Path) → LeadsWithin part rest → LeadsInto file (path ++ rest)) → All IsTold (part_faults number path part)
  part_told path (Message m) leads =
      let fields = (out-DescriptorProto m).field in
      let keys = map key_of_field fields in
      All-append IsTold (extension_faults number path (out-DescriptorProto m).extension_range) (alike_faults number path message_tag.FIELD (fields_alike m))
      (extensions_told path (out-DescriptorProto m).extension_range (λ some. leads _ (ToExtensionRange m 0 some)))
      (alike_told path message_tag.FIELD (length keys) (λ n below. leads _ (ToNameOfField m n (omega (arith, below, length-map fields key_of_field)))) (fields_alike m) (names_below keys))
  part_told path (Field f) leads = All-nil IsTold
  part_told path (Oneof o) leads = All-nil IsTold
  part_told path (Enum e) leads =
      let keys = map (key_of_value e) e.value in
      All-append IsTold (first_value_faults number path e e.value) (alike_faults number path enum_tag.VALUE (values_alike e))
      (first_value_told path e e.value (λ some. leads _ (ToNumberOfValue e 0 some)))
      (alike_told path enum_tag.VALUE (length keys) (λ n below. leads _ (ToNameOfValue e n (omega (arith, below, length-map e.value (key_of_value e))))) (values_alike e)
      (All-filter (is_of_two e.value) (λ (c : Clash). c.part < length keys) (same_names keys) (names_below keys)))
  part_told path (Value v) leads = All-nil IsTold
  part_told path (Service s) leads = All-nil IsTold
  part_told path (Method m) leads = All-nil IsTold

  proto3_told : All IsTold (proto3_faults number file)
  proto3_told =
      all_if IsTold (is_proto3 file) _ []
      (all_flat IsTold (faults_of_proto3 number) (file_declarations file)
      (All-weaker (Contains (file_declarations file)) (λ d. All IsTold (faults_of_proto3 number d)) (λ d here. part_told d.path d.part (λ rest leads. ToDeclared d rest here leads)) (file_declarations file) (All-contains_itself (file_declarations file))))
      (All-nil IsTold)

  package_told_at : (kinds : List LinkFaultKind) → is_some file.«package» ≡ true → All IsTold (faults_at number [] file_tag.PACKAGE kinds)
  package_told_at [] there = All-nil IsTold
  package_told_at (kind ∷ more) there = All-cons IsTold (fault_at number [] file_tag.PACKAGE kind) (faults_at number [] file_tag.PACKAGE more) (record { of_file = refl; leads = ToPackage there }) (package_told_at more there)

  package_told : (t : Table) (name : Option (List ℕ)) → file.«package» ≡ name → All IsTold (package_faults t number (text_of name))
  package_told t None is = All-nil IsTold
  package_told t (Some name) is = package_told_at (wrong_package t name) (ap is_some is)

  import_told_at : (i : ℕ) (kinds : List LinkFaultKind) → i < length file.dependency → All IsTold (faults_at number (file_tag.DEPENDENCY ∷ []) (pos i) kinds)
  import_told_at i [] below = All-nil IsTold
  import_told_at i (kind ∷ more) below = All-cons IsTold (fault_at number (file_tag.DEPENDENCY ∷ []) (pos i) kind) (faults_at number (file_tag.DEPENDENCY ∷ []) (pos i) more) (record { of_file = refl; leads = ToImport i below }) (import_told_at i more below)

  imports_told : (i : ℕ) (earlier : List ℕ) (imports : List (Option ℕ)) → i + length imports ≡ length file.dependency → All IsTold (import_faults_from number i earlier imports)
  imports_told i earlier [] is = All-nil IsTold
  imports_told i earlier (named ∷ more) is =
      All-append IsTold (faults_at number (file_tag.DEPENDENCY ∷ []) (pos i) (wrong_import earlier named)) _
      (import_told_at i (wrong_import earlier named) (omega (arith, is)))
      (imports_told (i + 1) _ more (omega (arith, is)))

  -- all that is wrong with the file of a list that has this number, but for its extensions
  told_itself : (all : List FileDescriptorProto) (sees packages : List Bool) → slice_get all number ≡ Some file → All IsTold (file_faults (table_of all) sees packages number (named_of (rows_of all) number) file)
  told_itself all sees packages is =
      let t = table_of all in
      let row : slice_get (rows_of all) number ≡ Some (row_by (number_of_file all) file) = slice_get-map (row_by (number_of_file all)) all number ∙ ap (option_map (row_by (number_of_file all))) is in
      let named : named_of (rows_of all) number ≡ map (number_of_file all) file.dependency = ap (λ (o : Option FileImports). option_map_or (λ (row : FileImports). row.named) o []) row in
      let as_many : length (named_of (rows_of all) number) ≡ length file.dependency = ap length named ∙ length-map file.dependency (number_of_file all) in
      All-append IsTold (import_faults number (named_of (rows_of all) number)) _
      (imports_told 0 [] (named_of (rows_of all) number) (omega (arith, as_many)))
      (All-append IsTold (package_faults t number (text_of file.«package»)) _
      (package_told t file.«package» refl)
      (All-append IsTold (flat_map (declared_faults t sees packages number) (file_declarations file)) _
      (all_flat IsTold (declared_faults t sees packages number) (file_declarations file)
      (All-weaker (Contains (file_declarations file)) (λ d. All IsTold (declared_faults t sees packages number d)) (λ d here. declared_told t sees packages d here) (file_declarations file) (All-contains_itself (file_declarations file))))
      proto3_told))

  -- all that is wrong with it
  pub file_told : (all : List FileDescriptorProto) (sees packages : List Bool) → slice_get all number ≡ Some file → All IsTold (faults_in all number sees packages file)
  file_told all sees packages is =
      let t = table_of all in
      All-append IsTold (file_faults t sees packages number (named_of (rows_of all) number) file) _ (told_itself all sees packages is) (extended_told number file t sees packages all)

-- ---- all files

module _ (all : List FileDescriptorProto) where
  stands_from : (number : ℕ) (file : FileDescriptorProto) → slice_get all number ≡ Some file → (fault : LinkFault) → IsToldOfFile number file fault → Stands all fault
  stands_from number file is fault told = record {
    file = file;
    is_there = ap (slice_get all) told.of_file ∙ is;
    leads = told.leads;
  }

  all_stand : (files : List FileDescriptorProto) (n : ℕ) (faults : List LinkFault) → ((k : ℕ) (file : FileDescriptorProto) → slice_get files k ≡ Some file → slice_get all (n + k) ≡ Some file) → AreFaults all n files faults → All (Stands all) faults
  all_stand [] n faults there told = subst (All (Stands all)) (sym (split all n [] faults told)) (All-nil (Stands all))
  all_stand (file ∷ more) n faults there told =
      let parts = split all n (file ∷ more) faults told in
      let here : slice_get all n ≡ Some file = subst (λ m. slice_get all m ≡ Some file) (omega arith) (there 0 file refl) in
      subst (All (Stands all)) (sym parts.5)
      (All-append (Stands all) (faults_in all n parts.0 parts.1 file) parts.2
      (All-weaker (IsToldOfFile n file) (Stands all) (stands_from n file here) (faults_in all n parts.0 parts.1 file) (file_told n file all parts.0 parts.1 here))
      (all_stand more (n + 1) parts.2 (λ k next is. subst (λ m. slice_get all m ≡ Some next) (omega arith) (there (suc k) next is)) parts.4))

  pub files_stand : (faults : List LinkFault) → AreFaults all 0 all faults → All (Stands all) faults
  files_stand faults told = all_stand all 0 faults (λ k file is. subst (λ m. slice_get all m ≡ Some file) (omega arith) is) told

  pub one_stands : (fault : LinkFault) (faults : List LinkFault) → faults ≡ fault ∷ [] → Stands all fault → All (Stands all) faults
  one_stands fault faults is stands = subst (All (Stands all)) (sym is) (one (Stands all) fault stands)

  -- ---- circles

  some_import : (imports : List (List ℕ)) (i : ℕ) (name : List ℕ) → slice_get imports i ≡ Some name → 0 < length imports
  some_import [] zero name is = cc
  some_import [] (suc i) name is = cc
  some_import (first ∷ more) i name is = omega arith

  circle_stands : (fault : LinkFault) (g i : ℕ) (name : List ℕ) → (file : Option FileDescriptorProto) → slice_get all fault.file ≡ file → option_and_then (λ (f : FileDescriptorProto). slice_get f.dependency i) file ≡ Some name → fault.path ≡ file_tag.DEPENDENCY ∷ [] → Stands all fault
  circle_stands fault g i name None is named at = cc
  circle_stands fault g i name (Some file) is named at = record {
    file = file;
    is_there = is;
    leads = subst (LeadsInto file) (sym at) (ToImports (some_import file.dependency i name named));
  }

  pub cycle_stands : (circle : List ℕ) (fault : LinkFault) → IsCycle (Imports all) circle → slice_get circle (length circle - 1) ≡ Some fault.file → fault.path ≡ file_tag.DEPENDENCY ∷ [] → Stands all fault
  cycle_stands [] fault cycle last at = absurd (omega (arith, cycle.some))
  cycle_stands (first ∷ more) fault cycle last at =
      let imports = cycle.around fault.file first last refl in
      circle_stands fault first imports.0 imports.1 (slice_get all fault.file) refl imports.2 at
