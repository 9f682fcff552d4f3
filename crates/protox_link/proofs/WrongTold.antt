-- What the list of faults has is wrong.
use Rattle.std.proofs.Common.{◌≡◌, ◌≢◌, ◌+◌, ◌==◌, ◌&&◌, inl, inr, is_some, ℕ, suc, Bool, true, false, cond, List, [], ◌∷◌, ◌++◌, length, map, Option, Some, None, refl, sym, ap, subst, ◌∙◌, arith, slice_get, ◌<◌, ◌≤◌, nat_lt, ◌⊎◌}
use Rattle.std.specs.Prelude.{ℤ, pos, All, Contains, bytes_eq, count_by}
use Rattle.std.specs.Cmp.Lexicographic.{pointwise}
use Rattle.std.specs.Cmp.Rules.{signed_items}
use Rattle.std.specs.List.{flat_map}
use Rattle.std.specs.Option.{option_map, option_map_or}
use Rattle.std.specs.Ordering.{int_eq}
use Rattle.std.proofs.lemmas.Bool.{and_from, false≢true}
use Rattle.std.proofs.lemmas.Bool.Decides.{Decides-eqb, Decides-ltb}
use Rattle.std.proofs.lemmas.List.{append_assoc}
use Rattle.std.proofs.lemmas.List.Elements.{All-append, All-contains, All-contains_itself, All-map, All-nil, All-weaker}
use Rattle.protox_alike.specs.Alike.{fields_alike, is_of_two, values_alike}
use Rattle.protox_alike.specs.Keys.{key_of_field, key_of_value}
use Rattle.protox_ast.proofs.Lemmas.{Among, contains-from}
use Rattle.protox_descriptor.specs.FieldDescriptorProto.{FieldDescriptorProto}
use Rattle.protox_descriptor.specs.declared.descriptor.DescriptorProto.{DescriptorProto, out-DescriptorProto}
use Rattle.protox_descriptor.specs.declared.descriptor.EnumDescriptorProto.{EnumDescriptorProto}
use Rattle.protox_descriptor.specs.declared.descriptor.FileDescriptorProto.{FileDescriptorProto}
use Rattle.protox_descriptor.specs.declared.descriptor.EnumValueDescriptorProto.{EnumValueDescriptorProto}
use Rattle.protox_descriptor.specs.declared.descriptor.descriptor_proto.ExtensionRange.{ExtensionRange}
use Rattle.protox_descriptor.specs.declared.tag.enum_.TheConstants as enum_tag
use Rattle.protox_descriptor.specs.declared.tag.enum_value.TheConstants as value_tag
use Rattle.protox_descriptor.specs.declared.tag.field.TheConstants as field_tag
use Rattle.protox_descriptor.specs.declared.tag.file.TheConstants as file_tag
use Rattle.protox_descriptor.specs.declared.tag.message.TheConstants as message_tag
use Rattle.protox_descriptor.specs.declared.tag.method.TheConstants as method_tag
use Rattle.protox_imports.specs.Rows.{named_of, rows_of}
use Rattle.protox_link.proofs.Extending.{extended_wrong}
use Rattle.protox_link.proofs.Telling.{all_flat, one}
use Rattle.protox_link.proofs.Passing.{all_filter}
use Rattle.protox_link.proofs.Seeing.{split}
use Rattle.protox_link.proofs.WrongClashes.{earlier_told, first_told}
use Rattle.protox_link.proofs.WrongImports.{all_imports_wrong, named_by}
use Rattle.protox_link.proofs.WrongNames.{again_wrong, own_wrong}
use Rattle.protox_link.specs.Closed.{is_message}
use Rattle.protox_link.specs.Files.{AreFaults, faults_in}
use Rattle.protox_link.specs.Seen.{IsSeenBy}
use Rattle.protox_link.specs.Wrong.{AsExtendee, AsInput, AsOutput, AsType, BeginsOtherwise, Clashes, Clashing, Declares, DefaultIsNoValue, DefaultIsNoWord, EnumReservesAgain, FieldIsReserved, FieldsAreAlike, HasBadName, HasDefault, HasExtensions, HasNameOfOther, HasNoName, HasNoNumber, HasNoNumbers, HasNoValue, IsBackward, IsNamed, IsNoPackage, IsNotThere, IsTaken, IsTooDeep, IsTooLong, MeetsEarlier, MeetsFirst, MessageHasDefault, MessageReservesAgain, OfExtensions, OfExtensionsReserved, OfExtensionsTwice, OfField, OfImport, OfName, OfNumber, OfPackage, OfProto3, OfReserved, OfReservedName, OfReservedTwice, OfReused, OfUse, OfValues, OfValuesTwice, StandsForNoMessage, StandsForNoType, StandsForNothing, Uses, ValueIsReserved, ValuesAreAlike, WrongInProto3, WrongLink, WrongName, WrongNumber, WrongPackage, WrongReserved, WrongUse, stands_for}
use Rattle.protox_link_checks.specs.Defaults.{has_value, is_word, wrong_default, wrong_default_of}
use Rattle.protox_link_checks.specs.Empty.{empty_fault, empty_faults}
use Rattle.protox_link_checks.specs.File.{file_faults}
use Rattle.protox_link_checks.specs.Faults.{bad_name, clash_faults, declared_faults, is_declared_at}
use Rattle.protox_link_checks.specs.Imports.{if_found, import_faults, is_package, no_packages, package_faults, wrong_length, wrong_package, wrong_package_found}
use Rattle.protox_link_checks.specs.Numbers as numbers
use Rattle.protox_link_checks.specs.Proto3.{alike_fault, alike_faults, extension_faults, faults_of_proto3, first_value_faults, is_proto3, part_faults}
use Rattle.protox_link_checks.specs.Reserved.{again_faults, name_of_field, name_of_value}
use Rattle.protox_link_checks.specs.Uses.{default_faults, enum_itself, fault_at, faults_at, message_faults, message_itself, type_faults, uses_of, wrong_message, wrong_type}
use Rattle.protox_link_fault.specs.declared.LinkFault.{LinkFault}
use Rattle.protox_link_fault.specs.declared.LinkFaultKind.{LinkFaultKind}
use Rattle.protox_link_fault.specs.declared.LinkFaultKind.TheVariants as told
use Rattle.protox_link_fault.specs.declared.NumberFault.{NumberFault}
use Rattle.protox_link_fault.specs.declared.NumberFault.TheVariants as how
use Rattle.protox_name_tree.specs.Tree.{has_innermost, kind_at, number_of}
use Rattle.protox_names.specs.Names.{is_identifier, scopes}
use Rattle.protox_numbers.specs.Clashes.{with_earlier, with_first}
use Rattle.protox_numbers.specs.Enums.{begins_with_zero, range_spans, value_spans}
use Rattle.protox_numbers.specs.Message.{extension_spans, field_spans, reserved_spans}
use Rattle.protox_numbers.specs.Parts.{is_backward_enum_range, is_empty_extension_range, is_for_implementation}
use Rattle.protox_numbers.specs.declared.clash.Clash.{Clash}
use Rattle.protox_scopes.specs.Scopes.{is_type}
use Rattle.protox_scopes.specs.declared.kind.Kind.{Kind}
use Rattle.protox_scopes.specs.declared.kind.Kind.TheVariants as kinds
use Rattle.protox_scopes.specs.declared.kind.Wanted.TheVariants.{AType, Anything}
use Rattle.protox_spans.specs.Spans.{first_met_in, meets}
use Rattle.protox_spans.specs.declared.span.Span.{Span}
use Rattle.protox_symbols.specs.Symbols.{Table}
use Rattle.protox_symbols.specs.Things.{table_of}
use Rattle.protox_symbols.specs.declared.thing.Thing.{Thing}
use Rattle.protox_views.specs.Views.{stands}
use Rattle.protox_walk.specs.Declarations.{Path, file_declarations, nth, text_of}
use Rattle.protox_walk.specs.Parts.{Declared, Described, Enum, Field, Message, Method, Oneof, Service, Value}
use Rattle.protox_walk.specs.Words.{name_of}

none_long : {A : Type 0} (xs : List A) → length xs ≡ 0 → xs ≡ []
none_long [] none = refl
none_long (x ∷ xs) none = absurd (omega (arith, none))

is_more : (a b : ℕ) → (a < b) ⊎ (b ≤ a)
is_more a b = grind arith

at_most : (a b : ℕ) → nat_lt a b ≡ false → b ≤ a
at_most a b not = elim (is_more a b) [
  | inl more ↦ absurd (false≢true (sym not ∙ (Decides-ltb a b).1 more))
  | inr less ↦ less
]

-- ---- packages

module _ (t : Table) (name : List ℕ) where
  abbrev WrongOf : LinkFaultKind → Type 0
  WrongOf = WrongPackage t name

  no_package : (around : List ℕ) (n : ℕ) (b : Bool) → stands t name ≡ true → Contains (name ∷ scopes name) around → number_of t.names around ≡ Some n → is_package (kind_at t.names n) ≡ b → All (λ m. WrongOf (told.NotAPackage m)) (cond b [] (n ∷ []))
  no_package around n true there has is not = All-nil _
  no_package around n false there has is not = one (λ m. WrongOf (told.NotAPackage m)) n (IsNoPackage around n there has is not)

  around_wrong : (around : List ℕ) (o : Option ℕ) → stands t name ≡ true → Contains (name ∷ scopes name) around → number_of t.names around ≡ o → All (λ m. WrongOf (told.NotAPackage m)) (if_found t o)
  around_wrong around None there has is = All-nil _
  around_wrong around (Some n) there has is = no_package around n (is_package (kind_at t.names n)) there has is refl

  all_around_wrong : (names : List (List ℕ)) → stands t name ≡ true → ((around : List ℕ) → Among names around → Contains (name ∷ scopes name) around) → All (λ m. WrongOf (told.NotAPackage m)) (no_packages t names)
  all_around_wrong [] there has = All-nil _
  all_around_wrong (around ∷ more) there has =
      All-append (λ m. WrongOf (told.NotAPackage m)) (if_found t (number_of t.names around)) (no_packages t more)
      (around_wrong around (number_of t.names around) there (has around (inl refl)) refl)
      (all_around_wrong more there (λ next among. has next (inr among)))

  length_wrong : (long deep : Bool) → nat_lt 511 (length name) ≡ long → nat_lt 100 (count_by (λ byte. byte == 46) name) ≡ deep → All WrongOf (cond long (told.LongPackage ∷ []) (cond deep (told.DeepPackage ∷ []) []))
  length_wrong true deep is_long is_deep = one WrongOf told.LongPackage (IsTooLong ((Decides-ltb 511 (length name)).0 is_long))
  length_wrong false true is_long is_deep = one WrongOf told.DeepPackage (IsTooDeep (at_most 511 (length name) is_long) ((Decides-ltb 100 (count_by (λ byte. byte == 46) name)).0 is_deep))
  length_wrong false false is_long is_deep = All-nil _

  found_wrong : (o : Option ℕ) → number_of t.names name ≡ o → All WrongOf (wrong_package_found t name o)
  found_wrong None is = one WrongOf told.BadName (IsNotThere is)
  found_wrong (Some n) is =
      All-map WrongOf told.NotAPackage (no_packages t (name ∷ scopes name))
      (all_around_wrong (name ∷ scopes name) (ap is_some is) (λ around among. contains-from (name ∷ scopes name) around among))

package_wrong : (t : Table) (name : List ℕ) → All (λ kind. (name ≢ []) × WrongPackage t name kind) (wrong_package t name)
package_wrong t [] = All-nil _
package_wrong t (byte ∷ rest) =
    let name = byte ∷ rest in
    All-weaker (WrongPackage t name) (λ kind. (name ≢ []) × WrongPackage t name kind) (λ kind wrong. ((λ empty. cc), wrong)) _
    (All-append (WrongPackage t name) (wrong_length name) _
    (length_wrong t name (nat_lt 511 (length name)) (nat_lt 100 (count_by (λ byte. byte == 46) name)) refl refl)
    (found_wrong t name (number_of t.names name) refl))

-- ---- numbers

-- P holds of what is told at a part of what is declared at this path.
module _ (P : LinkFault → Type 0) (file : ℕ) (path : Path) where
  abbrev IsAt : Path → LinkFaultKind → Type 0
  IsAt rest kind = P (record { file = file; path = path ++ rest; kind = kind })

  -- the same of each number that is wrong
  abbrev AreNumbersAt : Described → Type 0
  AreNumbersAt part = (rest : Path) (kind : LinkFaultKind) → WrongNumber part rest kind → IsAt rest kind

  clashes_wrong : (part : Described) (fault : NumberFault) (tag : ℤ) (at : Path) (clashes : List Clash) → AreNumbersAt part → All (Clashes part fault tag at) clashes → All P (numbers.clash_faults file path tag at fault clashes)
  clashes_wrong part fault tag at clashes each are =
      All-map P (numbers.clash_fault file path tag at fault) clashes
      (All-weaker (Clashes part fault tag at) (λ clash. P (numbers.clash_fault file path tag at fault clash))
      (λ clash is. subst (λ (p : Path). P (record { file = file; path = p; kind = told.Clash fault clash.«with» })) (sym (append_assoc path (tag ∷ pos clash.part ∷ []) at)) (each (tag ∷ pos clash.part ∷ at) (told.Clash fault clash.«with») (Clashing part fault tag at clash is)))
      clashes are)

  -- with the first that a part meets, and with an earlier one
  first_wrong : (part : Described) (fault : NumberFault) (tag : ℤ) (at : Path) (spans others : List Span) → AreNumbersAt part → ((clash : Clash) → MeetsFirst meets spans others clash → Clashes part fault tag at clash) → All P (numbers.clash_faults file path tag at fault (with_first (map (first_met_in others) spans)))
  first_wrong part fault tag at spans others each is =
      clashes_wrong part fault tag at _ each (All-weaker (MeetsFirst meets spans others) (Clashes part fault tag at) is _ (first_told meets spans others))

  earlier_wrong : (part : Described) (fault : NumberFault) (tag : ℤ) (at : Path) (spans : List Span) → AreNumbersAt part → ((clash : Clash) → MeetsEarlier meets spans clash → Clashes part fault tag at clash) → All P (numbers.clash_faults file path tag at fault (with_earlier (map (first_met_in spans) spans)))
  earlier_wrong part fault tag at spans each is =
      clashes_wrong part fault tag at _ each (All-weaker (MeetsEarlier meets spans) (Clashes part fault tag at) is _ (earlier_told meets spans))

  empty_wrong : {A : Type 0} (tag : ℤ) (is_empty : A → Bool) (i : ℕ) (range : A) (b : Bool) → is_empty range ≡ b → (is_empty range ≡ true → IsAt (tag ∷ pos i ∷ []) told.EmptyRange) → All P (cond b (empty_fault file path tag i ∷ []) [])
  empty_wrong tag is_empty i range true is each = one P (empty_fault file path tag i) (each is)
  empty_wrong tag is_empty i range false is each = All-nil P

  ranges_wrong : {A : Type 0} (tag : ℤ) (is_empty : A → Bool) (i : ℕ) (ranges : List A) → ((k m : ℕ) (range : A) → m ≡ i + k → slice_get ranges k ≡ Some range → is_empty range ≡ true → IsAt (tag ∷ pos m ∷ []) told.EmptyRange) → All P (empty_faults file path tag is_empty i ranges)
  ranges_wrong tag is_empty i [] each = All-nil P
  ranges_wrong tag is_empty i (range ∷ more) each =
      All-append P _ (empty_faults file path tag is_empty (i + 1) more)
      (empty_wrong tag is_empty i range (is_empty range) refl (each 0 i range (omega arith) refl))
      (ranges_wrong tag is_empty (i + 1) more (λ k m next same is. each (suc k) m next (omega (arith, same)) is))

  message_wrong : (m : DescriptorProto) → AreNumbersAt (Message m) → All P (numbers.message_number_faults file path m)
  message_wrong m each =
      All-append P (numbers.field_number_faults file path m) _
      (All-append P _ _ (earlier_wrong (Message m) how.Reused message_tag.FIELD (field_tag.NUMBER ∷ []) (field_spans m) each (OfReused m))
      (All-append P _ _ (first_wrong (Message m) how.Reserved message_tag.FIELD (field_tag.NUMBER ∷ []) (field_spans m) (reserved_spans m) each (OfReserved m))
      (first_wrong (Message m) how.ForExtensions message_tag.FIELD (field_tag.NUMBER ∷ []) (field_spans m) (extension_spans m) each (OfExtensions m))))
      (All-append P (numbers.empty_ranges file path m) _
      (ranges_wrong message_tag.EXTENSION_RANGE is_empty_extension_range 0 (out-DescriptorProto m).extension_range
      (λ k i range same is empty. each (message_tag.EXTENSION_RANGE ∷ pos i ∷ []) told.EmptyRange (HasNoNumbers m i range (subst (λ j. slice_get (out-DescriptorProto m).extension_range j ≡ Some range) (omega (arith, same)) is) empty)))
      (All-append P _ _ (earlier_wrong (Message m) how.ReservedTwice message_tag.RESERVED_RANGE [] (reserved_spans m) each (OfReservedTwice m))
      (All-append P _ _ (earlier_wrong (Message m) how.ExtensionsTwice message_tag.EXTENSION_RANGE [] (extension_spans m) each (OfExtensionsTwice m))
      (first_wrong (Message m) how.ExtensionsReserved message_tag.EXTENSION_RANGE [] (extension_spans m) (reserved_spans m) each (OfExtensionsReserved m)))))

  no_value_wrong : (e : EnumDescriptorProto) (b : Bool) → (length e.value == 0) ≡ b → AreNumbersAt (Enum e) → All P (cond b (record { file = file; path = path ++ enum_tag.NAME ∷ []; kind = told.NoValue } ∷ []) [])
  no_value_wrong e true is each =
      one P (record { file = file; path = path ++ enum_tag.NAME ∷ []; kind = told.NoValue }) (each (enum_tag.NAME ∷ []) told.NoValue (HasNoValue e (none_long e.value ((Decides-eqb (length e.value) 0).0 is))))
  no_value_wrong e false is each = All-nil P

  enum_wrong : (e : EnumDescriptorProto) → AreNumbersAt (Enum e) → All P (numbers.enum_number_faults file path e)
  enum_wrong e each =
      All-append P (numbers.no_value file path e) _
      (no_value_wrong e (length e.value == 0) refl each)
      (All-append P _ _
      (ranges_wrong enum_tag.RESERVED_RANGE is_backward_enum_range 0 e.reserved_range
      (λ k i range same is empty. each (enum_tag.RESERVED_RANGE ∷ pos i ∷ []) told.EmptyRange (IsBackward e i range (subst (λ j. slice_get e.reserved_range j ≡ Some range) (omega (arith, same)) is) empty)))
      (All-append P _ _
      (first_wrong (Enum e) how.ValueReserved enum_tag.VALUE (value_tag.NUMBER ∷ []) (value_spans e) (range_spans e) each (OfValues e))
      (earlier_wrong (Enum e) how.ValuesReservedTwice enum_tag.RESERVED_RANGE [] (range_spans e) each (OfValuesTwice e))))

  field_wrong : (f : FieldDescriptorProto) (b : Bool) → is_for_implementation f ≡ b → AreNumbersAt (Field f) → All P (cond b (record { file = file; path = path ++ field_tag.NUMBER ∷ []; kind = told.ForImplementation } ∷ []) [])
  field_wrong f true is each =
      one P (record { file = file; path = path ++ field_tag.NUMBER ∷ []; kind = told.ForImplementation }) (each (field_tag.NUMBER ∷ []) told.ForImplementation (IsTaken f is))
  field_wrong f false is each = All-nil P

  -- ---- reserved names

  -- P holds of each reserved name that is wrong.
  abbrev AreNamesAt : Described → Type 0
  AreNamesAt part = (rest : Path) (kind : LinkFaultKind) → WrongReserved part rest kind → IsAt rest kind

  message_itself_wrong : (m : DescriptorProto) → AreNumbersAt (Message m) → AreNamesAt (Message m) → All P (message_itself file path m)
  message_itself_wrong m of_number of_name =
      let parts = out-DescriptorProto m in
      All-append P (numbers.message_number_faults file path m) _ (message_wrong m of_number)
      (All-append P (again_faults file path [] 0 parts.reserved_name) _
      (again_wrong P file path parts.reserved_name (λ i earlier name is before same. of_name (message_tag.NAME ∷ []) (told.ReservedAgain i) (MessageReservesAgain m i earlier name is before same)))
      (own_wrong P file path message_tag.FIELD name_of_field parts.reserved_name parts.field (λ i f is has. of_name (message_tag.FIELD ∷ pos i ∷ message_tag.NAME ∷ []) told.ReservedName (FieldIsReserved m i f is has))))

  enum_itself_wrong : (e : EnumDescriptorProto) → AreNumbersAt (Enum e) → AreNamesAt (Enum e) → All P (enum_itself file path e)
  enum_itself_wrong e of_number of_name =
      All-append P (numbers.enum_number_faults file path e) _ (enum_wrong e of_number)
      (All-append P (again_faults file path [] 0 e.reserved_name) _
      (again_wrong P file path e.reserved_name (λ i earlier name is before same. of_name (message_tag.NAME ∷ []) (told.ReservedAgain i) (EnumReservesAgain e i earlier name is before same)))
      (own_wrong P file path enum_tag.VALUE name_of_value e.reserved_name e.value (λ i v is has. of_name (enum_tag.VALUE ∷ pos i ∷ message_tag.NAME ∷ []) told.ReservedName (ValueIsReserved e i v is has))))

  -- ---- names that are used

  module _ (t : Table) (sees packages : List Bool) (user : List ℕ) where
    abbrev WrongAt : Described → ℤ → LinkFaultKind → Type 0
    WrongAt part = WrongUse t sees packages user part

    -- P holds of each use that is wrong.
    abbrev AreUsesAt : Described → Type 0
    AreUsesAt part = (tag : ℤ) (kind : LinkFaultKind) → WrongAt part tag kind → IsAt (tag ∷ []) kind

    no_type : (part : Described) (tag : ℤ) (name : List ℕ) (n : ℕ) (b : Bool) → Uses part tag AType name → stands_for t sees packages user AType name ≡ Some n → is_type (kind_at t.names n) ≡ b → All (WrongAt part tag) (cond b [] (told.NotAType name ∷ []))
    no_type part tag name n true uses is not = All-nil _
    no_type part tag name n false uses is not = one (WrongAt part tag) (told.NotAType name) (StandsForNoType tag name n uses is not)

    type_wrong : (part : Described) (tag : ℤ) (name : List ℕ) (o : Option ℕ) → Uses part tag AType name → stands_for t sees packages user AType name ≡ o → All (WrongAt part tag) (wrong_type name (option_map (kind_at t.names) o))
    type_wrong part tag name None uses is = one (WrongAt part tag) (told.NotDefined name) (StandsForNothing tag AType name uses is)
    type_wrong part tag name (Some n) uses is = no_type part tag name n (is_type (kind_at t.names n)) uses is refl

    no_message : (part : Described) (tag : ℤ) (name : List ℕ) (n : ℕ) (k : Kind) → Uses part tag Anything name → stands_for t sees packages user Anything name ≡ Some n → kind_at t.names n ≡ k → All (WrongAt part tag) (wrong_message name (Some k))
    no_message part tag name n kinds.Message uses is not = All-nil _
    no_message part tag name n kinds.Enum uses is not = one (WrongAt part tag) (told.NotAMessage name) (StandsForNoMessage tag name n uses is (ap is_message not))
    no_message part tag name n kinds.Service uses is not = one (WrongAt part tag) (told.NotAMessage name) (StandsForNoMessage tag name n uses is (ap is_message not))
    no_message part tag name n kinds.Package uses is not = one (WrongAt part tag) (told.NotAMessage name) (StandsForNoMessage tag name n uses is (ap is_message not))
    no_message part tag name n kinds.Member uses is not = one (WrongAt part tag) (told.NotAMessage name) (StandsForNoMessage tag name n uses is (ap is_message not))

    named_wrong : (part : Described) (tag : ℤ) (name : List ℕ) (o : Option ℕ) → Uses part tag Anything name → stands_for t sees packages user Anything name ≡ o → All (WrongAt part tag) (wrong_message name (option_map (kind_at t.names) o))
    named_wrong part tag name None uses is = one (WrongAt part tag) (told.NotDefined name) (StandsForNothing tag Anything name uses is)
    named_wrong part tag name (Some n) uses is = no_message part tag name n (kind_at t.names n) uses is refl

    all_wrong_at : (part : Described) (tag : ℤ) (kinds : List LinkFaultKind) → AreUsesAt part → All (WrongAt part tag) kinds → All P (faults_at file path tag kinds)
    all_wrong_at part tag kinds each wrong = All-map P (fault_at file path tag) kinds (All-weaker (WrongAt part tag) (λ kind. P (fault_at file path tag kind)) (each tag) kinds wrong)

    types_wrong : (part : Described) (tag : ℤ) (name : Option (List ℕ)) → AreUsesAt part → ((own : List ℕ) → name ≡ Some own → Uses part tag AType own) → All P (type_faults t sees packages file path tag user name)
    types_wrong part tag None each uses = All-nil P
    types_wrong part tag (Some name) each uses = all_wrong_at part tag _ each (type_wrong part tag name (stands_for t sees packages user AType name) (uses name refl) refl)

    messages_wrong : (part : Described) (tag : ℤ) (name : Option (List ℕ)) → AreUsesAt part → ((own : List ℕ) → name ≡ Some own → Uses part tag Anything own) → All P (message_faults t sees packages file path tag user name)
    messages_wrong part tag None each uses = All-nil P
    messages_wrong part tag (Some name) each uses = all_wrong_at part tag _ each (named_wrong part tag name (stands_for t sees packages user Anything name) (uses name refl) refl)

    value_wrong : (part : Described) (name default : List ℕ) (n : ℕ) (word there : Bool) → HasDefault part name default → stands_for t sees packages user AType name ≡ Some n → kind_at t.names n ≡ kinds.Enum → is_word default ≡ word → has_value t n default ≡ there → All (WrongAt part field_tag.DEFAULT_VALUE) (cond word (cond there [] (told.NoSuchValue n ∷ [])) (told.BadDefault ∷ []))
    value_wrong part name default n true true has is same word there = All-nil _
    value_wrong part name default n true false has is same word there = one (WrongAt part field_tag.DEFAULT_VALUE) (told.NoSuchValue n) (DefaultIsNoValue name default n has is same word there)
    value_wrong part name default n false there has is same word is_there = one (WrongAt part field_tag.DEFAULT_VALUE) told.BadDefault (DefaultIsNoWord name default n has is same word)

    default_wrong_by : (part : Described) (name default : List ℕ) (n : ℕ) (k : Kind) → HasDefault part name default → stands_for t sees packages user AType name ≡ Some n → kind_at t.names n ≡ k → All (WrongAt part field_tag.DEFAULT_VALUE) (wrong_default_of t k n default)
    default_wrong_by part name default n kinds.Message has is same = one (WrongAt part field_tag.DEFAULT_VALUE) told.MessageDefault (MessageHasDefault name default n has is same)
    default_wrong_by part name default n kinds.Enum has is same = value_wrong part name default n (is_word default) (has_value t n default) has is same refl refl
    default_wrong_by part name default n kinds.Service has is same = All-nil _
    default_wrong_by part name default n kinds.Package has is same = All-nil _
    default_wrong_by part name default n kinds.Member has is same = All-nil _

    default_wrong_of : (part : Described) (name default : List ℕ) (o : Option ℕ) → HasDefault part name default → stands_for t sees packages user AType name ≡ o → All (WrongAt part field_tag.DEFAULT_VALUE) (wrong_default t o default)
    default_wrong_of part name default None has is = All-nil _
    default_wrong_of part name default (Some n) has is = default_wrong_by part name default n (kind_at t.names n) has is refl

    defaults_wrong : (part : Described) (name default : Option (List ℕ)) → AreUsesAt part → ((own value : List ℕ) → name ≡ Some own → default ≡ Some value → HasDefault part own value) → All P (default_faults t sees packages file path user name default)
    defaults_wrong part None default each has = All-nil P
    defaults_wrong part (Some name) None each has = All-nil P
    defaults_wrong part (Some name) (Some default) each has = all_wrong_at part field_tag.DEFAULT_VALUE _ each (default_wrong_of part name default (stands_for t sees packages user AType name) (has name default refl refl) refl)

    uses_wrong : (part : Described) → AreNumbersAt part → AreNamesAt part → AreUsesAt part → All P (uses_of t sees packages file path user part)
    uses_wrong (Message m) of_number of_name of_use = message_itself_wrong m of_number of_name
    uses_wrong (Field f) of_number of_name of_use =
        All-append P (numbers.implementation_faults file path f ++ type_faults t sees packages file path field_tag.TYPE_NAME user f.type_name) _
        (All-append P (numbers.implementation_faults file path f) _
        (field_wrong f (is_for_implementation f) refl of_number)
        (types_wrong (Field f) field_tag.TYPE_NAME f.type_name of_use (AsType f)))
        (All-append P (message_faults t sees packages file path field_tag.EXTENDEE user f.extendee) _
        (messages_wrong (Field f) field_tag.EXTENDEE f.extendee of_use (AsExtendee f))
        (defaults_wrong (Field f) f.type_name f.default_value of_use (OfField f)))
    uses_wrong (Oneof o) of_number of_name of_use = All-nil P
    uses_wrong (Enum e) of_number of_name of_use = enum_itself_wrong e of_number of_name
    uses_wrong (Value v) of_number of_name of_use = All-nil P
    uses_wrong (Service s) of_number of_name of_use = All-nil P
    uses_wrong (Method m) of_number of_name of_use =
        All-append P (message_faults t sees packages file path method_tag.INPUT_TYPE user m.input_type) _
        (messages_wrong (Method m) method_tag.INPUT_TYPE m.input_type of_use (AsInput m))
        (messages_wrong (Method m) method_tag.OUTPUT_TYPE m.output_type of_use (AsOutput m))

-- ---- names that are declared

module _ (t : Table) (sees packages : List Bool) (file : ℕ) (d : Declared) where
  abbrev WrongNamed : LinkFaultKind → Type 0
  WrongNamed = WrongName t file d

  bad : (name : List ℕ) (b : Bool) → text_of (name_of d.part) ≡ name → is_identifier name ≡ false → (length name == 0) ≡ b → WrongNamed (cond b told.MissingName told.BadName)
  bad name true is not long = HasNoName (is ∙ none_long name ((Decides-eqb (length name) 0).0 long))
  bad name false is not long = HasBadName (λ empty. absurd (false≢true (sym long ∙ ap (λ (ns : List ℕ). length ns == 0) (sym is ∙ empty)))) (ap is_identifier is ∙ not)

  -- What the table has is the declaration itself.
  is_itself : (n : ℕ) → slice_get t.things n ≡ Some (record { file = file; path = d.path }) → is_declared_at t sees packages file d.path n ≡ true
  is_itself n is =
      ap (λ (o : Option Thing). option_map_or (λ (thing : Thing). thing.file == file && pointwise int_eq thing.path d.path) o false) is
      ∙ and_from (file == file) (pointwise int_eq d.path d.path) ((Decides-eqb file file).1 refl) ((signed_items d.path d.path).1 refl)

  module _ (P : LinkFault → Type 0) (each : (kind : LinkFaultKind) → WrongNamed kind → P (fault_at file d.path message_tag.NAME kind)) where
    other_wrong : (n : ℕ) (b : Bool) → IsNamed t d → number_of t.names d.full_name ≡ Some n → is_declared_at t sees packages file d.path n ≡ b → All P (cond b [] (fault_at file d.path message_tag.NAME (told.AlreadyDefined n) ∷ []))
    other_wrong n true named is not = All-nil P
    other_wrong n false named is not =
        one P (fault_at file d.path message_tag.NAME (told.AlreadyDefined n)) (each (told.AlreadyDefined n) (HasNameOfOther n named is (λ itself. absurd (false≢true (sym not ∙ is_itself n itself)))))

    clash_wrong : (o : Option ℕ) → IsNamed t d → number_of t.names d.full_name ≡ o → All P (clash_faults t sees packages file d.path o)
    clash_wrong None named is = one P (fault_at file d.path message_tag.NAME told.NotInTable) (each told.NotInTable (HasNoNumber named is))
    clash_wrong (Some n) named is = other_wrong n (is_declared_at t sees packages file d.path n) named is refl

    abbrev uses : List LinkFault
    uses = uses_of t sees packages file d.path d.full_name d.part

    inner_wrong : (b : Bool) → is_identifier (text_of (name_of d.part)) ≡ true → has_innermost t.names (scopes d.full_name) ≡ b → (IsNamed t d → All P uses) → All P (cond b (clash_faults t sees packages file d.path (number_of t.names d.full_name) ++ uses) [])
    inner_wrong true good there rest =
        let named : IsNamed t d = record { identifier = good; scope = there } in
        All-append P (clash_faults t sees packages file d.path (number_of t.names d.full_name)) uses (clash_wrong (number_of t.names d.full_name) named refl) (rest named)
    inner_wrong false good there rest = All-nil P

    name_wrong : (b : Bool) → is_identifier (text_of (name_of d.part)) ≡ b → (IsNamed t d → All P uses)
        → All P (cond b (cond (has_innermost t.names (scopes d.full_name)) (clash_faults t sees packages file d.path (number_of t.names d.full_name) ++ uses) []) (fault_at file d.path message_tag.NAME (bad_name (text_of (name_of d.part))) ∷ []))
    name_wrong true good rest = inner_wrong (has_innermost t.names (scopes d.full_name)) good refl rest
    name_wrong false not rest =
        let name = text_of (name_of d.part) in
        one P (fault_at file d.path message_tag.NAME (bad_name name)) (each (bad_name name) (bad name (length name == 0) refl not refl))

-- ---- a file

module _ (files : List FileDescriptorProto) (n : ℕ) (file : FileDescriptorProto) (here : slice_get files n ≡ Some file) where
  abbrev table : Table
  table = table_of files

  package_told : (name : Option (List ℕ)) → file.«package» ≡ name → All (WrongLink files) (package_faults table n (text_of name))
  package_told None is = All-nil _
  package_told (Some name) is =
      All-map (WrongLink files) (fault_at n [] file_tag.PACKAGE) (wrong_package table name)
      (All-weaker (λ kind. (name ≢ []) × WrongPackage table name kind) (λ kind. WrongLink files (fault_at n [] file_tag.PACKAGE kind)) (λ kind wrong. OfPackage n file name kind here is wrong.0 wrong.1) _
      (package_wrong table name))

  declared_told : (sees packages : List Bool) → IsSeenBy files n sees packages → (d : Declared) → Contains (file_declarations file) d → All (WrongLink files) (declared_faults table sees packages n d)
  declared_told sees packages seen d has =
      let declares : Declares files n d = record { file = file; is_there = here; declares = has } in
      name_wrong table sees packages n d (WrongLink files) (λ kind wrong. OfName n d kind declares wrong) (is_identifier (text_of (name_of d.part))) refl
      (λ named. uses_wrong (WrongLink files) n d.path table sees packages d.full_name d.part
      (λ rest kind wrong. OfNumber n d rest kind declares named wrong)
      (λ rest kind wrong. OfReservedName n d rest kind declares named wrong)
      (λ tag kind wrong. OfUse n d sees packages tag kind declares named seen wrong))

  -- ---- proto3

  module _ (is : is_proto3 file ≡ true) (d : Declared) (declares : Contains (file_declarations file) d) where
    abbrev IsWrongAt : Path → LinkFaultKind → Type 0
    IsWrongAt rest kind = WrongLink files (record { file = n; path = d.path ++ rest; kind = kind })

    in_proto3 : (rest : Path) (kind : LinkFaultKind) → WrongInProto3 d.part rest kind → IsWrongAt rest kind
    in_proto3 rest kind wrong = OfProto3 n d rest kind (record { file = file; is_there = here; declares = declares }) is wrong

    first_wrong_at : (e : EnumDescriptorProto) (values : List EnumValueDescriptorProto) (b : Bool) → begins_with_zero e ≡ b → ((v : EnumValueDescriptorProto) → slice_get values 0 ≡ Some v → begins_with_zero e ≡ false → IsWrongAt (enum_tag.VALUE ∷ pos 0 ∷ value_tag.NUMBER ∷ []) told.FirstNotZero) → All (WrongLink files) (first_value_faults n d.path e values)
    first_wrong_at e [] b is_zero each = All-nil _
    first_wrong_at e (first ∷ more) true is_zero each =
        subst (λ b. All (WrongLink files) (cond b [] (record { file = n; path = nth d.path enum_tag.VALUE 0 ++ value_tag.NUMBER ∷ []; kind = told.FirstNotZero } ∷ []))) (sym is_zero) (All-nil _)
    first_wrong_at e (first ∷ more) false is_zero each =
        subst (λ b. All (WrongLink files) (cond b [] (record { file = n; path = nth d.path enum_tag.VALUE 0 ++ value_tag.NUMBER ∷ []; kind = told.FirstNotZero } ∷ []))) (sym is_zero)
        (one (WrongLink files) _ (subst (λ (p : Path). WrongLink files (record { file = n; path = p; kind = told.FirstNotZero })) (sym (append_assoc d.path (enum_tag.VALUE ∷ pos 0 ∷ []) (value_tag.NUMBER ∷ []))) (each first refl is_zero)))

    extensions_wrong_at : (ranges : List ExtensionRange) → ((range : ExtensionRange) → slice_get ranges 0 ≡ Some range → IsWrongAt (message_tag.EXTENSION_RANGE ∷ pos 0 ∷ []) told.ExtensionsInProto3) → All (WrongLink files) (extension_faults n d.path ranges)
    extensions_wrong_at [] each = All-nil _
    extensions_wrong_at (range ∷ more) each = one (WrongLink files) _ (each range refl)

    alike_wrong : (P : Clash → Type 0) (tag : ℤ) (clashes : List Clash) → ((clash : Clash) → P clash → IsWrongAt (tag ∷ pos clash.part ∷ message_tag.NAME ∷ []) (told.Alike clash.«with»)) → All P clashes → All (WrongLink files) (alike_faults n d.path tag clashes)
    alike_wrong P tag clashes each are =
        All-map (WrongLink files) (alike_fault n d.path tag) clashes
        (All-weaker P (λ clash. WrongLink files (alike_fault n d.path tag clash))
        (λ clash is. subst (λ (p : Path). WrongLink files (record { file = n; path = p; kind = told.Alike clash.«with» })) (sym (append_assoc d.path (tag ∷ pos clash.part ∷ []) (message_tag.NAME ∷ []))) (each clash is))
        clashes are)

    part_wrong : (part : Described) → ((rest : Path) (kind : LinkFaultKind) → WrongInProto3 part rest kind → IsWrongAt rest kind) → All (WrongLink files) (part_faults n d.path part)
    part_wrong (Message m) each =
        let keys = map key_of_field (out-DescriptorProto m).field in
        All-append (WrongLink files) (extension_faults n d.path (out-DescriptorProto m).extension_range) _
        (extensions_wrong_at (out-DescriptorProto m).extension_range (λ range at. each _ _ (HasExtensions m range at)))
        (alike_wrong (MeetsEarlier bytes_eq keys) message_tag.FIELD (fields_alike m) (λ clash is. each _ _ (FieldsAreAlike m clash is)) (earlier_told bytes_eq keys))
    part_wrong (Field f) each = All-nil _
    part_wrong (Oneof o) each = All-nil _
    part_wrong (Enum e) each =
        let keys = map (key_of_value e) e.value in
        All-append (WrongLink files) (first_value_faults n d.path e e.value) _
        (first_wrong_at e e.value (begins_with_zero e) refl (λ v at not. each _ _ (BeginsOtherwise e v at not)))
        (alike_wrong (λ clash. MeetsEarlier bytes_eq keys clash × (is_of_two e.value clash ≡ true)) enum_tag.VALUE (values_alike e) (λ clash is. each _ _ (ValuesAreAlike e clash is.0 is.1))
        (all_filter (is_of_two e.value) (MeetsEarlier bytes_eq keys) _ (earlier_told bytes_eq keys)))
    part_wrong (Value v) each = All-nil _
    part_wrong (Service s) each = All-nil _
    part_wrong (Method m) each = All-nil _

  proto3_wrong : (b : Bool) → is_proto3 file ≡ b → All (WrongLink files) (cond b (flat_map (faults_of_proto3 n) (file_declarations file)) [])
  proto3_wrong true is =
      all_flat (WrongLink files) (faults_of_proto3 n) (file_declarations file)
      (All-weaker (Contains (file_declarations file)) (λ d. All (WrongLink files) (faults_of_proto3 n d)) (λ d has. part_wrong is d has d.part (in_proto3 is d has)) (file_declarations file) (All-contains_itself (file_declarations file)))
  proto3_wrong false is = All-nil _

  imports_told : All (WrongLink files) (import_faults n (named_of (rows_of files) n))
  imports_told = subst (λ (named : List (Option ℕ)). All (WrongLink files) (import_faults n named)) (sym (named_by files n file here))
      (all_imports_wrong files file file.dependency n (WrongLink files) (λ i kind wrong. OfImport n file i kind here wrong))

  file_told : (sees packages : List Bool) → IsSeenBy files n sees packages → All (WrongLink files) (faults_in files n sees packages file)
  file_told sees packages seen =
      All-append (WrongLink files) (file_faults table sees packages n (named_of (rows_of files) n) file) _
      (All-append (WrongLink files) (import_faults n (named_of (rows_of files) n)) _ imports_told
      (All-append (WrongLink files) (package_faults table n (text_of file.«package»)) _ (package_told file.«package» refl)
      (All-append (WrongLink files) (flat_map (declared_faults table sees packages n) (file_declarations file)) _
      (all_flat (WrongLink files) (declared_faults table sees packages n) (file_declarations file)
      (All-weaker (Contains (file_declarations file)) (λ d. All (WrongLink files) (declared_faults table sees packages n d)) (declared_told sees packages seen) (file_declarations file) (All-contains_itself (file_declarations file))))
      (proto3_wrong (is_proto3 file) refl))))
      (extended_wrong files n file sees packages here seen)

-- ---- all files

module _ (all : List FileDescriptorProto) where
  files_told : (files : List FileDescriptorProto) (n : ℕ) (faults : List LinkFault) → ((k : ℕ) (file : FileDescriptorProto) → slice_get files k ≡ Some file → slice_get all (n + k) ≡ Some file) → AreFaults all n files faults → All (WrongLink all) faults
  files_told [] n faults there told = subst (All (WrongLink all)) (sym (split all n [] faults told)) (All-nil _)
  files_told (file ∷ more) n faults there told =
      let parts = split all n (file ∷ more) faults told in
      let here : slice_get all n ≡ Some file = subst (λ m. slice_get all m ≡ Some file) (omega arith) (there 0 file refl) in
      subst (All (WrongLink all)) (sym parts.5)
      (All-append (WrongLink all) (faults_in all n parts.0 parts.1 file) parts.2
      (file_told all n file here parts.0 parts.1 parts.3)
      (files_told more (n + 1) parts.2 (λ k next is. subst (λ m. slice_get all m ≡ Some next) (omega arith) (there (suc k) next is)) parts.4))

  -- Each fault of the list is wrong with the files.
  pub told_is_wrong : (faults : List LinkFault) → AreFaults all 0 all faults → (fault : LinkFault) → Contains faults fault → WrongLink all fault
  told_is_wrong faults told fault has =
      All-contains (WrongLink all) faults fault (files_told all 0 faults (λ k file is. subst (λ m. slice_get all m ≡ Some file) (omega arith) is) told) has
