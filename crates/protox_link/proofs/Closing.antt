-- Where nothing is wrong with a file, each name in what linking makes of it stands for something.
use Rattle.std.proofs.Common.{◌≡◌, inr, ◌<◌, ℕ, ◌+◌, Bool, true, false, cond, List, [], ◌∷◌, ◌++◌, map, Option, Some, None, is_some, refl, sym, ap, subst, ◌∙◌, arith, drop, length, slice_get, suc, zero}
use Rattle.std.specs.Prelude.{ℤ, All, IfSome}
use Rattle.std.specs.List.{flat_map}
use Rattle.std.specs.Option.{option_and_then, option_map, option_map_or, option_or, unwrap_or}
use Rattle.std.proofs.lemmas.Grind.{flat_map-append}
use Rattle.std.proofs.lemmas.List.Elements.{All-append, All-cons, All-contains, All-nil}
use Rattle.protox_descriptor.specs.FieldDescriptorProto.{FieldDescriptorProto}
use Rattle.protox_descriptor.specs.declared.descriptor.DescriptorProto.{DescriptorProto, DescriptorProto-F, ind-DescriptorProto, out-DescriptorProto, out-roll-DescriptorProto, roll-DescriptorProto}
use Rattle.protox_descriptor.specs.declared.descriptor.EnumDescriptorProto.{EnumDescriptorProto}
use Rattle.protox_descriptor.specs.declared.descriptor.EnumValueDescriptorProto.{EnumValueDescriptorProto}
use Rattle.protox_descriptor.specs.declared.descriptor.FileDescriptorProto.{FileDescriptorProto}
use Rattle.protox_descriptor.specs.declared.descriptor.MethodDescriptorProto.{MethodDescriptorProto}
use Rattle.protox_descriptor.specs.declared.descriptor.OneofDescriptorProto.{OneofDescriptorProto}
use Rattle.protox_descriptor.specs.declared.descriptor.ServiceDescriptorProto.{ServiceDescriptorProto}
use Rattle.protox_descriptor.specs.declared.tag.enum_.TheConstants as enum_tag
use Rattle.protox_descriptor.specs.declared.tag.field.TheConstants as field_tag
use Rattle.protox_descriptor.specs.declared.tag.file.TheConstants as file_tag
use Rattle.protox_descriptor.specs.declared.tag.message.TheConstants as message_tag
use Rattle.protox_descriptor.specs.declared.tag.method.TheConstants as method_tag
use Rattle.protox_descriptor.specs.declared.tag.service.TheConstants as service_tag
use Rattle.protox_link.proofs.Standing.{IsThere, declared_itself, declared_right, declared_stands, message_itself, none_of_first, none_of_second, message_itself_stands, none_used, own_is_one_part, package_right, package_there, same_text}
use Rattle.protox_imports.specs.Rows.{named_of, rows_of}
use Rattle.protox_link.proofs.Seeing.{same_faults, split, split_linked}
use Rattle.protox_link.specs.Closed.{AreClosed, IsClosed, IsClosedFile, IsItself, IsNameOf, is_message}
use Rattle.protox_link.specs.Files.{AreFaults, AreLinked, faults_in, linked_in}
use Rattle.protox_link.specs.Laws.{DeclaredOnce}
use Rattle.protox_link.specs.Seen.{IsSeenBy}
use Rattle.protox_link_checks.specs.File.{file_faults}
use Rattle.protox_link_checks.specs.Faults.{declared_faults, faults_named}
use Rattle.protox_link_checks.specs.Numbers.{implementation_faults}
use Rattle.protox_link_checks.specs.Uses.{default_faults, enum_itself, faults_at, message_faults, type_faults, wrong_message, wrong_type}
use Rattle.protox_link_fault.specs.declared.LinkFault.{LinkFault}
use Rattle.protox_link_fault.specs.declared.LinkFaultKind.TheVariants.{NotAType}
use Rattle.protox_linked.proofs.Lemmas.{message-linked, name_of_message}
use Rattle.protox_linked.specs.Linked.{linked_field, linked_file, linked_message, linked_method, linked_name, linked_service, type_of_kind}
use Rattle.protox_linked.specs.Linked as linked
use Rattle.protox_linked.specs.declared.target.Target.{Target}
use Rattle.protox_name_tree.proofs.Lemmas.{found_known}
use Rattle.protox_name_tree.specs.Tree.{kind_at, number_of}
use Rattle.protox_names.specs.Names.{is_absolute, is_one_part, scopes, within}
use Rattle.protox_scopes.proofs.Lemmas.{by_user, meaning_of_found}
use Rattle.protox_scopes.specs.Scopes.{first_end, is_type, resolve, step}
use Rattle.protox_scopes.specs.StandsFor.{AtTop, FullName, InScope, StandsFor}
use Rattle.protox_scopes.specs.declared.kind.Kind.{Kind}
use Rattle.protox_scopes.specs.declared.kind.Kind.TheVariants as kind
use Rattle.protox_scopes.specs.declared.kind.Wanted.{Wanted}
use Rattle.protox_scopes.specs.declared.kind.Wanted.TheVariants.{AType, Anything}
use Rattle.protox_symbols.proofs.Lemmas.{enums_at, extensions_at, fields_at, full_is_within, inside}
use Rattle.protox_symbols.proofs.Lemmas.{message_declares, messages_at, oneofs_at}
use Rattle.protox_symbols.specs.Symbols.{Table}
use Rattle.protox_symbols.specs.Things.{table_of}
use Rattle.protox_symbols.specs.declared.thing.Thing.{Thing}
use Rattle.protox_views.specs.Views.{is_seen, meaning, seen, target}
use Rattle.protox_walk.specs.Declarations.{At, Path, all_in, declared, enum_at, field_at, file_declarations, full_name, message_at, method_at, nth, numbered, oneof_at, service_at, siblings_at, text_of, value_at}
use Rattle.protox_walk.specs.Parts.{Declared, Enum, Field, Message, Method, Service}

-- The name of the user itself plays no part.
module _ {Thing : Type 0} (kind : Thing → Kind) (seen : List ℕ → Option Thing) (wanted : Wanted) (name : List ℕ) where
  abbrev found : Bool → List ℕ → Option Thing
  found absolute user = cond absolute (seen (drop 1 name)) (first_end (map (step kind seen wanted name) (scopes user)) (seen name))

  user_by : (absolute : Bool) (scope user : List ℕ) → is_absolute name ≡ absolute → is_one_part user ≡ true → resolve kind seen wanted name (within scope user) ≡ resolve kind seen wanted name (within scope [])
  user_by true scope user is alone = ap (λ absolute. found absolute (within scope user)) is ∙ sym (ap (λ absolute. found absolute (within scope [])) is)
  user_by false scope user is alone =
      sym (by_user kind seen wanted name (λ _. scope) (Some 0) _ is refl user alone)
      ∙ by_user kind seen wanted name (λ _. scope) (Some 0) _ is refl [] refl

  pub same_user : (scope user : List ℕ) → is_one_part user ≡ true → resolve kind seen wanted name (within scope user) ≡ resolve kind seen wanted name (within scope [])
  same_user scope user alone = user_by (is_absolute name) scope user refl alone

  -- what a name stands for is seen
  full_name_of : (user : List ℕ) (thing : Thing) → StandsFor kind seen wanted name user thing → (full : List ℕ) × (seen full ≡ Some thing)
  full_name_of user thing stands = elim stands [
    | FullName absolute found ↦ (_, found)
    | InScope relative scope innermost found ↦ (_, found)
    | AtTop relative none found ↦ (_, found)
  ]

  pub seen_by_name : (user : List ℕ) (thing : Thing) → resolve kind seen wanted name user ≡ Some thing → (full : List ℕ) × (seen full ≡ Some thing)
  seen_by_name user thing is = full_name_of user thing (meaning_of_found kind seen wanted name user thing is)

-- ---- names

module _ (t : Table) (sees packages : List Bool) where
  abbrev meant : Wanted → List ℕ → List ℕ → Option Target
  meant = meaning t sees packages

  abbrev here : Wanted → List ℕ → List ℕ → Option ℕ
  here wanted name user = resolve (kind_at t.names) (seen t sees packages) wanted name user

  pub record IsNumberSeen (n : ℕ) : Type 0 where
    pub known : n < length t.names.full_names
    pub sees_it : is_seen t sees packages n ≡ true

  seen_with : (n m : ℕ) (b : Bool) → is_seen t sees packages m ≡ b → m < length t.names.full_names → cond b (Some m) None ≡ Some n → IsNumberSeen n
  seen_with n m true is below found =
      let same : m ≡ n = ap (λ (o : Option ℕ). unwrap_or o m) found in
      subst IsNumberSeen same (record { known = below; sees_it = is })
  seen_with n m false is below found = cc

  seen_from : (n : ℕ) (number : Option ℕ) → ((m : ℕ) → number ≡ Some m → m < length t.names.full_names) → option_and_then (λ m. cond (is_seen t sees packages m) (Some m) None) number ≡ Some n → IsNumberSeen n
  seen_from n None known found = cc
  seen_from n (Some m) known found = seen_with n m (is_seen t sees packages m) refl (known m refl) found

  -- what a name stands for
  pub seen_number : (wanted : Wanted) (name user : List ℕ) (n : ℕ) → here wanted name user ≡ Some n → IsNumberSeen n
  seen_number wanted name user n found =
      let by = seen_by_name (kind_at t.names) (seen t sees packages) wanted name user n found in
      seen_from n (number_of t.names by.0) (λ m is. found_known t.names.full_names by.0 m is) by.1

  named : (fits : Kind → Bool) (wanted : Wanted) (scope own name : List ℕ) (n : ℕ) → is_one_part own ≡ true → here wanted name (within scope own) ≡ Some n → fits (kind_at t.names n) ≡ true → IsNameOf t sees packages fits (linked_name meant wanted scope name)
  named fits wanted scope own name n alone found right =
      let seen_it = seen_number wanted name (within scope own) n found in
      let same : here wanted name (within scope []) ≡ Some n = sym (same_user (kind_at t.names) (seen t sees packages) wanted name scope own alone) ∙ found in
      record {
        number = n;
        known = seen_it.known;
        named = ap (λ (o : Option ℕ). option_map_or (λ (target : Target). target.name) (option_map (target t sees packages) o) name) same;
        right = right;
        sees_it = seen_it.sees_it;
      }

  -- ---- what a field and a method use

  right_type : (file : ℕ) (path : Path) (tag : ℤ) (name : List ℕ) (n : ℕ) → faults_at file path tag (wrong_type name (Some (kind_at t.names n))) ≡ [] → (b : Bool) → is_type (kind_at t.names n) ≡ b → b ≡ true
  right_type file path tag name n none true is = refl
  right_type file path tag name n none false is =
      let told : faults_at file path tag (cond false [] (NotAType name ∷ [])) ≡ [] = sym (ap (λ b. faults_at file path tag (cond b [] (NotAType name ∷ []))) is) ∙ none in
      cc

  right_message : (file : ℕ) (path : Path) (tag : ℤ) (name : List ℕ) (k : Kind) → faults_at file path tag (wrong_message name (Some k)) ≡ [] → is_message k ≡ true
  right_message file path tag name kind.Message none = refl
  right_message file path tag name kind.Enum none = cc
  right_message file path tag name kind.Service none = cc
  right_message file path tag name kind.Package none = cc
  right_message file path tag name kind.Member none = cc

  type_from : (file : ℕ) (path : Path) (tag : ℤ) (scope own name : List ℕ) (o : Option ℕ) → is_one_part own ≡ true → here AType name (within scope own) ≡ o → faults_at file path tag (wrong_type name (option_map (kind_at t.names) o)) ≡ [] → IsNameOf t sees packages is_type (linked_name meant AType scope name)
  type_from file path tag scope own name None alone is none = cc
  type_from file path tag scope own name (Some n) alone is none =
      named is_type AType scope own name n alone is (right_type file path tag name n none (is_type (kind_at t.names n)) refl)

  message_from : (file : ℕ) (path : Path) (tag : ℤ) (scope own name : List ℕ) (o : Option ℕ) → is_one_part own ≡ true → here Anything name (within scope own) ≡ o → faults_at file path tag (wrong_message name (option_map (kind_at t.names) o)) ≡ [] → IsNameOf t sees packages is_message (linked_name meant Anything scope name)
  message_from file path tag scope own name None alone is none = cc
  message_from file path tag scope own name (Some n) alone is none =
      named is_message Anything scope own name n alone is (right_message file path tag name (kind_at t.names n) none)

  type_closed : (file : ℕ) (path : Path) (tag : ℤ) (scope own : List ℕ) (name : Option (List ℕ)) → is_one_part own ≡ true → type_faults t sees packages file path tag (within scope own) name ≡ [] → IfSome (option_map (linked_name meant AType scope) name) (IsNameOf t sees packages is_type)
  type_closed file path tag scope own None alone none = tt
  type_closed file path tag scope own (Some name) alone none = type_from file path tag scope own name (here AType name (within scope own)) alone refl none

  message_closed : (file : ℕ) (path : Path) (tag : ℤ) (scope own : List ℕ) (name : Option (List ℕ)) → is_one_part own ≡ true → message_faults t sees packages file path tag (within scope own) name ≡ [] → IfSome (option_map (linked_name meant Anything scope) name) (IsNameOf t sees packages is_message)
  message_closed file path tag scope own None alone none = tt
  message_closed file path tag scope own (Some name) alone none = message_from file path tag scope own name (here Anything name (within scope own)) alone refl none

  has_type : (k : Kind) → is_type k ≡ true → is_some (type_of_kind k) ≡ true
  has_type kind.Message right = refl
  has_type kind.Enum right = refl
  has_type kind.Service right = cc
  has_type kind.Package right = cc
  has_type kind.Member right = cc

  either_some : (a b : Option ℤ) → is_some b ≡ true → is_some (option_or a b) ≡ true
  either_some None b right = right
  either_some (Some a) b right = refl

  abbrev type_of : Option ℕ → Option ℤ
  type_of o = option_and_then (λ (target : Target). type_of_kind target.kind) (option_map (target t sees packages) o)

  typed_from : (file : ℕ) (path : Path) (tag : ℤ) (scope own name : List ℕ) (o : Option ℕ) → is_one_part own ≡ true → here AType name (within scope own) ≡ o → faults_at file path tag (wrong_type name (option_map (kind_at t.names) o)) ≡ [] → is_some (type_of (here AType name (within scope []))) ≡ true
  typed_from file path tag scope own name None alone is none = cc
  typed_from file path tag scope own name (Some n) alone is none =
      ap (λ o. is_some (type_of o)) (sym (same_user (kind_at t.names) (seen t sees packages) AType name scope own alone) ∙ is)
      ∙ has_type (kind_at t.names n) (right_type file path tag name n none (is_type (kind_at t.names n)) refl)

  typed : (file : ℕ) (path : Path) (tag : ℤ) (scope own : List ℕ) (field_type : Option ℤ) (name : Option (List ℕ)) → is_one_part own ≡ true → type_faults t sees packages file path tag (within scope own) name ≡ []
      → IfSome (option_map (linked_name meant AType scope) name) (λ linked. is_some (option_or field_type (option_and_then (λ written. option_and_then (λ (target : Target). type_of_kind target.kind) (meant AType scope written)) name)) ≡ true)
  typed file path tag scope own field_type None alone none = tt
  typed file path tag scope own field_type (Some name) alone none =
      either_some field_type _ (typed_from file path tag scope own name (here AType name (within scope own)) alone refl none)

-- ---- one declaration after another

module _ (t : Table) (sees packages : List Bool) (file : ℕ) where
  abbrev wrong : Declared → List LinkFault
  wrong = declared_faults t sees packages file

  abbrev meaning1 : Wanted → List ℕ → List ℕ → Option Target
  meaning1 = meaning t sees packages

  abbrev IsRight : Declared → Type 0
  IsRight = IsClosed t sees packages file

  user_named : (full : List ℕ) (own : Option (List ℕ)) → full_name full own ≡ within full (text_of own)
  user_named full own = sym (full_is_within full own)

  field_closed : (full : List ℕ) (f : FieldDescriptorProto) (path : Path) → IsThere t sees packages file full → flat_map wrong (field_at f full path) ≡ [] → All IsRight (field_at (linked_field meaning1 full f) full path)
  field_closed full f path there none =
      let own = text_of f.name in
      let user = full_name full f.name in
      let types = type_faults t sees packages file path field_tag.TYPE_NAME user f.type_name in
      let extends = message_faults t sees packages file path field_tag.EXTENDEE user f.extendee in
      let default = default_faults t sees packages file path user f.type_name f.default_value in
      let uses = (implementation_faults file path f ++ types) ++ (extends ++ default) in
      let right : faults_named t sees packages file path user own uses ≡ [] = none_of_first _ _ none in
      let alone = own_is_one_part t sees packages file path full f.name uses right in
      let no_uses = none_used t sees packages file path full f.name uses there right in
      let no_types : types ≡ [] = none_of_second (implementation_faults file path f) types (none_of_first _ (extends ++ default) no_uses) in
      let no_extends : extends ≡ [] = none_of_first extends default (none_of_second (implementation_faults file path f ++ types) (extends ++ default) no_uses) in
      let types_right = subst (λ u. type_faults t sees packages file path field_tag.TYPE_NAME u f.type_name ≡ []) (user_named full f.name) no_types in
      let extends_right = subst (λ u. message_faults t sees packages file path field_tag.EXTENDEE u f.extendee ≡ []) (user_named full f.name) no_extends in
      All-cons IsRight (declared path user (Field (linked_field meaning1 full f))) [] (record {
        once = declared_itself t sees packages file path full f.name uses there right;
        names = record {
          of_type = type_closed t sees packages file path field_tag.TYPE_NAME full own f.type_name alone types_right;
          typed = typed t sees packages file path field_tag.TYPE_NAME full own f.field_type f.type_name alone types_right;
          extends = message_closed t sees packages file path field_tag.EXTENDEE full own f.extendee alone extends_right;
        };
      }) (All-nil IsRight)

  method_closed : (full : List ℕ) (m : MethodDescriptorProto) (path : Path) → IsThere t sees packages file full → flat_map wrong (method_at m full path) ≡ [] → All IsRight (method_at (linked_method meaning1 full m) full path)
  method_closed full m path there none =
      let own = text_of m.name in
      let user = full_name full m.name in
      let takes = message_faults t sees packages file path method_tag.INPUT_TYPE user m.input_type in
      let gives = message_faults t sees packages file path method_tag.OUTPUT_TYPE user m.output_type in
      let right : faults_named t sees packages file path user own (takes ++ gives) ≡ [] = none_of_first _ _ none in
      let alone = own_is_one_part t sees packages file path full m.name (takes ++ gives) right in
      let no_uses = none_used t sees packages file path full m.name (takes ++ gives) there right in
      let takes_right = subst (λ u. message_faults t sees packages file path method_tag.INPUT_TYPE u m.input_type ≡ []) (user_named full m.name) (none_of_first takes gives no_uses) in
      let gives_right = subst (λ u. message_faults t sees packages file path method_tag.OUTPUT_TYPE u m.output_type ≡ []) (user_named full m.name) (none_of_second takes gives no_uses) in
      All-cons IsRight (declared path user (Method (linked_method meaning1 full m))) [] (record {
        once = declared_itself t sees packages file path full m.name (takes ++ gives) there right;
        names = record {
          takes = message_closed t sees packages file path method_tag.INPUT_TYPE full own m.input_type alone takes_right;
          gives = message_closed t sees packages file path method_tag.OUTPUT_TYPE full own m.output_type alone gives_right;
        };
      }) (All-nil IsRight)

  -- ---- siblings

  -- what linking changes
  all_closed : {A : Type 0} (at : A → List ℕ → At) (link : A → A) (full : List ℕ) (path : Path) (tag : ℤ) (n : ℕ) (xs : List A)
      → ((x : A) (place : Path) → flat_map wrong (at x full place) ≡ [] → All IsRight (at (link x) full place))
      → flat_map wrong (numbered path tag n (all_in at full xs)) ≡ [] → All IsRight (numbered path tag n (all_in at full (map link xs)))
  all_closed at link full path tag n [] each none = All-nil IsRight
  all_closed at link full path tag n (x ∷ xs) each none =
      let split : flat_map wrong (at x full (nth path tag n)) ++ flat_map wrong (numbered path tag (n + 1) (all_in at full xs)) ≡ [] = sym (flat_map-append wrong (at x full (nth path tag n)) (numbered path tag (n + 1) (all_in at full xs))) ∙ none in
      All-append IsRight (at (link x) full (nth path tag n)) _ (each x (nth path tag n) (none_of_first _ _ split)) (all_closed at link full path tag (n + 1) xs each (none_of_second _ _ split))

  -- what it leaves as it is
  all_left : {A : Type 0} (at : A → List ℕ → At) (full : List ℕ) (path : Path) (tag : ℤ) (n : ℕ) (xs : List A)
      → ((x : A) (place : Path) → flat_map wrong (at x full place) ≡ [] → All IsRight (at x full place))
      → flat_map wrong (numbered path tag n (all_in at full xs)) ≡ [] → All IsRight (numbered path tag n (all_in at full xs))
  all_left at full path tag n [] each none = All-nil IsRight
  all_left at full path tag n (x ∷ xs) each none =
      let split : flat_map wrong (at x full (nth path tag n)) ++ flat_map wrong (numbered path tag (n + 1) (all_in at full xs)) ≡ [] = sym (flat_map-append wrong (at x full (nth path tag n)) (numbered path tag (n + 1) (all_in at full xs))) ∙ none in
      All-append IsRight (at x full (nth path tag n)) _ (each x (nth path tag n) (none_of_first _ _ split)) (all_left at full path tag (n + 1) xs each (none_of_second _ _ split))

  value_left : (full : List ℕ) (v : EnumValueDescriptorProto) (path : Path) → IsThere t sees packages file full → flat_map wrong (value_at v full path) ≡ [] → All IsRight (value_at v full path)
  value_left full v path there none =
      All-cons IsRight _ [] (record { once = declared_itself t sees packages file path full v.name [] there (none_of_first _ _ none); names = tt }) (All-nil IsRight)

  enum_left : (full : List ℕ) (e : EnumDescriptorProto) (path : Path) → IsThere t sees packages file full → flat_map wrong (enum_at e full path) ≡ [] → All IsRight (enum_at e full path)
  enum_left full e path there none =
      let own = wrong (declared path (full_name full e.name) (Enum e)) in
      All-cons IsRight _ _ (record { once = declared_itself t sees packages file path full e.name (enum_itself file path e) there (none_of_first own _ none); names = tt })
      (all_left value_at full path enum_tag.VALUE 0 e.value (λ v place h. value_left full v place there h) (none_of_second own _ none))

  oneof_left : (full : List ℕ) (o : OneofDescriptorProto) (path : Path) → IsThere t sees packages file full → flat_map wrong (oneof_at o full path) ≡ [] → All IsRight (oneof_at o full path)
  oneof_left full o path there none =
      All-cons IsRight _ [] (record { once = declared_itself t sees packages file path full o.name [] there (none_of_first _ _ none); names = tt }) (All-nil IsRight)

  service_closed : (full : List ℕ) (s : ServiceDescriptorProto) (path : Path) → IsThere t sees packages file full → flat_map wrong (service_at s full path) ≡ [] → All IsRight (service_at (linked_service meaning1 full s) full path)
  service_closed full s path there none =
      let name = full_name full s.name in
      let here = wrong (declared path name (Service s)) in
      let stand : IsThere t sees packages file name = inr (declared_stands t sees packages file path full s.name [] there (none_of_first here _ none)) in
      let same : name ≡ within full (linked.text_of s.name) = user_named full s.name ∙ sym (ap (within full) (same_text s.name)) in
      All-cons IsRight _ _ (record { once = declared_itself t sees packages file path full s.name [] there (none_of_first here _ none); names = tt })
      (subst (λ inside. All IsRight (siblings_at path service_tag.METHOD (all_in method_at name (map (linked_method meaning1 inside) s.method)))) same
      (all_closed method_at (linked_method meaning1 name) name path service_tag.METHOD 0 s.method (λ m place h. method_closed name m place stand h) (none_of_second here _ none)))

  -- ---- messages

  abbrev pub told : List ℕ → Path → DescriptorProto → DescriptorProto-F DescriptorProto → List Declared
  told full path whole m =
      let name = full_name full m.name in
      declared path name (Message whole)
      ∷ (siblings_at path message_tag.FIELD (all_in field_at name m.field)
      ++ (siblings_at path message_tag.NESTED_TYPE (all_in message_at name m.nested_type)
      ++ (siblings_at path message_tag.ENUM_TYPE (all_in enum_at name m.enum_type)
      ++ (siblings_at path message_tag.EXTENSION (all_in field_at name m.extension)
      ++ siblings_at path message_tag.ONEOF_DECL (all_in oneof_at name m.oneof_decl)))))

  abbrev pub linked_parts : List ℕ → DescriptorProto → DescriptorProto-F DescriptorProto
  linked_parts inside m = record {
    name = (out-DescriptorProto m).name;
    field = map (linked_field meaning1 inside) (out-DescriptorProto m).field;
    extension = map (linked_field meaning1 inside) (out-DescriptorProto m).extension;
    nested_type = map (linked_message meaning1 inside) (out-DescriptorProto m).nested_type;
    enum_type = (out-DescriptorProto m).enum_type;
    extension_range = (out-DescriptorProto m).extension_range;
    oneof_decl = (out-DescriptorProto m).oneof_decl;
    options = (out-DescriptorProto m).options;
    reserved_range = (out-DescriptorProto m).reserved_range;
    reserved_name = (out-DescriptorProto m).reserved_name;
  }

  -- what the linked message declares
  pub linked_declares : (full : List ℕ) (path : Path) (m : DescriptorProto) →
      let inside = full_name full (out-DescriptorProto m).name in
      message_at (linked_message meaning1 full m) full path ≡ told full path (roll-DescriptorProto (linked_parts inside m)) (linked_parts inside m)
  linked_declares full path m =
      let name = full_name full (out-DescriptorProto m).name in
      let same : name_of_message full m ≡ name = ap (within full) (same_text (out-DescriptorProto m).name) ∙ full_is_within full (out-DescriptorProto m).name in
      ap (λ made. message_at made full path) (message-linked meaning1 full m ∙ ap (λ inside. roll-DescriptorProto (linked_parts inside m)) same)
      ∙ message_declares (roll-DescriptorProto (linked_parts name m)) full path
      ∙ ap (told full path (roll-DescriptorProto (linked_parts name m))) (out-roll-DescriptorProto (linked_parts name m))

  abbrev IsMessageClosed : DescriptorProto → Type 0
  IsMessageClosed m = (full : List ℕ) (path : Path) → IsThere t sees packages file full → flat_map wrong (message_at m full path) ≡ [] → All IsRight (message_at (linked_message meaning1 full m) full path)

  abbrev AreMessagesClosed : List DescriptorProto → Type 0
  AreMessagesClosed ms = (full : List ℕ) (path : Path) (tag : ℤ) (n : ℕ) → IsThere t sees packages file full → flat_map wrong (numbered path tag n (all_in message_at full ms)) ≡ [] → All IsRight (numbered path tag n (all_in message_at full (map (linked_message meaning1 full) ms)))

  are_closed : (held : List ((m : DescriptorProto) × IsMessageClosed m)) → AreMessagesClosed (map (λ e. e.0) held)
  are_closed [] full path tag n there none = All-nil IsRight
  are_closed (m ∷ ms) full path tag n there none =
      let first = flat_map wrong (message_at m.0 full (nth path tag n)) in
      let behind = numbered path tag (n + 1) (all_in message_at full (map (λ e. e.0) ms)) in
      let split : first ++ flat_map wrong behind ≡ [] = sym (flat_map-append wrong (message_at m.0 full (nth path tag n)) behind) ∙ none in
      All-append IsRight (message_at (linked_message meaning1 full m.0) full (nth path tag n)) _ (m.1 full (nth path tag n) there (none_of_first first _ split)) (are_closed ms full path tag (n + 1) there (none_of_second first _ split))

  closed_inside : (m : DescriptorProto) → AreMessagesClosed (out-DescriptorProto m).nested_type → IsMessageClosed m
  closed_inside m nested full path there none =
      let name = full_name full (out-DescriptorProto m).name in
      let stand : IsThere t sees packages file name = inr (message_itself_stands t sees packages file full path m there none) in
      let parts : flat_map wrong (inside m name path) ≡ [] = none_of_second (wrong (declared path name (Message m))) _ (sym (ap (flat_map wrong) (message_declares m full path)) ∙ none) in
      let fields = flat_map wrong (fields_at m name path) in
      let messages = flat_map wrong (messages_at m name path) in
      let enums = flat_map wrong (enums_at m name path) in
      let extensions = flat_map wrong (extensions_at m name path) in
      let first : fields ++ flat_map wrong (messages_at m name path ++ (enums_at m name path ++ (extensions_at m name path ++ oneofs_at m name path))) ≡ [] = sym (flat_map-append wrong (fields_at m name path) _) ∙ parts in
      let second : messages ++ flat_map wrong (enums_at m name path ++ (extensions_at m name path ++ oneofs_at m name path)) ≡ [] = sym (flat_map-append wrong (messages_at m name path) _) ∙ none_of_second fields _ first in
      let third : enums ++ flat_map wrong (extensions_at m name path ++ oneofs_at m name path) ≡ [] = sym (flat_map-append wrong (enums_at m name path) _) ∙ none_of_second messages _ second in
      let fourth : extensions ++ flat_map wrong (oneofs_at m name path) ≡ [] = sym (flat_map-append wrong (extensions_at m name path) _) ∙ none_of_second enums _ third in
      subst (All IsRight) (sym (linked_declares full path m))
      (All-cons IsRight _ _ (record { once = message_itself t sees packages file full path m there none; names = tt })
      (All-append IsRight _ _ (all_closed field_at (linked_field meaning1 name) name path message_tag.FIELD 0 (out-DescriptorProto m).field (λ f place h. field_closed name f place stand h) (none_of_first fields _ first))
      (All-append IsRight _ _ (nested name path message_tag.NESTED_TYPE 0 stand (none_of_first messages _ second))
      (All-append IsRight _ _ (all_left enum_at name path message_tag.ENUM_TYPE 0 (out-DescriptorProto m).enum_type (λ e place h. enum_left name e place stand h) (none_of_first enums _ third))
      (All-append IsRight _ _ (all_closed field_at (linked_field meaning1 name) name path message_tag.EXTENSION 0 (out-DescriptorProto m).extension (λ f place h. field_closed name f place stand h) (none_of_first extensions _ fourth))
      (all_left oneof_at name path message_tag.ONEOF_DECL 0 (out-DescriptorProto m).oneof_decl (λ o place h. oneof_left name o place stand h) (none_of_second extensions _ fourth)))))))

  message_is_closed : (m : DescriptorProto) → IsMessageClosed m
  message_is_closed = ind-DescriptorProto IsMessageClosed
      (λ x held e. closed_inside (roll-DescriptorProto x)
      (subst (λ (z : DescriptorProto-F DescriptorProto). AreMessagesClosed z.nested_type) (e ∙ sym (out-roll-DescriptorProto x))
      (are_closed held.nested_type)))

  -- what a linked file declares
  pub file_closed : (f : FileDescriptorProto) → IsThere t sees packages file (text_of f.«package») → flat_map wrong (file_declarations f) ≡ [] → All IsRight (file_declarations (linked_file meaning1 f))
  file_closed f there none =
      let package1 = text_of f.«package» in
      let in_messages = siblings_at [] file_tag.MESSAGE_TYPE (all_in message_at package1 f.message_type) in
      let in_enums = siblings_at [] file_tag.ENUM_TYPE (all_in enum_at package1 f.enum_type) in
      let in_services = siblings_at [] file_tag.SERVICE (all_in service_at package1 f.service) in
      let in_extensions = siblings_at [] file_tag.EXTENSION (all_in field_at package1 f.extension) in
      let first : flat_map wrong in_messages ++ flat_map wrong (in_enums ++ (in_services ++ in_extensions)) ≡ [] = sym (flat_map-append wrong in_messages (in_enums ++ (in_services ++ in_extensions))) ∙ none in
      let second : flat_map wrong in_enums ++ flat_map wrong (in_services ++ in_extensions) ≡ [] = sym (flat_map-append wrong in_enums (in_services ++ in_extensions)) ∙ none_of_second (flat_map wrong in_messages) _ first in
      let third : flat_map wrong in_services ++ flat_map wrong in_extensions ≡ [] = sym (flat_map-append wrong in_services in_extensions) ∙ none_of_second (flat_map wrong in_enums) _ second in
      let all : All IsRight (siblings_at [] file_tag.MESSAGE_TYPE (all_in message_at package1 (map (linked_message meaning1 package1) f.message_type))
      ++ (in_enums
      ++ (siblings_at [] file_tag.SERVICE (all_in service_at package1 (map (linked_service meaning1 package1) f.service))
      ++ siblings_at [] file_tag.EXTENSION (all_in field_at package1 (map (linked_field meaning1 package1) f.extension))))) =
      All-append IsRight _ _ (all_closed message_at (linked_message meaning1 package1) package1 [] file_tag.MESSAGE_TYPE 0 f.message_type (λ m place h. message_is_closed m package1 place there h) (none_of_first _ _ first))
      (All-append IsRight _ _ (all_left enum_at package1 [] file_tag.ENUM_TYPE 0 f.enum_type (λ e place h. enum_left package1 e place there h) (none_of_first (flat_map wrong in_enums) _ second))
      (All-append IsRight _ _ (all_closed service_at (linked_service meaning1 package1) package1 [] file_tag.SERVICE 0 f.service (λ s place h. service_closed package1 s place there h) (none_of_first _ _ third))
      (all_closed field_at (linked_field meaning1 package1) package1 [] file_tag.EXTENSION 0 f.extension (λ x place h. field_closed package1 x place there h) (none_of_second (flat_map wrong in_services) _ third)))) in
      subst (λ scope. All IsRight (siblings_at [] file_tag.MESSAGE_TYPE (all_in message_at package1 (map (linked_message meaning1 scope) f.message_type))
      ++ (in_enums
      ++ (siblings_at [] file_tag.SERVICE (all_in service_at package1 (map (linked_service meaning1 scope) f.service))
      ++ siblings_at [] file_tag.EXTENSION (all_in field_at package1 (map (linked_field meaning1 scope) f.extension)))))) (sym (same_text f.«package»)) all

-- ---- file by file

module _ (all : List FileDescriptorProto) where
  no_file : (n k : ℕ) (file : FileDescriptorProto) → slice_get [] k ≡ Some file → IsClosedFile all (n + k) file
  no_file n zero file is = cc
  no_file n (suc k) file is = cc

  here_or_behind : (n k : ℕ) (first : FileDescriptorProto) (more : List FileDescriptorProto) (file : FileDescriptorProto) → slice_get (first ∷ more) k ≡ Some file → IsClosedFile all n first
      → ((j : ℕ) → slice_get more j ≡ Some file → IsClosedFile all ((n + 1) + j) file) → IsClosedFile all (n + k) file
  here_or_behind n zero first more file is here behind =
      subst (λ number. IsClosedFile all number file) (sym (omega arith)) (subst (IsClosedFile all n) (ap (λ (o : Option FileDescriptorProto). unwrap_or o first) is) here)
  here_or_behind n (suc k) first more file is here behind =
      subst (λ number. IsClosedFile all number file) (omega arith) (behind k is)

  closed_in : (n : ℕ) (sees packages : List Bool) (file : FileDescriptorProto) → IsSeenBy all n sees packages → faults_in all n sees packages file ≡ [] → IsClosedFile all n (linked_in all sees packages file)
  closed_in n sees packages file seen_by right =
      let t = table_of all in
      let imports = named_of (rows_of all) n in
      let none = none_of_first (file_faults t sees packages n imports file) _ right in
      let there = package_there t n (text_of file.«package») (package_right t sees packages n imports file none) in
      record {
        sees = sees;
        packages = packages;
        seen = seen_by;
        closed = file_closed t sees packages n file there (declared_right t sees packages n imports file none);
      }

  -- the files from the number n on
  closed_from : (files : List FileDescriptorProto) (n k : ℕ) (made : List FileDescriptorProto) (file : FileDescriptorProto) → AreFaults all n files [] → AreLinked all n files made → slice_get made k ≡ Some file → IsClosedFile all (n + k) file
  closed_from [] n k made file right linked is = no_file n k file (subst (λ files. slice_get files k ≡ Some file) (split_linked all n [] made linked) is)
  closed_from (first ∷ more) n k made file right linked is =
      let a = split all n (first ∷ more) [] right in
      let b = split_linked all n (first ∷ more) made linked in
      let first_right : faults_in all n b.0 b.1 first ≡ [] = same_faults all n b.0 a.0 b.1 a.1 first b.3 a.3 ∙ none_of_first _ a.2 (sym a.5) in
      let more_right : AreFaults all (n + 1) more [] = subst (AreFaults all (n + 1) more) (none_of_second (faults_in all n a.0 a.1 first) a.2 (sym a.5)) a.4 in
      here_or_behind n k (linked_in all b.0 b.1 first) b.2 file (subst (λ files. slice_get files k ≡ Some file) b.5 is) (closed_in n b.0 b.1 first b.3 first_right) (λ j h. closed_from more (n + 1) j b.2 file more_right b.4 h)

  pub are_closed_all : (made : List FileDescriptorProto) → AreFaults all 0 all [] → AreLinked all 0 all made → AreClosed all made
  are_closed_all made right linked k file is = subst (λ number. IsClosedFile all number file) (omega arith) (closed_from all 0 k made file right linked is)

-- ---- each full name once

same_place : (t : Table) (n m : ℕ) (path path' : Path) (name name' : List ℕ) → IsItself t n path name → IsItself t m path' name' → name ≡ name' → (n ≡ m) × (path ≡ path')
same_place t n m path path' name name' one other same =
    let numbers : Some one.number ≡ Some other.number = sym one.numbered ∙ ap (number_of t.names) same ∙ other.numbered in
    let number : one.number ≡ other.number = ap (λ (o : Option ℕ). unwrap_or o 0) numbers in
    let things : Some (record { file = n; path = path }) ≡ Some (record { file = m; path = path' }) = sym one.itself ∙ ap (slice_get t.things) number ∙ other.itself in
    let places = ap (λ (o : Option Thing). unwrap_or o (record { file = n; path = path })) things in
    (ap (λ (thing : Thing). thing.file) places, ap (λ (thing : Thing). thing.path) places)

pub declared_once : DeclaredOnce
declared_once files made closed n m file other is is' d e here there same =
    let one = closed n file is in
    let two = closed m other is' in
    let first = All-contains (IsClosed (table_of files) one.sees one.packages n) (file_declarations file) d one.closed here in
    let second = All-contains (IsClosed (table_of files) two.sees two.packages m) (file_declarations other) e two.closed there in
    same_place (table_of files) n m d.path e.path d.full_name e.full_name first.once second.once same
