-- Where nothing is wrong with a file, its messages and its services are in the table.
use Rattle.std.proofs.Common.{◌≡◌, ◌≢◌, ◌⊎◌, inl, inr, ℕ, ◌+◌, ◌&&◌, Bool, true, false, cond, List, [], ◌∷◌, ◌++◌, map, Option, Some, None, is_some, refl, sym, ap, subst, ◌∙◌, ◌==◌, arith, length, slice_get}
use Rattle.std.specs.Prelude.{ℤ}
use Rattle.std.specs.Cmp.Lexicographic.{pointwise}
use Rattle.std.specs.Cmp.Rules.{signed_items}
use Rattle.std.specs.List.{flat_map, list_all}
use Rattle.std.specs.Option.{option_map_or}
use Rattle.std.specs.Ordering.{int_eq}
use Rattle.std.proofs.lemmas.Bool.{and_from, false≢true}
use Rattle.std.proofs.lemmas.Bool.Decides.{Decides-eqb}
use Rattle.std.proofs.lemmas.Grind.{flat_map-append}
use Rattle.std.proofs.lemmas.List.{map-append}
use Rattle.std.proofs.lemmas.Option.{get_or_from_slice_get}
use Rattle.protox_descriptor.specs.declared.descriptor.DescriptorProto.{DescriptorProto, DescriptorProto-F, ind-DescriptorProto, out-DescriptorProto, out-roll-DescriptorProto, roll-DescriptorProto}
use Rattle.protox_descriptor.specs.declared.descriptor.FileDescriptorProto.{FileDescriptorProto}
use Rattle.protox_descriptor.specs.declared.descriptor.ServiceDescriptorProto.{ServiceDescriptorProto}
use Rattle.protox_descriptor.specs.declared.tag.file.TheConstants.{PACKAGE}
use Rattle.protox_descriptor.specs.declared.tag.file.TheConstants as file_tag
use Rattle.protox_descriptor.specs.declared.tag.message.TheConstants as message_tag
use Rattle.protox_link.specs.Closed.{IsItself}
use Rattle.protox_link.specs.Files.{IsInTable}
use Rattle.protox_link_checks.specs.Faults.{all_declared_faults, bad_name, clash_faults, declared_faults, faults_named, is_declared_at}
use Rattle.protox_link_checks.specs.File.{file_faults}
use Rattle.protox_link_checks.specs.Imports.{import_faults, package_faults, wrong_length, wrong_package_found}
use Rattle.protox_link_checks.specs.Proto3.{proto3_faults}
use Rattle.protox_link_checks.specs.Uses as uses
use Rattle.protox_link_checks.specs.Uses.{fault_at, faults_at}
use Rattle.protox_link_fault.specs.declared.LinkFault.{LinkFault}
use Rattle.protox_link_fault.specs.declared.LinkFaultKind.TheVariants.{AlreadyDefined}
use Rattle.protox_linked.proofs.Lemmas.{message-stands}
use Rattle.protox_linked.specs.Linked.{file_stands, message_stands, service_stands}
use Rattle.protox_linked.specs.Linked as linked
use Rattle.protox_name_tree.proofs.Lemmas.{found_name}
use Rattle.protox_name_tree.specs.Tree.{has_innermost, name_at, name_in, number_of}
use Rattle.protox_names.proofs.Lemmas.{identifiers_are_one_part, scopes_of_one_part, scopes_within}
use Rattle.protox_names.specs.Names.{is_identifier, is_one_part, scopes, within}
use Rattle.protox_names.specs.Tree.{name_of_place}
use Rattle.protox_symbols.proofs.Lemmas.{enums_at, extensions_at, fields_at, full_is_within, inside}
use Rattle.protox_symbols.proofs.Lemmas.{message_declares, messages_at, oneofs_at}
use Rattle.protox_symbols.specs.Symbols.{Table}
use Rattle.protox_symbols.specs.declared.thing.Thing.{Thing}
use Rattle.protox_views.specs.Views.{stands}
use Rattle.protox_walk.specs.Declarations.{At, Path, all_in, declared, enum_at, field_at, file_declarations, full_name, message_at, nth, numbered, service_at, siblings_at, text_of}
use Rattle.protox_walk.specs.Parts.{Declared, Message}

-- ---- lists without elements

pub none_of_first : {X : Type 0} (xs ys : List X) → xs ++ ys ≡ [] → xs ≡ []
none_of_first [] ys none = refl
none_of_first (x ∷ xs) ys none = cc

pub none_of_second : {X : Type 0} (xs ys : List X) → xs ++ ys ≡ [] → ys ≡ []
none_of_second [] ys none = none
none_of_second (x ∷ xs) ys none = cc

pub no_items : {X : Type 0} (count : ℕ) (xs : List X) → true ≡ (count == 0) → count ≡ length xs → xs ≡ []
no_items count [] none is = refl
no_items count (x ∷ xs) none is = absurd (omega (arith, is, (Decides-eqb count 0).0 (sym none)))

pub some_items : {X : Type 0} (count : ℕ) (xs : List X) → false ≡ (count == 0) → count ≡ length xs → xs ≡ [] → ⊥
some_items count xs some is none =
    let long : count ≡ 0 = is ∙ ap length none in
    absurd (false≢true (some ∙ (Decides-eqb count 0).1 long))

pub same_text : (name : Option (List ℕ)) → linked.text_of name ≡ text_of name
same_text None = refl
same_text (Some name) = refl

pub true_or_false : (b : Bool) → (b ≡ true) ⊎ (b ≡ false)
true_or_false true = inl refl
true_or_false false = inr refl

module _ (t : Table) (sees packages : List Bool) (file : ℕ) where
  abbrev wrong : Declared → List LinkFault
  wrong = declared_faults t sees packages file

  -- the nameless scope, or one of the table
  abbrev pub IsThere : List ℕ → Type 0
  IsThere scope = (scope ≡ []) ⊎ (stands t scope ≡ true)

  good_name : (path : Path) (full own : List ℕ) (uses : List LinkFault) → faults_named t sees packages file path full own uses ≡ [] → is_identifier own ≡ true
  good_name path full own uses none =
      elim (true_or_false (is_identifier own)) [
        | inl good ↦ good
        | inr bad ↦
            let told : fault_at file path message_tag.NAME (bad_name own) ∷ [] ≡ [] =
            sym (ap (λ b. cond b (cond (has_innermost t.names (scopes full)) (clash_faults t sees packages file path (number_of t.names full) ++ uses) []) (fault_at file path message_tag.NAME (bad_name own) ∷ [])) bad) ∙ none in
            cc
      ]

  has_scope : (full : List ℕ) (own : List ℕ) → IsThere full → is_identifier own ≡ true → has_innermost t.names (scopes (within full own)) ≡ true
  has_scope full own (inl top) good =
      ap (λ s. has_innermost t.names (scopes (within s own))) top
      ∙ ap (has_innermost t.names) (scopes_of_one_part own (identifiers_are_one_part own good))
  has_scope [] own (inr there) good = ap (has_innermost t.names) (scopes_of_one_part own (identifiers_are_one_part own good))
  has_scope (byte ∷ rest) own (inr there) good =
      ap (has_innermost t.names) (scopes_within (byte ∷ rest) own (λ empty. cc) (identifiers_are_one_part own good)) ∙ there

  has_number : (path : Path) (number : Option ℕ) (uses : List LinkFault) → clash_faults t sees packages file path number ++ uses ≡ [] → is_some number ≡ true
  has_number path None uses none = cc
  has_number path (Some n) uses none = refl

  -- What is in a scope of the table has neither a clash nor faults of what it uses, where nothing is
  -- wrong with it.
  none_told : (path : Path) (full : List ℕ) (name : Option (List ℕ)) (uses : List LinkFault) → IsThere full → faults_named t sees packages file path (full_name full name) (text_of name) uses ≡ [] → clash_faults t sees packages file path (number_of t.names (full_name full name)) ++ uses ≡ []
  none_told path full name uses there none =
      let good = good_name path (full_name full name) (text_of name) uses none in
      let around : has_innermost t.names (scopes (full_name full name)) ≡ true = ap (λ f. has_innermost t.names (scopes f)) (sym (full_is_within full name)) ∙ has_scope full (text_of name) there good in
      let clash = clash_faults t sees packages file path (number_of t.names (full_name full name)) ++ uses in
      sym (ap (λ b. cond b (cond (has_innermost t.names (scopes (full_name full name))) clash []) (fault_at file path message_tag.NAME (bad_name (text_of name)) ∷ [])) good ∙ ap (λ b. cond b clash []) around) ∙ none

  -- It is in the table then.
  pub declared_stands : (path : Path) (full : List ℕ) (name : Option (List ℕ)) (uses : List LinkFault) → IsThere full → faults_named t sees packages file path (full_name full name) (text_of name) uses ≡ [] → stands t (full_name full name) ≡ true
  declared_stands path full name uses there none =
      has_number path (number_of t.names (full_name full name)) uses (none_told path full name uses there none)

  pub none_used : (path : Path) (full : List ℕ) (name : Option (List ℕ)) (uses : List LinkFault) → IsThere full → faults_named t sees packages file path (full_name full name) (text_of name) uses ≡ [] → uses ≡ []
  none_used path full name uses there none =
      none_of_second (clash_faults t sees packages file path (number_of t.names (full_name full name))) uses (none_told path full name uses there none)

  -- The table has it itself then.
  both : (a b : Bool) → (a && b) ≡ true → (a ≡ true) × (b ≡ true)
  both true true h = (refl, refl)
  both true false h = cc
  both false b h = cc

  pub thing_is : (path : Path) (thing : Option Thing) → option_map_or (λ (own : Thing). own.file == file && pointwise int_eq own.path path) thing false ≡ true → thing ≡ Some (record { file = file; path = path })
  thing_is path None h = absurd (false≢true h)
  thing_is path (Some own) h =
      let parts = both (own.file == file) (pointwise int_eq own.path path) h in
      let same_file = (Decides-eqb own.file file).0 parts.0 in
      let same_path = (signed_items own.path path).0 parts.1 in
      λ i. Some (record { file = same_file i; path = same_path i })

  no_clash : (path : Path) (n : ℕ) (b : Bool) → is_declared_at t sees packages file path n ≡ b → clash_faults t sees packages file path (Some n) ≡ [] → b ≡ true
  no_clash path n true is none = refl
  no_clash path n false is none =
      let told : cond false [] (fault_at file path message_tag.NAME (AlreadyDefined n) ∷ []) ≡ [] = sym (ap (λ b. cond b [] (fault_at file path message_tag.NAME (AlreadyDefined n) ∷ [])) is) ∙ none in
      cc

  itself_from : (path : Path) (name : List ℕ) (number : Option ℕ) → number_of t.names name ≡ number → clash_faults t sees packages file path number ≡ [] → IsItself t file path name
  itself_from path name None is none = cc
  itself_from path name (Some n) is none = record {
    number = n;
    numbered = is;
    itself = thing_is path (slice_get t.things n) (no_clash path n (is_declared_at t sees packages file path n) refl none);
  }

  pub declared_itself : (path : Path) (full : List ℕ) (name : Option (List ℕ)) (uses : List LinkFault) → IsThere full → faults_named t sees packages file path (full_name full name) (text_of name) uses ≡ [] → IsItself t file path (full_name full name)
  declared_itself path full name uses there none =
      itself_from path (full_name full name) (number_of t.names (full_name full name)) refl (none_of_first (clash_faults t sees packages file path (number_of t.names (full_name full name))) uses (none_told path full name uses there none))

  -- Its name is of one part then.
  pub own_is_one_part : (path : Path) (full : List ℕ) (name : Option (List ℕ)) (uses : List LinkFault) → faults_named t sees packages file path (full_name full name) (text_of name) uses ≡ [] → is_one_part (text_of name) ≡ true
  own_is_one_part path full name uses none =
      identifiers_are_one_part (text_of name) (good_name path (full_name full name) (text_of name) uses none)

  -- the same of a service
  pub service_there : (full : List ℕ) (path : Path) (s : ServiceDescriptorProto) → IsThere full → flat_map wrong (service_at s full path) ≡ [] → service_stands (stands t) full s ≡ true
  service_there full path s there none =
      ap (λ own. stands t (within full own)) (same_text s.name)
      ∙ ap (stands t) (full_is_within full s.name)
      ∙ declared_stands path full s.name [] there (none_of_first _ _ none)

  -- of siblings
  pub all_there : {A : Type 0} (at : A → List ℕ → At) (test : A → Bool) (full : List ℕ) (path : Path) (tag : ℤ) (n : ℕ) (xs : List A) → ((x : A) (place : Path) → flat_map wrong (at x full place) ≡ [] → test x ≡ true) → flat_map wrong (numbered path tag n (all_in at full xs)) ≡ [] → list_all test xs ≡ true
  all_there at test full path tag n [] each none = refl
  all_there at test full path tag n (x ∷ xs) each none =
      let split : flat_map wrong (at x full (nth path tag n)) ++ flat_map wrong (numbered path tag (n + 1) (all_in at full xs)) ≡ [] = sym (flat_map-append wrong (at x full (nth path tag n)) (numbered path tag (n + 1) (all_in at full xs))) ∙ none in
      and_from (test x) (list_all test xs) (each x (nth path tag n) (none_of_first _ _ split)) (all_there at test full path tag (n + 1) xs each (none_of_second _ _ split))

  pub message_itself_stands : (full : List ℕ) (path : Path) (m : DescriptorProto) → IsThere full → flat_map wrong (message_at m full path) ≡ [] → stands t (full_name full (out-DescriptorProto m).name) ≡ true
  message_itself_stands full path m there none =
      declared_stands path full (out-DescriptorProto m).name (uses.message_itself file path m) there
      (none_of_first _ _ (sym (ap (flat_map wrong) (message_declares m full path)) ∙ none))

  pub message_itself : (full : List ℕ) (path : Path) (m : DescriptorProto) → IsThere full → flat_map wrong (message_at m full path) ≡ [] → IsItself t file path (full_name full (out-DescriptorProto m).name)
  message_itself full path m there none =
      declared_itself path full (out-DescriptorProto m).name (uses.message_itself file path m) there
      (none_of_first _ _ (sym (ap (flat_map wrong) (message_declares m full path)) ∙ none))

  abbrev IsMessageThere : DescriptorProto → Type 0
  IsMessageThere m = (full : List ℕ) (path : Path) → IsThere full → flat_map wrong (message_at m full path) ≡ [] → message_stands (stands t) full m ≡ true

  abbrev AreMessagesThere : List DescriptorProto → Type 0
  AreMessagesThere ms = (full : List ℕ) (path : Path) (tag : ℤ) (n : ℕ) → IsThere full → flat_map wrong (numbered path tag n (all_in message_at full ms)) ≡ [] → list_all (message_stands (stands t) full) ms ≡ true

  are_there : (held : List ((m : DescriptorProto) × IsMessageThere m)) → AreMessagesThere (map (λ e. e.0) held)
  are_there [] full path tag n there none = refl
  are_there (m ∷ ms) full path tag n there none =
      let split : flat_map wrong (message_at m.0 full (nth path tag n)) ++ flat_map wrong (numbered path tag (n + 1) (all_in message_at full (map (λ e. e.0) ms))) ≡ [] = sym (flat_map-append wrong (message_at m.0 full (nth path tag n)) (numbered path tag (n + 1) (all_in message_at full (map (λ e. e.0) ms)))) ∙ none in
      and_from (message_stands (stands t) full m.0) (list_all (message_stands (stands t) full) (map (λ e. e.0) ms)) (m.1 full (nth path tag n) there (none_of_first _ _ split)) (are_there ms full path tag (n + 1) there (none_of_second _ _ split))

  message_from : (m : DescriptorProto) → AreMessagesThere (out-DescriptorProto m).nested_type → IsMessageThere m
  message_from m nested full path there none =
      let own = (out-DescriptorProto m).name in
      let name = full_name full own in
      let all : wrong (declared path name (Message m)) ++ flat_map wrong (inside m name path) ≡ [] = sym (ap (flat_map wrong) (message_declares m full path)) ∙ none in
      let here = message_itself_stands full path m there none in
      let parts : flat_map wrong (inside m name path) ≡ [] = none_of_second (wrong (declared path name (Message m))) _ all in
      let behind : flat_map wrong (messages_at m name path ++ (enums_at m name path ++ (extensions_at m name path ++ oneofs_at m name path))) ≡ [] = none_of_second (flat_map wrong (fields_at m name path)) _ (sym (flat_map-append wrong (fields_at m name path) _) ∙ parts) in
      let messages : flat_map wrong (messages_at m name path) ≡ [] = none_of_first _ _ (sym (flat_map-append wrong (messages_at m name path) (enums_at m name path ++ (extensions_at m name path ++ oneofs_at m name path))) ∙ behind) in
      let same : within full (linked.text_of own) ≡ name = ap (within full) (same_text own) ∙ full_is_within full own in
      message-stands (stands t) full m
      ∙ ap (λ s. stands t s && list_all (message_stands (stands t) s) (out-DescriptorProto m).nested_type) same
      ∙ and_from (stands t name) (list_all (message_stands (stands t) name) (out-DescriptorProto m).nested_type) here (nested name path message_tag.NESTED_TYPE 0 (inr here) messages)

  message_there : (m : DescriptorProto) → IsMessageThere m
  message_there = ind-DescriptorProto IsMessageThere
      (λ x held e. message_from (roll-DescriptorProto x)
      (subst (λ (z : DescriptorProto-F DescriptorProto). AreMessagesThere z.nested_type) (e ∙ sym (out-roll-DescriptorProto x))
      (are_there held.nested_type)))

  -- where nothing is wrong with what a file declares
  pub file_there : (f : FileDescriptorProto) → IsThere (text_of f.«package») → flat_map wrong (file_declarations f) ≡ [] → file_stands (stands t) f ≡ true
  file_there f there none =
      let package1 = text_of f.«package» in
      let in_messages = siblings_at [] file_tag.MESSAGE_TYPE (all_in message_at package1 f.message_type) in
      let in_enums = siblings_at [] file_tag.ENUM_TYPE (all_in enum_at package1 f.enum_type) in
      let in_services = siblings_at [] file_tag.SERVICE (all_in service_at package1 f.service) in
      let in_extensions = siblings_at [] file_tag.EXTENSION (all_in field_at package1 f.extension) in
      let all : flat_map wrong in_messages ++ flat_map wrong (in_enums ++ (in_services ++ in_extensions)) ≡ [] = sym (flat_map-append wrong in_messages (in_enums ++ (in_services ++ in_extensions))) ∙ none in
      let behind : flat_map wrong in_enums ++ flat_map wrong (in_services ++ in_extensions) ≡ [] = sym (flat_map-append wrong in_enums (in_services ++ in_extensions)) ∙ none_of_second (flat_map wrong in_messages) _ all in
      let last : flat_map wrong in_services ++ flat_map wrong in_extensions ≡ [] = sym (flat_map-append wrong in_services in_extensions) ∙ none_of_second (flat_map wrong in_enums) _ behind in
      ap (λ scope. list_all (message_stands (stands t) scope) f.message_type && list_all (service_stands (stands t) scope) f.service) (same_text f.«package»)
      ∙ and_from (list_all (message_stands (stands t) package1) f.message_type) (list_all (service_stands (stands t) package1) f.service)
      (all_there message_at (message_stands (stands t) package1) package1 [] file_tag.MESSAGE_TYPE 0 f.message_type (λ m place h. message_there m package1 place there h) (none_of_first _ _ all))
      (all_there service_at (service_stands (stands t) package1) package1 [] file_tag.SERVICE 0 f.service (λ s place h. service_there package1 place s there h) (none_of_first _ _ last))

-- ---- where nothing is wrong with a file

module _ (t : Table) (sees packages : List Bool) (n : ℕ) (imports : List (Option ℕ)) (f : FileDescriptorProto) (none : file_faults t sees packages n imports f ≡ []) where
  behind_imports : package_faults t n (text_of f.«package») ++ (all_declared_faults t sees packages n f ++ proto3_faults n f) ≡ []
  behind_imports = none_of_second (import_faults n imports) _ none

  pub package_right : package_faults t n (text_of f.«package») ≡ []
  package_right = none_of_first (package_faults t n (text_of f.«package»)) _ behind_imports

  pub declared_right : all_declared_faults t sees packages n f ≡ []
  declared_right =
      none_of_first (all_declared_faults t sees packages n f) _ (none_of_second (package_faults t n (text_of f.«package»)) _ behind_imports)

-- ---- the package

module _ (t : Table) (file : ℕ) where
  found_there : (name : List ℕ) (number : Option ℕ) → faults_at file [] PACKAGE (wrong_package_found t name number) ≡ [] → is_some number ≡ true
  found_there name None none = cc
  found_there name (Some n) none = refl

  -- where nothing is wrong with a package, it is in the table
  pub package_there : (name : List ℕ) → package_faults t file name ≡ [] → (name ≡ []) ⊎ (stands t name ≡ true)
  package_there [] none = inl refl
  package_there (byte ∷ rest) none =
      let name = byte ∷ rest in
      inr (found_there name (number_of t.names name)
      (none_of_second (faults_at file [] PACKAGE (wrong_length name)) _ (sym (map-append (fault_at file [] PACKAGE) (wrong_length name) (wrong_package_found t name (number_of t.names name))) ∙ none)))

module _ (t : Table) where
  named_by : (name : List ℕ) (number : Option ℕ) → number ≡ number_of t.names name → (name ≡ []) ⊎ (is_some number ≡ true) → name_of_place (name_at t.names) number ≡ name
  named_by name None is (inl top) = sym top
  named_by name None is (inr there) = absurd (false≢true there)
  named_by name (Some n) is there = get_or_from_slice_get t.names.full_names n name [] (found_name t.names.full_names name n (sym is))

  -- the number of a package is that of its name
  pub package_named : (package1 : Option (List ℕ)) (read : List ℕ) (number : Option ℕ) → read ≡ text_of package1 → number ≡ number_of t.names (name_in t.names None read) → (text_of package1 ≡ []) ⊎ (stands t (text_of package1) ≡ true) → name_of_place (name_at t.names) number ≡ linked.text_of package1
  package_named package1 read number same is of_package =
      let found : number ≡ number_of t.names (text_of package1) = is ∙ ap (number_of t.names) same in
      let there : (text_of package1 ≡ []) ⊎ (is_some number ≡ true) = elim of_package [
        | inl top ↦ inl top
        | inr stand ↦ inr (ap is_some found ∙ stand)
      ] in
      named_by (text_of package1) number found there ∙ sym (same_text package1)

-- ---- what linking a file looks up

-- where nothing is wrong with a file, the table has it
pub in_table : (t : Table) (sees packages : List Bool) (n : ℕ) (imports : List (Option ℕ)) (f : FileDescriptorProto) → file_faults t sees packages n imports f ≡ [] → IsInTable t f
in_table t sees packages n imports f none =
    let there = package_there t n (text_of f.«package») (package_right t sees packages n imports f none) in
    record {
      of_package = there;
      scopes = file_there t sees packages n f there (declared_right t sees packages n imports f none);
    }
