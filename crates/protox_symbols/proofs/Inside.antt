-- What is in an enum, a service, a message or a file.
use Rattle.std.proofs.Common.{◌≡◌, ℕ, zero, suc, ◌<◌, List, OnOk, Option, Result, [], ◌∷◌, ◌++◌, fold, map, refl, sym, ap, subst, ◌∙◌, arith}
use Rattle.std.specs.Prelude.{ℤ}
use Rattle.std.proofs.lemmas.Result.{on_ok_weaker}
use Rattle.protox_descriptor.specs.FieldDescriptorProto.{FieldDescriptorProto}
use Rattle.protox_descriptor.specs.declared.descriptor.DescriptorProto.{DescriptorProto, out-DescriptorProto, size-DescriptorProto}
use Rattle.protox_descriptor.specs.declared.descriptor.DescriptorProto.TheFolds.{fold-DescriptorProto, fold_out-DescriptorProto}
use Rattle.protox_descriptor.specs.declared.descriptor.EnumDescriptorProto.{EnumDescriptorProto}
use Rattle.protox_descriptor.specs.declared.descriptor.FileDescriptorProto.{FileDescriptorProto}
use Rattle.protox_descriptor.specs.declared.descriptor.ServiceDescriptorProto.{ServiceDescriptorProto}
use Rattle.protox_descriptor.specs.declared.tag.enum_.TheConstants as enum_tag
use Rattle.protox_descriptor.specs.declared.tag.file.TheConstants as file_tag
use Rattle.protox_descriptor.specs.declared.tag.message.TheConstants as message_tag
use Rattle.protox_descriptor.specs.declared.tag.service.TheConstants as service_tag
use Rattle.protox_walk.specs.Declarations.{At, OfMessage, Path, all_in, declared, each_told, enum_at, field_at, file_declarations, full_name, message_at, message_step, method_at, oneof_at, service_at, siblings_at, text_of, value_at}
use Rattle.protox_walk.specs.Parts.{Declared, Enum, Field, Message, Method, Oneof, Service, Value}
use Rattle.protox_walk.proofs.Lemmas.{size-nested}
use Rattle.protox_symbols.specs.Symbols.{Table}
use Rattle.protox_symbols.specs.Scopes.{IsMissing, scope_name, with_declarations}
use Rattle.protox_symbols.specs.Things.{entry_of, file_entries, package_entries, with_entry}
use Rattle.protox_symbols.proofs.Folding.{added_behind, first_added, front_added, in_scope_named}
use Rattle.protox_symbols.proofs.Standing.{AddNothing, no_inner_scope, nothing_alone, nothing_named, nothing_numbered, nothing_then, only_first}

-- ---- messages

told_all : (scope : List ℕ) (ms : List DescriptorProto) → each_told scope (map (fold-DescriptorProto OfMessage message_step) ms) ms ≡ all_in message_at scope ms
told_all scope [] = refl
told_all scope (m ∷ ms) = ap (λ more. message_at m scope ∷ more) (told_all scope ms)

-- the lists of a message
abbrev pub fields_at : DescriptorProto → List ℕ → At
fields_at m name path = siblings_at path message_tag.FIELD (all_in field_at name (out-DescriptorProto m).field)

abbrev pub messages_at : DescriptorProto → List ℕ → At
messages_at m name path = siblings_at path message_tag.NESTED_TYPE (all_in message_at name (out-DescriptorProto m).nested_type)

abbrev pub enums_at : DescriptorProto → List ℕ → At
enums_at m name path = siblings_at path message_tag.ENUM_TYPE (all_in enum_at name (out-DescriptorProto m).enum_type)

abbrev pub extensions_at : DescriptorProto → List ℕ → At
extensions_at m name path = siblings_at path message_tag.EXTENSION (all_in field_at name (out-DescriptorProto m).extension)

abbrev pub oneofs_at : DescriptorProto → List ℕ → At
oneofs_at m name path = siblings_at path message_tag.ONEOF_DECL (all_in oneof_at name (out-DescriptorProto m).oneof_decl)

abbrev pub inside : DescriptorProto → List ℕ → At
inside m name path =
    fields_at m name path ++ (messages_at m name path ++ (enums_at m name path ++ (extensions_at m name path ++ oneofs_at m name path)))

pub message_declares : (m : DescriptorProto) (scope : List ℕ) (path : Path) → message_at m scope path
    ≡ declared path (full_name scope (out-DescriptorProto m).name) (Message m) ∷ inside m (full_name scope (out-DescriptorProto m).name) path
message_declares m scope path =
    let name = full_name scope (out-DescriptorProto m).name in
    ap (λ (declares : OfMessage). declares m scope path) (fold_out-DescriptorProto OfMessage message_step m)
    ∙ ap (λ (nested : List At). declared path name (Message m) ∷ (fields_at m name path ++ (siblings_at path message_tag.NESTED_TYPE nested ++ (enums_at m name path ++ (extensions_at m name path ++ oneofs_at m name path)))))
    (told_all name (out-DescriptorProto m).nested_type)

-- declarations in a scope of the table
pub record AreAddedIn (file : ℕ) (t t' : Table) (scope : Option ℕ) (declares : List ℕ → List Declared) : Type 0 where
  pub declared : t' ≡ with_declarations file t (declares (scope_name t scope))
  pub kept : scope_name t' scope ≡ scope_name t scope

-- the declarations of a scope with this name, and then more
pub added_then : {T E : Type 0} (r : Result T E) (file : ℕ) (t t₁ t' : Table) (scope : Option ℕ) (name : List ℕ) (declares : List ℕ → List Declared) (ds : List Declared) → AreAddedIn file t t₁ scope declares → scope_name t scope ≡ name
    → OnOk r (t' ≡ with_declarations file t₁ ds) → OnOk r (t' ≡ with_declarations file t (declares name ++ ds))
added_then r file t t₁ t' scope name declares ds h named =
    front_added r file t t₁ t' (declares name) ds (h.declared ∙ ap (λ s. with_declarations file t (declares s)) named)

-- a message, and what is in it, list by list
pub message_added : {T E : Type 0} (r : Result T E) (file : ℕ) (m : DescriptorProto) (around : List ℕ) (path : Path) (scope : Option ℕ) (t t₁ t₂ t₃ t₄ t₅ t' : Table)
    → t₁ ≡ with_entry t (entry_of file (declared path (full_name around (out-DescriptorProto m).name) (Message m)))
    → scope_name t₁ scope ≡ full_name around (out-DescriptorProto m).name
    → AreAddedIn file t₁ t₂ scope (λ s. fields_at m s path)
    → AreAddedIn file t₂ t₃ scope (λ s. messages_at m s path)
    → AreAddedIn file t₃ t₄ scope (λ s. enums_at m s path)
    → AreAddedIn file t₄ t₅ scope (λ s. extensions_at m s path)
    → OnOk r (t' ≡ with_declarations file t₅ (oneofs_at m (scope_name t₅ scope) path))
    → OnOk r (t' ≡ with_declarations file t (message_at m around path))
message_added r file m around path scope t t₁ t₂ t₃ t₄ t₅ t' made named fields messages enums extensions oneofs =
    let name = full_name around (out-DescriptorProto m).name in
    let in_third : scope_name t₃ scope ≡ name = messages.kept ∙ fields.kept ∙ named in
    let in_last : scope_name t₅ scope ≡ name = extensions.kept ∙ enums.kept ∙ in_third in
    subst (λ ds. OnOk r (t' ≡ with_declarations file t ds)) (sym (message_declares m around path))
    (first_added r file t t₁ t' (declared path name (Message m)) (inside m name path) made
    (added_then r file t₁ t₂ t' scope name (λ s. fields_at m s path) _ fields named
    (added_then r file t₂ t₃ t' scope name (λ s. messages_at m s path) _ messages (fields.kept ∙ named)
    (added_then r file t₃ t₄ t' scope name (λ s. enums_at m s path) _ enums in_third
    (added_then r file t₄ t₅ t' scope name (λ s. extensions_at m s path) (oneofs_at m name path) extensions (enums.kept ∙ in_third)
    (in_scope_named r file t₅ t' (λ s. oneofs_at m s path) (scope_name t₅ scope) name in_last oneofs))))))

-- ---- in a scope that isn't there

module _ (file : ℕ) (t : Table) where
  fields_nothing : (scope : List ℕ) (path : Path) (tag : ℤ) (fields : List FieldDescriptorProto) → IsMissing t scope → AddNothing file t (siblings_at path tag (all_in field_at scope fields))
  fields_nothing scope path tag fields missing =
      nothing_numbered file t field_at scope path tag 0 fields (λ i x place below is. nothing_alone file t scope x.name place (Field x) missing)

  enum_nothing : (e : EnumDescriptorProto) (scope : List ℕ) (path : Path) → IsMissing t scope → AddNothing file t (enum_at e scope path)
  enum_nothing e scope path missing =
      nothing_named file t scope e.name path (Enum e) (siblings_at path enum_tag.VALUE (all_in value_at scope e.value)) missing
      (nothing_numbered file t value_at scope path enum_tag.VALUE 0 e.value (λ i x place below is. nothing_alone file t scope x.name place (Value x) missing))

  -- the methods of a service whose scope isn't there
  pub methods_nothing : (s : ServiceDescriptorProto) (name : List ℕ) (path : Path) → IsMissing t name → AddNothing file t (siblings_at path service_tag.METHOD (all_in method_at name s.method))
  methods_nothing s name path missing =
      nothing_numbered file t method_at name path service_tag.METHOD 0 s.method (λ i x place below is. nothing_alone file t name x.name place (Method x) missing)

  service_nothing : (s : ServiceDescriptorProto) (scope : List ℕ) (path : Path) → IsMissing t scope → AddNothing file t (service_at s scope path)
  service_nothing s scope path missing =
      nothing_named file t scope s.name path (Service s) (siblings_at path service_tag.METHOD (all_in method_at (full_name scope s.name) s.method)) missing
      (methods_nothing s (full_name scope s.name) path (no_inner_scope t scope s.name missing))

  enums_nothing : (scope : List ℕ) (path : Path) (tag : ℤ) (enums : List EnumDescriptorProto) → IsMissing t scope → AddNothing file t (siblings_at path tag (all_in enum_at scope enums))
  enums_nothing scope path tag enums missing =
      nothing_numbered file t enum_at scope path tag 0 enums (λ i x place below is. enum_nothing x scope place missing)

  -- what is in a message, given what the messages in it are
  inside_from : (m : DescriptorProto) (name : List ℕ) (path : Path) → IsMissing t name → AddNothing file t (messages_at m name path) → AddNothing file t (inside m name path)
  inside_from m name path missing nested =
      nothing_then file t (fields_at m name path) _ (fields_nothing name path message_tag.FIELD (out-DescriptorProto m).field missing)
      (nothing_then file t (messages_at m name path) _ nested
      (nothing_then file t (enums_at m name path) _ (enums_nothing name path message_tag.ENUM_TYPE (out-DescriptorProto m).enum_type missing)
      (nothing_then file t (extensions_at m name path) (oneofs_at m name path) (fields_nothing name path message_tag.EXTENSION (out-DescriptorProto m).extension missing)
      (nothing_numbered file t oneof_at name path message_tag.ONEOF_DECL 0 (out-DescriptorProto m).oneof_decl (λ i x place below is. nothing_alone file t name x.name place (Oneof x) missing)))))

  -- messages up to a size
  message_nothing : (k : ℕ) (m : DescriptorProto) (scope : List ℕ) (path : Path) → size-DescriptorProto m < k → IsMissing t scope → AddNothing file t (message_at m scope path)
  message_nothing zero m scope path below missing = absurd (omega arith)
  message_nothing (suc k) m scope path below missing =
      let name = full_name scope (out-DescriptorProto m).name in
      let inner : IsMissing t name = no_inner_scope t scope (out-DescriptorProto m).name missing in
      ap (with_declarations file t) (message_declares m scope path)
      ∙ nothing_named file t scope (out-DescriptorProto m).name path (Message m) (inside m name path) missing
      (inside_from m name path inner
      (nothing_numbered file t message_at name path message_tag.NESTED_TYPE 0 (out-DescriptorProto m).nested_type
      (λ i x place within is. message_nothing k x name place (omega (arith, below, size-nested m x i within is)) inner)))

  messages_nothing : (scope : List ℕ) (path : Path) (tag : ℤ) (ms : List DescriptorProto) → IsMissing t scope → AddNothing file t (siblings_at path tag (all_in message_at scope ms))
  messages_nothing scope path tag ms missing =
      nothing_numbered file t message_at scope path tag 0 ms (λ i x place below is. message_nothing (suc (size-DescriptorProto x)) x scope place (omega arith) missing)

  -- what is in a message whose scope isn't there
  pub inside_nothing : (m : DescriptorProto) (name : List ℕ) (path : Path) → IsMissing t name → AddNothing file t (inside m name path)
  inside_nothing m name path missing =
      inside_from m name path missing (messages_nothing name path message_tag.NESTED_TYPE (out-DescriptorProto m).nested_type missing)

  -- what is in a package whose scope isn't there
  pub file_nothing : (f : FileDescriptorProto) → IsMissing t (text_of f.«package») → AddNothing file t (file_declarations f)
  file_nothing f missing =
      let scope = text_of f.«package» in
      nothing_then file t (siblings_at [] file_tag.MESSAGE_TYPE (all_in message_at scope f.message_type)) _ (messages_nothing scope [] file_tag.MESSAGE_TYPE f.message_type missing)
      (nothing_then file t (siblings_at [] file_tag.ENUM_TYPE (all_in enum_at scope f.enum_type)) _ (enums_nothing scope [] file_tag.ENUM_TYPE f.enum_type missing)
      (nothing_then file t (siblings_at [] file_tag.SERVICE (all_in service_at scope f.service)) (siblings_at [] file_tag.EXTENSION (all_in field_at scope f.extension))
      (nothing_numbered file t service_at scope [] file_tag.SERVICE 0 f.service (λ i x place below is. service_nothing x scope place missing))
      (fields_nothing scope [] file_tag.EXTENSION f.extension missing)))

-- A service, a message or a file whose scope isn't there adds no more.
pub service_alone : (file : ℕ) (t t' : Table) (s : ServiceDescriptorProto) (scope : List ℕ) (path : Path) → t' ≡ with_entry t (entry_of file (declared path (full_name scope s.name) (Service s))) → IsMissing t' (full_name scope s.name)
    → t' ≡ with_declarations file t (service_at s scope path)
service_alone file t t' s scope path made missing =
    only_first file t t' (declared path (full_name scope s.name) (Service s)) (siblings_at path service_tag.METHOD (all_in method_at (full_name scope s.name) s.method)) made
    (methods_nothing file t' s (full_name scope s.name) path missing)

pub message_alone : (file : ℕ) (t t' : Table) (m : DescriptorProto) (scope : List ℕ) (path : Path) → t' ≡ with_entry t (entry_of file (declared path (full_name scope (out-DescriptorProto m).name) (Message m))) → IsMissing t' (full_name scope (out-DescriptorProto m).name)
    → t' ≡ with_declarations file t (message_at m scope path)
message_alone file t t' m scope path made missing =
    let name = full_name scope (out-DescriptorProto m).name in
    only_first file t t' (declared path name (Message m)) (inside m name path) made (inside_nothing file t' m name path missing)
    ∙ sym (ap (with_declarations file t) (message_declares m scope path))

-- ---- files

abbrev pub messages_of : FileDescriptorProto → List ℕ → List Declared
messages_of f scope = siblings_at [] file_tag.MESSAGE_TYPE (all_in message_at scope f.message_type)

abbrev pub enums_of : FileDescriptorProto → List ℕ → List Declared
enums_of f scope = siblings_at [] file_tag.ENUM_TYPE (all_in enum_at scope f.enum_type)

abbrev pub services_of : FileDescriptorProto → List ℕ → List Declared
services_of f scope = siblings_at [] file_tag.SERVICE (all_in service_at scope f.service)

abbrev pub extensions_of : FileDescriptorProto → List ℕ → List Declared
extensions_of f scope = siblings_at [] file_tag.EXTENSION (all_in field_at scope f.extension)

-- its packages, and then its declarations, list by list
pub file_added : {T E : Type 0} (r : Result T E) (file : ℕ) (f : FileDescriptorProto) (scope : Option ℕ) (t t₁ t₂ t₃ t₄ t' : Table)
    → t₁ ≡ fold with_entry t (package_entries file (text_of f.«package»))
    → scope_name t₁ scope ≡ text_of f.«package»
    → AreAddedIn file t₁ t₂ scope (messages_of f)
    → AreAddedIn file t₂ t₃ scope (enums_of f)
    → AreAddedIn file t₃ t₄ scope (services_of f)
    → OnOk r (t' ≡ with_declarations file t₄ (extensions_of f (scope_name t₄ scope)))
    → OnOk r (t' ≡ fold with_entry t (file_entries file f))
file_added r file f scope t t₁ t₂ t₃ t₄ t' made named messages enums services extensions =
    let name = text_of f.«package» in
    let in_third : scope_name t₃ scope ≡ name = enums.kept ∙ messages.kept ∙ named in
    on_ok_weaker r (λ all. all ∙ ap (λ u. with_declarations file u (file_declarations f)) made ∙ added_behind file t (package_entries file name) (file_declarations f))
    (added_then r file t₁ t₂ t' scope name (messages_of f) _ messages named
    (added_then r file t₂ t₃ t' scope name (enums_of f) _ enums (messages.kept ∙ named)
    (added_then r file t₃ t₄ t' scope name (services_of f) (extensions_of f name) services in_third
    (in_scope_named r file t₄ t' (extensions_of f) (scope_name t₄ scope) name (services.kept ∙ in_third) extensions))))

pub file_alone : (file : ℕ) (t t' : Table) (f : FileDescriptorProto) → t' ≡ fold with_entry t (package_entries file (text_of f.«package»)) → IsMissing t' (text_of f.«package») → t' ≡ fold with_entry t (file_entries file f)
file_alone file t t' f made missing =
    sym (file_nothing file t' f missing) ∙ ap (λ u. with_declarations file u (file_declarations f)) made
    ∙ added_behind file t (package_entries file (text_of f.«package»)) (file_declarations f)
