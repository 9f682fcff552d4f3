-- Extensions in lists of declarations.
use Rattle.std.proofs.Common.{◌≡◌, ℕ, ◌+◌, Bool, List, [], ◌∷◌, ◌++◌, refl, sym, ap, ◌∙◌, append-nil, append_assoc}
use Rattle.std.specs.Prelude.{ℤ}
use Rattle.std.specs.List.{flat_map}
use Rattle.std.proofs.lemmas.Grind.{flat_map-append}
use Rattle.protox_descriptor.specs.declared.descriptor.DescriptorProto.{DescriptorProto, out-DescriptorProto}
use Rattle.protox_descriptor.specs.declared.descriptor.EnumDescriptorProto.{EnumDescriptorProto}
use Rattle.protox_descriptor.specs.declared.descriptor.EnumValueDescriptorProto.{EnumValueDescriptorProto}
use Rattle.protox_descriptor.specs.declared.descriptor.FileDescriptorProto.{FileDescriptorProto}
use Rattle.protox_descriptor.specs.declared.descriptor.MethodDescriptorProto.{MethodDescriptorProto}
use Rattle.protox_descriptor.specs.declared.descriptor.OneofDescriptorProto.{OneofDescriptorProto}
use Rattle.protox_descriptor.specs.declared.descriptor.ServiceDescriptorProto.{ServiceDescriptorProto}
use Rattle.protox_descriptor.specs.declared.tag.enum_.TheConstants as enum_tag
use Rattle.protox_descriptor.specs.declared.tag.file.TheConstants as file_tag
use Rattle.protox_descriptor.specs.declared.tag.message.TheConstants as message_tag
use Rattle.protox_descriptor.specs.declared.tag.service.TheConstants as service_tag
use Rattle.protox_link_checks.specs.Extensions.{extension_of, extensions_of}
use Rattle.protox_link_checks.specs.declared.extensions.Extension.{Extension}
use Rattle.protox_symbols.proofs.Lemmas.{enums_at, extensions_at, fields_at, message_declares}
use Rattle.protox_symbols.proofs.Lemmas.{messages_at, oneofs_at}
use Rattle.protox_symbols.specs.Symbols.{Table}
use Rattle.protox_walk.specs.Declarations.{Path, all_in, enum_at, field_at, full_name, message_at, method_at, numbered, oneof_at, service_at, siblings_at, text_of, value_at}
use Rattle.protox_walk.specs.Parts.{Declared}

module _ (t : Table) (sees packages : List Bool) where
  abbrev of : Declared → List Extension
  of = extension_of t sees packages

  abbrev all : List Declared → List Extension
  all ds = flat_map of ds

  then_added : (before between after : List Extension) (xs ys : List Declared) → between ≡ before ++ all xs → after ≡ between ++ all ys → after ≡ before ++ all (xs ++ ys)
  then_added before between after xs ys first second =
      second ∙ ap (λ es. es ++ all ys) first ∙ append_assoc before (all xs) (all ys) ∙ ap (λ es. before ++ es) (sym (flat_map-append of xs ys))

  none_in_front : (xs ys : List Declared) → all xs ≡ [] → all (xs ++ ys) ≡ all ys
  none_in_front xs ys none = flat_map-append of xs ys ∙ ap (λ es. es ++ all ys) none

  none_behind : (xs ys : List Declared) → all ys ≡ [] → all (xs ++ ys) ≡ all xs
  none_behind xs ys none = flat_map-append of xs ys ∙ ap (λ es. all xs ++ es) none ∙ append-nil (all xs)

  -- ---- what has none

  no_oneof : (full : List ℕ) (path : Path) (tag : ℤ) (n : ℕ) (xs : List OneofDescriptorProto) → all (numbered path tag n (all_in oneof_at full xs)) ≡ []
  no_oneof full path tag n [] = refl
  no_oneof full path tag n (x ∷ xs) = no_oneof full path tag (n + 1) xs

  no_value : (full : List ℕ) (path : Path) (tag : ℤ) (n : ℕ) (xs : List EnumValueDescriptorProto) → all (numbered path tag n (all_in value_at full xs)) ≡ []
  no_value full path tag n [] = refl
  no_value full path tag n (x ∷ xs) = no_value full path tag (n + 1) xs

  no_method : (full : List ℕ) (path : Path) (tag : ℤ) (n : ℕ) (xs : List MethodDescriptorProto) → all (numbered path tag n (all_in method_at full xs)) ≡ []
  no_method full path tag n [] = refl
  no_method full path tag n (x ∷ xs) = no_method full path tag (n + 1) xs

  no_enum : (full : List ℕ) (path : Path) (tag : ℤ) (n : ℕ) (xs : List EnumDescriptorProto) → all (numbered path tag n (all_in enum_at full xs)) ≡ []
  no_enum full path tag n [] = refl
  no_enum full path tag n (x ∷ xs) =
      none_in_front (enum_at x full _) (numbered path tag (n + 1) (all_in enum_at full xs)) (no_value full _ enum_tag.VALUE 0 x.value)
      ∙ no_enum full path tag (n + 1) xs

  no_service : (full : List ℕ) (path : Path) (tag : ℤ) (n : ℕ) (xs : List ServiceDescriptorProto) → all (numbered path tag n (all_in service_at full xs)) ≡ []
  no_service full path tag n [] = refl
  no_service full path tag n (x ∷ xs) =
      none_in_front (service_at x full _) (numbered path tag (n + 1) (all_in service_at full xs)) (no_method (full_name full x.name) _ service_tag.METHOD 0 x.method)
      ∙ no_service full path tag (n + 1) xs

  -- ---- a message and a file

  pub message_extensions : (m : DescriptorProto) (full : List ℕ) (path : Path) (a b c d : List Extension)
      → b ≡ a ++ all (fields_at m (full_name full (out-DescriptorProto m).name) path)
      → c ≡ b ++ all (messages_at m (full_name full (out-DescriptorProto m).name) path)
      → d ≡ c ++ all (extensions_at m (full_name full (out-DescriptorProto m).name) path)
      → d ≡ a ++ all (message_at m full path)
  message_extensions m full path a b c d fields messages extensions =
      let name = full_name full (out-DescriptorProto m).name in
      let parts = out-DescriptorProto m in
      let rest = enums_at m name path ++ (extensions_at m name path ++ oneofs_at m name path) in
      let same : all rest ≡ all (extensions_at m name path) =
      none_in_front (enums_at m name path) (extensions_at m name path ++ oneofs_at m name path) (no_enum name path message_tag.ENUM_TYPE 0 parts.enum_type)
      ∙ none_behind (extensions_at m name path) (oneofs_at m name path) (no_oneof name path message_tag.ONEOF_DECL 0 parts.oneof_decl) in
      then_added a b d (fields_at m name path) (messages_at m name path ++ rest) fields
      (then_added b c d (messages_at m name path) rest messages (extensions ∙ ap (λ es. c ++ es) (sym same)))
      ∙ ap (λ ds. a ++ all ds) (sym (message_declares m full path))

  pub file_extensions : (f : FileDescriptorProto) (before a b : List Extension) → before ≡ []
      → a ≡ before ++ all (siblings_at [] file_tag.MESSAGE_TYPE (all_in message_at (text_of f.«package») f.message_type))
      → b ≡ a ++ all (siblings_at [] file_tag.EXTENSION (all_in field_at (text_of f.«package») f.extension))
      → b ≡ extensions_of t sees packages f
  file_extensions f before a b none messages extensions =
      let scope = text_of f.«package» in
      let in_messages = siblings_at [] file_tag.MESSAGE_TYPE (all_in message_at scope f.message_type) in
      let in_enums = siblings_at [] file_tag.ENUM_TYPE (all_in enum_at scope f.enum_type) in
      let in_services = siblings_at [] file_tag.SERVICE (all_in service_at scope f.service) in
      let in_extensions = siblings_at [] file_tag.EXTENSION (all_in field_at scope f.extension) in
      let same : all (in_enums ++ (in_services ++ in_extensions)) ≡ all in_extensions =
      none_in_front in_enums (in_services ++ in_extensions) (no_enum scope [] file_tag.ENUM_TYPE 0 f.enum_type)
      ∙ none_in_front in_services in_extensions (no_service scope [] file_tag.SERVICE 0 f.service) in
      then_added [] a b in_messages (in_enums ++ (in_services ++ in_extensions)) (messages ∙ ap (λ es. es ++ all in_messages) none) (extensions ∙ ap (λ es. a ++ es) (sym same))
