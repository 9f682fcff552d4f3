-- What proto3 alone doesn't allow, in lists of declarations.
use Rattle.std.proofs.Common.{◌≡◌, ℕ, ◌+◌, List, OnOk, Result, [], ◌∷◌, ◌++◌, refl, sym, ap, ◌∙◌, append-nil, append_assoc}
use Rattle.std.specs.Prelude.{ℤ}
use Rattle.std.specs.List.{flat_map}
use Rattle.std.proofs.lemmas.Grind.{flat_map-append}
use Rattle.std.proofs.lemmas.Result.{on_ok_weaker}
use Rattle.protox_descriptor.specs.FieldDescriptorProto.{FieldDescriptorProto}
use Rattle.protox_descriptor.specs.declared.descriptor.DescriptorProto.{DescriptorProto, out-DescriptorProto}
use Rattle.protox_descriptor.specs.declared.descriptor.EnumDescriptorProto.{EnumDescriptorProto}
use Rattle.protox_descriptor.specs.declared.descriptor.EnumValueDescriptorProto.{EnumValueDescriptorProto}
use Rattle.protox_descriptor.specs.declared.descriptor.FileDescriptorProto.{FileDescriptorProto}
use Rattle.protox_descriptor.specs.declared.descriptor.MethodDescriptorProto.{MethodDescriptorProto}
use Rattle.protox_descriptor.specs.declared.descriptor.OneofDescriptorProto.{OneofDescriptorProto}
use Rattle.protox_descriptor.specs.declared.descriptor.ServiceDescriptorProto.{ServiceDescriptorProto}
use Rattle.protox_descriptor.specs.declared.tag.enum_.TheConstants as enum_tag
use Rattle.protox_descriptor.specs.declared.tag.file.TheConstants as file_tag
use Rattle.protox_descriptor.specs.declared.tag.message.TheConstants as message_tag
use Rattle.protox_descriptor.specs.declared.tag.service.TheConstants as service_tag
use Rattle.protox_link_checks.proofs.Folding.{then_checked}
use Rattle.protox_link_checks.specs.Proto3.{enum_in_proto3, faults_of_proto3, message_in_proto3}
use Rattle.protox_link_fault.specs.declared.LinkFault.{LinkFault}
use Rattle.protox_symbols.proofs.Lemmas.{enums_at, extensions_at, fields_at, inside, message_declares}
use Rattle.protox_symbols.proofs.Lemmas.{messages_at, oneofs_at}
use Rattle.protox_walk.specs.Declarations.{Path, all_in, enum_at, field_at, file_declarations, full_name, message_at, method_at, numbered, oneof_at, service_at, siblings_at, text_of, value_at}
use Rattle.protox_walk.specs.Parts.{Declared}

module _ (file : ℕ) where
  abbrev wrong : Declared → List LinkFault
  wrong = faults_of_proto3 file

  -- ---- parts that are never wrong

  no_field : (full : List ℕ) (path : Path) (tag : ℤ) (n : ℕ) (xs : List FieldDescriptorProto) → flat_map wrong (numbered path tag n (all_in field_at full xs)) ≡ []
  no_field full path tag n [] = refl
  no_field full path tag n (x ∷ xs) = no_field full path tag (n + 1) xs

  no_oneof : (full : List ℕ) (path : Path) (tag : ℤ) (n : ℕ) (xs : List OneofDescriptorProto) → flat_map wrong (numbered path tag n (all_in oneof_at full xs)) ≡ []
  no_oneof full path tag n [] = refl
  no_oneof full path tag n (x ∷ xs) = no_oneof full path tag (n + 1) xs

  no_value : (full : List ℕ) (path : Path) (tag : ℤ) (n : ℕ) (xs : List EnumValueDescriptorProto) → flat_map wrong (numbered path tag n (all_in value_at full xs)) ≡ []
  no_value full path tag n [] = refl
  no_value full path tag n (x ∷ xs) = no_value full path tag (n + 1) xs

  no_method : (full : List ℕ) (path : Path) (tag : ℤ) (n : ℕ) (xs : List MethodDescriptorProto) → flat_map wrong (numbered path tag n (all_in method_at full xs)) ≡ []
  no_method full path tag n [] = refl
  no_method full path tag n (x ∷ xs) = no_method full path tag (n + 1) xs

  no_service : (full : List ℕ) (path : Path) (tag : ℤ) (n : ℕ) (xs : List ServiceDescriptorProto) → flat_map wrong (numbered path tag n (all_in service_at full xs)) ≡ []
  no_service full path tag n [] = refl
  no_service full path tag n (x ∷ xs) =
      flat_map-append wrong (service_at x full _) (numbered path tag (n + 1) (all_in service_at full xs))
      ∙ ap (λ (faults : List LinkFault). faults ++ flat_map wrong (numbered path tag (n + 1) (all_in service_at full xs))) (no_method (full_name full x.name) _ service_tag.METHOD 0 x.method)
      ∙ no_service full path tag (n + 1) xs

  -- ---- an enum, a message and a file

  pub enum_checked : {T E : Type 0} (r : Result T E) (e : EnumDescriptorProto) (full : List ℕ) (path : Path) (before after : List LinkFault)
      → OnOk r (after ≡ before ++ enum_in_proto3 file path e) → OnOk r (after ≡ before ++ flat_map wrong (enum_at e full path))
  enum_checked r e full path before after =
      on_ok_weaker r (λ is. is ∙ ap (λ (faults : List LinkFault). before ++ faults) (sym (append-nil (enum_in_proto3 file path e)) ∙ ap (λ (rest : List LinkFault). enum_in_proto3 file path e ++ rest) (sym (no_value full path enum_tag.VALUE 0 e.value))))

  -- what else is in a message
  rest_of : (m : DescriptorProto) (name : List ℕ) (path : Path) → flat_map wrong (messages_at m name path ++ enums_at m name path) ≡ flat_map wrong (inside m name path)
  rest_of m name path =
      let messages = messages_at m name path in
      let enums = enums_at m name path in
      let extensions = extensions_at m name path in
      let oneofs = oneofs_at m name path in
      let parts = out-DescriptorProto m in
      let behind : flat_map wrong (extensions ++ oneofs) ≡ [] =
      flat_map-append wrong extensions oneofs
      ∙ ap (λ (faults : List LinkFault). faults ++ flat_map wrong oneofs) (no_field name path message_tag.EXTENSION 0 parts.extension)
      ∙ no_oneof name path message_tag.ONEOF_DECL 0 parts.oneof_decl in
      let of_enums : flat_map wrong (enums ++ (extensions ++ oneofs)) ≡ flat_map wrong enums =
      flat_map-append wrong enums (extensions ++ oneofs) ∙ ap (λ (faults : List LinkFault). flat_map wrong enums ++ faults) behind ∙ append-nil (flat_map wrong enums) in
      flat_map-append wrong messages enums
      ∙ ap (λ (faults : List LinkFault). flat_map wrong messages ++ faults) (sym of_enums)
      ∙ sym (flat_map-append wrong messages (enums ++ (extensions ++ oneofs)))
      ∙ ap (λ (faults : List LinkFault). faults ++ flat_map wrong (messages ++ (enums ++ (extensions ++ oneofs)))) (sym (no_field name path message_tag.FIELD 0 parts.field))
      ∙ sym (flat_map-append wrong (fields_at m name path) (messages ++ (enums ++ (extensions ++ oneofs))))

  pub message_checked : {T E : Type 0} (r : Result T E) (m : DescriptorProto) (full : List ℕ) (path : Path) (a b c d : List LinkFault)
      → b ≡ a ++ message_in_proto3 file path m
      → c ≡ b ++ flat_map wrong (messages_at m (full_name full (out-DescriptorProto m).name) path)
      → OnOk r (d ≡ c ++ flat_map wrong (enums_at m (full_name full (out-DescriptorProto m).name) path))
      → OnOk r (d ≡ a ++ flat_map wrong (message_at m full path))
  message_checked r m full path a b c d ranges messages enums =
      let name = full_name full (out-DescriptorProto m).name in
      let own = message_in_proto3 file path m in
      on_ok_weaker r
      (λ is. is ∙ ap (λ (faults : List LinkFault). faults ++ flat_map wrong (messages_at m name path ++ enums_at m name path)) ranges
      ∙ append_assoc a own (flat_map wrong (messages_at m name path ++ enums_at m name path))
      ∙ ap (λ (rest : List LinkFault). a ++ (own ++ rest)) (rest_of m name path)
      ∙ ap (λ (ds : List Declared). a ++ flat_map wrong ds) (sym (message_declares m full path)))
      (then_checked wrong r b c d (messages_at m name path) (enums_at m name path) messages enums)

  pub file_checked : {T E : Type 0} (r : Result T E) (f : FileDescriptorProto) (a b c : List LinkFault)
      → b ≡ a ++ flat_map wrong (siblings_at [] file_tag.MESSAGE_TYPE (all_in message_at (text_of f.«package») f.message_type))
      → OnOk r (c ≡ b ++ flat_map wrong (siblings_at [] file_tag.ENUM_TYPE (all_in enum_at (text_of f.«package») f.enum_type)))
      → OnOk r (c ≡ a ++ flat_map wrong (file_declarations f))
  file_checked r f a b c messages enums =
      let package1 = text_of f.«package» in
      let in_messages = siblings_at [] file_tag.MESSAGE_TYPE (all_in message_at package1 f.message_type) in
      let in_enums = siblings_at [] file_tag.ENUM_TYPE (all_in enum_at package1 f.enum_type) in
      let in_services = siblings_at [] file_tag.SERVICE (all_in service_at package1 f.service) in
      let in_extensions = siblings_at [] file_tag.EXTENSION (all_in field_at package1 f.extension) in
      let behind : flat_map wrong (in_services ++ in_extensions) ≡ [] =
      flat_map-append wrong in_services in_extensions
      ∙ ap (λ (faults : List LinkFault). faults ++ flat_map wrong in_extensions) (no_service package1 [] file_tag.SERVICE 0 f.service)
      ∙ no_field package1 [] file_tag.EXTENSION 0 f.extension in
      let of_enums : flat_map wrong (in_enums ++ (in_services ++ in_extensions)) ≡ flat_map wrong in_enums =
      flat_map-append wrong in_enums (in_services ++ in_extensions) ∙ ap (λ (faults : List LinkFault). flat_map wrong in_enums ++ faults) behind ∙ append-nil (flat_map wrong in_enums) in
      on_ok_weaker r
      (λ is. is ∙ ap (λ (faults : List LinkFault). a ++ faults)
      (flat_map-append wrong in_messages in_enums
      ∙ ap (λ (faults : List LinkFault). flat_map wrong in_messages ++ faults) (sym of_enums)
      ∙ sym (flat_map-append wrong in_messages (in_enums ++ (in_services ++ in_extensions)))))
      (then_checked wrong r a b c in_messages in_enums messages enums)
