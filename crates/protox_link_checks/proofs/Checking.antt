-- A declaration whose name was checked first, then what it uses, and then what is in it.
use Rattle.std.proofs.Common.{◌≡◌, ℕ, Bool, List, Option, Some, None, OnOk, Result, [], ◌∷◌, ◌++◌, sym, ap, subst, ◌∙◌, append-nil, append_assoc}
use Rattle.std.specs.List.{flat_map}
use Rattle.std.proofs.lemmas.Result.{on_ok_weaker}
use Rattle.protox_descriptor.specs.declared.descriptor.DescriptorProto.{DescriptorProto, out-DescriptorProto}
use Rattle.protox_descriptor.specs.declared.descriptor.FileDescriptorProto.{FileDescriptorProto}
use Rattle.protox_descriptor.specs.declared.tag.file.TheConstants as file_tag
use Rattle.protox_link_checks.proofs.Folding.{then_checked}
use Rattle.protox_link_checks.specs.Checked.{IsChecked, MayUse}
use Rattle.protox_link_checks.specs.Faults.{declared_faults, faults_named}
use Rattle.protox_link_fault.specs.declared.LinkFault.{LinkFault}
use Rattle.protox_names.specs.Names.{within}
use Rattle.protox_symbols.proofs.Lemmas.{enums_at, extensions_at, fields_at, full_is_within, inside}
use Rattle.protox_symbols.proofs.Lemmas.{message_declares, messages_at, oneofs_at}
use Rattle.protox_symbols.specs.Scopes.{scope_name}
use Rattle.protox_symbols.specs.Symbols.{Table}
use Rattle.protox_walk.specs.Declarations.{Path, all_in, declared, enum_at, field_at, file_declarations, full_name, message_at, service_at, siblings_at, text_of}
use Rattle.protox_walk.specs.Parts.{Declared, Message}

module _ (t : Table) (sees packages : List Bool) (file : ℕ) where
  abbrev wrong : Declared → List LinkFault
  wrong = declared_faults t sees packages file

  -- a name that was read first
  pub name_read : (path : Path) (full : List ℕ) (read name : Option (List ℕ)) (before after : List LinkFault) (found found' : Option (Option ℕ)) → read ≡ name → found ≡ found' → IsChecked t sees packages file path full read before after found → IsChecked t sees packages file path full name before after found'
  name_read path full read name before after found found' same is h =
      subst (λ f. IsChecked t sees packages file path full name before after f) is (subst (λ n. IsChecked t sees packages file path full n before after found) same h)

  -- what uses no names
  pub nothing_used : (path : Path) (full : List ℕ) (name : Option (List ℕ)) (before after : List LinkFault) (found : Option (Option ℕ)) → IsChecked t sees packages file path full name before after found → after ≡ before ++ faults_named t sees packages file path (full_name full name) (text_of name) []
  nothing_used path full name before after None h = h []
  nothing_used path full name before after (Some number) h = sym (append-nil after) ∙ sym (h.behind [])

  pub alone : (before after : List LinkFault) (d : Declared) → after ≡ before ++ wrong d → after ≡ before ++ flat_map wrong (d ∷ [])
  alone before after d is = is ∙ ap (λ faults. before ++ faults) (sym (append-nil (wrong d)))

  pub first_checked : {T E : Type 0} (r : Result T E) (before between after : List LinkFault) (d : Declared) (ds : List Declared) → between ≡ before ++ wrong d
      → OnOk r (after ≡ between ++ flat_map wrong ds) → OnOk r (after ≡ before ++ flat_map wrong (d ∷ ds))
  first_checked r before between after d ds is =
      on_ok_weaker r (λ rest. rest ∙ ap (λ faults. faults ++ flat_map wrong ds) is ∙ append_assoc before (wrong d) (flat_map wrong ds))

  -- what may use something, and what it uses
  pub rest_checked : {T E : Type 0} (r : Result T E) (path : Path) (full : List ℕ) (name : Option (List ℕ)) (number : Option ℕ) (before between after uses : List LinkFault)
      → MayUse t sees packages file path full name before between number
      → OnOk r (after ≡ between ++ uses)
      → OnOk r (after ≡ before ++ faults_named t sees packages file path (full_name full name) (text_of name) uses)
  rest_checked r path full name number before between after uses may =
      on_ok_weaker r (λ is. is ∙ sym (may.behind uses))

  -- what is told in two steps
  pub two_told : {T E : Type 0} (r : Result T E) (before between after first second : List LinkFault) → between ≡ before ++ first → OnOk r (after ≡ between ++ second) → OnOk r (after ≡ before ++ (first ++ second))
  two_told r before between after first second is =
      on_ok_weaker r (λ rest. rest ∙ ap (λ faults. faults ++ second) is ∙ append_assoc before first second)

  -- what uses two names
  pub uses_checked : {T E : Type 0} (r : Result T E) (path : Path) (full : List ℕ) (name : Option (List ℕ)) (number : Option ℕ) (before start between after : List LinkFault) (first second : List ℕ → List LinkFault)
      → MayUse t sees packages file path full name before start number
      → between ≡ start ++ first (within (scope_name t number) (text_of name))
      → OnOk r (after ≡ between ++ second (within (scope_name t number) (text_of name)))
      → OnOk r (after ≡ before ++ (faults_named t sees packages file path (full_name full name) (text_of name) (first (full_name full name) ++ second (full_name full name)) ++ []))
  uses_checked r path full name number before start between after first second may is =
      let user = ap (λ s. within s (text_of name)) may.named ∙ full_is_within full name in
      let uses = first (full_name full name) ++ second (full_name full name) in
      on_ok_weaker r (λ rest. rest
      ∙ ap (λ faults. faults ++ second (within (scope_name t number) (text_of name))) is
      ∙ append_assoc start (first (within (scope_name t number) (text_of name))) (second (within (scope_name t number) (text_of name)))
      ∙ ap (λ u. start ++ (first u ++ second u)) user
      ∙ sym (may.behind uses)
      ∙ ap (λ faults. before ++ faults) (sym (append-nil (faults_named t sees packages file path (full_name full name) (text_of name) uses))))

  -- a message, and then what is in it
  pub message_checked : {T E : Type 0} (r : Result T E) (m : DescriptorProto) (full : List ℕ) (path : Path) (a b c d e f g : List LinkFault)
      → b ≡ a ++ wrong (declared path (full_name full (out-DescriptorProto m).name) (Message m))
      → c ≡ b ++ flat_map wrong (fields_at m (full_name full (out-DescriptorProto m).name) path)
      → d ≡ c ++ flat_map wrong (messages_at m (full_name full (out-DescriptorProto m).name) path)
      → e ≡ d ++ flat_map wrong (enums_at m (full_name full (out-DescriptorProto m).name) path)
      → f ≡ e ++ flat_map wrong (extensions_at m (full_name full (out-DescriptorProto m).name) path)
      → OnOk r (g ≡ f ++ flat_map wrong (oneofs_at m (full_name full (out-DescriptorProto m).name) path))
      → OnOk r (g ≡ a ++ flat_map wrong (message_at m full path))
  message_checked r m full path a b c d e f g itself fields messages enums extensions oneofs =
      let name = full_name full (out-DescriptorProto m).name in
      subst (λ ds. OnOk r (g ≡ a ++ flat_map wrong ds)) (sym (message_declares m full path))
      (first_checked r a b g (declared path name (Message m)) (inside m name path) itself
      (then_checked wrong r b c g (fields_at m name path) _ fields
      (then_checked wrong r c d g (messages_at m name path) _ messages
      (then_checked wrong r d e g (enums_at m name path) _ enums
      (then_checked wrong r e f g (extensions_at m name path) (oneofs_at m name path) extensions oneofs)))))

  -- what stands in the package of a file
  pub file_checked : {T E : Type 0} (r : Result T E) (f : FileDescriptorProto) (a b c d e : List LinkFault)
      → b ≡ a ++ flat_map wrong (siblings_at [] file_tag.MESSAGE_TYPE (all_in message_at (text_of f.«package») f.message_type))
      → c ≡ b ++ flat_map wrong (siblings_at [] file_tag.ENUM_TYPE (all_in enum_at (text_of f.«package») f.enum_type))
      → d ≡ c ++ flat_map wrong (siblings_at [] file_tag.SERVICE (all_in service_at (text_of f.«package») f.service))
      → OnOk r (e ≡ d ++ flat_map wrong (siblings_at [] file_tag.EXTENSION (all_in field_at (text_of f.«package») f.extension)))
      → OnOk r (e ≡ a ++ flat_map wrong (file_declarations f))
  file_checked r f a b c d e messages enums services extensions =
      let package1 = text_of f.«package» in
      let in_enums = siblings_at [] file_tag.ENUM_TYPE (all_in enum_at package1 f.enum_type) in
      let in_services = siblings_at [] file_tag.SERVICE (all_in service_at package1 f.service) in
      let in_extensions = siblings_at [] file_tag.EXTENSION (all_in field_at package1 f.extension) in
      then_checked wrong r a b e (siblings_at [] file_tag.MESSAGE_TYPE (all_in message_at package1 f.message_type)) (in_enums ++ (in_services ++ in_extensions)) messages
      (then_checked wrong r b c e in_enums (in_services ++ in_extensions) enums
      (then_checked wrong r c d e in_services in_extensions services extensions))
