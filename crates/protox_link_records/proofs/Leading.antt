-- Where the path of a message or an enum of a file leads: into it.
use Rattle.std.proofs.Common.{◌≡◌, ◌+◌, ◌<◌, ℕ, zero, suc, List, [], ◌∷◌, ◌++◌, Option, Some, None, append_assoc, ap, arith, get_or, length, refl, slice_get, sym, subst, ◌∙◌}
use Rattle.std.specs.Prelude.{⊤, ℤ, pos, All, Contains}
use Rattle.std.proofs.lemmas.List.Elements.{All-append, All-cons, All-contains, All-nil}
use Rattle.std.proofs.lemmas.Option.{slice_get_read}
use Rattle.protox_descriptor.specs.FieldDescriptorProto.{FieldDescriptorProto}
use Rattle.protox_descriptor.specs.declared.descriptor.DescriptorProto.{DescriptorProto, out-DescriptorProto, size-DescriptorProto}
use Rattle.protox_descriptor.specs.declared.descriptor.EnumDescriptorProto.{EnumDescriptorProto}
use Rattle.protox_descriptor.specs.declared.descriptor.EnumValueDescriptorProto.{EnumValueDescriptorProto}
use Rattle.protox_descriptor.specs.declared.descriptor.FileDescriptorProto.{FileDescriptorProto}
use Rattle.protox_descriptor.specs.declared.descriptor.MethodDescriptorProto.{MethodDescriptorProto}
use Rattle.protox_descriptor.specs.declared.descriptor.OneofDescriptorProto.{OneofDescriptorProto}
use Rattle.protox_descriptor.specs.declared.descriptor.ServiceDescriptorProto.{ServiceDescriptorProto}
use Rattle.protox_descriptor.specs.declared.tag.enum_.TheConstants as enum_tag
use Rattle.protox_descriptor.specs.declared.tag.file.TheConstants as file_tag
use Rattle.protox_descriptor.specs.declared.tag.message.TheConstants as message_tag
use Rattle.protox_descriptor.specs.declared.tag.service.TheConstants as service_tag
use Rattle.protox_link_text.specs.Places.{Holder, OfEnum, OfFile, OfMessage, Place, into_enum, into_message, place_from, step}
use Rattle.protox_link_text.specs.Places as places
use Rattle.protox_names.specs.Names.{within}
use Rattle.protox_symbols.proofs.Lemmas.{enums_at, extensions_at, fields_at, inside, message_declares}
use Rattle.protox_symbols.proofs.Lemmas.{messages_at, oneofs_at}
use Rattle.protox_walk.proofs.Lemmas.{size-nested}
use Rattle.protox_walk.specs.Declarations.{At, Path, all_in, enum_at, field_at, file_declarations, full_name, message_at, method_at, nth, numbered, oneof_at, service_at, siblings_at, text_of, value_at}
use Rattle.protox_walk.specs.Parts.{Declared, Described, Enum, Field, Message, Method, Oneof, Service, Value}

module _ (start : List ℕ) (top : Holder) where
  -- From the top the path leads into the holder, and what is behind it is followed from there.
  abbrev pub Leads : Path → Holder → Type 0
  Leads path holder = (rest : Path) → (scope : List ℕ) × (place_from start top (path ++ rest) ≡ place_from scope holder rest)

  -- Each step of this kind goes on into the inner one.
  abbrev Steps : Holder → ℤ → ℤ → Holder → Type 0
  Steps holder tag n inner = (scope : List ℕ) (rest : Path) → (within : List ℕ) × (step scope holder tag n rest ≡ Some (record { scope = within; holder = inner; rest = rest }))

  further : (path : Path) (holder inner : Holder) (tag n : ℤ) → Leads path holder → Steps holder tag n inner → Leads (path ++ tag ∷ n ∷ []) inner
  further path holder inner tag n leads steps rest =
      let at = leads (tag ∷ n ∷ rest) in
      let next = steps at.0 rest in (
        next.0,
        ap (place_from start top) (append_assoc path (tag ∷ n ∷ []) rest) ∙ at.1
            ∙ ap (λ found. elim found as (λ _. Place) [
              | None ↦ record { scope = at.0; holder = holder; rest = tag ∷ n ∷ rest }
              | Some place ↦ place_from place.scope place.holder rest
            ]) next.1,
      )

  -- A message or an enum that is declared is led into.
  abbrev pub part_led : Path → Described → Type 0
  part_led path (Message message) = Leads path (OfMessage message)
  part_led path (Enum enum) = Leads path (OfEnum enum)
  part_led path (Field field) = ⊤
  part_led path (Oneof oneof) = ⊤
  part_led path (Value value) = ⊤
  part_led path (Service service) = ⊤
  part_led path (Method method) = ⊤

  abbrev pub IsLed : Declared → Type 0
  IsLed d = part_led d.path d.part

  abbrev AreLed : List Declared → Type 0
  AreLed ds = All IsLed ds

  -- like siblings, of which the first has the number n
  numbered_led : {A : Type 0} (at : A → List ℕ → At) (scope : List ℕ) (path : Path) (tag : ℤ) (n : ℕ) (xs : List A)
      → ((i k : ℕ) (x : A) → k ≡ n + i → i < length xs → x ≡ get_or xs i x → AreLed (at x scope (nth path tag k))) → AreLed (numbered path tag n (all_in at scope xs))
  numbered_led at scope path tag n [] each = All-nil IsLed
  numbered_led at scope path tag n (x ∷ xs) each =
      All-append IsLed (at x scope (nth path tag n)) (numbered path tag (n + 1) (all_in at scope xs))
      (each 0 n x (omega arith) (omega arith) refl)
      (numbered_led at scope path tag (n + 1) xs (λ i k y same below is. each (suc i) k y (omega (arith, same)) (omega (arith, below)) is))

  -- one declaration, of a kind that isn't led into
  alone : (d : Declared) → IsLed d → AreLed (d ∷ [])
  alone d led = All-cons IsLed d [] led (All-nil IsLed)

  fields_led : (scope : List ℕ) (path : Path) (tag : ℤ) (xs : List FieldDescriptorProto) → AreLed (numbered path tag 0 (all_in field_at scope xs))
  fields_led scope path tag xs = numbered_led field_at scope path tag 0 xs (λ i k x same below is. alone _ tt)

  oneofs_led : (scope : List ℕ) (path : Path) (tag : ℤ) (xs : List OneofDescriptorProto) → AreLed (numbered path tag 0 (all_in oneof_at scope xs))
  oneofs_led scope path tag xs = numbered_led oneof_at scope path tag 0 xs (λ i k x same below is. alone _ tt)

  enum_led : (e : EnumDescriptorProto) (scope : List ℕ) (path : Path) → Leads path (OfEnum e) → AreLed (enum_at e scope path)
  enum_led e scope path leads =
      All-cons IsLed _ _ leads (numbered_led value_at scope path enum_tag.VALUE 0 e.value (λ i k x same below is. alone _ tt))

  service_led : (s : ServiceDescriptorProto) (scope : List ℕ) (path : Path) → AreLed (service_at s scope path)
  service_led s scope path =
      All-cons IsLed _ _ tt (numbered_led method_at (full_name scope s.name) path service_tag.METHOD 0 s.method (λ i k x same below is. alone _ tt))

  read_at : {A : Type 0} (xs : List A) (i k : ℕ) (x : A) → k ≡ 0 + i → i < length xs → x ≡ get_or xs i x → slice_get xs k ≡ Some x
  read_at xs i k x same below is =
      let at : i ≡ k = omega (arith, same) in
      subst (λ j. slice_get xs j ≡ Some x) at (slice_get_read xs (length xs) i x refl below is)

  enums_led : (holder : Holder) (scope : List ℕ) (path : Path) (tag : ℤ) (xs : List EnumDescriptorProto) → Leads path holder
      → ((k : ℕ) (x : EnumDescriptorProto) → slice_get xs k ≡ Some x → Steps holder tag (pos k) (OfEnum x)) → AreLed (numbered path tag 0 (all_in enum_at scope xs))
  enums_led holder scope path tag xs leads steps =
      numbered_led enum_at scope path tag 0 xs
      (λ i k x same below is. enum_led x scope (nth path tag k) (further path holder (OfEnum x) tag (pos k) leads (steps k x (read_at xs i k x same below is))))

  -- messages, given what holds of each
  messages_led : (holder : Holder) (scope : List ℕ) (path : Path) (tag : ℤ) (xs : List DescriptorProto) → Leads path holder
      → ((k : ℕ) (x : DescriptorProto) → slice_get xs k ≡ Some x → Steps holder tag (pos k) (OfMessage x))
      → ((i : ℕ) (x : DescriptorProto) (place : Path) → i < length xs → x ≡ get_or xs i x → Leads place (OfMessage x) → AreLed (message_at x scope place))
      → AreLed (numbered path tag 0 (all_in message_at scope xs))
  messages_led holder scope path tag xs leads steps each =
      numbered_led message_at scope path tag 0 xs
      (λ i k x same below is. each i x (nth path tag k) below is (further path holder (OfMessage x) tag (pos k) leads (steps k x (read_at xs i k x same below is))))

  nested_steps : (m : DescriptorProto) (k : ℕ) (x : DescriptorProto) → slice_get (out-DescriptorProto m).nested_type k ≡ Some x → Steps (OfMessage m) message_tag.NESTED_TYPE (pos k) (OfMessage x)
  nested_steps m k x is scope rest = (within scope (places.text_of (out-DescriptorProto x).name), ap (into_message scope rest) is)

  enum_steps : (m : DescriptorProto) (k : ℕ) (x : EnumDescriptorProto) → slice_get (out-DescriptorProto m).enum_type k ≡ Some x → Steps (OfMessage m) message_tag.ENUM_TYPE (pos k) (OfEnum x)
  enum_steps m k x is scope rest = (scope, ap (into_enum scope rest) is)

  -- messages up to a size
  message_led : (size : ℕ) (m : DescriptorProto) (scope : List ℕ) (path : Path) → size-DescriptorProto m < size → Leads path (OfMessage m) → AreLed (message_at m scope path)
  message_led zero m scope path below leads = absurd (omega arith)
  message_led (suc size) m scope path below leads =
      let name = full_name scope (out-DescriptorProto m).name in
      subst AreLed (sym (message_declares m scope path))
      (All-cons IsLed (record { path = path; full_name = name; part = Message m }) (inside m name path) leads
      (All-append IsLed (fields_at m name path) _ (fields_led name path message_tag.FIELD (out-DescriptorProto m).field)
      (All-append IsLed (messages_at m name path) _
      (messages_led (OfMessage m) name path message_tag.NESTED_TYPE (out-DescriptorProto m).nested_type leads (nested_steps m)
      (λ i x place within is led. message_led size x name place (omega (arith, below, size-nested m x i within is)) led))
      (All-append IsLed (enums_at m name path) _ (enums_led (OfMessage m) name path message_tag.ENUM_TYPE (out-DescriptorProto m).enum_type leads (enum_steps m))
      (All-append IsLed (extensions_at m name path) (oneofs_at m name path) (fields_led name path message_tag.EXTENSION (out-DescriptorProto m).extension)
      (oneofs_led name path message_tag.ONEOF_DECL (out-DescriptorProto m).oneof_decl))))))

module _ (f : FileDescriptorProto) where
  abbrev pub start : List ℕ
  start = places.text_of f.«package»

  abbrev IsLedIn : Declared → Type 0
  IsLedIn = IsLed start (OfFile f)

  message_steps : (k : ℕ) (x : DescriptorProto) → slice_get f.message_type k ≡ Some x → Steps start (OfFile f) (OfFile f) file_tag.MESSAGE_TYPE (pos k) (OfMessage x)
  message_steps k x is scope rest = (within scope (places.text_of (out-DescriptorProto x).name), ap (into_message scope rest) is)

  file_enum_steps : (k : ℕ) (x : EnumDescriptorProto) → slice_get f.enum_type k ≡ Some x → Steps start (OfFile f) (OfFile f) file_tag.ENUM_TYPE (pos k) (OfEnum x)
  file_enum_steps k x is scope rest = (scope, ap (into_enum scope rest) is)

  itself : Leads start (OfFile f) [] (OfFile f)
  itself rest = (start, refl)

  file_led : All IsLedIn (file_declarations f)
  file_led =
      let scope = text_of f.«package» in
      All-append IsLedIn (siblings_at [] file_tag.MESSAGE_TYPE (all_in message_at scope f.message_type)) _
      (messages_led start (OfFile f) (OfFile f) scope [] file_tag.MESSAGE_TYPE f.message_type itself message_steps
      (λ i x place below is led. message_led start (OfFile f) (suc (size-DescriptorProto x)) x scope place (omega arith) led))
      (All-append IsLedIn (siblings_at [] file_tag.ENUM_TYPE (all_in enum_at scope f.enum_type)) _
      (enums_led start (OfFile f) (OfFile f) scope [] file_tag.ENUM_TYPE f.enum_type itself file_enum_steps)
      (All-append IsLedIn (siblings_at [] file_tag.SERVICE (all_in service_at scope f.service)) (siblings_at [] file_tag.EXTENSION (all_in field_at scope f.extension))
      (numbered_led start (OfFile f) service_at scope [] file_tag.SERVICE 0 f.service (λ i k x same below is. service_led start (OfFile f) x scope (nth [] file_tag.SERVICE k)))
      (fields_led start (OfFile f) scope [] file_tag.EXTENSION f.extension)))

  -- The path of a message or an enum of the file leads into it.
  pub declared_led : (d : Declared) → Contains (file_declarations f) d → part_led start (OfFile f) d.path d.part
  declared_led d has = All-contains IsLedIn (file_declarations f) d file_led has
