-- No two places of a file have the same path.
use Rattle.std.proofs.Common.{◌≡◌, ◌≢◌, ◌⊎◌, inl, inr, ℕ, ◌+◌, ◌≤◌, ◌==◌, ◌||◌, Bool, List, true, false, [], ◌∷◌, ◌++◌, ap, append-nil, append_assoc, arith, map, refl, subst, sym, ◌∙◌, unsigned_abs}
use Rattle.std.proofs.lemmas.Bool.{eq-eqb, false≢true}
use Rattle.std.proofs.lemmas.Grind.{flat_map-append}
use Rattle.std.proofs.lemmas.List.{append_cancel_left, map-append}
use Rattle.std.proofs.lemmas.List.Kept.{AllPairs-cons}
use Rattle.std.specs.List.{AllPairs, flat_map, list_any}
use Rattle.std.specs.Prelude.{codes, pos}
use Rattle.protox_descriptor.specs.FieldDescriptorProto.{FieldDescriptorProto}
use Rattle.protox_descriptor.specs.declared.descriptor.DescriptorProto.{DescriptorProto, DescriptorProto-F, roll-DescriptorProto, out-DescriptorProto, out-roll-DescriptorProto, ind-DescriptorProto}
use Rattle.protox_descriptor.specs.declared.descriptor.EnumDescriptorProto.{EnumDescriptorProto}
use Rattle.protox_descriptor.specs.declared.descriptor.FileDescriptorProto.{FileDescriptorProto}
use Rattle.protox_descriptor.specs.declared.descriptor.ServiceDescriptorProto.{ServiceDescriptorProto}
use Rattle.protox_descriptor.specs.declared.descriptor.descriptor_proto.ExtensionRange.{ExtensionRange}
use Rattle.protox_descriptor.specs.declared.descriptor.options.UninterpretedOption.{UninterpretedOption}
use Rattle.protox_file_options.proofs.Each.{Each, each_all, each_append, each_weaker}
use Rattle.protox_file_options.specs.Laws.{PathsDiffer}
use Rattle.protox_file_options.specs.Places.{Place, key_of, place_if_any, place_of_file, place_of_part, place_of_range, places_at, places_of, ranges_from, scope_around, statements_of_range}
use Rattle.protox_symbols.proofs.Lemmas.{enums_at, extensions_at, fields_at, inside, message_declares}
use Rattle.protox_symbols.proofs.Lemmas.{messages_at, oneofs_at}
use Rattle.protox_walk.specs.Declarations.{At, Path, all_in, enum_at, field_at, file_declarations, full_name, message_at, method_at, nth, numbered, oneof_at, service_at, siblings_at, text_of, value_at}
use Rattle.protox_walk.specs.Parts.{Declared, Message}

-- ---- lists of places

-- no place has the path of one behind it
abbrev pub Apart : List Place → Type 0
Apart [] = Unit {0}
Apart (p ∷ ps) = Each (λ q. key_of p ≢ key_of q) ps × Apart ps

apart_append : (xs ys : List Place) → Apart xs → Apart ys → Each (λ p. Each (λ q. key_of p ≢ key_of q) ys) xs → Apart (xs ++ ys)
apart_append [] ys a b c = b
apart_append (x ∷ xs) ys a b c = (each_append (λ q. key_of x ≢ key_of q) xs ys a.0 c.0, apart_append xs ys a.1 b c.1)

apart_pairs : (xs : List Place) → Apart xs → AllPairs (λ p q. key_of p ≢ key_of q) xs
apart_pairs [] a = λ i j d before within. absurd (omega (arith, within))
apart_pairs (x ∷ xs) a = AllPairs-cons (λ p q. key_of p ≢ key_of q) x xs (each_all (λ q. key_of x ≢ key_of q) xs a.0) (apart_pairs xs a.1)

-- ---- paths that lead on

-- The path leads on from this one, with a number that has the property.
record LeadsOn (path : List ℕ) (K : ℕ → Type 0) (p : Place) : Type 0 where
  number : ℕ
  has : K number
  rest : List ℕ
  is : key_of p ≡ path ++ number ∷ rest

-- The paths of the places differ, and all lead on from this one.
record Differ (path : List ℕ) (K : ℕ → Type 0) (ps : List Place) : Type 0 where
  apart : Apart ps
  lead : Each (LeadsOn path K) ps

first : List ℕ → ℕ
first [] = 0
first (n ∷ ns) = n

first-cons : (n : ℕ) (ns : List ℕ) → first (n ∷ ns) ≡ n
unfolding first
first-cons n ns = refl

module _ (path : List ℕ) where
  two_apart : (K L : ℕ → Type 0) → ((k : ℕ) → K k → L k → ⊥) → (p q : Place) → LeadsOn path K p → LeadsOn path L q → key_of p ≢ key_of q
  two_apart K L never p q a b same =
      let tails : a.number ∷ a.rest ≡ b.number ∷ b.rest = append_cancel_left path _ _ (sym a.is ∙ same ∙ b.is) in
      let numbers : a.number ≡ b.number = sym (first-cons a.number a.rest) ∙ ap first tails ∙ first-cons b.number b.rest in
      never a.number a.has (subst L (sym numbers) b.has)

  nothing : (K : ℕ → Type 0) → Differ path K []
  nothing K = record { apart = tt; lead = tt }

  wider : (K L : ℕ → Type 0) → ((k : ℕ) → K k → L k) → (ps : List Place) → Differ path K ps → Differ path L ps
  wider K L f ps d = record {
    apart = d.apart;
    lead = each_weaker (LeadsOn path K) (LeadsOn path L) (λ p l. record { number = l.number; has = f l.number l.has; rest = l.rest; is = l.is }) ps d.lead;
  }

  joined : (K L : ℕ → Type 0) → ((k : ℕ) → K k → L k → ⊥) → (xs ys : List Place) → Differ path K xs → Differ path L ys → Differ path (λ k. K k ⊎ L k) (xs ++ ys)
  joined K L never xs ys a b = record {
    apart = apart_append xs ys a.apart b.apart
        (each_weaker (LeadsOn path K) (λ p. Each (λ q. key_of p ≢ key_of q) ys)
        (λ p at. each_weaker (LeadsOn path L) (λ q. key_of p ≢ key_of q) (λ q other. two_apart K L never p q at other) ys b.lead) xs a.lead);
    lead = each_append (LeadsOn path (λ k. K k ⊎ L k)) xs ys (wider K (λ k. K k ⊎ L k) (λ k h. inl h) xs a).lead (wider L (λ k. K k ⊎ L k) (λ k h. inr h) ys b).lead;
  }

  -- what leads on from a step further leads on with that step
  back : (K : ℕ → Type 0) (t : ℕ) (ps : List Place) → Differ (path ++ t ∷ []) K ps → Differ path (λ k. k ≡ t) ps
  back K t ps d = record {
    apart = d.apart;
    lead = each_weaker (LeadsOn (path ++ t ∷ []) K) (LeadsOn path (λ k. k ≡ t))
        (λ p l. record { number = t; has = refl; rest = l.number ∷ l.rest; is = l.is ∙ append_assoc path (t ∷ []) (l.number ∷ l.rest) }) ps d.lead;
  }

  -- ---- with one of several numbers

  abbrev Among : List ℕ → ℕ → Type 0
  Among ts k = list_any (λ t. t == k) ts ≡ true

  or_yes : (a b : Bool) → b ≡ true → (a || b) ≡ true
  or_yes true b h = refl
  or_yes false b h = h

  tagged : (t : ℕ) (ts : List ℕ) (xs ys : List Place) → list_any (λ u. u == t) ts ≡ false → Differ path (λ k. k ≡ t) xs → Differ path (Among ts) ys → Differ path (Among (t ∷ ts)) (xs ++ ys)
  tagged t ts xs ys other a b =
      wider (λ k. (k ≡ t) ⊎ Among ts k) (Among (t ∷ ts))
      (λ k h. elim h [ inl e ↦ ap (λ c. c || list_any (λ u. u == k) ts) (eq-eqb t k (sym e)) | inr among ↦ or_yes (t == k) (list_any (λ u. u == k) ts) among ]) (xs ++ ys)
      (joined (λ k. k ≡ t) (Among ts) (λ k e among. false≢true (sym other ∙ subst (Among ts) e among)) xs ys a b)

  -- behind numbered ones, those of further numbers
  further : (K : ℕ → Type 0) (n : ℕ) (xs ys : List Place) → Differ (path ++ n ∷ []) K xs → Differ path (λ k. n + 1 ≤ k) ys → Differ path (λ k. n ≤ k) (xs ++ ys)
  further K n xs ys a b =
      wider (λ k. (k ≡ n) ⊎ (n + 1 ≤ k)) (λ k. n ≤ k) (λ k h. elim h [ inl e ↦ omega (arith, e) | inr more ↦ omega (arith, more) ]) (xs ++ ys)
      (joined (λ k. k ≡ n) (λ k. n + 1 ≤ k) (λ k e more. omega (arith, e, more)) xs ys (back K n xs a) b)

-- ---- places

-- a path, as bytes are kept under it
abbrev key : Path → List ℕ
key path = map unsigned_abs path

step : (path : Path) (t : ℕ) → key (path ++ pos t ∷ []) ≡ key path ++ t ∷ []
step path t = map-append unsigned_abs path (pos t ∷ [])

two_steps : (path : Path) (t n : ℕ) → key (nth path (pos t) n) ≡ (key path ++ t ∷ []) ++ n ∷ []
two_steps path t n = map-append unsigned_abs path (pos t ∷ pos n ∷ []) ∙ sym (append_assoc (key path) (t ∷ []) (n ∷ []))

-- the place of statements of their own
own : (path : Path) (t : ℕ) (scope options : List ℕ) (statements : List UninterpretedOption) → Differ (key path) (λ k. k ≡ t) (place_if_any (path ++ pos t ∷ []) scope options statements)
own path t scope options [] = nothing (key path) (λ k. k ≡ t)
own path t scope options (statement ∷ more) = record {
  apart = (tt, tt);
  lead = (record { number = t; has = refl; rest = []; is = step path t }, tt);
}

ranges_differ : (path : Path) (scope : List ℕ) (n : ℕ) (ranges : List ExtensionRange) → Differ (key path ++ 5 ∷ []) (λ k. n ≤ k) (ranges_from path scope n ranges)
ranges_differ path scope n [] = nothing (key path ++ 5 ∷ []) (λ k. n ≤ k)
ranges_differ path scope n (range ∷ more) =
    let one : List Place = place_of_range path scope n range in
    further (key path ++ 5 ∷ []) (λ k. k ≡ 3) n one (ranges_from path scope (n + 1) more)
    (subst (λ (to : List ℕ). Differ to (λ k. k ≡ 3) one) (two_steps path 5 n)
    (own (nth path (pos 5) n) 3 scope (codes "google.protobuf.ExtensionRangeOptions") (statements_of_range range)))
    (ranges_differ path scope (n + 1) more)

-- ---- declarations

abbrev Any : ℕ → Type 0
Any k = Unit {0}

-- of something that declares nothing else
leaf : (path : Path) (t : ℕ) (scope options : List ℕ) (statements : List UninterpretedOption) → Differ (key path) Any ((place_if_any (path ++ pos t ∷ []) scope options statements ++ []) ++ [])
leaf path t scope options statements =
    let place : List Place = place_if_any (path ++ pos t ∷ []) scope options statements in
    subst (Differ (key path) Any) (sym (append-nil (place ++ []) ∙ append-nil place)) (wider (key path) (λ k. k ≡ t) Any (λ k h. tt) place (own path t scope options statements))

-- of something without extension ranges
front : (path : Path) (t : ℕ) (scope options : List ℕ) (statements : List UninterpretedOption) → Differ (key path) (λ k. k ≡ t) (place_if_any (path ++ pos t ∷ []) scope options statements ++ [])
front path t scope options statements =
    let place : List Place = place_if_any (path ++ pos t ∷ []) scope options statements in
    subst (Differ (key path) (λ k. k ≡ t)) (sym (append-nil place)) (own path t scope options statements)

last_tag : (path : List ℕ) (t : ℕ) (ps : List Place) → Differ path (λ k. k ≡ t) ps → Differ path (Among path (t ∷ [])) ps
last_tag path t ps d = wider path (λ k. k ≡ t) (Among path (t ∷ [])) (λ k e. ap (λ b. b || false) (eq-eqb t k (sym e))) ps d

any_of : (path : List ℕ) (K : ℕ → Type 0) (ps : List Place) → Differ path K ps → Differ path Any ps
any_of path K ps d = wider path K Any (λ k h. tt) ps d

abbrev here : List Declared → List Place
here ds = flat_map places_at ds

sibling : (at : At) (more : List At) (path : Path) (t n : ℕ) → Differ (key (nth path (pos t) n)) Any (here (at (nth path (pos t) n)))
    → Differ (key path ++ t ∷ []) (λ k. n + 1 ≤ k) (here (numbered path (pos t) (n + 1) more))
    → Differ (key path ++ t ∷ []) (λ k. n ≤ k) (here (numbered path (pos t) n (at ∷ more)))
sibling at more path t n one rest =
    subst (Differ (key path ++ t ∷ []) (λ k. n ≤ k)) (sym (flat_map-append places_at (at (nth path (pos t) n)) (numbered path (pos t) (n + 1) more)))
    (further (key path ++ t ∷ []) Any n (here (at (nth path (pos t) n))) (here (numbered path (pos t) (n + 1) more))
    (subst (λ (to : List ℕ). Differ to Any (here (at (nth path (pos t) n)))) (two_steps path t n) one) rest)

each_numbered : {A : Type 0} (declares : A → List ℕ → At) (scope : List ℕ) (path : Path) (t n : ℕ) (xs : List A) → ((x : A) (to : Path) → Differ (key to) Any (here (declares x scope to)))
    → Differ (key path ++ t ∷ []) (λ k. n ≤ k) (here (numbered path (pos t) n (all_in declares scope xs)))
each_numbered declares scope path t n [] each = nothing (key path ++ t ∷ []) (λ k. n ≤ k)
each_numbered declares scope path t n (x ∷ xs) each =
    sibling (declares x scope) (all_in declares scope xs) path t n (each x (nth path (pos t) n)) (each_numbered declares scope path t (n + 1) xs each)

siblings_differ : {A : Type 0} (declares : A → List ℕ → At) (scope : List ℕ) (path : Path) (t : ℕ) (xs : List A) → ((x : A) (to : Path) → Differ (key to) Any (here (declares x scope to)))
    → Differ (key path) (λ k. k ≡ t) (here (siblings_at path (pos t) (all_in declares scope xs)))
siblings_differ declares scope path t xs each =
    back (key path) (λ k. 0 ≤ k) t (here (siblings_at path (pos t) (all_in declares scope xs))) (each_numbered declares scope path t 0 xs each)

fields_differ : (scope : List ℕ) (path : Path) (t : ℕ) (fields : List FieldDescriptorProto) → Differ (key path) (λ k. k ≡ t) (here (siblings_at path (pos t) (all_in field_at scope fields)))
fields_differ scope path t fields = siblings_differ field_at scope path t fields (λ x to. leaf to 8 _ _ _)

enum_differs : (e : EnumDescriptorProto) (scope : List ℕ) (path : Path) → Differ (key path) Any (here (enum_at e scope path))
enum_differs e scope path =
    any_of (key path) (Among (key path) (3 ∷ 2 ∷ [])) (here (enum_at e scope path))
    (tagged (key path) 3 (2 ∷ []) _ (here (siblings_at path (pos 2) (all_in value_at scope e.value))) refl (front path 3 _ _ _)
    (last_tag (key path) 2 _ (siblings_differ value_at scope path 2 e.value (λ x to. leaf to 3 _ _ _))))

service_differs : (s : ServiceDescriptorProto) (scope : List ℕ) (path : Path) → Differ (key path) Any (here (service_at s scope path))
service_differs s scope path =
    any_of (key path) (Among (key path) (3 ∷ 2 ∷ [])) (here (service_at s scope path))
    (tagged (key path) 3 (2 ∷ []) _ (here (siblings_at path (pos 2) (all_in method_at (full_name scope s.name) s.method))) refl (front path 3 _ _ _)
    (last_tag (key path) 2 _ (siblings_differ method_at (full_name scope s.name) path 2 s.method (λ x to. leaf to 4 _ _ _))))

enums_differ : (scope : List ℕ) (path : Path) (t : ℕ) (enums : List EnumDescriptorProto) → Differ (key path) (λ k. k ≡ t) (here (siblings_at path (pos t) (all_in enum_at scope enums)))
enums_differ scope path t enums = siblings_differ enum_at scope path t enums (λ x to. enum_differs x scope to)

-- ---- messages

abbrev DiffersAt : DescriptorProto → Type 0
DiffersAt m = (scope : List ℕ) (path : Path) → Differ (key path) Any (here (message_at m scope path))

-- the same of messages in a message
abbrev AllDiffer : List DescriptorProto → Type 0
AllDiffer ms = (scope : List ℕ) (path : Path) (n : ℕ) → Differ (key path ++ 3 ∷ []) (λ k. n ≤ k) (here (numbered path (pos 3) n (all_in message_at scope ms)))

all_differ : (held : List ((m : DescriptorProto) × DiffersAt m)) → AllDiffer (map (λ e. e.0) held)
all_differ [] scope path n = nothing (key path ++ 3 ∷ []) (λ k. n ≤ k)
all_differ (h ∷ hs) scope path n =
    sibling (message_at h.0 scope) (all_in message_at scope (map (λ e. e.0) hs)) path 3 n (h.1 scope (nth path (pos 3) n)) (all_differ hs scope path (n + 1))

-- lists behind one another
four_here : (a b c d : List Declared) → here (a ++ (b ++ (c ++ d))) ≡ here a ++ (here b ++ (here c ++ here d))
four_here a b c d =
    flat_map-append places_at a (b ++ (c ++ d))
    ∙ ap (λ (l : List Place). here a ++ l) (flat_map-append places_at b (c ++ d) ∙ ap (λ (l : List Place). here b ++ l) (flat_map-append places_at c d))

differs_from : (m : DescriptorProto) → AllDiffer (out-DescriptorProto m).nested_type → DiffersAt m
differs_from m nested scope path =
    let name : List ℕ = full_name scope (out-DescriptorProto m).name in
    let base : List ℕ = key path in
    let front : List Place = place_of_part path (scope_around name) (Message m) in
    let ranges : List Place = ranges_from path (scope_around name) 0 (out-DescriptorProto m).extension_range in
    let fields = here (fields_at m name path) in
    let messages = here (messages_at m name path) in
    let enums = here (enums_at m name path) in
    let extensions = here (extensions_at m name path) in
    let oneofs = here (oneofs_at m name path) in
    let inner : here (inside m name path) ≡ fields ++ (messages ++ (enums ++ (extensions ++ oneofs))) =
    flat_map-append places_at (fields_at m name path) _ ∙ ap (λ (l : List Place). fields ++ l) (four_here (messages_at m name path) (enums_at m name path) (extensions_at m name path) (oneofs_at m name path)) in
    let all : here (message_at m scope path) ≡ front ++ (ranges ++ (fields ++ (messages ++ (enums ++ (extensions ++ oneofs))))) =
    ap here (message_declares m scope path) ∙ ap (λ (l : List Place). (front ++ ranges) ++ l) inner ∙ append_assoc front ranges _ in
    subst (Differ base Any) (sym all)
    (any_of base (Among base (7 ∷ 5 ∷ 2 ∷ 3 ∷ 4 ∷ 6 ∷ 8 ∷ [])) _
    (tagged base 7 (5 ∷ 2 ∷ 3 ∷ 4 ∷ 6 ∷ 8 ∷ []) front _ refl (own path 7 _ _ _)
    (tagged base 5 (2 ∷ 3 ∷ 4 ∷ 6 ∷ 8 ∷ []) ranges _ refl (back base (λ k. 0 ≤ k) 5 ranges (ranges_differ path (scope_around name) 0 (out-DescriptorProto m).extension_range))
    (tagged base 2 (3 ∷ 4 ∷ 6 ∷ 8 ∷ []) fields _ refl (fields_differ name path 2 (out-DescriptorProto m).field)
    (tagged base 3 (4 ∷ 6 ∷ 8 ∷ []) messages _ refl (back base (λ k. 0 ≤ k) 3 messages (nested name path 0))
    (tagged base 4 (6 ∷ 8 ∷ []) enums _ refl (enums_differ name path 4 (out-DescriptorProto m).enum_type)
    (tagged base 6 (8 ∷ []) extensions oneofs refl (fields_differ name path 6 (out-DescriptorProto m).extension)
    (last_tag base 8 oneofs (siblings_differ oneof_at name path 8 (out-DescriptorProto m).oneof_decl (λ x to. leaf to 2 _ _ _))))))))))

message_differs : (m : DescriptorProto) → DiffersAt m
message_differs m =
    ind-DescriptorProto DiffersAt
    (λ x held e. differs_from (roll-DescriptorProto x)
    (subst (λ (z : DescriptorProto-F DescriptorProto). AllDiffer z.nested_type) (e ∙ sym (out-roll-DescriptorProto x)) (all_differ held.nested_type)))
    m

-- ---- a file

pub places_apart : (file : FileDescriptorProto) → Apart (places_of file)
places_apart file =
    let scope : List ℕ = text_of file.«package» in
    let messages_of : List Declared = siblings_at [] (pos 4) (all_in message_at scope file.message_type) in
    let enums_of : List Declared = siblings_at [] (pos 5) (all_in enum_at scope file.enum_type) in
    let services_of : List Declared = siblings_at [] (pos 6) (all_in service_at scope file.service) in
    let extensions_of : List Declared = siblings_at [] (pos 7) (all_in field_at scope file.extension) in
    let front : List Place = place_of_file file in
    let all : here (file_declarations file) ++ front ≡ here messages_of ++ (here enums_of ++ (here services_of ++ (here extensions_of ++ front))) =
    ap (λ (l : List Place). l ++ front) (four_here messages_of enums_of services_of extensions_of)
    ∙ append_assoc (here messages_of) (here enums_of ++ (here services_of ++ here extensions_of)) front
    ∙ ap (λ (l : List Place). here messages_of ++ l)
    (append_assoc (here enums_of) (here services_of ++ here extensions_of) front ∙ ap (λ (l : List Place). here enums_of ++ l) (append_assoc (here services_of) (here extensions_of) front)) in
    subst Apart (sym all)
    (tagged [] 4 (5 ∷ 6 ∷ 7 ∷ 8 ∷ []) (here messages_of) _ refl (siblings_differ message_at scope [] 4 file.message_type (λ x to. message_differs x scope to))
    (tagged [] 5 (6 ∷ 7 ∷ 8 ∷ []) (here enums_of) _ refl (enums_differ scope [] 5 file.enum_type)
    (tagged [] 6 (7 ∷ 8 ∷ []) (here services_of) _ refl (siblings_differ service_at scope [] 6 file.service (λ x to. service_differs x scope to))
    (tagged [] 7 (8 ∷ []) (here extensions_of) front refl (fields_differ scope [] 7 file.extension)
    (last_tag [] 8 front (own [] 8 scope _ _)))))).apart

pub paths_differ : PathsDiffer
paths_differ file = apart_pairs (places_of file) (places_apart file)
