-- Faults of extensions: where they are told, and that they are what is wrong.
use Rattle.std.proofs.Common.{◌≡◌, ℕ, Bool, true, false, cond, ◌||◌, List, [], ◌∷◌, ◌++◌, Option, Some, None, is_some, inl, refl, sym, ap, subst, slice_get}
use Rattle.std.specs.Prelude.{All, Contains}
use Rattle.std.specs.List.{flat_map, list_any}
use Rattle.std.specs.Option.{option_and_then}
use Rattle.std.proofs.lemmas.Bool.{false≢true}
use Rattle.std.proofs.lemmas.List.Elements.{All-append, All-cons, All-contains, All-contains_itself, All-nil, All-weaker}
use Rattle.std.proofs.lemmas.List.Folds.{list_any_none}
use Rattle.protox_ast.proofs.Lemmas.{Among, among-left, among-right, contains-from}
use Rattle.protox_descriptor.specs.FieldDescriptorProto.{FieldDescriptorProto}
use Rattle.protox_descriptor.specs.declared.descriptor.FileDescriptorProto.{FileDescriptorProto}
use Rattle.protox_descriptor.specs.declared.tag.field.TheConstants.{EXTENDEE, NUMBER}
use Rattle.protox_link.proofs.Telling.{IsToldOfFile, all_flat, all_if, among_flat, one, slice_among}
use Rattle.protox_link.proofs.WrongClashes.{earlier_listed, earlier_told}
use Rattle.protox_link.specs.Seen.{IsSeenBy}
use Rattle.protox_link.specs.Stands.{LeadsInto, LeadsWithin, ToDeclared, ToExtendee, ToNumber}
use Rattle.protox_link.specs.Wrong.{IsInNoRange, IsNotOfOptions, IsReused, MeetsEarlier, OfExtension, WrongExtension, WrongLink}
use Rattle.protox_link_checks.specs.Extensions.{extended_faults, extension_of, extensions_of, is_options, message_named, numbered_extension, options_faults, pair_faults, part_extension, range_faults, ranges_numbered, reused_extensions, reused_faults, same_number}
use Rattle.protox_link_checks.specs.Proto3.{is_proto3}
use Rattle.protox_link_checks.specs.Uses.{fault_at}
use Rattle.protox_link_checks.specs.declared.extensions.Extension.{Extension}
use Rattle.protox_link_fault.specs.declared.LinkFault.{LinkFault}
use Rattle.protox_link_fault.specs.declared.LinkFaultKind.{LinkFaultKind}
use Rattle.protox_link_fault.specs.declared.LinkFaultKind.TheVariants as told
use Rattle.protox_name_tree.specs.Tree.{dotted, name_at, number_of}
use Rattle.protox_names.specs.Names.{is_identifier}
use Rattle.protox_numbers.specs.Numbers.{single}
use Rattle.protox_numbers.specs.declared.clash.Clash.{Clash}
use Rattle.protox_spans.specs.Spans.{meets}
use Rattle.protox_spans.specs.declared.span.Span.{Span}
use Rattle.protox_symbols.specs.Symbols.{Table}
use Rattle.protox_symbols.specs.Things.{table_of}
use Rattle.protox_walk.specs.Declarations.{Path, file_declarations, text_of}
use Rattle.protox_walk.specs.Parts.{Described, Enum, Field, Message, Method, Oneof, Service, Value}

-- ---- where they are told

module _ (number : ℕ) (file : FileDescriptorProto) (t : Table) (sees packages : List Bool) where
  -- Paths lead to the number of an extension, and to what it extends.
  record Leads (e : Extension) : Type 0 where
    to_number : LeadsInto file (e.path ++ NUMBER ∷ [])
    to_extendee : LeadsInto file (e.path ++ EXTENDEE ∷ [])

  field_leads : (path : Path) (full : List ℕ) (f : FieldDescriptorProto) → ((rest : Path) → LeadsWithin (Field f) rest → LeadsInto file (path ++ rest))
      → (own : Option ℕ) (extendee : Option (List ℕ)) → f.extendee ≡ extendee → (message : Option ℕ) → All Leads (numbered_extension path f.number own (option_and_then (λ (name : List ℕ). message) extendee))
  field_leads path full f leads None extendee is message = All-nil Leads
  field_leads path full f leads (Some own) None is message = All-nil Leads
  field_leads path full f leads (Some own) (Some name) is None = All-nil Leads
  field_leads path full f leads (Some own) (Some name) is (Some message) =
      one Leads (record { message = message; own = own; number = f.number; path = path }) (record { to_number = leads (NUMBER ∷ []) (ToNumber f); to_extendee = leads (EXTENDEE ∷ []) (ToExtendee f (ap is_some is)) })

  named_leads : (path : Path) (full : List ℕ) (f : FieldDescriptorProto) → ((rest : Path) → LeadsWithin (Field f) rest → LeadsInto file (path ++ rest))
      → (extendee : Option (List ℕ)) → f.extendee ≡ extendee → All Leads (numbered_extension path f.number (number_of t.names full) (option_and_then (message_named t sees packages full) extendee))
  named_leads path full f leads None is = field_leads path full f leads (number_of t.names full) None is None
  named_leads path full f leads (Some name) is = field_leads path full f leads (number_of t.names full) (Some name) is (message_named t sees packages full name)

  part_leads : (path : Path) (full : List ℕ) (part : Described) → ((rest : Path) → LeadsWithin part rest → LeadsInto file (path ++ rest)) → All Leads (part_extension t sees packages path full part)
  part_leads path full (Message m) leads = All-nil Leads
  part_leads path full (Field f) leads = all_if Leads (is_identifier (text_of f.name)) _ [] (named_leads path full f leads f.extendee refl) (All-nil Leads)
  part_leads path full (Oneof o) leads = All-nil Leads
  part_leads path full (Enum e) leads = All-nil Leads
  part_leads path full (Value v) leads = All-nil Leads
  part_leads path full (Service s) leads = All-nil Leads
  part_leads path full (Method m) leads = All-nil Leads

  abbrev extensions : List Extension
  extensions = extensions_of t sees packages file

  all_lead : All Leads extensions
  all_lead =
      all_flat Leads (extension_of t sees packages) (file_declarations file)
      (All-weaker (Contains (file_declarations file)) (λ d. All Leads (extension_of t sees packages d)) (λ d here. part_leads d.path d.full_name d.part (λ rest leads. ToDeclared d rest here leads)) (file_declarations file) (All-contains_itself (file_declarations file)))

  leads_at : (k : ℕ) (e : Extension) → slice_get extensions k ≡ Some e → Leads e
  leads_at k e is = All-contains Leads extensions e all_lead (contains-from extensions e (slice_among extensions k e is))

  pair_told : (k : ℕ) (one' other : Option Extension) → slice_get extensions k ≡ one' → All (IsToldOfFile number file) (pair_faults number one' other)
  pair_told k None other is = All-nil _
  pair_told k (Some e) None is = All-nil _
  pair_told k (Some e) (Some earlier) is =
      one (IsToldOfFile number file) (fault_at number e.path NUMBER (told.ExtensionReused e.message earlier.own)) (record { of_file = refl; leads = (leads_at k e is).to_number })

  pub extended_told : (files : List FileDescriptorProto) → All (IsToldOfFile number file) (extended_faults files t number sees packages file)
  extended_told files =
      let T = IsToldOfFile number file in
      All-append T (flat_map (λ e. range_faults number (ranges_numbered files t e.message) e) extensions) _
      (all_flat T (λ e. range_faults number (ranges_numbered files t e.message) e) extensions
      (All-weaker Leads (λ e. All T (range_faults number (ranges_numbered files t e.message) e))
      (λ e leads. all_if T (list_any (meets (single e.number)) (ranges_numbered files t e.message)) [] _ (All-nil T) (one T (fault_at number e.path NUMBER (told.OutOfRanges e.message)) (record { of_file = refl; leads = leads.to_number })))
      extensions all_lead))
      (All-append T (reused_faults number extensions) _
      (all_flat T (λ (clash : Clash). pair_faults number (slice_get extensions clash.part) (slice_get extensions clash.«with»)) (reused_extensions extensions)
      (All-weaker (MeetsEarlier same_number extensions) (λ (clash : Clash). All T (pair_faults number (slice_get extensions clash.part) (slice_get extensions clash.«with»)))
      (λ clash is. pair_told clash.part (slice_get extensions clash.part) (slice_get extensions clash.«with») refl) (reused_extensions extensions) (earlier_told same_number extensions)))
      (all_if T (is_proto3 file) _ []
      (all_flat T (options_faults number t) extensions
      (All-weaker Leads (λ e. All T (options_faults number t e))
      (λ e leads. all_if T (is_options (dotted (name_at t.names e.message))) [] _ (All-nil T) (one T (fault_at number e.path EXTENDEE told.NotOfOptions) (record { of_file = refl; leads = leads.to_extendee })))
      extensions all_lead))
      (All-nil T)))

-- ---- what is wrong

fails_first : (b c : Bool) → (b || c) ≡ false → b ≡ false
fails_first true c none = none
fails_first false c none = refl

fails_rest : (b c : Bool) → (b || c) ≡ false → c ≡ false
fails_rest true c none = absurd (false≢true (sym none))
fails_rest false c none = none

any_fails : {X : Type 0} (p : X → Bool) (xs : List X) → list_any p xs ≡ false → All (λ x. p x ≡ false) xs
any_fails p [] none = All-nil _
any_fails p (x ∷ xs) none = All-cons (λ y. p y ≡ false) x xs (fails_first (p x) (list_any p xs) none) (any_fails p xs (fails_rest (p x) (list_any p xs) none))

module _ (files : List FileDescriptorProto) (n : ℕ) (file : FileDescriptorProto) (sees packages : List Bool) where
  abbrev table : Table
  table = table_of files

  abbrev declared : List Extension
  declared = extensions_of table sees packages file

  abbrev Wrong : Path → LinkFaultKind → Type 0
  Wrong = WrongExtension files sees packages file

  module _ (here : slice_get files n ≡ Some file) (seen : IsSeenBy files n sees packages) where
    abbrev W : LinkFault → Type 0
    W = WrongLink files

    each : (path : Path) (kind : LinkFaultKind) → Wrong path kind → W (record { file = n; path = path; kind = kind })
    each path kind wrong = OfExtension n file sees packages path kind here seen wrong

    range_wrong : (e : Extension) → Contains declared e → (b : Bool) → list_any (meets (single e.number)) (ranges_numbered files table e.message) ≡ b
        → All W (cond b [] (fault_at n e.path NUMBER (told.OutOfRanges e.message) ∷ []))
    range_wrong e has true is = All-nil W
    range_wrong e has false is =
        one W (fault_at n e.path NUMBER (told.OutOfRanges e.message))
        (each (e.path ++ NUMBER ∷ []) (told.OutOfRanges e.message) (IsInNoRange e has (λ range there. All-contains (λ (r : Span). meets (single e.number) r ≡ false) (ranges_numbered files table e.message) range (any_fails (meets (single e.number)) (ranges_numbered files table e.message) is) there)))

    pair_wrong : (clash : Clash) → MeetsEarlier same_number declared clash → (one' other : Option Extension) → slice_get declared clash.part ≡ one' → slice_get declared clash.«with» ≡ other → All W (pair_faults n one' other)
    pair_wrong clash is None other at with' = All-nil W
    pair_wrong clash is (Some e) None at with' = All-nil W
    pair_wrong clash is (Some e) (Some earlier) at with' =
        one W (fault_at n e.path NUMBER (told.ExtensionReused e.message earlier.own)) (each (e.path ++ NUMBER ∷ []) (told.ExtensionReused e.message earlier.own) (IsReused clash e earlier is at with'))

    options_wrong : is_proto3 file ≡ true → (e : Extension) → Contains declared e → (b : Bool) → is_options (dotted (name_at table.names e.message)) ≡ b
        → All W (cond b [] (fault_at n e.path EXTENDEE told.NotOfOptions ∷ []))
    options_wrong is e has true not = All-nil W
    options_wrong is e has false not = one W (fault_at n e.path EXTENDEE told.NotOfOptions) (each (e.path ++ EXTENDEE ∷ []) told.NotOfOptions (IsNotOfOptions e has is not))

    all_options_wrong : (b : Bool) → is_proto3 file ≡ b → All W (cond b (flat_map (options_faults n table) declared) [])
    all_options_wrong true is =
        all_flat W (options_faults n table) declared
        (All-weaker (Contains declared) (λ e. All W (options_faults n table e)) (λ e has. options_wrong is e has _ refl) declared (All-contains_itself declared))
    all_options_wrong false is = All-nil W

    pub extended_wrong : All W (extended_faults files table n sees packages file)
    extended_wrong =
        All-append W (flat_map (λ e. range_faults n (ranges_numbered files table e.message) e) declared) _
        (all_flat W (λ e. range_faults n (ranges_numbered files table e.message) e) declared
        (All-weaker (Contains declared) (λ e. All W (range_faults n (ranges_numbered files table e.message) e)) (λ e has. range_wrong e has _ refl) declared (All-contains_itself declared)))
        (All-append W (reused_faults n declared) _
        (all_flat W (λ (clash : Clash). pair_faults n (slice_get declared clash.part) (slice_get declared clash.«with»)) (reused_extensions declared)
        (All-weaker (MeetsEarlier same_number declared) (λ (clash : Clash). All W (pair_faults n (slice_get declared clash.part) (slice_get declared clash.«with»)))
        (λ clash is. pair_wrong clash is _ _ refl refl) (reused_extensions declared) (earlier_told same_number declared)))
        (all_options_wrong (is_proto3 file) refl))

  -- ---- what is wrong is told

  told_if : (b : Bool) (fault : LinkFault) → b ≡ false → Among {A = LinkFault} (cond b [] (fault ∷ [])) fault
  told_if b fault is = subst (λ (b : Bool). Among {A = LinkFault} (cond b [] (fault ∷ [])) fault) (sym is) (inl refl)

  pub extension_listed : (path : Path) (kind : LinkFaultKind) → Wrong path kind → Among (extended_faults files table n sees packages file) (record { file = n; path = path; kind = kind })
  extension_listed path kind wrong = elim wrong as (λ path kind _. Among (extended_faults files table n sees packages file) (record { file = n; path = path; kind = kind })) [
    | IsInNoRange e has none ↦
        among-left (flat_map (λ e. range_faults n (ranges_numbered files table e.message) e) declared) _ _
        (among_flat (λ e. range_faults n (ranges_numbered files table e.message) e) declared e _ has
        (told_if _ _ (list_any_none (meets (single e.number)) (ranges_numbered files table e.message)
        (All-weaker (Contains (ranges_numbered files table e.message)) (λ (r : Span). meets (single e.number) r ≡ false) none (ranges_numbered files table e.message) (All-contains_itself (ranges_numbered files table e.message))))))
    | IsReused clash e earlier is at with' ↦
        among-right (flat_map (λ e. range_faults n (ranges_numbered files table e.message) e) declared) _ _
        (among-left (reused_faults n declared) _ _
        (among_flat (λ (clash : Clash). pair_faults n (slice_get declared clash.part) (slice_get declared clash.«with»)) (reused_extensions declared) clash _
        (contains-from (reused_extensions declared) clash (earlier_listed same_number declared clash is))
        (subst (λ (o : Option Extension). Among (pair_faults n o (slice_get declared clash.«with»)) (fault_at n e.path NUMBER (told.ExtensionReused e.message earlier.own))) (sym at)
        (subst (λ (o : Option Extension). Among (pair_faults n (Some e) o) (fault_at n e.path NUMBER (told.ExtensionReused e.message earlier.own))) (sym with') (inl refl)))))
    | IsNotOfOptions e has is not ↦
        among-right (flat_map (λ e. range_faults n (ranges_numbered files table e.message) e) declared) _ _
        (among-right (reused_faults n declared) _ _
        (subst (λ (b : Bool). Among (cond b (flat_map (options_faults n table) declared) []) (fault_at n e.path EXTENDEE told.NotOfOptions)) (sym is)
        (among_flat (options_faults n table) declared e _ has (told_if _ _ not))))
  ]
