-- What a message in text format says is told by steps through a whole message.
use Rattle.std.proofs.Common.{IfOk, ◌≡◌, ℕ, ◌+◌, ◌&&◌, Bool, true, false, cond, List, [], ◌∷◌, ◌++◌, length, Option, Some, None, Result, Ok, Err, refl, sym, ap, subst, is_some, ◌∙◌, append_assoc, append-nil, take}
use Rattle.protox_aggregate.specs.Aggregates.{Reading, any_ends, at_step, closes, cut_back, ends, entries_of, goes_out, into, into_typed, is_any_told, is_bare, kept, lacking, lists, named_field, named_field_in, named_in, names, naming, naming_type, nothing_read, opened_as, opened_typed, opens, out_of, said_of, saying, saying_more, says_value, started, step, steps_from, told, unless_missing, unless_wrong, value_entry, value_of, with_field, wrong_with_list}
use Rattle.protox_aggregate.specs.Anys.{fields_for, type_in_text}
use Rattle.protox_aggregate.specs.Complete.{ended, missing_at_end, said_at_end, zero_if_untold, zeros, untold}
use Rattle.protox_aggregate.specs.Fields.{is_in_proto3}
use Rattle.protox_aggregate.specs.Levels.{Level, typed_in}
use Rattle.protox_aggregate.specs.Names.{field_in_text}
use Rattle.protox_aggregate.specs.Whole.{IsWhole}
use Rattle.protox_aggregate.specs.declared.fault.AggregateFault.{AggregateFault}
use Rattle.protox_aggregate.specs.declared.fault.AggregateFaultKind.{AggregateFaultKind}
use Rattle.protox_aggregate.specs.declared.fault.AggregateFaultKind.TheVariants as kind
use Rattle.protox_aggregate.specs.declared.level.AnyFields.{AnyFields}
use Rattle.protox_aggregate.specs.declared.level.Named.{Named}
use Rattle.protox_aggregate.specs.declared.level.Told.{Told}
use Rattle.protox_aggregate.specs.declared.level.Typed.{Typed}
use Rattle.protox_descriptor.specs.FieldDescriptorProto.{FieldDescriptorProto}
use Rattle.protox_descriptor.specs.declared.descriptor.DescriptorProto.{DescriptorProto}
use Rattle.protox_descriptor.specs.declared.descriptor.FileDescriptorProto.{FileDescriptorProto}
use Rattle.protox_lexeme.specs.Shapes.{Shape}
use Rattle.protox_message_bytes.specs.Parts.{Parts, NoMore, Value, Message, steps}
use Rattle.protox_message_bytes.specs.declared.entry.Entry.{Entry}
use Rattle.protox_message_bytes.specs.declared.entry.Entry.TheVariants as entry
use Rattle.protox_settings.specs.Fields.{field_numbered, message_numbered, message_of_type}
use Rattle.protox_settings.specs.Names.{goes_on}
use Rattle.protox_symbols.specs.Symbols.{Table}
use Rattle.protox_text_format.specs.Spelling.{AHeld, AMessage, AValue, Close, CloseList, Form, Name, Open, OpenList, Scalar, Spells, Step, Values}
use Rattle.protox_text_format.specs.Spelling.Spells.{AField, AList, AScalar, InAngles, InBraces, LastValue, NextValue, NoField, NoValue, OneValue}
use Rattle.protox_text_format.specs.declared.item.Piece.{Piece}
use Rattle.protox_text_values.specs.Scalars.{shapes_of}
use Rattle.protox_values.specs.declared.setting.SettingValue.{SettingValue}
use Rattle.protox_values.specs.declared.setting.SettingValue.TheVariants as on_wire
use Rattle.std.specs.Option.{option_and_then}
use Rattle.std.proofs.Math.Seq.{take-append_seam}

-- ---- parts

-- some parts, and others behind them
abbrev joined : Parts → Parts → Parts
joined NoMore q = q
joined (Value number packed value more) q = Value number packed value (joined more q)
joined (Message number group inside more) q = Message number group inside (joined more q)

steps_joined : (p q : Parts) → steps (joined p q) ≡ steps p ++ steps q
steps_joined NoMore q = refl
steps_joined (Value number packed value more) q = ap (λ es. entry.Value number packed value ∷ es) (steps_joined more q)
steps_joined (Message number group inside more) q =
    ap (λ es. entry.Open number group ∷ (steps inside ++ entry.Close ∷ es)) (steps_joined more q)
    ∙ ap (λ es. entry.Open number group ∷ es) (sym (append_assoc (steps inside) (entry.Close ∷ steps more) (steps q)))

both_whole : (a b : List Entry) → IsWhole a → IsWhole b → IsWhole (a ++ b)
both_whole a b (p, is) (q, also) = (joined p q, ap (λ es. es ++ b) is ∙ ap (λ es. steps p ++ es) also ∙ sym (steps_joined p q))

both_whole_of : (a b c : List Entry) → IsWhole a → IsWhole b → a ++ b ≡ c → IsWhole c
both_whole_of a b c ha hb is = let (p, whole) = both_whole a b ha hb in (p, sym is ∙ whole)

by_test : (b : Bool) (x y : List Entry) → IsWhole x → IsWhole y → IsWhole (cond b x y)
by_test true x y hx hy = hx
by_test false x y hx hy = hy

-- ---- answers

then : {A B E : Type 0} (x : Result A E) (k : A → Result B E) (final : B) → goes_on x k ≡ Ok final → (next : A) × (x ≡ Ok next) × (k next ≡ Ok final)
then (Ok next) k final h = (next, refl, h)
then (Err wrong) k final h = absurd cc

then_at : {A B : Type 0} (index : ℕ) (x : Result A AggregateFaultKind) (k : A → Result B AggregateFault) (final : B) → goes_on (at_step index x) k ≡ Ok final → (next : A) × (x ≡ Ok next) × (k next ≡ Ok final)
then_at index (Ok next) k final h = (next, refl, h)
then_at index (Err wrong) k final h = absurd cc

ok_at : {A : Type 0} (index : ℕ) (x : Result A AggregateFaultKind) (final : A) → at_step index x ≡ Ok final → x ≡ Ok final
ok_at index (Ok x) final h = cc
ok_at index (Err wrong) final h = absurd cc

unless_is : (r : Reading) (w : Option AggregateFaultKind) (next : Reading) → unless_wrong r w ≡ Ok next → r ≡ next
unless_is r None next h = cc
unless_is r (Some wrong) next h = absurd cc

-- what follows of an answer
pub if_ok : {T E : Type 0} (r : Result T E) (P Q : T → Type 0) → ((x : T) → P x → Q x) → IfOk r P → IfOk r Q
if_ok (Ok x) P Q f h = f x h
if_ok (Err wrong) P Q f h = h

-- ---- messages that end

zero_whole : (table : Table) (message : ℕ) (told : List Told) (field : FieldDescriptorProto) (n : Option ℕ) → IsWhole (zero_if_untold table message told field n)
zero_whole table message told field None = (NoMore, refl)
zero_whole table message told field (Some n) = by_test _ _ _ (Message _ false NoMore NoMore, refl) (Value _ false _ NoMore, refl)

zeros_whole : (table : Table) (message : ℕ) (told : List Told) (fields : List FieldDescriptorProto) → IsWhole (zeros table message told fields)
zeros_whole table message told [] = (NoMore, refl)
zeros_whole table message told (field ∷ more) =
    both_whole _ _ (zero_whole table message told field (untold table message told field)) (zeros_whole table message told more)

missing_is : (es more : List Entry) (n : Option ℕ) → unless_missing es n ≡ Ok more → es ≡ more
missing_is es more None h = cc
missing_is es more (Some n) h = absurd cc

ended_whole : (table : Table) (level : Level) (m : Option DescriptorProto) → IsWhole (ended table level m)
ended_whole table level None = (NoMore, refl)
ended_whole table level (Some m) = by_test _ _ [] (zeros_whole table level.message level.told _) (NoMore, refl)

-- ---- what steps keep

-- The messages around are the same, and what is said besides is whole.
record Goes (r next : Reading) : Type 0 where
  outer : next.outer ≡ r.outer
  parts : Parts
  entries : next.entries ≡ r.entries ++ steps parts

stays : (r next : Reading) → r ≡ next → Goes r next
stays r next is = record { outer = ap (λ (x : Reading). x.outer) (sym is); parts = NoMore; entries = ap (λ (x : Reading). x.entries) (sym is) ∙ sym (append-nil r.entries) }

onwards : (r next last : Reading) → Goes r next → Goes next last → Goes r last
onwards r next last a b = record {
  outer = b.outer ∙ a.outer;
  parts = joined a.parts b.parts;
  entries = b.entries ∙ ap (λ es. es ++ steps b.parts) a.entries ∙ append_assoc r.entries (steps a.parts) (steps b.parts) ∙ ap (λ es. r.entries ++ es) (sym (steps_joined a.parts b.parts));
}

-- A message begins. If it is the value of an `Any`, it is known where.
record Enters (r next : Reading) : Type 0 where
  level : Level
  number : ℕ
  group : Bool
  typed : (t : Typed) → typed_in level ≡ Some t → t.start ≡ length r.entries
  outer : next.outer ≡ level ∷ r.outer
  entries : next.entries ≡ r.entries ++ entry.Open number group ∷ []

said_goes : (r : Reading) (named : Named) (in_proto3 : Bool) (field : FieldDescriptorProto) (value : SettingValue) (b : Bool)
    → Goes r (cond b r (saying r named field (value_entry in_proto3 field value)))
said_goes r named in_proto3 field value true = stays r r refl
said_goes r named in_proto3 field value false = record { outer = refl; parts = Value _ _ value NoMore; entries = refl }

refused_both : {A : Type 0} (b : Bool) (w v : AggregateFaultKind) (next : A) → cond b (Err w) (Err v) ≡ Ok next → ⊥
refused_both true w v next h = absurd cc
refused_both false w v next h = absurd cc

no_type : (field : Option Named) (named : Named) (t : Typed) → field ≡ Some named → named.typed ≡ None → option_and_then (λ (n : Named). n.typed) field ≡ Some t → ⊥
no_type None named t is none h = absurd cc
no_type (Some other) named t is none h =
    let same : other ≡ named = cc in
    let also : other.typed ≡ None = ap (λ (n : Named). n.typed) same ∙ none in
    absurd cc

opened_enters : (r : Reading) (named : Named) (field : FieldDescriptorProto) (m : Option ℕ) → r.level.field ≡ Some named → named.typed ≡ None → (next : Reading) → opened_as r named field m ≡ Ok next → Enters r next
opened_enters r named field (Some message) names none next h =
    let is : into r named field message ≡ next = cc in
    record {
      level = told r.level named field;
      number = _;
      group = _;
      typed = λ t e. absurd (no_type r.level.field named t names none e);
      outer = ap (λ (x : Reading). x.outer) (sym is);
      entries = ap (λ (x : Reading). x.entries) (sym is);
    }
opened_enters r named field None names none next h = absurd (refused_both named.colon kind.NotScalar kind.NoColon next h)

start_is : (named : Named) (typed t : Typed) (n : ℕ) → Some (record typed { start = n }) ≡ Some t → t.start ≡ n
start_is named typed t n h =
    let same : record typed { start = n } ≡ t = cc in
    ap (λ (x : Typed). x.start) (sym same)

typed_enters : (r : Reading) (named : Named) (field : FieldDescriptorProto) (m : Option ℕ) (o : Option Typed) → r.level.field ≡ Some named → named.typed ≡ o → (next : Reading) → opened_typed r named field m o ≡ Ok next → Enters r next
typed_enters r named field m None names is next h = opened_enters r named field m names is next h
typed_enters r named field m (Some typed) names is next h =
    let made : into_typed r named typed ≡ next = cc in
    record {
      level = started r.level named typed (length r.entries);
      number = 2;
      group = false;
      typed = λ t e. start_is named typed t (length r.entries) e;
      outer = ap (λ (x : Reading). x.outer) (sym made);
      entries = ap (λ (x : Reading). x.entries) (sym made);
    }

not_refused : {A : Type 0} (b : Bool) (w : AggregateFaultKind) (a next : A) → cond b (Err w) (Ok a) ≡ Ok next → a ≡ next
not_refused true w a next h = absurd cc
not_refused false w a next h = cc

not_wrong : {A : Type 0} (b : Bool) (w : AggregateFaultKind) (x : Result A AggregateFaultKind) (next : A) → cond b (Err w) x ≡ Ok next → x ≡ Ok next
not_wrong true w x next h = absurd cc
not_wrong false w x next h = h

-- ---- messages that end, one around another

module _ (r : Reading) (number : ℕ) (group : Bool) (inside : Parts) where
  abbrev begun : List Entry
  begun = r.entries ++ entry.Open number group ∷ []

  closed_is : (entries : List Entry) → entries ≡ begun ++ steps inside → entries ++ entry.Close ∷ [] ≡ r.entries ++ steps (Message number group inside NoMore)
  closed_is entries is =
      ap (λ es. es ++ entry.Close ∷ []) is
      ∙ append_assoc begun (steps inside) (entry.Close ∷ [])
      ∙ append_assoc r.entries (entry.Open number group ∷ []) (steps inside ++ entry.Close ∷ [])

  cut_is : (entries : List Entry) (n : ℕ) → entries ≡ begun ++ steps inside → n ≡ length r.entries → take n entries ≡ r.entries ++ []
  cut_is entries n is at =
      ap (λ k. take k entries) at
      ∙ ap (λ es. take (length r.entries) es) (is ∙ append_assoc r.entries (entry.Open number group ∷ []) (steps inside))
      ∙ take-append_seam r.entries (entry.Open number group ∷ steps inside) ∙ sym (append-nil r.entries)

  any_goes : (level : Level) (typed : Typed) (entries : List Entry) → entries ≡ begun ++ steps inside → typed.start ≡ length r.entries → (b : Bool)
      → Goes r (cond b (cut_back level typed r.outer entries) (kept level typed r.outer entries))
  any_goes level typed entries is at true = record { outer = refl; parts = NoMore; entries = cut_is entries typed.start is at }
  any_goes level typed entries is at false = record { outer = refl; parts = Message number group inside NoMore; entries = closed_is entries is }

module _ (files : List FileDescriptorProto) (table : Table) where
  with_is : (named : Named) (field : Option FieldDescriptorProto) (f : Named × FieldDescriptorProto) → with_field named field ≡ Ok f → Some named ≡ Some f.0
  with_is named None f h = absurd cc
  with_is named (Some field) f h =
      let same : (named, field) ≡ f = cc in
      ap (λ (x : Named × FieldDescriptorProto). Some x.0) same

  field_is : (o : Option Named) (f : Named × FieldDescriptorProto) → named_field_in files table o ≡ Ok f → o ≡ Some f.0
  field_is None f h = absurd cc
  field_is (Some named) f h = with_is named (field_numbered files table named.number) f h

  names_goes : (r : Reading) (colon : Bool) (n : ℕ) (next : Reading) → names files table r colon n ≡ Ok next → Goes r next
  names_goes r colon n next h =
      let is : naming r colon n ≡ next = unless_is (naming r colon n) _ next h in
      record { outer = ap (λ (x : Reading). x.outer) (sym is); parts = NoMore; entries = ap (λ (x : Reading). x.entries) (sym is) ∙ sym (append-nil r.entries) }

  value_goes : (r : Reading) (pieces : List Piece) (next : Reading) → says_value files table r pieces ≡ Ok next → Goes r next
  value_goes r pieces next h =
      let (f, is, h1) = then (named_field files table r.level) (λ f. goes_on (value_of files table r.level.message pieces f.0 f.1) (λ value. Ok (said_of r f.0 (is_in_proto3 files table f.0.number) f.1 value))) next h in
      let (value, also, h2) = then (value_of files table r.level.message pieces f.0 f.1) (λ value. Ok (said_of r f.0 (is_in_proto3 files table f.0.number) f.1 value)) next h1 in
      let in_proto3 : Bool = is_in_proto3 files table f.0.number in
      let said : said_of r f.0 in_proto3 f.1 value ≡ next = cc in
      let goes : Goes r (said_of r f.0 in_proto3 f.1 value) = said_goes r f.0 in_proto3 f.1 value _ in
      record { outer = ap (λ (x : Reading). x.outer) (sym said) ∙ goes.outer; parts = goes.parts; entries = ap (λ (x : Reading). x.entries) (sym said) ∙ goes.entries }

  opens_enters : (r next : Reading) → opens files table r ≡ Ok next → Enters r next
  opens_enters r next h =
      let (f, is, h1) = then (named_field files table r.level) (λ f. opened_typed r f.0 f.1 (message_of_type table f.1) f.0.typed) next h in
      typed_enters r f.0 f.1 (message_of_type table f.1) f.0.typed (field_is r.level.field f is) refl next h1

  lists_stays : (r next : Reading) → lists files table r ≡ Ok next → r ≡ next
  lists_stays r next h = let (f, is, h1) = then (named_field files table r.level) (λ f. unless_wrong r (wrong_with_list table f.0 f.1)) next h in unless_is r (wrong_with_list table f.0 f.1) next h1

  ending_whole : (level : Level) → IsWhole (said_at_end files table level)
  ending_whole level = ended_whole table level (message_numbered files table level.message)

  out_goes : (missing : Option ℕ) (r : Reading) (number : ℕ) (group : Bool) (inside : Parts) (level : Level) (x : Reading) → x.entries ≡ begun r number group inside ++ steps inside → (o : Option Typed) → ((t : Typed) → o ≡ Some t → t.start ≡ length r.entries) → (next : Reading) → goes_out files table missing x level r.outer o ≡ Ok next → Goes r next
  out_goes missing r number group inside level x is None starts next h =
      let made : Reading = record { level = lacking level missing; outer = r.outer; entries = x.entries ++ entry.Close ∷ [] } in
      let same : made ≡ next = cc in
      record {
        outer = ap (λ (x : Reading). x.outer) (sym same);
        parts = Message number group inside NoMore;
        entries = ap (λ (x : Reading). x.entries) (sym same) ∙ closed_is r number group inside x.entries is;
      }
  out_goes missing r number group inside level x is (Some typed) starts next h =
      let in_proto3 : Bool = is_in_proto3 files table level.message in
      let same : any_ends in_proto3 level typed r.outer x.entries ≡ next = not_refused (is_any_told level typed) kind.AnyAgain _ next (not_wrong (is_some missing) (kind.MissingInAny typed.message) _ next h) in
      let goes : Goes r (any_ends in_proto3 level typed r.outer x.entries) = any_goes r number group inside level typed x.entries is (starts typed refl) (in_proto3 && is_bare typed x.entries) in
      subst (λ n. Goes r n) same goes

  -- A message ends: what it said is the value of a field of the one around.
  closed_goes : (r inner after next : Reading) (enters : Enters r inner) → Goes inner after → closes files table after ≡ Ok next → Goes r next
  closed_goes r inner after next enters goes h =
      let missing : Option ℕ = missing_at_end files table after.level in
      let more : List Entry = said_at_end files table after.level in
      let (q, whole) = ending_whole after.level in
      let around : after.outer ≡ enters.level ∷ r.outer = goes.outer ∙ enters.outer in
      let left : out_of files table missing (saying_more after more) (enters.level ∷ r.outer) ≡ Ok next = ap (λ o. out_of files table missing (saying_more after more) o) (sym around) ∙ h in
      let inside : Parts = joined goes.parts q in
      let front : List Entry = begun r enters.number enters.group inside in
      let told : after.entries ++ more ≡ front ++ steps inside =
      ap (λ es. es ++ more) (goes.entries ∙ ap (λ es. es ++ steps goes.parts) enters.entries) ∙ ap (λ es. (front ++ steps goes.parts) ++ es) whole
      ∙ append_assoc front (steps goes.parts) (steps q) ∙ ap (λ es. front ++ es) (sym (steps_joined goes.parts q)) in
      out_goes missing r enters.number enters.group inside enters.level (saying_more after more) told (typed_in enters.level) enters.typed next left

-- ---- all steps

module _ (files : List FileDescriptorProto) (table : Table) (sees packages : List Bool) where
  abbrev from : ℕ → Reading → List Step → Result Reading AggregateFault
  from = steps_from files table sees packages

  -- What comes of some steps, and from where the rest goes on.
  record Onward (r : Reading) (rest : List Step) (final : Reading) : Type 0 where
    index : ℕ
    after : Reading
    goes : Goes r after
    then_on : from index after rest ≡ Ok final

  named_goes : (r : Reading) (name : List Shape) (colon : Bool) (o : Option AnyFields) (next : Reading) → named_in files table sees packages r name colon o ≡ Ok next → Goes r next
  named_goes r name colon None next h =
      let (n, is, h1) = then (field_in_text files table sees packages r.level.message name) (λ n. names files table r colon n) next h in
      names_goes files table r colon n next h1
  named_goes r name colon (Some fields) next h =
      let (t, is, h1) = then (type_in_text files table sees packages name) (λ t. Ok (naming_type r colon fields t.0 t.1)) next h in
      let same : naming_type r colon fields t.0 t.1 ≡ next = cc in
      record {
        outer = ap (λ (x : Reading). x.outer) (sym same);
        parts = Value 1 false (on_wire.Bytes t.1) NoMore;
        entries = ap (λ (x : Reading). x.entries) (sym same);
      }

  name_goes : (r : Reading) (name : List Piece) (colon : Bool) (next : Reading) → step files table sees packages r (Name name colon) ≡ Ok next → Goes r next
  name_goes r name colon next h = named_goes r (shapes_of name) colon (fields_for files table r.level.message (shapes_of name)) next h

  -- a message in braces, or in angle brackets, by what comes of the steps within
  in_message : (some : List Step) → ((index : ℕ) (r : Reading) (rest : List Step) (final : Reading) → from index r (some ++ rest) ≡ Ok final → Onward r rest final) → (index : ℕ) (r : Reading) (rest : List Step) (final : Reading) → from index r ((Open ∷ some ++ Close ∷ []) ++ rest) ≡ Ok final → Onward r rest final
  in_message some within index r rest final h =
      let (inner, is, h1) = then_at index (step files table sees packages r Open) (λ inner. from (index + 1) inner ((some ++ Close ∷ []) ++ rest)) final h in
      let a = within (index + 1) inner (Close ∷ rest) final (ap (from (index + 1) inner) (sym (append_assoc some (Close ∷ []) rest)) ∙ h1) in
      let (next, also, h2) = then_at a.index (step files table sees packages a.after Close) (λ next. from (a.index + 1) next rest) final a.then_on in
      record { index = a.index + 1; after = next; goes = closed_goes files table r inner a.after next (opens_enters files table r inner is) a.goes also; then_on = h2 }

  onward : (form : Form) (n : ℕ) (pieces : List Piece) (told : List Step) → Spells form n pieces told → (index : ℕ) (r : Reading) (rest : List Step) (final : Reading) → from index r (told ++ rest) ≡ Ok final → Onward r rest final
  onward _ _ _ _ (NoField n) index r rest final h = record { index = index; after = r; goes = stays r r refl; then_on = h }
  onward _ _ _ _ (AField n has name colon held end more some others is_name is_colon holds is_end then_more) index r rest final h =
      let (next, is, h1) = then_at index (step files table sees packages r (Name name has)) (λ next. from (index + 1) next ((some ++ others) ++ rest)) final h in
      let a = onward AHeld n held some holds (index + 1) next (others ++ rest) final (ap (from (index + 1) next) (sym (append_assoc some others rest)) ∙ h1) in
      let b = onward AMessage n more others then_more a.index a.after rest final a.then_on in
      record {
        index = b.index;
        after = b.after;
        goes = onwards r next b.after (name_goes r name has next is) (onwards next a.after b.after a.goes b.goes);
        then_on = b.then_on;
      }
  onward _ _ _ _ (OneValue n value some spells) index r rest final h = onward AValue n value some spells index r rest final h
  onward _ _ _ _ (NoValue n open_at close_at o c) index r rest final h =
      let (next, is, h1) = then_at index (step files table sees packages r OpenList) (λ next. from (index + 1) next (CloseList ∷ rest)) final h in
      let same : r ≡ next = lists_stays files table r next is in
      let (last, also, h2) = then_at (index + 1) (step files table sees packages next CloseList) (λ last. from (index + 1 + 1) last rest) final h1 in
      let same_again : next ≡ last = cc in
      record { index = index + 1 + 1; after = last; goes = stays r last (same ∙ same_again); then_on = h2 }
  onward _ _ _ _ (AList n open_at values some o spells) index r rest final h =
      let (next, is, h1) = then_at index (step files table sees packages r OpenList) (λ next. from (index + 1) next (some ++ rest)) final h in
      let a = onward Values n values some spells (index + 1) next rest final h1 in
      record { index = a.index; after = a.after; goes = onwards r next a.after (stays r next (lists_stays files table r next is)) a.goes; then_on = a.then_on }
  onward _ _ _ _ (AScalar n value is_scalar) index r rest final h =
      let (next, is, h1) = then_at index (step files table sees packages r (Scalar value)) (λ next. from (index + 1) next rest) final h in
      record { index = index + 1; after = next; goes = value_goes files table r value next is; then_on = h1 }
  onward _ _ _ _ (InBraces m open_at close_at inside some o spells c) index r rest final h = in_message some (onward AMessage m inside some spells) index r rest final h
  onward _ _ _ _ (InAngles m open_at close_at inside some o spells c) index r rest final h = in_message some (onward AMessage m inside some spells) index r rest final h
  onward _ _ _ _ (LastValue n value close_at some spells c) index r rest final h =
      let a = onward AValue n value some spells index r (CloseList ∷ rest) final (ap (from index r) (sym (append_assoc some (CloseList ∷ []) rest)) ∙ h) in
      let (next, is, h1) = then_at a.index (step files table sees packages a.after CloseList) (λ next. from (a.index + 1) next rest) final a.then_on in
      let same : a.after ≡ next = cc in
      record { index = a.index + 1; after = next; goes = onwards r a.after next a.goes (stays a.after next same); then_on = h1 }
  onward _ _ _ _ (NextValue n value more comma some others spells c then_more) index r rest final h =
      let a = onward AValue n value some spells index r (others ++ rest) final (ap (from index r) (sym (append_assoc some others rest)) ∙ h) in
      let b = onward Values n more others then_more a.index a.after rest final a.then_on in
      record { index = b.index; after = b.after; goes = onwards r a.after b.after a.goes b.goes; then_on = b.then_on }

  -- What a whole message says is told by steps through a whole message.
  pub whole_entries : (message : ℕ) (n : ℕ) (pieces : List Piece) (told : List Step) (entries : List Entry) → Spells AMessage n pieces told → entries_of files table sees packages message told ≡ Ok entries → IsWhole entries
  whole_entries message n pieces told entries spells h =
      let (final, is, h1) = then (from 0 (nothing_read files table sees packages message) told) (λ reading. at_step (length told) (ends files table reading)) entries h in
      let a = onward AMessage n pieces told spells 0 (nothing_read files table sees packages message) [] final (ap (from 0 (nothing_read files table sees packages message)) (append-nil told) ∙ is) in
      let same : a.after ≡ final = cc in
      let more : List Entry = said_at_end files table final.level in
      let (q, whole) = ending_whole files table final.level in
      let told_all : final.entries ++ more ≡ entries =
      missing_is (final.entries ++ more) entries (missing_at_end files table final.level) (ok_at (length told) (ends files table final) entries h1) in
      let first : final.entries ≡ steps a.goes.parts = ap (λ (x : Reading). x.entries) (sym same) ∙ a.goes.entries in
      both_whole_of final.entries more entries (a.goes.parts, first) (q, whole) told_all
