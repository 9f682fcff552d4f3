-- A fault is in the list of a file's faults exactly if it is `Wrong` of the file.
use Rattle.std.proofs.Common.{◌≡◌, ℕ, Bool, true, false, not, ◌⊎◌, inl, inr, List, [], ◌∷◌, ◌++◌, Contains, Option, Some, None, codes, refl, sym, ap, subst, ◌∙◌, true≢false, Bor, is_none}
use Rattle.std.specs.Prelude.{◌&&◌}
use Rattle.protox_fault.specs.Faults.{Span}
use Rattle.protox_fault.specs.declared.error.ParseErrorKind.{ParseErrorKind}
use Rattle.protox_fault.specs.declared.error.ParseErrorKind.TheVariants as fault
use Rattle.protox_ast.specs.Checks.{is_text}
use Rattle.protox_ast.specs.declared.ast.FieldLabel.{FieldLabel}
use Rattle.protox_ast.specs.declared.ast.FieldLabel.TheVariants as label
use Rattle.protox_ast.specs.declared.ast.File.{File}
use Rattle.protox_ast.specs.declared.ast.Int.{Int}
use Rattle.protox_ast.specs.declared.ast.OptionBody.{OptionBody}
use Rattle.protox_ast.specs.declared.ast.OptionValue.{OptionValue}
use Rattle.protox_ast.specs.declared.ast.OptionValue.TheVariants as value
use Rattle.protox_ast.specs.declared.ast.Syntax.{Syntax}
use Rattle.protox_ast.specs.declared.ast.Syntax.TheVariants.{Proto2, Proto3}
use Rattle.protox_checks.specs.Checks.{only_if, integer_faults, value_faults, option_faults, label_faults, map_faults, key_faults, kind_faults, is_proto3, place_faults, group_faults, default_value_faults, at_default, field_faults, node_faults, file_faults}
use Rattle.protox_checks.specs.Faults.{WrongNode, Wrong, placed, settled}
use Rattle.protox_checks.specs.FieldFaults.{Scope, InMessage, InOneof, InExtend, KindNode, Normal, Group, Map, FieldNode, WithKind, WrongLabel, WrongMap, WrongKey, WrongKind, WrongDefault, on_map, on_repeated, on_group, in_proto3, WrongDefaultValue, WrongField, of_label, of_kind, of_default, of_default_value, may_be_key, is_map, is_group, is_repeated}
use Rattle.protox_checks.specs.Nodes.{Node, AMessageNumber, AnEnumNumber, AField, AJsonName, AnOption, AnEmptyOneof, file_nodes}
use Rattle.protox_ast.specs.FieldNumbers.{in_message_range}
use Rattle.protox_ast.specs.Spans.{body_span}
use Rattle.protox_checks.specs.ValueFaults.{invalid_type, out_of_range, WrongInteger, WrongValue, WrongUninterpreted}
use Rattle.protox_ast.specs.Values.{Interval, is_in, any_64, signed_32, Wanted, a_float, an_integer, a_bool, a_text, some_bytes, anything, wanted, as_bool, as_float_text}
use Rattle.protox_checks.proofs.Membership.{Among, somewhere-from, any-from, among-from, contains-from, among-left, among-right, among-cases, among-flat, somewhere-flat, not-true, not-false, and_parts, and-true, none-true, none-test}

-- ---- the word of a kind

-- the fault has no word
abbrev plain : ParseErrorKind → Bool
plain (fault.InvalidDefault span kind) = false
plain (fault.InvalidExtendFieldKind span kind) = false
plain (fault.InvalidOneofFieldKind span kind) = false
plain wrong = true

-- a settled fault without a word is the fault itself
unsettle : (one wrong : ParseErrorKind) → plain one ≡ true → one ≡ settled wrong → wrong ≡ one
unsettle one (fault.InvalidDefault span kind) p e = absurd (true≢false (sym p ∙ ap plain e))
unsettle one (fault.InvalidExtendFieldKind span kind) p e = absurd (true≢false (sym p ∙ ap plain e))
unsettle one (fault.InvalidOneofFieldKind span kind) p e = absurd (true≢false (sym p ∙ ap plain e))
unsettle one wrong p e = sym e

-- the fault, given its word
abbrev is_default : ParseErrorKind → Bool
is_default (fault.InvalidDefault span kind) = true
is_default wrong = false

abbrev is_extend : ParseErrorKind → Bool
is_extend (fault.InvalidExtendFieldKind span kind) = true
is_extend wrong = false

abbrev is_oneof : ParseErrorKind → Bool
is_oneof (fault.InvalidOneofFieldKind span kind) = true
is_oneof wrong = false

abbrev place_of : ParseErrorKind → Span
place_of (fault.InvalidDefault span kind) = span
place_of (fault.InvalidExtendFieldKind span kind) = span
place_of (fault.InvalidOneofFieldKind span kind) = span
place_of wrong = record { start = 0; end = 0 }

abbrev word_of : ParseErrorKind → List ℕ
word_of (fault.InvalidDefault span kind) = kind.now
word_of (fault.InvalidExtendFieldKind span kind) = kind.now
word_of (fault.InvalidOneofFieldKind span kind) = kind.now
word_of wrong = []

default-word : (span : Span) (word : List ℕ) (wrong : ParseErrorKind) → fault.InvalidDefault span (placed word) ≡ settled wrong → WithKind word (fault.InvalidDefault span) wrong
default-word span word (fault.InvalidDefault s k) e = (k, ap word_of (sym e), ap (λ t. fault.InvalidDefault t k) (ap place_of (sym e)))
default-word span word (fault.InvalidExtendFieldKind s k) e = absurd (true≢false (ap is_default e))
default-word span word (fault.InvalidOneofFieldKind s k) e = absurd (true≢false (ap is_default e))
default-word span word wrong e = (placed word, refl, sym e)

extend-word : (span : Span) (word : List ℕ) (wrong : ParseErrorKind) → fault.InvalidExtendFieldKind span (placed word) ≡ settled wrong → WithKind word (fault.InvalidExtendFieldKind span) wrong
extend-word span word (fault.InvalidDefault s k) e = absurd (true≢false (ap is_extend e))
extend-word span word (fault.InvalidExtendFieldKind s k) e = (k, ap word_of (sym e), ap (λ t. fault.InvalidExtendFieldKind t k) (ap place_of (sym e)))
extend-word span word (fault.InvalidOneofFieldKind s k) e = absurd (true≢false (ap is_extend e))
extend-word span word wrong e = (placed word, refl, sym e)

oneof-word : (span : Span) (word : List ℕ) (wrong : ParseErrorKind) → fault.InvalidOneofFieldKind span (placed word) ≡ settled wrong → WithKind word (fault.InvalidOneofFieldKind span) wrong
oneof-word span word (fault.InvalidDefault s k) e = absurd (true≢false (ap is_oneof e))
oneof-word span word (fault.InvalidExtendFieldKind s k) e = absurd (true≢false (ap is_oneof e))
oneof-word span word (fault.InvalidOneofFieldKind s k) e = (k, ap word_of (sym e), ap (λ t. fault.InvalidOneofFieldKind t k) (ap place_of (sym e)))
oneof-word span word wrong e = (placed word, refl, sym e)

-- a fault with the word, settled
settle-kind : (word : List ℕ) (named : Bor (List ℕ) → ParseErrorKind) (wrong : ParseErrorKind) → ((kind : Bor (List ℕ)) → settled (named kind) ≡ named (placed kind.now)) → WithKind word named wrong → named (placed word) ≡ settled wrong
settle-kind word named wrong settles h = sym (ap settled h.2 ∙ (settles h.0 ∙ ap (λ w. named (placed w)) h.1))

-- ---- a fault under a test

test-to : (b : Bool) (one wrong : ParseErrorKind) → b ≡ true → one ≡ settled wrong → Among (only_if b one) (settled wrong)
test-to true one wrong t e = inl e
test-to false one wrong t e = absurd (true≢false (sym t))

test-from : (b : Bool) (one wrong : ParseErrorKind) → Among (only_if b one) (settled wrong) → (b ≡ true) × (one ≡ settled wrong)
test-from true one wrong (inl e) = (refl, e)
test-from true one wrong (inr h) = absurd h
test-from false one wrong h = absurd h

one-from : {x y : ParseErrorKind} → Among (x ∷ []) y → x ≡ y
one-from (inl e) = e
one-from (inr h) = absurd h

-- a fault without a word, held where the test fails
fails-to : (b : Bool) (one wrong : ParseErrorKind) → settled one ≡ one → (b ≡ false) × (wrong ≡ one) → Among (only_if (not b) one) (settled wrong)
fails-to b one wrong s h = test-to (not b) one wrong (not-false b h.0) (sym (ap settled h.1 ∙ s))

fails-from : (b : Bool) (one wrong : ParseErrorKind) → plain one ≡ true → Among (only_if (not b) one) (settled wrong) → (b ≡ false) × (wrong ≡ one)
fails-from b one wrong p h = let r = test-from (not b) one wrong h in (not-true b r.0, unsettle one wrong p r.1)

-- a fault that always holds
plain-to : (one wrong : ParseErrorKind) → settled one ≡ one → wrong ≡ one → Among (one ∷ []) (settled wrong)
plain-to one wrong s e = inl (sym (ap settled e ∙ s))

plain-from : (one wrong : ParseErrorKind) → plain one ≡ true → Among (one ∷ []) (settled wrong) → wrong ≡ one
plain-from one wrong p h = unsettle one wrong p (one-from h)

-- a fault that holds if there is no value
none-to : {A : Type 0} (o : Option A) (one wrong : ParseErrorKind) → settled one ≡ one → (o ≡ None) × (wrong ≡ one) → Among (only_if (is_none o) one) (settled wrong)
none-to o one wrong s h = test-to (is_none o) one wrong (none-test o h.0) (sym (ap settled h.1 ∙ s))

none-from : {A : Type 0} (o : Option A) (one wrong : ParseErrorKind) → plain one ≡ true → Among (only_if (is_none o) one) (settled wrong) → (o ≡ None) × (wrong ≡ one)
none-from o one wrong p h = let r = test-from (is_none o) one wrong h in (none-true o r.0, unsettle one wrong p r.1)

-- ---- values

integer-to : (interval : Interval) (int : Int) (wrong : ParseErrorKind) → WrongInteger interval int wrong → Among (integer_faults interval int) (settled wrong)
integer-to interval int wrong h = fails-to (is_in interval int) (out_of_range interval int) wrong refl h

integer-from : (interval : Interval) (int : Int) (wrong : ParseErrorKind) → Among (integer_faults interval int) (settled wrong) → WrongInteger interval int wrong
integer-from interval int wrong h = fails-from (is_in interval int) (out_of_range interval int) wrong refl h

value-to : (w : Wanted) (v : OptionValue) (wrong : ParseErrorKind) → WrongValue w v wrong → Among (value_faults w v) (settled wrong)
value-to a_float v wrong h = none-to (as_float_text v) (invalid_type (codes "a floating-point number") v) wrong refl h
value-to (an_integer interval) (value.Int int) wrong h = integer-to interval int wrong h
value-to (an_integer interval) v wrong h = plain-to (invalid_type (codes "an integer") v) wrong refl h
value-to a_bool v wrong h = none-to (as_bool v) (invalid_type (codes "either 'true' or 'false'") v) wrong refl h
value-to a_text (value.String string) wrong h = fails-to (is_text string.value) (fault.InvalidUtf8String string.span) wrong refl h
value-to a_text v wrong h = plain-to (invalid_type (codes "a string") v) wrong refl h
value-to some_bytes (value.String string) wrong h = absurd h
value-to some_bytes v wrong h = plain-to (invalid_type (codes "a string") v) wrong refl h
value-to anything v wrong h = absurd h

value-from : (w : Wanted) (v : OptionValue) (wrong : ParseErrorKind) → Among (value_faults w v) (settled wrong) → WrongValue w v wrong
value-from a_float v wrong h = none-from (as_float_text v) (invalid_type (codes "a floating-point number") v) wrong refl h
value-from (an_integer interval) (value.Int int) wrong h = integer-from interval int wrong h
value-from (an_integer interval) v wrong h = plain-from (invalid_type (codes "an integer") v) wrong refl h
value-from a_bool v wrong h = none-from (as_bool v) (invalid_type (codes "either 'true' or 'false'") v) wrong refl h
value-from a_text (value.String string) wrong h = fails-from (is_text string.value) (fault.InvalidUtf8String string.span) wrong refl h
value-from a_text v wrong h = plain-from (invalid_type (codes "a string") v) wrong refl h
value-from some_bytes (value.String string) wrong h = absurd h
value-from some_bytes v wrong h = plain-from (invalid_type (codes "a string") v) wrong refl h
value-from anything v wrong h = absurd h

option-to : (v : OptionValue) (wrong : ParseErrorKind) → WrongUninterpreted v wrong → Among (option_faults v) (settled wrong)
option-to (value.Ident negative ident span) wrong h = test-to negative (fault.NegativeIdentOutsideDefault span) wrong h.0 (sym (ap settled h.1))
option-to (value.Int int) wrong h = integer-to any_64 int wrong h
option-to v wrong h = absurd h

option-from : (v : OptionValue) (wrong : ParseErrorKind) → Among (option_faults v) (settled wrong) → WrongUninterpreted v wrong
option-from (value.Ident negative ident span) wrong h =
    let r = test-from negative (fault.NegativeIdentOutsideDefault span) wrong h in (r.0, unsettle (fault.NegativeIdentOutsideDefault span) wrong refl r.1)
option-from (value.Int int) wrong h = integer-from any_64 int wrong h
option-from v wrong h = absurd h

-- ---- labels and kinds

label-to : (syntax : Syntax) (scope : Scope) (kind : KindNode) (label : Option (FieldLabel × Span)) (span : Span) (wrong : ParseErrorKind) → WrongLabel syntax scope kind label span wrong → Among (label_faults syntax scope kind label span) (settled wrong)
label-to syntax scope (Map key key_span) label span wrong h = absurd h
label-to syntax InExtend kind (Some (label.Required, at)) span wrong h = plain-to (fault.RequiredExtendField at) wrong refl h
label-to syntax InOneof kind (Some (label, at)) span wrong h = plain-to (fault.OneofFieldWithLabel at) wrong refl h
label-to syntax InOneof kind None span wrong h = absurd h
label-to Proto2 scope kind None span wrong h = plain-to (fault.Proto2FieldMissingLabel span) wrong refl h
label-to Proto3 scope kind (Some (label.Required, at)) span wrong h = plain-to (fault.Proto3RequiredField at) wrong refl h
label-to syntax scope kind label span wrong h = absurd h

label-from : (syntax : Syntax) (scope : Scope) (kind : KindNode) (label : Option (FieldLabel × Span)) (span : Span) (wrong : ParseErrorKind) → Among (label_faults syntax scope kind label span) (settled wrong) → WrongLabel syntax scope kind label span wrong
label-from syntax scope (Map key key_span) label span wrong h = absurd h
label-from syntax InExtend kind (Some (label.Required, at)) span wrong h = plain-from (fault.RequiredExtendField at) wrong refl h
label-from syntax InOneof kind (Some (label, at)) span wrong h = plain-from (fault.OneofFieldWithLabel at) wrong refl h
label-from syntax InOneof kind None span wrong h = absurd h
label-from Proto2 scope kind None span wrong h = plain-from (fault.Proto2FieldMissingLabel span) wrong refl h
label-from Proto3 scope kind (Some (label.Required, at)) span wrong h = plain-from (fault.Proto3RequiredField at) wrong refl h
label-from syntax scope kind label span wrong h = absurd h

map-to : (scope : Scope) (label : Option (FieldLabel × Span)) (span : Span) (wrong : ParseErrorKind) → WrongMap scope label span wrong → Among (map_faults scope label span) (settled wrong)
map-to InOneof label span wrong h = inl (settle-kind (codes "map") (fault.InvalidOneofFieldKind span) wrong (λ kind. refl) h)
map-to InExtend label span wrong h = inl (settle-kind (codes "map") (fault.InvalidExtendFieldKind span) wrong (λ kind. refl) h)
map-to InMessage (Some label) span wrong h = plain-to (fault.MapFieldWithLabel label.1) wrong refl h
map-to InMessage None span wrong h = absurd h

map-from : (scope : Scope) (label : Option (FieldLabel × Span)) (span : Span) (wrong : ParseErrorKind) → Among (map_faults scope label span) (settled wrong) → WrongMap scope label span wrong
map-from InOneof label span wrong h = oneof-word span (codes "map") wrong (one-from h)
map-from InExtend label span wrong h = extend-word span (codes "map") wrong (one-from h)
map-from InMessage (Some label) span wrong h = plain-from (fault.MapFieldWithLabel label.1) wrong refl h
map-from InMessage None span wrong h = absurd h

kind-to : (syntax : Syntax) (scope : Scope) (f : FieldNode) (kind : KindNode) (wrong : ParseErrorKind) → WrongKind syntax scope f kind wrong → Among (kind_faults syntax scope f kind) (settled wrong)
kind-to syntax scope f (Normal type) wrong h = absurd h
kind-to Proto2 scope f Group wrong h = absurd h
kind-to Proto3 scope f Group wrong h = plain-to (fault.Proto3GroupField f.span) wrong refl h
kind-to syntax scope f (Map key key_span) wrong (inl h) =
    among-left (map_faults scope f.label f.span) (key_faults key key_span) (settled wrong) (map-to scope f.label f.span wrong h)
kind-to syntax scope f (Map key key_span) wrong (inr h) =
    among-right (map_faults scope f.label f.span) (key_faults key key_span) (settled wrong) (fails-to (may_be_key key) (fault.InvalidMapFieldKeyType key_span) wrong refl h)

kind-from : (syntax : Syntax) (scope : Scope) (f : FieldNode) (kind : KindNode) (wrong : ParseErrorKind) → Among (kind_faults syntax scope f kind) (settled wrong) → WrongKind syntax scope f kind wrong
kind-from syntax scope f (Normal type) wrong h = absurd h
kind-from Proto2 scope f Group wrong h = absurd h
kind-from Proto3 scope f Group wrong h = plain-from (fault.Proto3GroupField f.span) wrong refl h
kind-from syntax scope f (Map key key_span) wrong h =
    elim (among-cases (map_faults scope f.label f.span) (key_faults key key_span) (settled wrong) h) as (λ _. WrongMap scope f.label f.span wrong ⊎ WrongKey key key_span wrong) [
      | inl m ↦ inl (map-from scope f.label f.span wrong m)
      | inr k ↦ inr (fails-from (may_be_key key) (fault.InvalidMapFieldKeyType key_span) wrong refl k)
    ]

-- ---- defaults

is-proto3 : (syntax : Syntax) → is_proto3 syntax ≡ true → syntax ≡ Proto3
is-proto3 Proto2 e = absurd (true≢false (sym e))
is-proto3 Proto3 e = refl

module _ (syntax : Syntax) (f : FieldNode) (span : Span) where
  abbrev on_maps : List ParseErrorKind
  on_maps = only_if (is_map f.kind) (fault.InvalidDefault span (placed (codes "map")))

  abbrev on_repeateds : List ParseErrorKind
  on_repeateds = only_if (not (is_map f.kind) && is_repeated f.label) (fault.InvalidDefault span (placed (codes "repeated")))

  abbrev in_proto3s : List ParseErrorKind
  in_proto3s = only_if (is_proto3 syntax && (not (is_map f.kind) && not (is_repeated f.label))) (fault.Proto3DefaultValue span)

  word-to : (b : Bool) (word : List ℕ) (wrong : ParseErrorKind) → b ≡ true → WithKind word (fault.InvalidDefault span) wrong → Among (only_if b (fault.InvalidDefault span (placed word))) (settled wrong)
  word-to b word wrong t o = test-to b (fault.InvalidDefault span (placed word)) wrong t (settle-kind word (fault.InvalidDefault span) wrong (λ kind. refl) o)

  default-to : (wrong : ParseErrorKind) → WrongDefault syntax f span wrong → Among (place_faults syntax f span) (settled wrong) ⊎ Among (group_faults f span) (settled wrong)
  default-to wrong (on_map t o) = inl (among-left on_maps (on_repeateds ++ in_proto3s) (settled wrong) (word-to (is_map f.kind) (codes "map") wrong t o))
  default-to wrong (on_repeated m t o) =
      inl (among-right on_maps (on_repeateds ++ in_proto3s) (settled wrong) (among-left on_repeateds in_proto3s (settled wrong)
      (word-to (not (is_map f.kind) && is_repeated f.label) (codes "repeated") wrong (and-true (not (is_map f.kind)) (is_repeated f.label) (not-false (is_map f.kind) m) t) o)))
  default-to wrong (on_group t o) = inr (word-to (is_group f.kind) (codes "group") wrong t o)
  default-to wrong (in_proto3 s m r e) =
      inl (among-right on_maps (on_repeateds ++ in_proto3s) (settled wrong) (among-right on_repeateds in_proto3s (settled wrong)
      (test-to (is_proto3 syntax && (not (is_map f.kind) && not (is_repeated f.label))) (fault.Proto3DefaultValue span) wrong
      (and-true (is_proto3 syntax) (not (is_map f.kind) && not (is_repeated f.label)) (ap is_proto3 s)
      (and-true (not (is_map f.kind)) (not (is_repeated f.label)) (not-false (is_map f.kind) m) (not-false (is_repeated f.label) r)))
      (sym (ap settled e)))))

  group-from : (wrong : ParseErrorKind) → Among (group_faults f span) (settled wrong) → WrongDefault syntax f span wrong
  group-from wrong h =
      let r = test-from (is_group f.kind) (fault.InvalidDefault span (placed (codes "group"))) wrong h in on_group r.0 (default-word span (codes "group") wrong r.1)

  repeated-from : (wrong : ParseErrorKind) → Among on_repeateds (settled wrong) → WrongDefault syntax f span wrong
  repeated-from wrong h =
      let r = test-from (not (is_map f.kind) && is_repeated f.label) (fault.InvalidDefault span (placed (codes "repeated"))) wrong h in
      let b = and_parts (not (is_map f.kind)) (is_repeated f.label) r.0 in
      on_repeated (not-true (is_map f.kind) b.0) b.1 (default-word span (codes "repeated") wrong r.1)

  proto3-from : (wrong : ParseErrorKind) → Among in_proto3s (settled wrong) → WrongDefault syntax f span wrong
  proto3-from wrong h =
      let r = test-from (is_proto3 syntax && (not (is_map f.kind) && not (is_repeated f.label))) (fault.Proto3DefaultValue span) wrong h in
      let b = and_parts (is_proto3 syntax) (not (is_map f.kind) && not (is_repeated f.label)) r.0 in
      let c = and_parts (not (is_map f.kind)) (not (is_repeated f.label)) b.1 in
      in_proto3 (is-proto3 syntax b.0) (not-true (is_map f.kind) c.0) (not-true (is_repeated f.label) c.1) (unsettle (fault.Proto3DefaultValue span) wrong refl r.1)

  rest-from : (wrong : ParseErrorKind) → Among (on_repeateds ++ in_proto3s) (settled wrong) → WrongDefault syntax f span wrong
  rest-from wrong h = elim (among-cases on_repeateds in_proto3s (settled wrong) h) as (λ _. WrongDefault syntax f span wrong) [ inl a ↦ repeated-from wrong a | inr b ↦ proto3-from wrong b ]

  map-default-from : (wrong : ParseErrorKind) → Among on_maps (settled wrong) → WrongDefault syntax f span wrong
  map-default-from wrong h =
      let r = test-from (is_map f.kind) (fault.InvalidDefault span (placed (codes "map"))) wrong h in on_map r.0 (default-word span (codes "map") wrong r.1)

  place-from : (wrong : ParseErrorKind) → Among (place_faults syntax f span) (settled wrong) → WrongDefault syntax f span wrong
  place-from wrong h = elim (among-cases on_maps (on_repeateds ++ in_proto3s) (settled wrong) h) as (λ _. WrongDefault syntax f span wrong) [ inl a ↦ map-default-from wrong a | inr b ↦ rest-from wrong b ]

default-value-to : (kind : KindNode) (body : OptionBody) (wrong : ParseErrorKind) → WrongDefaultValue kind body wrong → Among (default_value_faults kind body) (settled wrong)
default-value-to (Normal type) body wrong h = value-to (wanted type) body.value wrong h
default-value-to kind body wrong h = absurd h

default-value-from : (kind : KindNode) (body : OptionBody) (wrong : ParseErrorKind) → Among (default_value_faults kind body) (settled wrong) → WrongDefaultValue kind body wrong
default-value-from (Normal type) body wrong h = value-from (wanted type) body.value wrong h
default-value-from kind body wrong h = absurd h

at-to : (faults : OptionBody → List ParseErrorKind) (o : Option OptionBody) (body : OptionBody) (x : ParseErrorKind) → o ≡ Some body → Among (faults body) x → Among (at_default faults o) x
at-to faults o body x e h = subst (λ p. Among (at_default faults p) x) (sym e) h

at-from : (faults : OptionBody → List ParseErrorKind) (o : Option OptionBody) (x : ParseErrorKind) → Among (at_default faults o) x → (body : OptionBody) × (o ≡ Some body) × Among (faults body) x
at-from faults None x h = absurd h
at-from faults (Some body) x h = (body, refl, h)

-- ---- a field

module _ (syntax : Syntax) (scope : Scope) (f : FieldNode) where
  abbrev places_list : List ParseErrorKind
  places_list = at_default (λ body. place_faults syntax f (body_span body)) f.default

  abbrev labels_list : List ParseErrorKind
  labels_list = label_faults syntax scope f.kind f.label f.span

  abbrev kinds_list : List ParseErrorKind
  kinds_list = kind_faults syntax scope f f.kind

  abbrev groups_list : List ParseErrorKind
  groups_list = at_default (λ body. group_faults f (body_span body)) f.default

  abbrev values_list : List ParseErrorKind
  values_list = at_default (λ body. default_value_faults f.kind body) f.default

  in-places : (x : ParseErrorKind) → Among places_list x → Among (field_faults syntax scope f) x
  in-places x h = among-left places_list (labels_list ++ (kinds_list ++ (groups_list ++ values_list))) x h

  in-labels : (x : ParseErrorKind) → Among labels_list x → Among (field_faults syntax scope f) x
  in-labels x h = among-right places_list (labels_list ++ (kinds_list ++ (groups_list ++ values_list))) x (among-left labels_list (kinds_list ++ (groups_list ++ values_list)) x h)

  behind-labels : (x : ParseErrorKind) → Among (kinds_list ++ (groups_list ++ values_list)) x → Among (field_faults syntax scope f) x
  behind-labels x h = among-right places_list (labels_list ++ (kinds_list ++ (groups_list ++ values_list))) x (among-right labels_list (kinds_list ++ (groups_list ++ values_list)) x h)

  in-kinds : (x : ParseErrorKind) → Among kinds_list x → Among (field_faults syntax scope f) x
  in-kinds x h = behind-labels x (among-left kinds_list (groups_list ++ values_list) x h)

  in-groups : (x : ParseErrorKind) → Among groups_list x → Among (field_faults syntax scope f) x
  in-groups x h = behind-labels x (among-right kinds_list (groups_list ++ values_list) x (among-left groups_list values_list x h))

  in-values : (x : ParseErrorKind) → Among values_list x → Among (field_faults syntax scope f) x
  in-values x h = behind-labels x (among-right kinds_list (groups_list ++ values_list) x (among-right groups_list values_list x h))

  field-to : (wrong : ParseErrorKind) → WrongField syntax scope f wrong → Among (field_faults syntax scope f) (settled wrong)
  field-to wrong (of_label h) = in-labels (settled wrong) (label-to syntax scope f.kind f.label f.span wrong h)
  field-to wrong (of_kind h) = in-kinds (settled wrong) (kind-to syntax scope f f.kind wrong h)
  field-to wrong (of_default body e h) = elim (default-to syntax f (body_span body) wrong h) as (λ _. Among (field_faults syntax scope f) (settled wrong)) [
    | inl a ↦ in-places (settled wrong) (at-to (λ b. place_faults syntax f (body_span b)) f.default body (settled wrong) e a)
    | inr b ↦ in-groups (settled wrong) (at-to (λ b. group_faults f (body_span b)) f.default body (settled wrong) e b)
  ]
  field-to wrong (of_default_value body e h) = in-values (settled wrong) (at-to (λ b. default_value_faults f.kind b) f.default body (settled wrong) e (default-value-to f.kind body wrong h))

  places-from : (wrong : ParseErrorKind) → Among places_list (settled wrong) → WrongField syntax scope f wrong
  places-from wrong h = let r = at-from (λ b. place_faults syntax f (body_span b)) f.default (settled wrong) h in of_default r.0 r.1 (place-from syntax f (body_span r.0) wrong r.2)

  groups-from : (wrong : ParseErrorKind) → Among groups_list (settled wrong) → WrongField syntax scope f wrong
  groups-from wrong h = let r = at-from (λ b. group_faults f (body_span b)) f.default (settled wrong) h in of_default r.0 r.1 (group-from syntax f (body_span r.0) wrong r.2)

  values-from : (wrong : ParseErrorKind) → Among values_list (settled wrong) → WrongField syntax scope f wrong
  values-from wrong h = let r = at-from (λ b. default_value_faults f.kind b) f.default (settled wrong) h in of_default_value r.0 r.1 (default-value-from f.kind r.0 wrong r.2)

  ends-from : (wrong : ParseErrorKind) → Among (groups_list ++ values_list) (settled wrong) → WrongField syntax scope f wrong
  ends-from wrong h = elim (among-cases groups_list values_list (settled wrong) h) as (λ _. WrongField syntax scope f wrong) [ inl a ↦ groups-from wrong a | inr b ↦ values-from wrong b ]

  kinds-from : (wrong : ParseErrorKind) → Among (kinds_list ++ (groups_list ++ values_list)) (settled wrong) → WrongField syntax scope f wrong
  kinds-from wrong h = elim (among-cases kinds_list (groups_list ++ values_list) (settled wrong) h) as (λ _. WrongField syntax scope f wrong) [ inl a ↦ of_kind (kind-from syntax scope f f.kind wrong a) | inr b ↦ ends-from wrong b ]

  labels-from : (wrong : ParseErrorKind) → Among (labels_list ++ (kinds_list ++ (groups_list ++ values_list))) (settled wrong) → WrongField syntax scope f wrong
  labels-from wrong h = elim (among-cases labels_list (kinds_list ++ (groups_list ++ values_list)) (settled wrong) h) as (λ _. WrongField syntax scope f wrong) [ inl a ↦ of_label (label-from syntax scope f.kind f.label f.span wrong a) | inr b ↦ kinds-from wrong b ]

  field-from : (wrong : ParseErrorKind) → Among (field_faults syntax scope f) (settled wrong) → WrongField syntax scope f wrong
  field-from wrong h = elim (among-cases places_list (labels_list ++ (kinds_list ++ (groups_list ++ values_list))) (settled wrong) h) as (λ _. WrongField syntax scope f wrong) [ inl a ↦ places-from wrong a | inr b ↦ labels-from wrong b ]

-- ---- a node, and a file

node-to : (syntax : Syntax) (wrong : ParseErrorKind) (node : Node) → WrongNode syntax node wrong → Among (node_faults syntax node) (settled wrong)
node-to syntax wrong (AMessageNumber int) h = fails-to (in_message_range int) (fault.InvalidMessageNumber int.span) wrong refl h
node-to syntax wrong (AnEnumNumber int) h = fails-to (is_in signed_32 int) (fault.InvalidEnumNumber int.span) wrong refl h
node-to syntax wrong (AField scope field) h = field-to syntax scope field wrong h
node-to syntax wrong (AJsonName v) h = value-to a_text v wrong h
node-to syntax wrong (AnOption v) h = option-to v wrong h
node-to syntax wrong (AnEmptyOneof span) h = plain-to (fault.EmptyOneof span) wrong refl h

node-from : (syntax : Syntax) (wrong : ParseErrorKind) (node : Node) → Among (node_faults syntax node) (settled wrong) → WrongNode syntax node wrong
node-from syntax wrong (AMessageNumber int) h = fails-from (in_message_range int) (fault.InvalidMessageNumber int.span) wrong refl h
node-from syntax wrong (AnEnumNumber int) h = fails-from (is_in signed_32 int) (fault.InvalidEnumNumber int.span) wrong refl h
node-from syntax wrong (AField scope field) h = field-from syntax scope field wrong h
node-from syntax wrong (AJsonName v) h = value-from a_text v wrong h
node-from syntax wrong (AnOption v) h = option-from v wrong h
node-from syntax wrong (AnEmptyOneof span) h = plain-from (fault.EmptyOneof span) wrong refl h

pub listed-if-wrong : (file : File) (wrong : ParseErrorKind) → Wrong file wrong → Contains (file_faults file) (settled wrong)
listed-if-wrong file wrong h =
    contains-from (file_faults file) (settled wrong)
    (among-flat (λ node. WrongNode file.syntax node wrong) (node_faults file.syntax) (settled wrong) (node-to file.syntax wrong) (file_nodes file)
    (somewhere-from (λ node. WrongNode file.syntax node wrong) (file_nodes file) h))

pub wrong-if-listed : (file : File) (wrong : ParseErrorKind) → Contains (file_faults file) (settled wrong) → Wrong file wrong
wrong-if-listed file wrong h =
    any-from (λ node. WrongNode file.syntax node wrong) (file_nodes file)
    (somewhere-flat (λ node. WrongNode file.syntax node wrong) (node_faults file.syntax) (settled wrong) (node-from file.syntax wrong) (file_nodes file)
    (among-from (file_faults file) (settled wrong) h))
