-- Where nothing is set, what has no statements holds what it holds before it is linked.
use Rattle.std.proofs.Common.{◌≡◌, ℕ, ◌+◌, Bool, true, List, [], ◌∷◌, ◌++◌, Option, None, Some, map, refl, sym, ap, subst, ◌∙◌}
use Rattle.std.specs.Cmp.{first_so, second_so}
use Rattle.std.proofs.lemmas.Bool.{false≢true}
use Rattle.std.proofs.lemmas.List.Folds.{list_all-map}
use Rattle.protox_descriptor.specs.declared.descriptor.DescriptorProto.{DescriptorProto, DescriptorProto-F, roll-DescriptorProto, out-DescriptorProto, out-roll-DescriptorProto, ind-DescriptorProto}
use Rattle.protox_descriptor.specs.declared.descriptor.DescriptorProto.TheFolds.{fold_out-DescriptorProto}
use Rattle.protox_descriptor.specs.declared.descriptor.options.MessageOptions.{MessageOptions}
use Rattle.protox_descriptor.specs.declared.descriptor.options.UninterpretedOption.{UninterpretedOption}
use Rattle.protox_encode.proofs.Lemmas.{all_at, message-holds as plain-holds}
use Rattle.protox_encode.specs.Exact.{all}
use Rattle.protox_encode.specs.Exact as exact
use Rattle.protox_encode.specs.Floats.{if_there}
use Rattle.protox_encode.specs.Messages as plain
use Rattle.protox_encode.specs.Payloads.{nested, each}
use Rattle.protox_encode.specs.Wire.{Bytes, Parts, message}
use Rattle.protox_encode_linked.proofs.Levels.{message-holds}
use Rattle.protox_encode_linked.specs.Linked as linked
use Rattle.protox_encode_linked.specs.Linked.{each_from}
use Rattle.protox_encode_linked.specs.Setting.{Path}
use Rattle.protox_encode_linked.specs.Statements as without
use Rattle.protox_encode_linked.specs.Statements.{NothingIsAdded, none}

-- Whatever passes the tests holds the same in both.
record Agrees {M : Type 0} (these : Path → M → Parts) (those : M → Parts) (tests : M → List Bool) : Type 0 where
  pub agrees : (path : Path) (m : M) → all (tests m) ≡ true → these path m ≡ those m

each-agrees : {M : Type 0} {these : Path → M → Parts} {those : M → Parts} {tests : M → List Bool} → Agrees these those tests
    → (path : Path) (index : ℕ) (ms : List M) → exact.each tests ms ≡ true → each_from these path index ms ≡ each those ms
each-agrees a path index [] h = refl
each-agrees {these = these} {those = those} {tests = tests} a path index (m ∷ ms) h =
    ap (λ parts. Bytes (message parts) ∷ each_from these path (index + 1) ms) (a.agrees (path ++ index ∷ []) m (first_so (all (tests m)) (exact.each tests ms) h))
    ∙ ap (λ more. Bytes (message (those m)) ∷ more) (each-agrees a path (index + 1) ms (second_so (all (tests m)) (exact.each tests ms) h))

-- without statements an options message is empty
empty : (os : List UninterpretedOption) → none os ≡ true → message (plain.options os) ≡ []
unfolding plain.options
empty [] h = refl
empty (o ∷ os) h = absurd (false≢true h)

module _ {O : Type 0} (parts : O → Parts) (statements : O → List UninterpretedOption) where
  options-agree : ((o : O) → message (parts o) ≡ message (plain.options (statements o))) → (path : Path) (o : Option O)
      → if_there (λ o. none (statements o)) o ≡ true → linked.options [] path o ≡ nested parts o
  options-agree hold path None h = refl
  options-agree hold path (Some o) h = ap (λ bytes. Bytes bytes ∷ []) (sym (hold o ∙ empty (statements o) h))

message_options-agree : (path : Path) (o : Option MessageOptions) → if_there (λ (o : MessageOptions). none o.uninterpreted_option) o ≡ true
    → linked.message_options [] path o ≡ nested plain.message_options o
unfolding plain.message_options plain.options
message_options-agree path None h = refl
message_options-agree path (Some o) h = go o.uninterpreted_option refl h where
  go : (os : List UninterpretedOption) → o.uninterpreted_option ≡ os → none os ≡ true → linked.message_options [] path (Some o) ≡ nested plain.message_options (Some o)
  go [] is h = rw is
  go (p ∷ os) is h = absurd (false≢true h)

field-agrees : Agrees (linked.field_descriptor []) plain.field_descriptor without.field_descriptor
unfolding linked.field_descriptor linked.rare_parts plain.field_descriptor plain.rare_parts plain.field_options without.field_descriptor
field-agrees = record {
  agrees = λ path f h.
      rw (options-agree plain.field_options (λ o. o.uninterpreted_option) (λ o. refl) (path ++ 8 ∷ []) f.options (all_at 0 (without.field_descriptor f) h));
}

oneof-agrees : Agrees (linked.oneof_descriptor []) plain.oneof_descriptor without.oneof_descriptor
unfolding linked.oneof_descriptor plain.oneof_descriptor plain.oneof_options without.oneof_descriptor
oneof-agrees = record {
  agrees = λ path o h.
      rw (options-agree plain.oneof_options (λ p. p.uninterpreted_option) (λ p. refl) (path ++ 2 ∷ []) o.options (all_at 0 (without.oneof_descriptor o) h));
}

enum_value-agrees : Agrees (linked.enum_value_descriptor []) plain.enum_value_descriptor without.enum_value_descriptor
unfolding linked.enum_value_descriptor plain.enum_value_descriptor plain.enum_value_options without.enum_value_descriptor
enum_value-agrees = record {
  agrees = λ path v h.
      rw (options-agree plain.enum_value_options (λ o. o.uninterpreted_option) (λ o. refl) (path ++ 3 ∷ []) v.options (all_at 0 (without.enum_value_descriptor v) h));
}

enum-agrees : Agrees (linked.enum_descriptor []) plain.enum_descriptor without.enum_descriptor
unfolding linked.enum_descriptor plain.enum_descriptor plain.enum_options without.enum_descriptor
enum-agrees = record {
  agrees = λ path e h.
      rw (
        each-agrees enum_value-agrees (path ++ 2 ∷ []) 0 e.value (all_at 0 (without.enum_descriptor e) h),
        options-agree plain.enum_options (λ o. o.uninterpreted_option) (λ o. refl) (path ++ 3 ∷ []) e.options (all_at 1 (without.enum_descriptor e) h),
      );
}

method-agrees : Agrees (linked.method_descriptor []) plain.method_descriptor without.method_descriptor
unfolding linked.method_descriptor plain.method_descriptor plain.method_options without.method_descriptor
method-agrees = record {
  agrees = λ path m h.
      rw (options-agree plain.method_options (λ o. o.uninterpreted_option) (λ o. refl) (path ++ 4 ∷ []) m.options (all_at 0 (without.method_descriptor m) h));
}

service-agrees : Agrees (linked.service_descriptor []) plain.service_descriptor without.service_descriptor
unfolding linked.service_descriptor plain.service_descriptor plain.service_options without.service_descriptor
service-agrees = record {
  agrees = λ path s h.
      rw (
        each-agrees method-agrees (path ++ 2 ∷ []) 0 s.method (all_at 0 (without.service_descriptor s) h),
        options-agree plain.service_options (λ o. o.uninterpreted_option) (λ o. refl) (path ++ 3 ∷ []) s.options (all_at 1 (without.service_descriptor s) h),
      );
}

range-agrees : Agrees (linked.extension_range []) plain.extension_range without.extension_range
unfolding linked.extension_range plain.extension_range plain.extension_range_options without.extension_range
range-agrees = record {
  agrees = λ path r h.
      rw (options-agree plain.extension_range_options (λ o. o.uninterpreted_option) (λ o. refl) (path ++ 3 ∷ []) r.options (all_at 0 (without.extension_range r) h));
}

abbrev message-tests : DescriptorProto → List Bool
message-tests m = exact.each without.message_descriptor (out-DescriptorProto m).nested_type ∷ without.message_own (out-DescriptorProto m)

tested : (m : DescriptorProto) → without.message_descriptor m ≡ message-tests m
unfolding without.message_descriptor without.message_step without.message_own
tested m =
    fold_out-DescriptorProto (List Bool) without.message_step m
    ∙ ap (λ (inner : Bool). inner ∷ without.message_own (out-DescriptorProto m))
    (list_all-map all without.message_descriptor (out-DescriptorProto m).nested_type)

-- A message holds the same in both.
abbrev AgreesAt : DescriptorProto → Type 0
AgreesAt m = (path : Path) → all (without.message_descriptor m) ≡ true → linked.message_descriptor [] path m ≡ plain.message_descriptor m

-- Each of these messages holds the same in both.
abbrev Agree : List DescriptorProto → Type 0
Agree ms = (path : Path) (index : ℕ) → exact.each without.message_descriptor ms ≡ true
    → each_from (linked.message_descriptor []) path index ms ≡ each plain.message_descriptor ms

all-agree : (held : List ((m : DescriptorProto) × AgreesAt m)) → Agree (map (λ e. e.0) held)
all-agree [] path index h = refl
all-agree (m ∷ ms) path index h =
    let more : List DescriptorProto = map (λ e. e.0) ms in
    ap (λ parts. Bytes (message parts) ∷ each_from (linked.message_descriptor []) path (index + 1) more)
    (m.1 (path ++ index ∷ []) (first_so (all (without.message_descriptor m.0)) (exact.each without.message_descriptor more) h))
    ∙ ap (λ payloads. Bytes (message (plain.message_descriptor m.0)) ∷ payloads)
    (all-agree ms path (index + 1) (second_so (all (without.message_descriptor m.0)) (exact.each without.message_descriptor more) h))

agrees-from : (m : DescriptorProto) → Agree (out-DescriptorProto m).nested_type → AgreesAt m
unfolding linked.message_middle linked.message_end plain.message_middle plain.message_end without.message_own
agrees-from m inner path h =
    let tests : all (message-tests m) ≡ true = ap all (sym (tested m)) ∙ h in
    message-holds [] path m
    ∙ rw (
      each-agrees field-agrees (path ++ 2 ∷ []) 0 (out-DescriptorProto m).field (all_at 1 (message-tests m) tests),
      inner (path ++ 3 ∷ []) 0 (all_at 0 (message-tests m) tests),
      each-agrees enum-agrees (path ++ 4 ∷ []) 0 (out-DescriptorProto m).enum_type (all_at 2 (message-tests m) tests),
      each-agrees range-agrees (path ++ 5 ∷ []) 0 (out-DescriptorProto m).extension_range (all_at 3 (message-tests m) tests),
      each-agrees field-agrees (path ++ 6 ∷ []) 0 (out-DescriptorProto m).extension (all_at 4 (message-tests m) tests),
      message_options-agree (path ++ 7 ∷ []) (out-DescriptorProto m).options (all_at 5 (message-tests m) tests),
      each-agrees oneof-agrees (path ++ 8 ∷ []) 0 (out-DescriptorProto m).oneof_decl (all_at 6 (message-tests m) tests),
    ) (sym (plain-holds m))

message-agrees : Agrees (linked.message_descriptor []) plain.message_descriptor without.message_descriptor
message-agrees = record {
  agrees = λ path m h.
      ind-DescriptorProto AgreesAt
      (λ x held e. agrees-from (roll-DescriptorProto x)
      (subst (λ (z : DescriptorProto-F DescriptorProto). Agree z.nested_type) (e ∙ sym (out-roll-DescriptorProto x)) (all-agree held.nested_type)))
      m path h;
}

file-agrees : Agrees (linked.file_at []) plain.file_descriptor without.file_descriptor
unfolding linked.file_at linked.file_definitions linked.file_end plain.file_descriptor plain.file_definitions plain.file_end plain.file_options without.file_descriptor
file-agrees = record {
  agrees = λ path f h.
      rw (
        each-agrees message-agrees (path ++ 4 ∷ []) 0 f.message_type (all_at 0 (without.file_descriptor f) h),
        each-agrees enum-agrees (path ++ 5 ∷ []) 0 f.enum_type (all_at 1 (without.file_descriptor f) h),
        each-agrees service-agrees (path ++ 6 ∷ []) 0 f.service (all_at 2 (without.file_descriptor f) h),
        each-agrees field-agrees (path ++ 7 ∷ []) 0 f.extension (all_at 3 (without.file_descriptor f) h),
        options-agree plain.file_options (λ o. o.uninterpreted_option) (λ o. refl) (path ++ 8 ∷ []) f.options (all_at 4 (without.file_descriptor f) h),
      );
}

pub nothing_is_added : NothingIsAdded
unfolding linked.file_descriptor
nothing_is_added file h = ap message (file-agrees.agrees [] file h)
