-- Messages without extensions, and messages without extension ranges.
use Rattle.std.proofs.Common.{◌≡◌, ℕ, ◌+◌, Bool, true, false, cond, All, List, [], ◌∷◌, ◌++◌, Option, None, map, zero, suc, length, ◌==◌, arith, rules, refl, sym, ap, ◌∙◌}
use Rattle.std.specs.Prelude.{ℤ, pos, negsuc}
use Rattle.std.specs.List.{flat_map}
use Rattle.std.specs.Option.{option_and_then, option_map_or}
use Rattle.std.specs.Ordering.{int_eq}
use Rattle.std.proofs.lemmas.Grind.{flat_map-append}
use Rattle.std.proofs.lemmas.List.Elements.{All-head, All-tail}
use Rattle.protox_descriptor.specs.FieldDescriptorProto.{FieldDescriptorProto}
use Rattle.protox_descriptor.specs.declared.descriptor.DescriptorProto.{DescriptorProto, out-DescriptorProto}
use Rattle.protox_descriptor.specs.declared.descriptor.descriptor_proto.ExtensionRange.{ExtensionRange}
use Rattle.protox_descriptor.specs.declared.descriptor.FileDescriptorProto.{FileDescriptorProto}
use Rattle.protox_descriptor.specs.declared.tag.file.TheConstants as file_tag
use Rattle.protox_descriptor.specs.declared.tag.message.TheConstants as message_tag
use Rattle.protox_link_checks.proofs.Extending.{without_message}
use Rattle.protox_link_checks.proofs.InExtensions.{file_extensions, message_extensions}
use Rattle.protox_link_checks.specs.Extensions.{extension_of, extensions_of, message_in, part_at}
use Rattle.protox_link_checks.specs.declared.extensions.Extension.{Extension}
use Rattle.protox_link_checks.specs.inner.Bare.{ExtendsNothing, HasNoRanges}
use Rattle.protox_numbers.specs.Message.{extension_spans}
use Rattle.protox_numbers.specs.Numbers.{of_extension_range}
use Rattle.protox_symbols.specs.Symbols.{Table}
use Rattle.protox_walk.specs.Declarations.{Path, all_in, field_at, full_name, message_at, nth, numbered, text_of}
use Rattle.protox_walk.specs.Parts.{Declared}

pub no_elements : {X : Type 0} (xs : List X) (b : Bool) → b ≡ true → b ≡ (length xs == 0) → xs ≡ []
no_elements [] b h is = refl
no_elements (x ∷ xs) b h is = let none : length (x ∷ xs) ≡ 0 = search (rules, sym h ∙ is) in absurd (omega (arith, none))

abbrev Bare : FieldDescriptorProto → Type 0
Bare field = field.extendee ≡ None

module _ (t : Table) (sees packages : List Bool) where
  abbrev all : List Declared → List Extension
  all ds = flat_map (extension_of t sees packages) ds

  pub no_fields : (full : List ℕ) (path : Path) (tag : ℤ) (n : ℕ) (fields : List FieldDescriptorProto) → All Bare fields → all (numbered path tag n (all_in field_at full fields)) ≡ []
  no_fields full path tag n [] bare = refl
  no_fields full path tag n (f ∷ fs) bare =
      ap (λ es. es ++ all (numbered path tag (n + 1) (all_in field_at full fs))) (without_message t sees packages (nth path tag n) full f None (All-head Bare f fs bare) refl)
      ∙ no_fields full path tag (n + 1) fs (All-tail Bare f fs bare)

  pub no_messages : (full : List ℕ) (path : Path) (tag : ℤ) (n : ℕ) (messages : List DescriptorProto) → All ExtendsNothing messages → all (numbered path tag n (all_in message_at full messages)) ≡ []
  no_messages full path tag n [] bare = refl
  no_messages full path tag n (m ∷ ms) bare =
      flat_map-append (extension_of t sees packages) (message_at m full (nth path tag n)) (numbered path tag (n + 1) (all_in message_at full ms))
      ∙ ap (λ es. es ++ all (numbered path tag (n + 1) (all_in message_at full ms))) (All-head ExtendsNothing m ms bare t sees packages full (nth path tag n))
      ∙ no_messages full path tag (n + 1) ms (All-tail ExtendsNothing m ms bare)

-- A message extends nothing if nothing in it does.
pub extends_nothing : (m : DescriptorProto) → All Bare (out-DescriptorProto m).field → All Bare (out-DescriptorProto m).extension → All ExtendsNothing (out-DescriptorProto m).nested_type → ExtendsNothing m
extends_nothing m fields extensions nested t sees packages full path =
    let name = full_name full (out-DescriptorProto m).name in
    let parts = out-DescriptorProto m in
    sym (message_extensions t sees packages m full path [] [] [] []
    (sym (no_fields t sees packages name path message_tag.FIELD 0 parts.field fields))
    (sym (no_messages t sees packages name path message_tag.NESTED_TYPE 0 parts.nested_type nested))
    (sym (no_fields t sees packages name path message_tag.EXTENSION 0 parts.extension extensions)))

-- A file extends nothing if nothing in it does.
pub file_extends_nothing : (t : Table) (sees packages : List Bool) (f : FileDescriptorProto) → All Bare f.extension → All ExtendsNothing f.message_type → [] ≡ extensions_of t sees packages f
file_extends_nothing t sees packages f extensions messages =
    file_extensions t sees packages f [] [] [] refl
    (sym (no_messages t sees packages (text_of f.«package») [] file_tag.MESSAGE_TYPE 0 f.message_type messages))
    (sym (no_fields t sees packages (text_of f.«package») [] file_tag.EXTENSION 0 f.extension extensions))

-- ---- ranges

no_inner : (messages : List DescriptorProto) → All HasNoRanges messages → (n : ℤ) (path : Path) → option_map_or extension_spans (option_and_then (λ inner. message_in inner path) (part_at messages n)) [] ≡ []
no_inner [] none (pos zero) path = refl
no_inner [] none (pos (suc n)) path = refl
no_inner (m ∷ ms) none (pos zero) path = All-head HasNoRanges m ms none path
no_inner (m ∷ ms) none (pos (suc n)) path = no_inner ms (All-tail HasNoRanges m ms none) (pos n) path
no_inner messages none (negsuc n) path = refl

either_empty : (b : Bool) (found : Option DescriptorProto) → option_map_or extension_spans found [] ≡ [] → option_map_or extension_spans (cond b found None) [] ≡ []
either_empty true found none = none
either_empty false found none = refl

pub has_no_ranges : (m : DescriptorProto) → (out-DescriptorProto m).extension_range ≡ [] → All HasNoRanges (out-DescriptorProto m).nested_type → HasNoRanges m
has_no_ranges m own nested [] = ap (λ (ranges : List ExtensionRange). map of_extension_range ranges) own
has_no_ranges m own nested (tag ∷ []) = refl
has_no_ranges m own nested (tag ∷ n ∷ rest) = either_empty (int_eq tag message_tag.NESTED_TYPE) _ (no_inner (out-DescriptorProto m).nested_type nested n rest)
