-- Fields in the order of their numbers, one after another.
use Rattle.std.proofs.Common.{◌≡◌, ◌<◌, ◌≤◌, ◌+◌, ◌⊎◌, inl, inr, ℕ, List, [], ◌∷◌, Some, get_or, length, map, slice_get, sym, ap, subst, ◌∙◌, arith}
use Rattle.std.proofs.lemmas.List.{get_or-map, length-map}
use Rattle.std.proofs.lemmas.Option.{same_Some, slice_get-get_or, slice_get_within}
use Rattle.protox_spans.specs.declared.span.Span.{Span}
use Rattle.protox_descriptor.specs.FieldDescriptorProto.{FieldDescriptorProto}
use Rattle.protox_numbers.specs.Numbers.{of_field}
use Rattle.protox_numbers.specs.Rising.{AreRising}

forwards : (field : FieldDescriptorProto) → (of_field field).start < (of_field field).end
unfolding of_field
forwards field = omega arith

-- So it is of the first k fields, the spans of which end at this number or before it.
pub record AreRisingTo (fields : List FieldDescriptorProto) (k least : ℕ) : Type 0 where
  pub ended : (i : ℕ) (field : FieldDescriptorProto) → i < k → slice_get fields i ≡ Some field → (of_field field).end ≤ least
  pub rising : (i j : ℕ) (earlier later : FieldDescriptorProto) → i < j → j < k → slice_get fields i ≡ Some earlier → slice_get fields j ≡ Some later → (of_field earlier).end ≤ (of_field later).start

last_or_before : (i k : ℕ) → i < k + 1 → (i ≡ k) ⊎ (i < k)
last_or_before i k h = grind (arith, h)

pub none_rising : (fields : List FieldDescriptorProto) (least : ℕ) → AreRisingTo fields 0 least
none_rising fields least = record {
  ended = λ i field below at. absurd (omega (arith, below));
  rising = λ i j earlier later before below at there. absurd (omega (arith, below));
}

pub one_rising : (fields : List FieldDescriptorProto) (k least : ℕ) (field : FieldDescriptorProto) → slice_get fields k ≡ Some field → least ≤ (of_field field).start → AreRisingTo fields k least → AreRisingTo fields (k + 1) (of_field field).end
one_rising fields k least field is from before = record {
  ended = λ i other below at. elim (last_or_before i k below) [
    | inl last ↦ subst (λ f. (of_field f).end ≤ (of_field field).end) (same_Some field other (sym is ∙ ap (slice_get fields) (sym last) ∙ at)) (omega arith)
    | inr earlier ↦ omega (arith, before.ended i other earlier at, from, forwards field)
  ];
  rising = λ i j earlier later first below at there. elim (last_or_before j k below) [
    | inl last ↦ subst (λ f. (of_field earlier).end ≤ (of_field f).start) (same_Some field later (sym is ∙ ap (slice_get fields) (sym last) ∙ there))
        (omega (arith, before.ended i earlier (omega (arith, first, last)) at, from))
    | inr sooner ↦ before.rising i j earlier later first sooner at there
  ];
}

pub all_rising : (fields : List FieldDescriptorProto) (k least : ℕ) → length fields ≤ k → AreRisingTo fields k least → AreRising fields
all_rising fields k least all to i j earlier later first at there = to.rising i j earlier later first (omega (arith, slice_get_within fields j later there, all)) at there

read : (fields : List FieldDescriptorProto) (i : ℕ) (d : Span) → i < length fields → (field : FieldDescriptorProto) → slice_get fields i ≡ Some field → get_or (map of_field fields) i d ≡ of_field field
read fields i d below field is =
    get_or-map of_field fields i field d below ∙ ap of_field (same_Some (get_or fields i field) field (sym (slice_get-get_or fields i field below) ∙ is))

first_of : (fields : List FieldDescriptorProto) (i : ℕ) → i < length fields → (field : FieldDescriptorProto) × (slice_get fields i ≡ Some field)
first_of [] i below = absurd (omega arith)
first_of (field ∷ fields) i below = (get_or (field ∷ fields) i field, slice_get-get_or (field ∷ fields) i field below)

-- the same of their spans
pub rising_spans : (fields : List FieldDescriptorProto) → AreRising fields → (i j : ℕ) (d : Span) → i < j → j < length (map of_field fields) → (get_or (map of_field fields) i d).end ≤ (get_or (map of_field fields) j d).start
rising_spans fields rising i j d before below =
    let there : j < length fields = omega (arith, below, length-map fields of_field) in
    let here : i < length fields = omega (arith, before, there) in
    let earlier = first_of fields i here in
    let later = first_of fields j there in
    rw (read fields i d here earlier.0 earlier.1, read fields j d there later.0 later.1) (rising i j earlier.0 later.0 before earlier.1 later.1)
