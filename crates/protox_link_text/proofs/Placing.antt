-- A path that is followed step by step.
use Rattle.std.proofs.Common.{◌≡◌, ◌<◌, ℕ, ℤ, Bool, true, false, cond, List, [], ◌∷◌, length, Option, Some, None, refl, sym, ap, ◌∙◌, arith}
use Rattle.std.specs.Ordering.{int_eq}
use Rattle.std.proofs.lemmas.Option.{none-some, same_Some}
use Rattle.protox_descriptor.specs.declared.descriptor.DescriptorProto.{DescriptorProto, out-DescriptorProto}
use Rattle.protox_descriptor.specs.declared.descriptor.EnumDescriptorProto.{EnumDescriptorProto}
use Rattle.protox_descriptor.specs.declared.descriptor.ServiceDescriptorProto.{ServiceDescriptorProto}
use Rattle.protox_descriptor.specs.declared.tag.file.TheConstants as file_tag
use Rattle.protox_descriptor.specs.declared.tag.message.TheConstants as message_tag
use Rattle.protox_link_text.specs.Places.{Holder, OfEnum, OfFile, OfMessage, OfService, Place, at_index, into_enum, into_message, into_service, next, place_from, step}

module _ (rest : List ℤ) where
  -- what a step leaves of the path
  abbrev pub Keeps : Option Place → Type 0
  Keeps found = (place : Place) → found ≡ Some place → place.rest ≡ rest

  none_kept : Keeps None
  none_kept place h = absurd (none-some place h)

  message_kept : (scope : List ℕ) (m : Option DescriptorProto) → Keeps (into_message scope rest m)
  message_kept scope None place h = absurd (none-some place h)
  message_kept scope (Some m) place h = ap (λ (p : Place). p.rest) (sym (same_Some _ place h))

  enum_kept : (scope : List ℕ) (e : Option EnumDescriptorProto) → Keeps (into_enum scope rest e)
  enum_kept scope None place h = absurd (none-some place h)
  enum_kept scope (Some e) place h = ap (λ (p : Place). p.rest) (sym (same_Some _ place h))

  service_kept : (scope : List ℕ) (s : Option ServiceDescriptorProto) → Keeps (into_service scope rest s)
  service_kept scope None place h = absurd (none-some place h)
  service_kept scope (Some s) place h = ap (λ (p : Place). p.rest) (sym (same_Some _ place h))

  if_kept : (test : Bool) (one other : Option Place) → Keeps one → Keeps other → Keeps (cond test one other)
  if_kept true one other a b = a
  if_kept false one other a b = b

  pub kept : (scope : List ℕ) (holder : Holder) (tag n : ℤ) → Keeps (step scope holder tag n rest)
  kept scope (OfFile f) tag n =
      if_kept (int_eq tag file_tag.MESSAGE_TYPE) _ _ (message_kept scope (at_index f.message_type n))
      (if_kept (int_eq tag file_tag.ENUM_TYPE) _ _ (enum_kept scope (at_index f.enum_type n))
      (if_kept (int_eq tag file_tag.SERVICE) _ _ (service_kept scope (at_index f.service n)) none_kept))
  kept scope (OfMessage m) tag n =
      if_kept (int_eq tag message_tag.NESTED_TYPE) _ _ (message_kept scope (at_index (out-DescriptorProto m).nested_type n))
      (if_kept (int_eq tag message_tag.ENUM_TYPE) _ _ (enum_kept scope (at_index (out-DescriptorProto m).enum_type n)) none_kept)
  kept scope (OfEnum e) tag n = none_kept
  kept scope (OfService s) tag n = none_kept

  -- one step on the way
  pub followed : (scope : List ℕ) (holder : Holder) (tag n : ℤ) (inner : Place) → Some inner ≡ step scope holder tag n rest → place_from inner.scope inner.holder inner.rest ≡ place_from scope holder (tag ∷ n ∷ rest)
  followed scope holder tag n inner is =
      ap (place_from inner.scope inner.holder) (kept scope holder tag n inner (sym is))
      ∙ ap (λ found. elim found as (λ _. Place) [
        | None ↦ record { scope = scope; holder = holder; rest = tag ∷ n ∷ rest }
        | Some place ↦ place_from place.scope place.holder rest
      ]) is

  pub shorter : (scope : List ℕ) (holder : Holder) (tag n : ℤ) (inner : Place) → Some inner ≡ step scope holder tag n rest → length inner.rest < length (tag ∷ n ∷ rest)
  shorter scope holder tag n inner is = let same = ap length (kept scope holder tag n inner (sym is)) in omega (arith, same)

-- one step on the way, or none
pub one_step : (scope : List ℕ) (holder : Holder) (rest : List ℤ) (inner : Place) → Some inner ≡ next scope holder rest → (place_from inner.scope inner.holder inner.rest ≡ place_from scope holder rest) × (length inner.rest < length rest)
one_step scope holder [] inner is = absurd (none-some inner (sym is))
one_step scope holder (tag ∷ []) inner is = absurd (none-some inner (sym is))
one_step scope holder (tag ∷ n ∷ rest) inner is = (followed rest scope holder tag n inner is, shorter rest scope holder tag n inner is)

pub no_step : (scope : List ℕ) (holder : Holder) (rest : List ℤ) → None ≡ next scope holder rest → record { scope = scope; holder = holder; rest = rest } ≡ place_from scope holder rest
no_step scope holder [] is = refl
no_step scope holder (tag ∷ []) is = refl
no_step scope holder (tag ∷ n ∷ rest) is =
    ap (λ found. elim found as (λ _. Place) [
      | None ↦ record { scope = scope; holder = holder; rest = tag ∷ n ∷ rest }
      | Some place ↦ place_from place.scope place.holder rest
    ]) is
