-- Messages that paths lead to, and their extension ranges.
use Rattle.std.proofs.Common.{◌≡◌, ◌≤◌, ◌<◌, ◌≢◌, ◌-◌, ◌+◌, ◌*◌, ℕ, pos, Bool, true, false, ◌&&◌, ◌||◌, ◌==◌, ◌++◌, All, map, slice_get, cond, nat_lt, refl, rules, List, [], ◌∷◌, drop, get_or, length, take, Option, Some, None, sym, ap, ◌∙◌, arith}
use Rattle.std.specs.Option.{option_and_then, option_map_or}
use Rattle.std.proofs.lemmas.Option.{slice_get_past}
use Rattle.protox_numbers.specs.Message.{extension_spans}
use Rattle.protox_symbols.specs.declared.thing.Thing.{Thing}
use Rattle.std.specs.Ordering.{int_eq}
use Rattle.std.proofs.lemmas.List.{take_all}
use Rattle.std.proofs.lemmas.List.Elements.{All-head, All-tail}
use Rattle.std.proofs.lemmas.List.Folds.{list_any-append}
use Rattle.std.specs.List.{list_any}
use Rattle.protox_descriptor.specs.declared.descriptor.DescriptorProto.{DescriptorProto, out-DescriptorProto}
use Rattle.protox_descriptor.specs.declared.descriptor.FileDescriptorProto.{FileDescriptorProto}
use Rattle.protox_descriptor.specs.declared.tag.message.TheConstants.{NESTED_TYPE}
use Rattle.protox_link_checks.specs.Extensions.{message_at, message_in, part_at, ranges_numbered}
use Rattle.protox_link_checks.specs.Ranges.{IsSmall, moved}
use Rattle.protox_spans.specs.Spans.{has_numbers, meets}
use Rattle.protox_spans.specs.declared.span.Span.{Span}
use Rattle.protox_symbols.specs.Symbols.{Table}
use Rattle.protox_walk.specs.Declarations.{Path}

-- one step of a path
pub stepped : (m inner : DescriptorProto) (path : Path) → 2 ≤ length path → int_eq (get_or path 0 (pos 0)) NESTED_TYPE ≡ true
    → part_at (out-DescriptorProto m).nested_type (get_or path 1 (pos 0)) ≡ Some inner
    → message_in inner (take (length path - 2) (drop 2 path)) ≡ message_in m path
stepped m inner [] h is at = absurd (omega (arith, h))
stepped m inner (tag ∷ []) h is at = absurd (omega (arith, h))
stepped m inner (tag ∷ n ∷ more) h is at =
    let len : length more ≤ length (tag ∷ n ∷ more) - 2 = omega arith in
    ap (message_in inner) (take_all (length (tag ∷ n ∷ more) - 2) more len)
    ∙ sym (ap (λ b. cond {A = Option DescriptorProto} b (option_and_then (λ i. message_in i more) (part_at (out-DescriptorProto m).nested_type n)) None) is
    ∙ ap (option_and_then (λ i. message_in i more)) at)

-- ---- spans that are moved

pub by_cases : {P : Type 0} (b : Bool) → (b ≡ true → P) → (b ≡ false → P) → P
by_cases true f g = f refl
by_cases false f g = g refl

same_order : (k a b : ℕ) → nat_lt (k + a) (k + b) ≡ nat_lt a b
same_order k a b = by_cases (nat_lt a b)
    (λ h. let lt : a < b = search (rules, h) in let all : k + a < k + b = omega (arith, lt) in let is : nat_lt (k + a) (k + b) ≡ true = search (rules, all) in is ∙ sym h)
    (λ h. let le : b ≤ a = search (rules, h) in let all : k + b ≤ k + a = omega (arith, le) in let is : nat_lt (k + a) (k + b) ≡ false = search (rules, all) in is ∙ sym h)

meets_alike : (i : ℕ) (s r : Span) → meets (moved i s) (moved i r) ≡ meets s r
meets_alike i s r =
    let k = i * 4294967296 in
    ap (λ b. (b && has_numbers (moved i r)) && (nat_lt (k + s.start) (k + r.end) && nat_lt (k + r.start) (k + s.end))) (same_order k s.start s.end)
    ∙ ap (λ b. (has_numbers s && b) && (nat_lt (k + s.start) (k + r.end) && nat_lt (k + r.start) (k + s.end))) (same_order k r.start r.end)
    ∙ ap (λ b. (has_numbers s && has_numbers r) && (b && nat_lt (k + r.start) (k + s.end))) (same_order k s.start r.end)
    ∙ ap (λ b. (has_numbers s && has_numbers r) && (nat_lt s.start r.end && b)) (same_order k r.start s.end)

never_both : (b c d : Bool) → c ≡ false → (b && (c && d)) ≡ false
never_both true c d h = ap (λ b. b && d) h
never_both false c d h = refl

never_last : (b c d : Bool) → d ≡ false → (b && (c && d)) ≡ false
never_last true true d h = h
never_last true false d h = refl
never_last false c d h = refl

meets_apart : (m i : ℕ) (s r : Span) → IsSmall s → IsSmall r → (m == i) ≡ false → meets (moved m s) (moved i r) ≡ false
meets_apart m i s r small_s small_r apart = by_cases (nat_lt m i)
    (λ h. let lt : m < i = search (rules, h) in
    let le : m * 4294967296 + s.end ≤ i * 4294967296 + r.start = omega (arith, lt, small_s) in
    let none : nat_lt (i * 4294967296 + r.start) (m * 4294967296 + s.end) ≡ false = search (rules, le) in
    never_last (has_numbers (moved m s) && has_numbers (moved i r)) (nat_lt (m * 4294967296 + s.start) (i * 4294967296 + r.end)) _ none)
    (λ h. let ge : i ≤ m = search (rules, h) in
    let other : i ≢ m = search (rules, apart) in
    let gt : i < m = omega (arith, ge, other) in
    let le : i * 4294967296 + r.end ≤ m * 4294967296 + s.start = omega (arith, gt, small_r) in
    let none : nat_lt (m * 4294967296 + s.start) (i * 4294967296 + r.end) ≡ false = search (rules, le) in
    never_both (has_numbers (moved m s) && has_numbers (moved i r)) _ (nat_lt (i * 4294967296 + r.start) (m * 4294967296 + s.end)) none)

-- Where spans of two numbers were moved, they meet only if these are the same.
pub meets_moved : (m i : ℕ) (s r : Span) → IsSmall s → IsSmall r → meets (moved m s) (moved i r) ≡ ((m == i) && meets s r)
meets_moved m i s r small_s small_r = by_cases (m == i)
    (λ h. let is : m ≡ i = search (rules, h) in
    ap (λ n. meets (moved n s) (moved i r)) is ∙ meets_alike i s r ∙ sym (ap (λ b. b && meets s r) h))
    (λ h. meets_apart m i s r small_s small_r h ∙ sym (ap (λ b. b && meets s r) h))

distributed : (b x y : Bool) → ((b && x) || (b && y)) ≡ (b && (x || y))
distributed true x y = refl
distributed false x y = refl

nothing : (b : Bool) → false ≡ (b && false)
nothing true = refl
nothing false = refl

any_moved : (m i : ℕ) (s : Span) (rs : List Span) → IsSmall s → All IsSmall rs → list_any (meets (moved m s)) (map (moved i) rs) ≡ ((m == i) && list_any (meets s) rs)
any_moved m i s [] small all = nothing (m == i)
any_moved m i s (r ∷ rs) small all =
    ap (λ b. b || list_any (meets (moved m s)) (map (moved i) rs)) (meets_moved m i s r small (All-head IsSmall r rs all))
    ∙ ap (λ b. ((m == i) && meets s r) || b) (any_moved m i s rs small (All-tail IsSmall r rs all))
    ∙ distributed (m == i) (meets s r) (list_any (meets s) rs)

or_false : (b : Bool) → (b || false) ≡ b
or_false true = refl
or_false false = refl

below_next : (m i : ℕ) → m ≢ i → nat_lt m (i + 1) ≡ nat_lt m i
below_next m i apart = by_cases (nat_lt m i)
    (λ h. let lt : m < i = search (rules, h) in let all : m < i + 1 = omega (arith, lt) in let is : nat_lt m (i + 1) ≡ true = search (rules, all) in is ∙ sym h)
    (λ h. let le : i ≤ m = search (rules, h) in let all : i + 1 ≤ m = omega (arith, le, apart) in let is : nat_lt m (i + 1) ≡ false = search (rules, all) in is ∙ sym h)

module _ (files : List FileDescriptorProto) (table : Table) where
  no_ranges : (n : ℕ) → length table.things ≤ n → ranges_numbered files table n ≡ []
  no_ranges n behind =
      ap (λ (thing : Option Thing). option_map_or extension_spans (option_and_then (λ (t : Thing). option_and_then (λ (file : FileDescriptorProto). message_at file t.path) (slice_get files t.file)) thing) [])
      (slice_get_past table.things n behind)

  -- The ranges of what has a number below i are kept.
  abbrev pub AreKept : ℕ → List Span → Type 0
  AreKept i spans = (m : ℕ) (s : Span) → IsSmall s → list_any (meets (moved m s)) spans ≡ (nat_lt m i && list_any (meets s) (ranges_numbered files table m))

  pub more_kept : (i : ℕ) (spans made : List Span) → AreKept i spans → made ≡ spans ++ map (moved i) (ranges_numbered files table i) → All IsSmall (ranges_numbered files table i) → AreKept (i + 1) made
  more_kept i spans made kept is all m s small =
      let any = λ (n : ℕ). list_any (meets s) (ranges_numbered files table n) in
      ap (list_any (meets (moved m s))) is
      ∙ list_any-append (meets (moved m s)) spans (map (moved i) (ranges_numbered files table i))
      ∙ ap (λ b. b || list_any (meets (moved m s)) (map (moved i) (ranges_numbered files table i))) (kept m s small)
      ∙ ap (λ b. (nat_lt m i && any m) || b) (any_moved m i s (ranges_numbered files table i) small all)
      ∙ by_cases (m == i)
      (λ h. let same : m ≡ i = search (rules, h) in
      let not_below : nat_lt m i ≡ false = search (rules, same) in
      let below : nat_lt m (i + 1) ≡ true = search (rules, same) in
      ap (λ b. (b && any m) || ((m == i) && any i)) not_below ∙ ap (λ b. b && any i) h ∙ ap any (sym same) ∙ sym (ap (λ b. b && any m) below))
      (λ h. let apart : m ≢ i = search (rules, h) in
      let alike : nat_lt m (i + 1) ≡ nat_lt m i = below_next m i apart in
      ap (λ b. (nat_lt m i && any m) || (b && any i)) h ∙ or_false (nat_lt m i && any m) ∙ sym (ap (λ b. b && any m) alike))

  pub all_kept : (i : ℕ) (spans : List Span) → length table.things ≤ i → AreKept i spans → (n : ℕ) (s : Span) → IsSmall s → list_any (meets (moved n s)) spans ≡ list_any (meets s) (ranges_numbered files table n)
  all_kept i spans end kept n s small =
      kept n s small ∙ by_cases (nat_lt n i)
      (λ h. ap (λ b. b && list_any (meets s) (ranges_numbered files table n)) h)
      (λ h. let le : i ≤ n = search (rules, h) in
      let behind : length table.things ≤ n = omega (arith, end, le) in
      ap (λ b. b && list_any (meets s) (ranges_numbered files table n)) h ∙ sym (ap (list_any (meets s)) (no_ranges n behind)))
