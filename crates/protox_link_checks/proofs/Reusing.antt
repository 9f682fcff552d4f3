-- Extensions that have the same message and number.
use Rattle.std.proofs.Common.{◌≡◌, ◌≢◌, ◌<◌, ◌≤◌, ◌+◌, ℕ, Bool, true, false, ◌&&◌, ◌==◌, All, List, [], ◌∷◌, Option, Some, None, map, cond, length, nat_lt, not, position, refl, sym, ap, ◌∙◌, arith, rules}
use Rattle.std.specs.List.{position_or_len}
use Rattle.std.proofs.lemmas.List.{length-map}
use Rattle.std.proofs.lemmas.List.Elements.{All-head, All-tail}
use Rattle.protox_link_checks.proofs.Ranging.{by_cases, meets_moved}
use Rattle.protox_link_checks.specs.Extensions.{reused_extensions, same_number}
use Rattle.protox_link_checks.specs.Ranges.{IsSmall, number_span}
use Rattle.protox_link_checks.specs.declared.extensions.Extension.{Extension}
use Rattle.protox_numbers.specs.Clashes.{with_earlier}
use Rattle.protox_numbers.specs.Numbers.{rank, single}
use Rattle.protox_spans.specs.Spans.{first_met_in, meets}

abbrev HasSmall : Extension → Type 0
HasSmall e = IsSmall (single e.number)

fails_last : (b c d : Bool) → d ≡ false → (b && (c && d)) ≡ false
fails_last true true d h = h
fails_last true false d h = refl
fails_last false c d h = refl

fails_first : (b c d : Bool) → c ≡ false → (b && (c && d)) ≡ false
fails_first true c d h = ap (λ x. x && d) h
fails_first false c d h = refl

apart : (m n : ℕ) → (m == n) ≡ false → meets (record { start = m; end = m + 1 }) (record { start = n; end = n + 1 }) ≡ false
apart m n h =
    let other : m ≢ n = search (rules, h) in
    by_cases (nat_lt m n)
    (λ below. let lt : m < n = search (rules, below) in let le : m + 1 ≤ n = omega (arith, lt) in
    let none : nat_lt n (m + 1) ≡ false = search (rules, le) in
    fails_last (nat_lt m (m + 1) && nat_lt n (n + 1)) (nat_lt m (n + 1)) _ none)
    (λ above. let ge : n ≤ m = search (rules, above) in let le : n + 1 ≤ m = omega (arith, ge, other) in
    let none : nat_lt m (n + 1) ≡ false = search (rules, le) in
    fails_first (nat_lt m (m + 1) && nat_lt n (n + 1)) _ (nat_lt n (m + 1)) none)

-- two numbers alone meet if they are the same
numbers_meet : (m n : ℕ) → meets (record { start = m; end = m + 1 }) (record { start = n; end = n + 1 }) ≡ (m == n)
numbers_meet m n = by_cases (m == n)
    (λ h. let is : m ≡ n = search (rules, h) in
    let one : nat_lt m (m + 1) ≡ true = search (rules) in
    let two : nat_lt n (n + 1) ≡ true = search (rules) in
    let three : nat_lt m (n + 1) ≡ true = search (rules, is) in
    let four : nat_lt n (m + 1) ≡ true = search (rules, is) in
    ap (λ b. (b && nat_lt n (n + 1)) && (nat_lt m (n + 1) && nat_lt n (m + 1))) one
    ∙ ap (λ b. b && (nat_lt m (n + 1) && nat_lt n (m + 1))) two
    ∙ ap (λ b. b && nat_lt n (m + 1)) three ∙ four ∙ sym h)
    (λ h. apart m n h ∙ sym h)

-- the same message and number, or not
spans_meet : (e f : Extension) → HasSmall e → HasSmall f → meets (number_span e) (number_span f) ≡ same_number e f
spans_meet e f small_e small_f =
    meets_moved e.message f.message (single e.number) (single f.number) small_e small_f
    ∙ ap (λ b. (e.message == f.message) && b) (numbers_meet (rank e.number) (rank f.number))

same_place : (e : Extension) (fs : List Extension) → HasSmall e → All HasSmall fs → position_or_len (meets (number_span e)) (map number_span fs) ≡ position_or_len (same_number e) fs
same_place e [] small all = refl
same_place e (f ∷ fs) small all =
    ap (λ b. cond {A = ℕ} (not b) (1 + position_or_len (meets (number_span e)) (map number_span fs)) 0) (spans_meet e f small (All-head HasSmall f fs all))
    ∙ ap (λ n. cond {A = ℕ} (not (same_number e f)) (1 + n) 0) (same_place e fs small (All-tail HasSmall f fs all))

same_first : (e : Extension) (fs : List Extension) → HasSmall e → All HasSmall fs → position (meets (number_span e)) (map number_span fs) ≡ position (same_number e) fs
same_first e fs small all =
    ap (λ n. cond {A = Option ℕ} (nat_lt n (length (map number_span fs))) (Some n) None) (same_place e fs small all)
    ∙ ap (λ len. cond {A = Option ℕ} (nat_lt (position_or_len (same_number e) fs) len) (Some (position_or_len (same_number e) fs)) None) (length-map fs number_span)

all_first : (es fs : List Extension) → All HasSmall es → All HasSmall fs → map (first_met_in (map number_span fs)) (map number_span es) ≡ map (λ e. position (same_number e) fs) es
all_first [] fs smalls all = refl
all_first (e ∷ es) fs smalls all =
    ap (λ found. found ∷ map (first_met_in (map number_span fs)) (map number_span es)) (same_first e fs (All-head HasSmall e es smalls) all)
    ∙ ap (λ more. position (same_number e) fs ∷ more) (all_first es fs (All-tail HasSmall e es smalls) all)

pub reused : (es : List Extension) → All HasSmall es → with_earlier (map (first_met_in (map number_span es)) (map number_span es)) ≡ reused_extensions es
reused es all = ap with_earlier (all_first es es all all)
