-- Parts that meet others, as the lists of clashes have them.
use Rattle.std.proofs.Common.{◌≡◌, ◌<◌, ◌+◌, inl, ℕ, zero, suc, Bool, true, false, cond, List, [], ◌∷◌, get_or, map, nat_lt, Option, Some, None, refl, sym, ap, subst, ◌∙◌, arith, slice_get}
use Rattle.std.specs.Prelude.{All}
use Rattle.std.specs.List.{position, position_from}
use Rattle.std.proofs.lemmas.Bool.{false≢true}
use Rattle.std.proofs.lemmas.Bool.Decides.{Decides-ltb}
use Rattle.std.proofs.lemmas.Iterator.Adapters.{position_from-zero}
use Rattle.std.proofs.lemmas.List.Elements.{All-append, All-nil, All-weaker}
use Rattle.std.proofs.lemmas.List.Quantifiers.{position-Some}
use Rattle.std.proofs.lemmas.Option.{get_or_from_slice_get, same_Some, slice_get-get_or}
use Rattle.protox_ast.proofs.Lemmas.{Among, among-left, among-right}
use Rattle.protox_link.proofs.Telling.{one}
use Rattle.protox_link.specs.Wrong.{MeetsEarlier, MeetsFirst}
use Rattle.protox_numbers.specs.Clashes.{clash_of, clashes_from, with_earlier, with_first}
use Rattle.protox_numbers.specs.declared.clash.Clash.{Clash}

-- ---- the first of a list that passes a test

module _ {X : Type 0} (p : X → Bool) where
  goes_on : (b : Bool) (i j : ℕ) (o : Option ℕ) → b ≡ false → o ≡ Some j → cond b (Some i) o ≡ Some j
  goes_on true i j o fails is = absurd (false≢true (sym fails))
  goes_on false i j o fails is = is

  found_from : (xs : List X) (i g : ℕ) (x : X) → slice_get xs g ≡ Some x → p x ≡ true → ((k : ℕ) (y : X) → k < g → slice_get xs k ≡ Some y → p y ≡ false) → position_from p i xs ≡ Some (i + g)
  found_from [] i g x is passes first = cc
  found_from (y ∷ more) i zero x is passes first =
      ap (λ b. cond b (Some i) (position_from p (i + 1) more)) (ap p (same_Some y x is) ∙ passes) ∙ ap Some (omega arith)
  found_from (y ∷ more) i (suc g) x is passes first =
      goes_on (p y) i (i + suc g) (position_from p (i + 1) more) (first 0 y (omega arith) refl)
      (found_from more (i + 1) g x is passes (λ k z below at. first (suc k) z (omega (arith, below)) at) ∙ ap Some (omega arith))

module _ {X : Type 0} (meet : X → X → Bool) (parts others : List X) where
  -- ---- what a part meets

  abbrev first_met : X → Option ℕ
  first_met one = position (meet one) others

  meets_from : (part : ℕ) (w : ℕ) (one : X) → slice_get parts part ≡ Some one → first_met one ≡ Some w → MeetsFirst meet parts others (record { part = part; «with» = w })
  meets_from part w one is met =
      let found = position-Some (meet one) others w one met in
      record {
        one = one;
        other = get_or others w one;
        is_there = is;
        is_other = slice_get-get_or others w one found.0;
        they_meet = found.1;
        first = λ k earlier below at. ap (meet one) (sym (get_or_from_slice_get others k earlier one at)) ∙ found.2 k below;
      }

  met_first : (clash : Clash) (is : MeetsFirst meet parts others clash) → first_met is.one ≡ Some clash.«with»
  met_first clash is =
      position_from-zero (meet is.one) others
      ∙ found_from (meet is.one) others 0 clash.«with» is.other is.is_other is.they_meet is.first
      ∙ ap Some (omega arith)

  -- ---- the clashes that count

  module _ (counts : ℕ → ℕ → Bool) where
    abbrev Counts : Clash → Type 0
    Counts clash = MeetsFirst meet parts others clash × (counts clash.part clash.«with» ≡ true)

    one_counts : (part w : ℕ) (b : Bool) → counts part w ≡ b → MeetsFirst meet parts others (record { part = part; «with» = w }) → All Counts (cond b (record { part = part; «with» = w } ∷ []) [])
    one_counts part w true is meets = one Counts (record { part = part; «with» = w }) (meets, is)
    one_counts part w false is meets = All-nil Counts

    part_counts : (part : ℕ) (one : X) (o : Option ℕ) → slice_get parts part ≡ Some one → first_met one ≡ o → All Counts (clash_of counts part o)
    part_counts part one None is met = All-nil Counts
    part_counts part one (Some w) is met = one_counts part w (counts part w) refl (meets_from part w one is met)

    all_count : (i : ℕ) (rest : List X) → ((k m : ℕ) (one : X) → m ≡ i + k → slice_get rest k ≡ Some one → slice_get parts m ≡ Some one) → All Counts (clashes_from counts i (map first_met rest))
    all_count i [] there = All-nil Counts
    all_count i (one ∷ more) there =
        All-append Counts (clash_of counts i (first_met one)) (clashes_from counts (i + 1) (map first_met more))
        (part_counts i one (first_met one) (there 0 i one (omega arith) refl) refl)
        (all_count (i + 1) more (λ k m next same is. there (suc k) m next (omega (arith, same)) is))

    all_parts_count : All Counts (clashes_from counts 0 (map first_met parts))
    all_parts_count = all_count 0 parts (λ k m one same is. subst (λ j. slice_get parts j ≡ Some one) (omega (arith, same)) is)

    counted : (i : ℕ) (rest : List X) (k : ℕ) (one : X) (clash : Clash) → clash.part ≡ i + k → slice_get rest k ≡ Some one → first_met one ≡ Some clash.«with» → counts clash.part clash.«with» ≡ true → Among (clashes_from counts i (map first_met rest)) clash
    counted i [] k one clash same is met count = cc
    counted i (first ∷ more) zero one clash same is met count =
        let here : clash.part ≡ i = omega (arith, same) in
        among-left (clash_of counts i (first_met first)) (clashes_from counts (i + 1) (map first_met more)) clash
        (subst (λ (j : ℕ). Among (clash_of counts j (first_met first)) clash) here
        (subst (λ (o : Option ℕ). Among (clash_of counts clash.part o) clash) (sym (ap first_met (same_Some first one is) ∙ met))
        (subst (λ b. Among (cond b (clash ∷ []) []) clash) (sym count) (inl refl))))
    counted i (first ∷ more) (suc k) one clash same is met count =
        among-right (clash_of counts i (first_met first)) (clashes_from counts (i + 1) (map first_met more)) clash
        (counted (i + 1) more k one clash (omega (arith, same)) is met count)

  -- ---- those with the first, and those with an earlier one

  pub first_told : All (MeetsFirst meet parts others) (with_first (map first_met parts))
  first_told = All-weaker (Counts (λ part w. true)) (MeetsFirst meet parts others) (λ clash is. is.0) _ (all_parts_count (λ part w. true))

  pub first_listed : (clash : Clash) → MeetsFirst meet parts others clash → Among (with_first (map first_met parts)) clash
  first_listed clash is = counted (λ part w. true) 0 parts clash.part is.one clash (omega arith) is.is_there (met_first clash is) refl

module _ {X : Type 0} (meet : X → X → Bool) (parts : List X) where
  pub earlier_told : All (MeetsEarlier meet parts) (with_earlier (map (λ one. position (meet one) parts) parts))
  earlier_told =
      All-weaker (Counts meet parts parts (λ part w. nat_lt w part)) (MeetsEarlier meet parts) (λ clash is. record { meets_it = is.0; before = (Decides-ltb clash.«with» clash.part).0 is.1 }) _
      (all_parts_count meet parts parts (λ part w. nat_lt w part))

  pub earlier_listed : (clash : Clash) → MeetsEarlier meet parts clash → Among (with_earlier (map (λ one. position (meet one) parts) parts)) clash
  earlier_listed clash is =
      let meets = is.meets_it in
      counted meet parts parts (λ part w. nat_lt w part) 0 parts clash.part meets.one clash (omega arith) meets.is_there (met_first meet parts parts clash meets) ((Decides-ltb clash.«with» clash.part).1 is.before)
