-- Fields that are sorted stably by their numbers are in the order of the definition.
use Rattle.std.proofs.Common.{◌≡◌, ℕ, Bool, true, false, cond, List, [], ◌∷◌, refl, ap, ◌∙◌, Less, Equal, Greater}
use Rattle.std.specs.Prelude.{nat_lt, ◌==◌, if◌then◌else◌}
use Rattle.std.specs.Cmp.{IsStrictWeakOrder}
use Rattle.std.specs.List.Sorted.{IsSortedBy, IsStableBy}
use Rattle.std.specs.Ordering.{is_lt, nat_cmp}
use Rattle.std.proofs.lemmas.List.Sorted.{IsStrictWeakOrder-by_number}
use Rattle.protox_message_bytes.specs.Bytes.{by_number, Field, placed}
use Rattle.protox_message_bytes.proofs.StableSort.{inserted, insertion_sorted, stably_sorted}

abbrev pub before : Field → Field → Bool
before f g = nat_lt f.number g.number

pub order : IsStrictWeakOrder before
order = IsStrictWeakOrder-by_number (λ (f : Field). f.number)

-- what the comparison of two numbers tells
pub compared : (m n : ℕ) → is_lt (nat_cmp m n) ≡ nat_lt m n
compared m n = go (nat_lt m n) (m == n) where
  go : (less same : Bool) → is_lt (cond less Less (cond same Equal Greater)) ≡ less
  go true same = refl
  go false true = refl
  go false false = refl

placed_inserted : (f : Field) (fields : List Field) → inserted before f fields ≡ placed f fields
placed_inserted f [] = refl
placed_inserted f (g ∷ more) = ap (λ rest. if nat_lt g.number f.number then g ∷ rest else f ∷ g ∷ more) (placed_inserted f more)

inserted_all : (fields : List Field) → insertion_sorted before fields ≡ by_number fields
inserted_all [] = refl
inserted_all (f ∷ more) = ap (inserted before f) (inserted_all more) ∙ placed_inserted f (by_number more)

pub sorted_by_number : (xs ys : List Field) → IsSortedBy before ys → IsStableBy before xs ys → ys ≡ by_number xs
sorted_by_number xs ys sorted stable = stably_sorted before order xs ys sorted stable ∙ inserted_all xs
