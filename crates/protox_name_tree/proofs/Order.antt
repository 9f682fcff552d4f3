-- The order of the keys tells them all apart.
use Rattle.std.proofs.Common.{◌≡◌, ℕ, Option, Some, None, refl, ap, subst, arith}
use Rattle.std.specs.BTreeMap.{is_at}
use Rattle.std.specs.Bool.{Decides}
use Rattle.std.specs.Cmp.{Equal-is}
use Rattle.std.specs.Option.{option_cmp}
use Rattle.std.specs.Ordering.{nat_cmp}
use Rattle.std.specs.declared.cmp.Ordering.TheVariants.{Equal}
use Rattle.std.proofs.lemmas.Bool.Decides.{nat_tests}
use Rattle.std.proofs.lemmas.Map.Lookups.{CmpEqualImpliesEq, exact_pairs, exact_unsigned}
use Rattle.protox_name_tree.specs.Keys.{key_cmp}

exact_options : CmpEqualImpliesEq (option_cmp nat_cmp)
exact_options None None h = refl
exact_options None (Some y) h = cc
exact_options (Some x) None h = cc
exact_options (Some x) (Some y) h = ap (λ n. Some n) (exact_unsigned x y h)

exact_keys : CmpEqualImpliesEq key_cmp
exact_keys = exact_pairs (option_cmp nat_cmp) nat_cmp exact_options exact_unsigned

nat_cmp_same : (n : ℕ) → nat_cmp n n ≡ Equal
nat_cmp_same n = grind (arith, nat_tests)

key_cmp_same : (place : Option ℕ) (name : ℕ) → key_cmp (place, name) (place, name) ≡ Equal
key_cmp_same None name = nat_cmp_same name
key_cmp_same (Some n) name = rw (nat_cmp_same n) (nat_cmp_same name)

pub same_key : (key other : Option ℕ × ℕ) → Decides (is_at (key_cmp key) other) (key ≡ other)
same_key key other = (
  λ h. exact_keys key other ((Equal-is (key_cmp key other)).0 h),
  λ h. (Equal-is (key_cmp key other)).1 (subst (λ k. key_cmp key k ≡ Equal) h (key_cmp_same key.0 key.1)),
)
