-- Names behind a dot.
use Rattle.std.proofs.Common.{◌≡◌, ◌∷◌, [], ℕ, true, false, List, refl}
use Rattle.std.proofs.lemmas.Bool.{true≢false}
use Rattle.protox_name_tree.specs.Tree.{dotted}
use Rattle.protox_names.specs.Names.{is_absolute}

-- only the empty name has no dot in front
pub no_name : (name : List ℕ) → is_absolute (dotted name) ≡ false → [] ≡ name
no_name [] h = refl
no_name (byte ∷ name) h = absurd (true≢false h)
