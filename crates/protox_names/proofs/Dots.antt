-- A name that is cut at its first dot.
use Rattle.std.proofs.Common.{◌≡◌, ◌≢◌, ◌<◌, ◌+◌, ◌==◌, ℕ, Bool, true, false, not, List, ◌∷◌, ◌++◌, length, take, drop, get_or, refl, sym, ap, ◌∙◌, arith, length-take}
use Rattle.std.proofs.Math.Nat.{sub-zero}
use Rattle.std.specs.List.{slice_range}
use Rattle.std.specs.Str.{IsCharBoundary, IsUtf8}
use Rattle.std.proofs.lemmas.Bool.{eqb-false, eqb-true, true≢false}
use Rattle.std.proofs.lemmas.Bool.Decides.{Decides-eqb}
use Rattle.std.proofs.lemmas.List.{drop_more, get_or-take, take-append-drop, take_all}
use Rattle.std.proofs.lemmas.List.Folds.{list_any_at}
use Rattle.std.proofs.lemmas.List.Sums.{position_or_len_is}
use Rattle.std.proofs.lemmas.Str.{IsCharBoundary-after_ascii, IsCharBoundary-before_ascii, IsCharBoundary-end}
use Rattle.protox_names.specs.Names.{front, is_dot, is_one_part}
use Rattle.protox_names.specs.inner.Dots.{IsFirstDot}
use Rattle.protox_names.proofs.Found.{one_part}

-- ---- what stands before the dot

-- a range from the start
pub range_before : (name range : List ℕ) (i : ℕ) → range ≡ slice_range name 0 i → range ≡ take i name
range_before name range i is = is ∙ ap (λ n. take n name) (sub-zero i)

no_dot_at : (byte : ℕ) → is_dot byte ≡ false → byte ≢ 46
no_dot_at byte is same = true≢false (sym ((Decides-eqb byte 46).1 same) ∙ is)

pub one_part_before : (name : List ℕ) (i : ℕ) → IsFirstDot name i → is_one_part (take i name) ≡ true
one_part_before name i first = one_part (take i name) (λ k below same.
    let nearer : k < i = omega (arith, below, length-take i name) in
    no_dot_at (get_or name k 0) (first.before k nearer) (sym (get_or-take i name k 0 nearer) ∙ same))

pub front_before : (name : List ℕ) (i : ℕ) → IsFirstDot name i → take i name ≡ front name
front_before name i first =
    ap (λ n. take n name) (sym (position_or_len_is is_dot name i 0 first.within first.before (λ below. (Decides-eqb (get_or name i 0) 46).1 (first.dot below))))

-- ---- a name without dots

pub no_dot : (name : List ℕ) (i : ℕ) → IsFirstDot name i → i ≡ length name → is_one_part name ≡ true
no_dot name i first all = ap is_one_part (sym (take_all i name (omega (arith, all)))) ∙ one_part_before name i first

some_dot : (name : List ℕ) (i : ℕ) → IsFirstDot name i → i < length name → is_one_part name ≡ false
some_dot name i first below = ap not (list_any_at is_dot name i 0 below ((Decides-eqb (get_or name i 0) 46).1 (first.dot below)))

-- A name has no dot exactly if the first one would stand at its end.
pub is_whole : (name : List ℕ) (i : ℕ) → IsFirstDot name i → (i == length name) ≡ is_one_part name
is_whole name i first = choose (i == length name) refl where
  choose : (all : Bool) → (i == length name) ≡ all → (i == length name) ≡ is_one_part name
  choose true all = all ∙ sym (no_dot name i first (eqb-true i (length name) all))
  choose false other = other ∙ sym (some_dot name i first (omega (arith, first.within, eqb-false i (length name) other)))

-- ---- the name, cut there

pub cut_there : (name : List ℕ) (i : ℕ) → IsFirstDot name i → i < length name → name ≡ take i name ++ 46 ∷ drop (i + 1) name
cut_there name i first below =
    sym (take-append-drop i name)
    ∙ ap (λ l. take i name ++ l) (drop_more name i 0 below ∙ ap (λ byte. byte ∷ drop (i + 1) name) (first.dot below))

pub starts_there : (name : List ℕ) (i : ℕ) → IsFirstDot name i → i < length name → IsCharBoundary name i
starts_there name i first below = IsCharBoundary-before_ascii name i below (omega (arith, first.dot below))

pub starts_behind : (name : List ℕ) (i : ℕ) → IsUtf8 name → IsFirstDot name i → i < length name → IsCharBoundary name (i + 1)
starts_behind name i text first below = IsCharBoundary-after_ascii name i text below (omega (arith, first.dot below))

-- it may be cut at the first dot, or at its end
pub front_ends : (name : List ℕ) (i : ℕ) → IsFirstDot name i → IsCharBoundary name i
front_ends name i first = choose (i == length name) refl where
  choose : (all : Bool) → (i == length name) ≡ all → IsCharBoundary name i
  choose true all = let same = eqb-true i (length name) all in rw same (IsCharBoundary-end name)
  choose false other = starts_there name i first (omega (arith, first.within, eqb-false i (length name) other))
