-- Full names of a tree: they are found, and a walk over the parts of a name finds it.
use Rattle.std.proofs.Common.{◌≡◌, ◌≢◌, ◌<◌, ℕ, Bool, true, false, cond, List, [], ◌∷◌, ◌++◌, length, map, get_or, Option, Some, None, MatchOption, bytes_eq, is_some, refl, sym, ap, subst, ◌∙◌, arith}
use Rattle.std.specs.List.{All, AllPass, Contains, position_or_len, slice_get}
use Rattle.std.proofs.lemmas.Bool.{false≢true, lt-ltb}
use Rattle.std.proofs.lemmas.List.{get_or-map, length-map}
use Rattle.std.proofs.lemmas.List.Elements.{All-head, Contains-append_left, Contains-push}
use Rattle.std.proofs.lemmas.List.Quantifiers.{position-Some}
use Rattle.std.proofs.lemmas.List.Sums.{position_or_len_is}
use Rattle.std.proofs.lemmas.Option.{get_or_from_slice_get, slice_get-get_or, slice_get_within}
use Rattle.std.proofs.lemmas.Slice.Eq.{bytes_eq-Decides}
use Rattle.protox_names.specs.Names.{is_identifier, is_one_part, parts, scopes, within}
use Rattle.protox_names.specs.Tree.{IsPlace, IsTree, name_of_place}
use Rattle.protox_names.proofs.Lemmas.{scopes_of_one_part, scopes_within}
use Rattle.protox_name_tree.specs.Tree.{AreTreeNames, IsKnown, name_at_place, place_of_name}

-- ---- elements

pub all_at : {X : Type 0} (P : X → Type 0) (xs : List X) (n : ℕ) (x : X) → All P xs → slice_get xs n ≡ Some x → P x
all_at P xs n x all at = subst P (get_or_from_slice_get xs n x x at) (all n x (slice_get_within xs n x at))

pub all_contained : {X : Type 0} (P : X → Type 0) (xs : List X) (x : X) → All P xs → Contains xs x → P x
all_contained P xs x all has = subst P has.2 (all has.0 x has.1)

pub contains_at : {X : Type 0} (xs : List X) (n : ℕ) (x : X) → slice_get xs n ≡ Some x → Contains xs x
contains_at xs n x at = (n, slice_get_within xs n x at, get_or_from_slice_get xs n x x at)

is_false : (b : Bool) → (b ≡ true → ⊥) → b ≡ false
is_false true never = absurd (never refl)
is_false false never = refl

-- ---- the place of a name

-- what is found under a name has it
pub found_name : (names : List (List ℕ)) (name : List ℕ) (n : ℕ) → place_of_name names name ≡ Some n → slice_get names n ≡ Some name
found_name names name n found =
    let at = position-Some (λ each. bytes_eq each name) names n name found in
    slice_get-get_or names n name at.0 ∙ ap (λ each. Some each) ((bytes_eq-Decides (get_or names n name) name).0 at.1)

-- a name that stands in one place alone is found there
pub place_of_single : (names : List (List ℕ)) (name : List ℕ) (n : ℕ) → slice_get names n ≡ Some name → ((m : ℕ) → slice_get names m ≡ Some name → m ≡ n) → place_of_name names name ≡ Some n
place_of_single names name n at single =
    let below = slice_get_within names n name at in
    let first : position_or_len (λ each. bytes_eq each name) names ≡ n = position_or_len_is (λ each. bytes_eq each name) names n name (omega (arith, below))
    (λ k before. is_false (bytes_eq (get_or names k name) name) (λ same. omega (arith, before, single k (slice_get-get_or names k name (omega (arith, before, below)) ∙ ap (λ each. Some each) ((bytes_eq-Decides (get_or names k name) name).0 same)))))
    (λ _. (bytes_eq-Decides (get_or names n name) name).1 (get_or_from_slice_get names n name name at)) in
    rw first (ap (λ b. cond b (Some n) None) (lt-ltb n (length names) below))

-- ---- the top is no name

pub no_empty_name : (names : List (List ℕ)) (n : ℕ) → AreTreeNames names → slice_get names n ≡ Some [] → ⊥
no_empty_name names n tree at =
    false≢true (All-head (λ part. is_identifier part ≡ true) [] [] (all_at (λ name. AllPass is_identifier (parts name)) names n [] tree.identifiers at))

-- a known number has a name
pub known_name : (names : List (List ℕ)) (n : ℕ) → n < length names → slice_get names n ≡ Some (name_at_place names n)
known_name names n below = slice_get-get_or names n [] below

pub known_some : (names : List (List ℕ)) (n : ℕ) → AreTreeNames names → n < length names → name_at_place names n ≢ []
known_some names n tree below empty = no_empty_name names n tree (known_name names n below ∙ ap (λ name. Some name) empty)

-- a full name tells its place
pub same_place : (names : List (List ℕ)) (one other : Option ℕ) → AreTreeNames names → IsKnown names one → IsKnown names other → name_of_place (name_at_place names) one ≡ name_of_place (name_at_place names) other → one ≡ other
same_place names None None tree known known' same = refl
same_place names None (Some n) tree known known' same = absurd (known_some names n tree known' (sym same))
same_place names (Some n) None tree known known' same = absurd (known_some names n tree known same)
same_place names (Some n) (Some m) tree known known' same =
    let name = name_at_place names n in
    sym (tree.numbered.number_of name n (known_name names n known))
    ∙ tree.numbered.number_of name m (known_name names m known' ∙ ap (λ each. Some each) (sym same))

-- ---- it is a tree

-- a scope with a name is among the scopes around what is in it
contains_more : (byte : ℕ) (around : List (List ℕ)) (scope : List ℕ) → Contains around scope → Contains (map (λ each. byte ∷ each) around) (byte ∷ scope)
contains_more byte around scope has = (
  has.0,
  omega (arith, has.1, length-map around (λ each. byte ∷ each)),
  get_or-map (λ each. byte ∷ each) around has.0 scope (byte ∷ scope) has.1 ∙ ap (λ each. byte ∷ each) has.2,
)

pub scope_at_dot : (scope name : List ℕ) → Contains (scopes (scope ++ 46 ∷ name)) scope
scope_at_dot [] name = Contains-push (map (λ each. 46 ∷ each) (scopes name)) []
scope_at_dot (byte ∷ scope) name =
    Contains-append_left (map (λ each. byte ∷ each) (scopes (scope ++ 46 ∷ name))) _ (byte ∷ scope) (contains_more byte (scopes (scope ++ 46 ∷ name)) scope (scope_at_dot scope name))

scope_is_around : (scope name : List ℕ) → scope ≢ [] → Contains (scopes (within scope name)) scope
scope_is_around [] name some = absurd (some refl)
scope_is_around (byte ∷ scope) name some = scope_at_dot (byte ∷ scope) name

pub found_some : (names : List (List ℕ)) (name : List ℕ) → AreTreeNames names → Contains names name → is_some (place_of_name names name) ≡ true
found_some names name tree has =
    ap is_some (tree.numbered.number_of name has.0 (slice_get-get_or names has.0 name has.1 ∙ ap (λ each. Some each) has.2))

pub is_tree : (names : List (List ℕ)) → AreTreeNames names → IsTree (place_of_name names) (name_at_place names)
is_tree names tree = record {
  named = λ name n found. get_or_from_slice_get names n name [] (found_name names name n found);
  identifiers = λ name n found. all_at (λ each. AllPass is_identifier (parts each)) names n name tree.identifiers (found_name names name n found);
  around = λ scope name n some found.
      let around = all_at (λ each. All (Contains names) (scopes each)) names n (within scope name) tree.closed (found_name names (within scope name) n found) in
      found_some names scope tree (all_contained (Contains names) (scopes (within scope name)) scope around (scope_is_around scope name some));
}

-- a known place is one of the tree
pub is_place : (names : List (List ℕ)) (place : Option ℕ) → AreTreeNames names → IsKnown names place → IsPlace (place_of_name names) (name_at_place names) place
is_place names None tree known = tt
is_place names (Some n) tree known = tree.numbered.number_of (name_at_place names n) n (known_name names n known)

-- what is found is known
pub found_known : (names : List (List ℕ)) (name : List ℕ) (n : ℕ) → place_of_name names name ≡ Some n → n < length names
found_known names name n found = slice_get_within names n name (found_name names name n found)

-- ---- outwards

pub outer_place : (names : List (List ℕ)) (place : Option ℕ) (own : List ℕ) → AreTreeNames names → IsKnown names place → is_one_part own ≡ true → MatchOption place (scopes (within (name_of_place (name_at_place names) place) own) ≡ []) (λ outer. scopes (within (name_of_place (name_at_place names) place) own) ≡ name_at_place names outer ∷ scopes (name_at_place names outer))
outer_place names None own tree known one = scopes_of_one_part own one
outer_place names (Some n) own tree known one = scopes_within (name_at_place names n) own (known_some names n tree known) one
