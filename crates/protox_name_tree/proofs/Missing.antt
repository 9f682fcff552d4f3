-- What isn't in a tree, and what can't stand in it then.
use Rattle.std.proofs.Common.{◌≡◌, ◌&&◌, ℕ, true, false, cond, List, [], ◌∷◌, ◌++◌, length, map, None, is_some, refl, sym, ap, subst, ◌∙◌}
use Rattle.std.specs.List.{All, AllPass, Contains}
use Rattle.std.proofs.lemmas.Bool.{false≢true}
use Rattle.std.proofs.lemmas.List.{append_assoc, map-append}
use Rattle.std.proofs.lemmas.List.Splits.{slice_split_none}
use Rattle.protox_names.specs.Names.{is_dot, is_identifier, is_one_part, parts, scopes}
use Rattle.protox_names.proofs.Lemmas.{no_dots, parts_within}
use Rattle.protox_name_tree.specs.Tree.{AreTreeNames, Names, can_stand, has_innermost, number_of, own_name, place_of_name}
use Rattle.protox_name_tree.proofs.FullNames.{all_at, all_contained, found_name, found_some, is_tree, scope_at_dot}
use Rattle.protox_name_tree.proofs.Numbering.{none_if_never, slice_get-last}

-- ---- what isn't in it

-- A name with a part that is no identifier isn't in a tree.
none_if_odd : (names : List (List ℕ)) (name : List ℕ) → AreTreeNames names → (AllPass is_identifier (parts name) → ⊥) → place_of_name names name ≡ None
none_if_odd names name tree never =
    none_if_never (place_of_name names name) (λ n found. never ((is_tree names tree).identifiers name n found))

-- the parts of a name that ends in a part
parts_of_one : (own : List ℕ) → is_one_part own ≡ true → parts own ≡ own ∷ []
parts_of_one own one = slice_split_none is_dot own (no_dots own one)

parts_behind : (scope own : List ℕ) → is_one_part own ≡ true → parts (scope ++ 46 ∷ own) ≡ parts scope ++ own ∷ []
parts_behind [] own one = ap (λ l. [] ∷ l) (parts_of_one own one)
parts_behind (byte ∷ scope) own one =
    parts_within (byte ∷ scope) own (λ h. cc) ∙ ap (λ l. parts (byte ∷ scope) ++ l) (parts_of_one own one)

ends_odd : (before : List (List ℕ)) (own : List ℕ) → is_identifier own ≡ false → AllPass is_identifier (before ++ own ∷ []) → ⊥
ends_odd before own odd all =
    false≢true (sym odd ∙ all_at (λ part. is_identifier part ≡ true) (before ++ own ∷ []) (length before) own all (slice_get-last before own))

-- a name that ends in a part that is no identifier
pub no_odd_name : (names : List (List ℕ)) (own : List ℕ) → AreTreeNames names → is_one_part own ≡ true → is_identifier own ≡ false → place_of_name names own ≡ None
no_odd_name names own tree one odd =
    none_if_odd names own tree (λ all. ends_odd [] own odd (subst (AllPass is_identifier) (parts_of_one own one) all))

pub no_odd_end : (names : List (List ℕ)) (scope own : List ℕ) → AreTreeNames names → is_one_part own ≡ true → is_identifier own ≡ false → place_of_name names (scope ++ 46 ∷ own) ≡ None
no_odd_end names scope own tree one odd =
    none_if_odd names (scope ++ 46 ∷ own) tree (λ all. ends_odd (parts scope) own odd (subst (AllPass is_identifier) (parts_behind scope own one) all))

-- a name behind one that isn't in it
pub none_behind : (names : List (List ℕ)) (scope name : List ℕ) → AreTreeNames names → place_of_name names scope ≡ None → place_of_name names (scope ++ 46 ∷ name) ≡ None
none_behind names scope name tree none =
    none_if_never (place_of_name names (scope ++ 46 ∷ name))
    (λ n found.
    let around = all_at (λ each. All (Contains names) (scopes each)) names n (scope ++ 46 ∷ name) tree.closed (found_name names (scope ++ 46 ∷ name) n found) in
    false≢true (sym (ap is_some none) ∙ found_some names scope tree (all_contained (Contains names) (scopes (scope ++ 46 ∷ name)) scope around (scope_at_dot scope name))))

-- ---- what can't stand in it

pub map-map : {X Y Z : Type 0} (f : Y → Z) (g : X → Y) (xs : List X) → map f (map g xs) ≡ map (λ x. f (g x)) xs
map-map f g [] = refl
map-map f g (x ∷ xs) = ap (λ l. f (g x) ∷ l) (map-map f g xs)

-- the scopes around a name behind another one: those of the former, and then the latter and its own
pub scopes_behind : (scope name : List ℕ) → scopes (scope ++ 46 ∷ name) ≡ map (λ each. scope ++ 46 ∷ each) (scopes name) ++ scope ∷ scopes scope
scopes_behind [] name = refl
scopes_behind (byte ∷ scope) name =
    let dot = cond (is_dot byte) ([] ∷ []) [] in
    let more = map (λ each. (byte ∷ scope) ++ 46 ∷ each) (scopes name) in
    ap (λ l. map (λ each. byte ∷ each) l ++ dot) (scopes_behind scope name)
    ∙ ap (λ l. l ++ dot) (map-append (λ each. byte ∷ each) (map (λ each. scope ++ 46 ∷ each) (scopes name)) (scope ∷ scopes scope))
    ∙ ap (λ l. (l ++ (byte ∷ scope) ∷ map (λ each. byte ∷ each) (scopes scope)) ++ dot) (map-map (λ each. byte ∷ each) (λ each. scope ++ 46 ∷ each) (scopes name))
    ∙ append_assoc more ((byte ∷ scope) ∷ map (λ each. byte ∷ each) (scopes scope)) dot

no_innermost : (tree : Names) (scope : List ℕ) (inner outer : List (List ℕ)) → AreTreeNames tree.full_names → number_of tree scope ≡ None → has_innermost tree (map (λ each. scope ++ 46 ∷ each) inner ++ scope ∷ outer) ≡ false
no_innermost tree scope [] outer names none = ap is_some none
no_innermost tree scope (name ∷ inner) outer names none = ap is_some (none_behind tree.full_names scope name names none)

-- nothing can stand in a scope that isn't in it
pub none_stands_behind : (tree : Names) (scope name : List ℕ) → AreTreeNames tree.full_names → number_of tree scope ≡ None → can_stand tree (scope ++ 46 ∷ name) ≡ false
none_stands_behind tree scope name names none =
    let whole = scope ++ 46 ∷ name in
    ap (λ b. b && is_identifier (own_name whole (scopes whole))) (ap (has_innermost tree) (scopes_behind scope name) ∙ no_innermost tree scope (scopes name) (scopes scope) names none)
