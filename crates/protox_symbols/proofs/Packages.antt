-- The packages around a package, part by part.
use Rattle.std.proofs.Common.{◌≡◌, ◌≢◌, ℕ, true, List, [], ◌∷◌, ◌++◌, fold, map, reverse, None, refl, sym, ap, ◌∙◌, append_assoc}
use Rattle.std.specs.Prelude.{ℤ}
use Rattle.std.proofs.lemmas.Grind.{reverse_onto}
use Rattle.std.proofs.lemmas.List.{map-append, reverse-append}
use Rattle.protox_names.specs.Names.{is_one_part, scopes, within}
use Rattle.protox_names.proofs.Lemmas.{scopes_of_one_part}
use Rattle.protox_scopes.specs.declared.kind.Kind.TheVariants as kind
use Rattle.protox_name_tree.specs.Tree.{AreTreeNames, number_of}
use Rattle.protox_name_tree.proofs.Lemmas.{map-map, none_behind, none_stands_behind, scopes_behind}
use Rattle.protox_symbols.specs.Symbols.{Table, with_thing}
use Rattle.protox_symbols.specs.Things.{Entry, package_entries, package_entry, packages, with_entry}
use Rattle.protox_symbols.specs.Scopes.{IsMissing}
use Rattle.protox_symbols.proofs.Standing.{unchanged}

reverse-map : {X Y : Type 0} (f : X → Y) (xs : List X) → reverse (map f xs) ≡ map f (reverse xs)
reverse-map f [] = refl
reverse-map f (x ∷ xs) =
    reverse_onto (map f xs) (f x) [] ∙ ap (λ l. l ++ f x ∷ []) (reverse-map f xs)
    ∙ sym (ap (map f) (reverse_onto xs x []) ∙ map-append f (reverse xs) (x ∷ []))

map_alike : {X Y : Type 0} (f g : X → Y) → ((x : X) → f x ≡ g x) → (xs : List X) → map f xs ≡ map g xs
map_alike f g alike [] = refl
map_alike f g alike (x ∷ xs) = ap (λ y. y ∷ map f xs) (alike x) ∙ ap (λ l. g x ∷ l) (map_alike f g alike xs)

-- a name and the scopes around it, from the outside in
abbrev pub fronts : List ℕ → List (List ℕ)
fronts name = reverse (name ∷ scopes name)

fronts_of_one : (part : List ℕ) → is_one_part part ≡ true → fronts part ≡ part ∷ []
fronts_of_one part one = ap (λ l. reverse (part ∷ l)) (scopes_of_one_part part one)

fronts_at_dot : (part more : List ℕ) → is_one_part part ≡ true → fronts (part ++ 46 ∷ more) ≡ part ∷ map (λ each. part ++ 46 ∷ each) (fronts more)
fronts_at_dot part more one =
    ap (λ l. reverse ((part ++ 46 ∷ more) ∷ l)) (scopes_behind part more ∙ ap (λ l. map (λ each. part ++ 46 ∷ each) (scopes more) ++ part ∷ l) (scopes_of_one_part part one))
    ∙ reverse-append (map (λ each. part ++ 46 ∷ each) (more ∷ scopes more)) (part ∷ [])
    ∙ ap (λ l. part ∷ l) (reverse-map (λ each. part ++ 46 ∷ each) (more ∷ scopes more))

pub within_behind : (scope part more : List ℕ) → within scope (part ++ 46 ∷ more) ≡ within scope part ++ 46 ∷ more
within_behind [] part more = refl
within_behind (byte ∷ scope) part more = sym (append_assoc (byte ∷ scope) (46 ∷ part) (46 ∷ more))

-- what is left of a package, in the scope that its first parts name
abbrev pub left : ℕ → List ℕ → List ℕ → List Entry
left file scope rest = map (package_entry file) (map (within scope) (fronts rest))

abbrev behind : ℕ → List ℕ → List ℕ → List Entry
behind file scope rest = map (package_entry file) (map (λ each. scope ++ 46 ∷ each) (fronts rest))

left_at_dot : (file : ℕ) (scope part more : List ℕ) → is_one_part part ≡ true → left file scope (part ++ 46 ∷ more) ≡ package_entry file (within scope part) ∷ behind file (within scope part) more
left_at_dot file scope part more one =
    ap (λ l. map (package_entry file) (map (within scope) l)) (fronts_at_dot part more one)
    ∙ ap (λ l. package_entry file (within scope part) ∷ map (package_entry file) l)
    (map-map (within scope) (λ each. part ++ 46 ∷ each) (fronts more) ∙ map_alike (λ each. within scope (part ++ 46 ∷ each)) (λ each. within scope part ++ 46 ∷ each) (within_behind scope part) (fronts more))

left_of_one : (file : ℕ) (scope part : List ℕ) → is_one_part part ≡ true → left file scope part ≡ package_entry file (within scope part) ∷ []
left_of_one file scope part one = ap (λ l. map (package_entry file) (map (within scope) l)) (fronts_of_one part one)

behind_some : (scope more : List ℕ) → scope ≢ [] → scope ++ 46 ∷ more ≡ within scope more
behind_some [] more some = absurd (some refl)
behind_some (byte ∷ scope) more some = refl

map_nameless : (names : List (List ℕ)) → map (within []) names ≡ names
map_nameless [] = refl
map_nameless (name ∷ names) = ap (λ l. name ∷ l) (map_nameless names)

-- At first, all is left.
pub all_left : (file : ℕ) (name : List ℕ) → name ≢ [] → left file [] name ≡ package_entries file name
all_left file [] some = absurd (some refl)
all_left file (byte ∷ rest) some = ap (map (package_entry file)) (map_nameless (packages (byte ∷ rest)))

-- a part of a package, as it was declared
pub part_made : (file : ℕ) (t t' : Table) (full_name : List ℕ) (path : List ℤ) → path ≡ [] → t' ≡ with_thing t full_name kind.Package (record { file = file; path = path }) → t' ≡ with_entry t (package_entry file full_name)
part_made file t t' full_name path empty is =
    is ∙ ap (λ p. with_thing t full_name kind.Package (record { file = file; path = p })) empty

pub whole_behind : (scope part more rest whole : List ℕ) → rest ≡ part ++ 46 ∷ more → within scope rest ≡ whole → within scope part ++ 46 ∷ more ≡ whole
whole_behind scope part more rest whole at is = sym (within_behind scope part more) ∙ ap (within scope) (sym at) ∙ is

pub whole_within : (scope part more rest whole name : List ℕ) → rest ≡ part ++ 46 ∷ more → within scope rest ≡ whole → name ≡ within scope part → name ≢ [] → within name more ≡ whole
whole_within scope part more rest whole name at is named some =
    sym (behind_some name more some) ∙ ap (λ s. s ++ 46 ∷ more) named ∙ whole_behind scope part more rest whole at is

-- one part further
pub part_added : (file : ℕ) (t t' : Table) (scope part more name : List ℕ) → is_one_part part ≡ true → t' ≡ with_entry t (package_entry file (within scope part)) → name ≡ within scope part → name ≢ []
    → fold with_entry t' (left file name more) ≡ fold with_entry t (left file scope (part ++ 46 ∷ more))
part_added file t t' scope part more name one is named some =
    ap (λ u. fold with_entry u (left file name more)) is
    ∙ ap (λ l. fold with_entry t (package_entry file (within scope part) ∷ map (package_entry file) l))
    (sym (map_alike (λ each. name ++ 46 ∷ each) (within name) (λ each. behind_some name each some) (fronts more))
    ∙ ap (λ s. map (λ each. s ++ 46 ∷ each) (fronts more)) named)
    ∙ ap (fold with_entry t) (sym (left_at_dot file scope part more one))

-- nothing stands behind what isn't there
nothing_behind : (file : ℕ) (t : Table) (scope : List ℕ) (names : List (List ℕ)) → AreTreeNames t.names.full_names → number_of t.names scope ≡ None
    → fold with_entry t (map (package_entry file) (map (λ each. scope ++ 46 ∷ each) names)) ≡ t
nothing_behind file t scope [] tree none = refl
nothing_behind file t scope (name ∷ names) tree none =
    ap (λ u. fold with_entry u (map (package_entry file) (map (λ each. scope ++ 46 ∷ each) names)))
    (unchanged t (scope ++ 46 ∷ name) kind.Package (record { file = file; path = [] }) (none_stands_behind t.names scope name tree none))
    ∙ nothing_behind file t scope names tree none

-- the part can't stand, so nothing that is left does
pub none_left : (file : ℕ) (t t' : Table) (scope part more : List ℕ) → is_one_part part ≡ true → t' ≡ with_entry t (package_entry file (within scope part)) → AreTreeNames t'.names.full_names → number_of t'.names (within scope part) ≡ None
    → t' ≡ fold with_entry t (left file scope (part ++ 46 ∷ more))
none_left file t t' scope part more one is tree none =
    sym (nothing_behind file t' (within scope part) (fronts more) tree none)
    ∙ ap (λ u. fold with_entry u (behind file (within scope part) more)) is
    ∙ ap (fold with_entry t) (sym (left_at_dot file scope part more one))

-- the last part
pub last_added : (file : ℕ) (t t' : Table) (scope part : List ℕ) → is_one_part part ≡ true → t' ≡ with_entry t (package_entry file (within scope part)) → t' ≡ fold with_entry t (left file scope part)
last_added file t t' scope part one is = is ∙ ap (fold with_entry t) (sym (left_of_one file scope part one))

some_behind : (scope more : List ℕ) → scope ++ 46 ∷ more ≢ []
some_behind [] more = λ h. cc
some_behind (byte ∷ scope) more = λ h. cc

pub missing_behind : (t : Table) (scope more : List ℕ) → AreTreeNames t.names.full_names → number_of t.names scope ≡ None → IsMissing t (scope ++ 46 ∷ more)
missing_behind t scope more tree none = record {
  tree = tree;
  some = some_behind scope more;
  none = none_behind t.names.full_names scope more tree none;
}
