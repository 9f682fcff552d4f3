-- From a name to the scope that it stands in, and into a scope.
use Rattle.std.proofs.Common.{◌≡◌, ◌≢◌, ◌≤◌, ◌==◌, inl, inr, ℕ, true, false, List, [], ◌∷◌, length, map, get_or, Option, Some, None, MatchOption, is_some, refl, sym, ap, subst, ◌∙◌, arith}
use Rattle.std.specs.List.{slice_get}
use Rattle.std.specs.Option.{option_map, unwrap_or}
use Rattle.std.proofs.lemmas.Bool.{false≢true}
use Rattle.std.proofs.lemmas.Bool.Decides.{Decides-eqb}
use Rattle.std.proofs.lemmas.List.{length-map}
use Rattle.std.proofs.lemmas.Option.{get_or_from_slice_get, none-some, slice_get-map, slice_get_cases, slice_get_past, unwrap_or-slice_get}
use Rattle.protox_names.specs.Names.{scopes, within}
use Rattle.protox_names.proofs.Lemmas.{identifiers_are_one_part}
use Rattle.protox_scopes.specs.Scopes.{IsOuter}
use Rattle.protox_scopes.specs.declared.kind.Kind.TheVariants.{Member}
use Rattle.protox_name_tree.specs.declared.nodes.Node.{Node}
use Rattle.protox_name_tree.specs.Keys.{key_of, kinds_of}
use Rattle.protox_name_tree.specs.Sound.{IsSound}
use Rattle.protox_name_tree.specs.Tree.{AreTreeNames, name_at_place, place_of_name}
use Rattle.protox_name_tree.proofs.FullNames.{is_tree, outer_place}
use Rattle.protox_name_tree.proofs.Numbering.{none_if_never}

pub empty_scope : (scope : List ℕ) → (length scope == 0) ≡ true → scope ≡ []
empty_scope [] h = refl
empty_scope (byte ∷ scope) h = absurd (omega (arith, (Decides-eqb (length (byte ∷ scope)) 0).0 h))

pub some_scope : (scope : List ℕ) → (length scope == 0) ≡ false → scope ≢ []
some_scope scope h empty = false≢true (sym h ∙ ap (λ s. length s == 0) empty)

-- in a scope that the tree doesn't have, nothing has a name
pub none_within : (names : List (List ℕ)) (scope name : List ℕ) → AreTreeNames names → scope ≢ [] → place_of_name names scope ≡ None → None ≡ place_of_name names (within scope name)
none_within names scope name tree some none =
    sym (none_if_never (place_of_name names (within scope name)) (λ n found. false≢true (sym (ap is_some none) ∙ (is_tree names tree).around scope name n some found)))

-- what is found under a scope's name has this name
pub name_of_found : (names : List (List ℕ)) (scope : List ℕ) (n : ℕ) → AreTreeNames names → place_of_name names scope ≡ Some n → name_at_place names n ≡ scope
name_of_found names scope n tree found = (is_tree names tree).named scope n found

kind_past : (nodes : List Node) (n : ℕ) → slice_get nodes n ≡ None → Member ≡ get_or (kinds_of nodes) n Member
kind_past nodes n none =
    ap (λ node. unwrap_or (option_map (λ m. m.kind) node) Member) (sym none)
    ∙ ap (λ kind. unwrap_or kind Member) (sym (slice_get-map (λ m. m.kind) nodes n))
    ∙ unwrap_or-slice_get (kinds_of nodes) n Member

-- a number that no node has
pub no_kind : (nodes : List Node) (n : ℕ) (found : Option Node) → found ≡ slice_get nodes n → found ≡ None → Member ≡ get_or (kinds_of nodes) n Member
no_kind nodes n found is none = kind_past nodes n (sym is ∙ none)

pub past_if_none : {X : Type 0} (xs : List X) (n : ℕ) → slice_get xs n ≡ None → length xs ≤ n
past_if_none xs n none =
    elim (slice_get_cases xs n).1 [
      | inl within ↦ absurd (none-some within.0 (sym none ∙ within.2))
      | inr past ↦ past.0
    ]

module _ (texts : List (List ℕ)) (nodes : List Node) (names : List (List ℕ)) (sound : IsSound texts (map key_of nodes) names) (n : ℕ) where
  pub no_outer : slice_get nodes n ≡ None → scopes (name_at_place names n) ≡ []
  no_outer none =
      ap scopes (sym (unwrap_or-slice_get names n []) ∙ ap (λ name. unwrap_or name []) (slice_get_past names n (omega (arith, past_if_none nodes n none, sound.as_many, length-map nodes key_of))))

  pub outer_of : (node : Node) → slice_get nodes n ≡ Some node → IsOuter (name_at_place names) n node.place
  outer_of node at =
      let here = sound.node n (key_of node) (slice_get-map key_of nodes n ∙ ap (option_map key_of) at) in
      subst (λ full. MatchOption node.place (scopes full ≡ []) (λ o. scopes full ≡ name_at_place names o ∷ scopes (name_at_place names o)))
      (sym (get_or_from_slice_get names n _ [] here.full_name))
      (outer_place names node.place here.own sound.tree here.known (identifiers_are_one_part here.own here.identifier))
