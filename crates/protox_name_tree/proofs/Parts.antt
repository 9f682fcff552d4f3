-- What a node stands in, and its own name; and full names from their parts.
use Rattle.std.proofs.Common.{◌≡◌, ◌≢◌, ◌≤◌, ◌<◌, ℕ, true, List, [], ◌∷◌, ◌++◌, map, Option, Some, None, Bor, refl, sym, ap, subst, ◌∙◌, append-nil, append_assoc, eqb}
use Rattle.std.specs.List.{slice_get}
use Rattle.std.specs.Option.{option_copied, option_eq, option_map}
use Rattle.std.proofs.lemmas.Bool.{eqb-true, false≢true}
use Rattle.std.proofs.lemmas.Bool.Decides.{Decides-eqb}
use Rattle.std.proofs.lemmas.Option.{get_or_from_slice_get, none-some, same_Some, slice_get-map, slice_get_within}
use Rattle.protox_names.proofs.Lemmas.{full_names_differ, identifiers_are_one_part}
use Rattle.protox_names.specs.Names.{is_identifier, within}
use Rattle.protox_names.specs.Tree.{name_of_place}
use Rattle.protox_name_tree.specs.declared.nodes.Node.{Node}
use Rattle.protox_name_tree.specs.Keys.{key_of, kinds_of, names_of}
use Rattle.protox_name_tree.specs.Sound.{IsNode, IsSound}
use Rattle.protox_name_tree.specs.Tree.{AreTreeNames, IsPart, Names, dotted, name_at, name_at_place, name_in, number_of, outwards}
use Rattle.protox_name_tree.proofs.FullNames.{known_name, same_place}

module _ (texts : List (List ℕ)) (nodes : List Node) (sound : IsSound texts (map key_of nodes) (names_of texts (map key_of nodes))) (n : ℕ) where
  abbrev names : List (List ℕ)
  names = names_of texts (map key_of nodes)

  here : (node : Node) → slice_get nodes n ≡ Some node → IsNode texts names n (key_of node)
  here node at = sound.node n (key_of node) (slice_get-map key_of nodes n ∙ ap (option_map key_of) at)

  -- the name of a node is among the texts
  pub has_text : {A : Type 0} (node : Node) (found : Option (Bor (List ℕ))) → slice_get nodes n ≡ Some node → option_copied found ≡ slice_get texts node.name → found ≡ None → A
  has_text node found at is none = absurd (none-some (here node at).own (ap option_copied (sym none) ∙ is ∙ (here node at).text))

  pub part_of_node : (node : Node) (found : Option (Bor (List ℕ))) (own : Bor (List ℕ)) → slice_get nodes n ≡ Some node → option_copied found ≡ slice_get texts node.name → found ≡ Some own
      → IsPart (record { full_names = names; kinds = kinds_of nodes }) n node.place own.now
  part_of_node node found own at is some =
      let node-here = here node at in
      let same : node-here.own ≡ own.now = same_Some node-here.own own.now (sym (node-here.text) ∙ sym is ∙ ap option_copied some) in
      record {
        within_tree = slice_get_within names n _ node-here.full_name;
        known = node-here.known;
        identifier = subst (λ name. is_identifier name ≡ true) same node-here.identifier;
        full_name =
            get_or_from_slice_get names n _ [] node-here.full_name
            ∙ ap (within (name_of_place (name_at_place names) node.place)) same;
      }

-- ---- full names from their parts

pub some_identifier : (name : List ℕ) → is_identifier name ≡ true → name ≢ []
some_identifier [] is empty = false≢true is
some_identifier (byte ∷ name) is empty = cc

pub dotted_within : (scope own : List ℕ) → own ≢ [] → dotted (within scope own) ≡ dotted scope ++ 46 ∷ own
dotted_within [] [] some = absurd (some refl)
dotted_within [] (byte ∷ own) some = refl
dotted_within (byte ∷ scope) own some = refl

pub outwards_push : (parts : List (List ℕ)) (own : List ℕ) → outwards (parts ++ own ∷ []) ≡ 46 ∷ own ++ outwards parts
outwards_push [] own = sym (append-nil (46 ∷ own))
outwards_push (part ∷ parts) own = ap (λ front. front ++ 46 ∷ part) (outwards_push parts own) ∙ append_assoc (46 ∷ own) (outwards parts) (46 ∷ part)

-- one part further outwards
pub one_part_more : (tree : Names) (n : ℕ) (place : Option ℕ) (own : List ℕ) (parts : List (List ℕ)) → IsPart tree n place own → dotted (name_at tree n) ++ outwards parts ≡ dotted (name_of_place (name_at tree) place) ++ outwards (parts ++ own ∷ [])
one_part_more tree n place own parts part =
    ap (λ name. dotted name ++ outwards parts) part.full_name
    ∙ ap (λ front. front ++ outwards parts) (dotted_within (name_of_place (name_at tree) place) own (some_identifier own part.identifier))
    ∙ append_assoc (dotted (name_of_place (name_at tree) place)) (46 ∷ own) (outwards parts)
    ∙ ap (λ back. dotted (name_of_place (name_at tree) place) ++ back) (sym (outwards_push parts own))

-- a dot and the outermost name that is left, behind what was written
pub one_part_written : (made with_dot with_name whole : List ℕ) (parts rest : List (List ℕ)) (own : List ℕ) → parts ≡ rest ++ own ∷ [] → with_dot ≡ made ++ 46 ∷ [] → with_name ≡ with_dot ++ own → made ++ outwards parts ≡ whole → with_name ++ outwards rest ≡ whole
one_part_written made with_dot with_name whole parts rest own pop dot name before =
    ap (λ front. front ++ outwards rest) (name ∙ ap (λ front. front ++ own) dot ∙ append_assoc made (46 ∷ []) own)
    ∙ append_assoc made (46 ∷ own) (outwards rest)
    ∙ ap (λ back. made ++ back) (sym (outwards_push rest own) ∙ ap outwards (sym pop))
    ∙ before

-- the number of what stands in a place under a name
pub part_number : (tree : Names) (n : ℕ) (place : Option ℕ) (own : List ℕ) → AreTreeNames tree.full_names → IsPart tree n place own → Some n ≡ number_of tree (name_in tree place own)
part_number tree n place own names part =
    sym (names.numbered.number_of (name_in tree place own) n (known_name tree.full_names n part.within_tree ∙ ap (λ name. Some name) part.full_name))

pub same_place_told : (one other : Option ℕ) → option_eq eqb one other ≡ true → one ≡ other
same_place_told None None same = refl
same_place_told None (Some m) same = cc
same_place_told (Some n) None same = cc
same_place_told (Some n) (Some m) same = ap (λ number. Some number) (eqb-true n m same)

place_is_told : (place : Option ℕ) → option_eq eqb place place ≡ true
place_is_told None = refl
place_is_told (Some n) = (Decides-eqb n n).1 refl

pub place_told : (one other : Option ℕ) → one ≡ other → option_eq eqb one other ≡ true
place_told one other same = ap (option_eq eqb one) (sym same) ∙ place_is_told one

-- what has a number stands in one place, under one name
pub same_part : (tree : Names) (n : ℕ) (place other : Option ℕ) (own name : List ℕ) → AreTreeNames tree.full_names → IsPart tree n place own → IsPart tree n other name → (place ≡ other) × (own ≡ name)
same_part tree n place other own name names one two =
    let both = full_names_differ (name_of_place (name_at tree) place) (name_of_place (name_at tree) other) own name (identifiers_are_one_part own one.identifier) (identifiers_are_one_part name two.identifier) (sym one.full_name ∙ two.full_name) in
    (same_place tree.full_names place other names one.known two.known both.0, both.1)
