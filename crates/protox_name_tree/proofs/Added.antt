-- What one addition makes of a tree.
use Rattle.std.proofs.Common.{◌≡◌, ℕ, true, List, [], ◌∷◌, ◌++◌, length, map, Option, Some, None, Result, Ok, Err, OnErr, cond, is_some, sym, ap, subst, ◌∙◌}
use Rattle.std.specs.List.{slice_get}
use Rattle.std.proofs.lemmas.List.{length-map, map-append}
use Rattle.protox_names.specs.Names.{is_identifier, within}
use Rattle.protox_names.specs.Tree.{name_of_place}
use Rattle.protox_scopes.specs.declared.kind.Kind.{Kind}
use Rattle.protox_name_tree.specs.declared.nodes.Node.{Node}
use Rattle.protox_name_tree.specs.Keys.{key_of, kinds_of, names_of}
use Rattle.protox_name_tree.specs.Sound.{IsSound}
use Rattle.protox_name_tree.specs.Tree.{IsKnown, Names, name_at_place, name_in, number_of, place_of_name, with_name}
use Rattle.protox_names.proofs.Lemmas.{identifiers_are_one_part}
use Rattle.protox_name_tree.proofs.Children.{child_some}
use Rattle.protox_name_tree.proofs.Growing.{names_kept, names_pushed, no_such_key, sound_kept, sound_pushed}
use Rattle.protox_name_tree.proofs.Numbering.{slice_get-last}

-- what holds, holds after an error
pub on_err : {T E P : Type 0} (r : Result T E) → P → OnErr r P
on_err (Ok x) holds = tt
on_err (Err e) holds = holds

-- a tree, by its texts and nodes
abbrev pub seen : List (List ℕ) → List Node → Names
seen texts nodes = record { full_names = names_of texts (map key_of nodes); kinds = kinds_of nodes }

abbrev pub AreSound : List (List ℕ) → List Node → Type 0
AreSound texts nodes = IsSound texts (map key_of nodes) (names_of texts (map key_of nodes))

module _ (texts texts' more : List (List ℕ)) (nodes : List Node) (sound : AreSound texts nodes) (grown : texts' ≡ texts ++ more) where
  abbrev keys : List (Option ℕ × ℕ)
  keys = map key_of nodes

  abbrev names : List (List ℕ)
  names = names_of texts keys

  same_names : names_of texts' keys ≡ names
  same_names = ap (λ t. names_of t keys) grown ∙ names_kept texts more keys names sound.node

  -- more texts change nothing
  pub same_seen : seen texts' nodes ≡ seen texts nodes
  same_seen = ap (λ n. record { full_names = n; kinds = kinds_of nodes }) same_names

  still_sound : IsSound texts' keys names
  still_sound = subst (λ t. IsSound t keys names) (sym grown) (sound_kept texts more keys names sound)

  pub sound_with_texts : AreSound texts' nodes
  sound_with_texts = subst (IsSound texts' keys) (sym same_names) still_sound

  -- what has the name in the place, if anything has it, is found by its key
  pub child_found : (tree : Names) → seen texts nodes ≡ tree → (place : Option ℕ) → IsKnown tree.full_names place → (name : List ℕ) → is_identifier name ≡ true → (text : ℕ) → slice_get texts' text ≡ Some name → ((other : ℕ) → slice_get texts' other ≡ Some name → other ≡ text) → (found : Option ℕ) → ((n : ℕ) → (found ≡ Some n → slice_get keys n ≡ Some (place, text)) × (slice_get keys n ≡ Some (place, text) → found ≡ Some n)) → found ≡ number_of tree (name_in tree place name)
  child_found tree view place known name identifier text is single found says =
      subst (λ t. found ≡ number_of t (name_in t place name)) view
      (child_some texts' keys names still_sound place (subst (λ t. IsKnown t.full_names place) (sym view) known) name (identifiers_are_one_part name identifier) text is single found says)

  -- the tree has the name already
  pub seen_with_old : (tree : Names) → seen texts nodes ≡ tree → (full : List ℕ) (kind : Kind) (n : ℕ) → number_of tree full ≡ Some n → seen texts' nodes ≡ with_name tree full kind
  seen_with_old tree view full kind n found =
      same_seen ∙ view ∙ sym (ap (λ f. cond (is_some f) tree (record { full_names = tree.full_names ++ full ∷ []; kinds = tree.kinds ++ kind ∷ [] })) found)

  module _ (tree : Names) (view : seen texts nodes ≡ tree) (place : Option ℕ) (known : IsKnown tree.full_names place) (name : List ℕ) (identifier : is_identifier name ≡ true) (missing : number_of tree (name_in tree place name) ≡ None) (text : ℕ) (is : slice_get texts' text ≡ Some name) where
    in_place : IsKnown names place
    in_place = subst (λ t. IsKnown t.full_names place) (sym view) known

    abbrev full : List ℕ
    full = within (name_of_place (name_at_place names) place) name

    fresh : place_of_name names full ≡ None
    fresh = subst (λ t. number_of t (name_in t place name) ≡ None) (sym view) missing

    pub no_such_node : (n : ℕ) → slice_get keys n ≡ Some (place, text) → ⊥
    no_such_node n at = no_such_key texts' keys names still_sound place in_place text name is identifier fresh n at

    module _ (kind : Kind) (nodes' : List Node) (pushed : nodes' ≡ nodes ++ record { place = place; name = text; kind = kind } ∷ []) where
      keys_pushed : map key_of nodes' ≡ keys ++ (place, text) ∷ []
      keys_pushed = ap (map key_of) pushed ∙ map-append key_of nodes (record { place = place; name = text; kind = kind } ∷ [])

      names_of_pushed : names_of texts' (map key_of nodes') ≡ names ++ full ∷ []
      names_of_pushed =
          ap (names_of texts') keys_pushed ∙ names_pushed texts' keys place text name is
          ∙ ap (λ n. n ++ within (name_of_place (name_at_place n) place) name ∷ []) same_names

      all_sound : IsSound texts' (keys ++ (place, text) ∷ []) (names ++ full ∷ [])
      all_sound = sound_pushed texts' keys names still_sound place in_place text name is identifier fresh

      pub sound_with_node : AreSound texts' nodes'
      sound_with_node =
          subst (λ k. IsSound texts' k (names_of texts' (map key_of nodes'))) (sym keys_pushed)
          (subst (IsSound texts' (keys ++ (place, text) ∷ [])) (sym names_of_pushed) all_sound)

      both_pushed : seen texts' nodes' ≡ record { full_names = names ++ full ∷ []; kinds = kinds_of nodes ++ kind ∷ [] }
      both_pushed =
          ap (λ n. record { full_names = n; kinds = kinds_of nodes' }) names_of_pushed
          ∙ ap (λ k. record { full_names = names ++ full ∷ []; kinds = k }) (ap kinds_of pushed ∙ map-append (λ n. n.kind) nodes (record { place = place; name = text; kind = kind } ∷ []))

      one_more : with_name (seen texts nodes) full kind ≡ record { full_names = names ++ full ∷ []; kinds = kinds_of nodes ++ kind ∷ [] }
      one_more = ap (λ found. cond (is_some found) (seen texts nodes) (record { full_names = names ++ full ∷ []; kinds = kinds_of nodes ++ kind ∷ [] })) fresh

      pub seen_with_node : seen texts' nodes' ≡ with_name tree (name_in tree place name) kind
      seen_with_node = both_pushed ∙ sym one_more ∙ ap (λ t. with_name t (name_in t place name) kind) view

      pub number_of_node : (n : ℕ) → n ≡ length nodes → number_of (seen texts' nodes') (name_in tree place name) ≡ Some n
      number_of_node n last =
          subst (λ t. number_of (seen texts' nodes') (name_in t place name) ≡ Some n) view
          (ap (λ all. place_of_name all full) names_of_pushed
          ∙ all_sound.tree.numbered.number_of full n
          (ap (slice_get (names ++ full ∷ [])) (last ∙ sym (length-map nodes key_of) ∙ sound.as_many) ∙ slice_get-last names full))
