-- One more name in a tree.
use Rattle.std.proofs.Common.{◌≡◌, ◌⊎◌, inl, inr, ℕ, suc, true, List, [], ◌∷◌, ◌++◌, length, fold, Option, Some, None, refl, sym, ap, subst, ◌∙◌, arith, length-append}
use Rattle.std.specs.List.{All, AllPass, Contains, slice_get}
use Rattle.std.proofs.lemmas.List.{get_or_append_left}
use Rattle.std.proofs.lemmas.List.Elements.{All-append, All-cons, All-nil, All-weaker, Contains-append_left}
use Rattle.std.proofs.lemmas.List.Sums.{fold-append}
use Rattle.std.proofs.lemmas.Option.{get_or_from_slice_get, none-some, same_Some, slice_get_within}
use Rattle.protox_names.specs.Names.{is_identifier, is_one_part, parts, scopes, within}
use Rattle.protox_names.specs.Tree.{name_of_place}
use Rattle.protox_names.proofs.Lemmas.{identifiers_are_one_part, parts_of_joined, parts_within}
use Rattle.protox_names.proofs.Lemmas.{scopes_of_one_part, scopes_within}
use Rattle.protox_name_tree.specs.Keys.{name_of_key, names_of}
use Rattle.protox_name_tree.specs.Sound.{IsNode, IsSound}
use Rattle.protox_name_tree.specs.Tree.{AreTreeNames, IsKnown, name_at_place, place_of_name}
use Rattle.protox_name_tree.proofs.FullNames.{all_at, contains_at, found_name, known_name, known_some, place_of_single}
use Rattle.protox_name_tree.proofs.Numbering.{slice_get-append, slice_get-last, slice_get-push}

abbrev Key : Type 0
Key = Option ℕ × ℕ

-- ---- the names of the nodes

fold_same : (f g : List (List ℕ) → Key → List (List ℕ)) (keys : List Key) → ((n : ℕ) (key : Key) → slice_get keys n ≡ Some key → (before : List (List ℕ)) → f before key ≡ g before key) → (before : List (List ℕ)) → fold f before keys ≡ fold g before keys
fold_same f g [] same before = refl
fold_same f g (key ∷ keys) same before =
    ap (λ b. fold f b keys) (same 0 key refl before) ∙ fold_same f g keys (λ n k h. same (suc n) k h) (g before key)

-- more texts change no name
pub names_kept : (texts more : List (List ℕ)) (keys : List Key) (names : List (List ℕ)) → ((n : ℕ) (key : Key) → slice_get keys n ≡ Some key → IsNode texts names n key) → names_of (texts ++ more) keys ≡ names_of texts keys
names_kept texts more keys names nodes =
    fold_same (λ before key. before ++ name_of_key (texts ++ more) before key ∷ []) (λ before key. before ++ name_of_key texts before key ∷ []) keys
    (λ n key h before. ap (λ own. before ++ within (name_of_place (name_at_place before) key.0) own ∷ [])
    (get_or_append_left texts more [] key.1 (slice_get_within texts key.1 (nodes n key h).own (nodes n key h).text))) []

pub names_pushed : (texts : List (List ℕ)) (keys : List Key) (place : Option ℕ) (text : ℕ) (name : List ℕ) → slice_get texts text ≡ Some name → names_of texts (keys ++ (place, text) ∷ []) ≡ names_of texts keys ++ within (name_of_place (name_at_place (names_of texts keys)) place) name ∷ []
names_pushed texts keys place text name is =
    fold-append (λ before key. before ++ name_of_key texts before key ∷ []) [] keys ((place, text) ∷ [])
    ∙ ap (λ own. names_of texts keys ++ within (name_of_place (name_at_place (names_of texts keys)) place) own ∷ []) (get_or_from_slice_get texts text name [] is)

-- ---- one more text

node_kept : (texts more names : List (List ℕ)) (n : ℕ) (key : Key) → IsNode texts names n key → IsNode (texts ++ more) names n key
node_kept texts more names n key node = record {
  own = node.own;
  text = slice_get-append texts more key.1 node.own node.text;
  identifier = node.identifier;
  known = node.known;
  full_name = node.full_name;
}

pub sound_kept : (texts more : List (List ℕ)) (keys : List Key) (names : List (List ℕ)) → IsSound texts keys names → IsSound (texts ++ more) keys names
sound_kept texts more keys names sound = record {
  as_many = sound.as_many;
  node = λ n key h. node_kept texts more names n key (sound.node n key h);
  tree = sound.tree;
}

-- ---- one more full name

-- a known place keeps its name
known_kept : (names more : List (List ℕ)) (place : Option ℕ) → IsKnown names place → IsKnown (names ++ more) place
known_kept names more None known = tt
known_kept names more (Some n) known = omega (arith, known, length-append names more)

pub place_kept : (names more : List (List ℕ)) (place : Option ℕ) → IsKnown names place → name_of_place (name_at_place (names ++ more)) place ≡ name_of_place (name_at_place names) place
place_kept names more None known = refl
place_kept names more (Some n) known = get_or_append_left names more [] n known

alone_parts : (name : List ℕ) → is_one_part name ≡ true → parts name ≡ name ∷ []
alone_parts name one = parts_of_joined (name ∷ []) (omega arith) (All-cons (λ p. is_one_part p ≡ true) name [] one (All-nil (λ p. is_one_part p ≡ true)))

abbrev HasIdentifiers : List ℕ → Type 0
HasIdentifiers name = AllPass is_identifier (parts name)

module _ (names : List (List ℕ)) (tree : AreTreeNames names) (name : List ℕ) (identifier : is_identifier name ≡ true) where
  own_parts : HasIdentifiers name
  own_parts =
      subst (AllPass is_identifier) (sym (alone_parts name (identifiers_are_one_part name identifier)))
      (All-cons (λ p. is_identifier p ≡ true) name [] identifier (All-nil (λ p. is_identifier p ≡ true)))

  parts_pushed : (place : Option ℕ) → IsKnown names place → HasIdentifiers (within (name_of_place (name_at_place names) place) name)
  parts_pushed None known = own_parts
  parts_pushed (Some n) known =
      let scope = name_at_place names n in
      subst (AllPass is_identifier) (sym (parts_within scope name (known_some names n tree known)))
      (All-append (λ p. is_identifier p ≡ true) (parts scope) (parts name) (all_at HasIdentifiers names n scope tree.identifiers (known_name names n known)) own_parts)

  scopes_pushed : (place : Option ℕ) → IsKnown names place → All (Contains names) (scopes (within (name_of_place (name_at_place names) place) name))
  scopes_pushed None known =
      subst (All (Contains names)) (sym (scopes_of_one_part name (identifiers_are_one_part name identifier))) (All-nil (Contains names))
  scopes_pushed (Some n) known =
      let scope = name_at_place names n in
      subst (All (Contains names)) (sym (scopes_within scope name (known_some names n tree known) (identifiers_are_one_part name identifier)))
      (All-cons (Contains names) scope (scopes scope) (contains_at names n scope (known_name names n known))
      (all_at (λ each. All (Contains names) (scopes each)) names n scope tree.closed (known_name names n known)))

contains_kept : (names more : List (List ℕ)) (around : List (List ℕ)) → All (Contains names) around → All (Contains (names ++ more)) around
contains_kept names more around all = All-weaker (Contains names) (Contains (names ++ more)) (λ scope has. Contains-append_left names more scope has) around all

module _ (names : List (List ℕ)) (full : List ℕ) (tree : AreTreeNames names) (fresh : place_of_name names full ≡ None) where
  -- the new name stood nowhere before
  not_before : (n : ℕ) (each : List ℕ) → slice_get names n ≡ Some each → full ≡ each → ⊥
  not_before n each at same = none-some n (sym fresh ∙ tree.numbered.number_of full n (at ∙ ap (λ e. Some e) (sym same)))

  in_one_place : (name : List ℕ) (m n : ℕ) → (slice_get names m ≡ Some name) ⊎ ((m ≡ length names) × (full ≡ name)) → (slice_get names n ≡ Some name) ⊎ ((n ≡ length names) × (full ≡ name)) → m ≡ n
  in_one_place name m n (inl at) (inl at') = same_Some m n (sym (tree.numbered.number_of name m at) ∙ tree.numbered.number_of name n at')
  in_one_place name m n (inl at) (inr last) = absurd (not_before m name at last.1)
  in_one_place name m n (inr last) (inl at) = absurd (not_before n name at last.1)
  in_one_place name m n (inr last) (inr last') = last.0 ∙ sym last'.0

  pub tree_pushed : HasIdentifiers full → All (Contains names) (scopes full) → AreTreeNames (names ++ full ∷ [])
  tree_pushed identifiers around = record {
    numbered = record {
      key_at = λ name n found. found_name (names ++ full ∷ []) name n found;
      number_of = λ name n at. place_of_single (names ++ full ∷ []) name n at (λ m at'. in_one_place name m n (slice_get-push names full m name at') (slice_get-push names full n name at));
    };
    identifiers = All-append HasIdentifiers names (full ∷ []) tree.identifiers (All-cons HasIdentifiers full [] identifiers (All-nil HasIdentifiers));
    closed =
        let IsClosed : List ℕ → Type 0 = λ name. All (Contains (names ++ full ∷ [])) (scopes name) in
        All-append IsClosed names (full ∷ [])
        (All-weaker (λ name. All (Contains names) (scopes name)) IsClosed (λ name all. contains_kept names (full ∷ []) (scopes name) all) names tree.closed)
        (All-cons IsClosed full [] (contains_kept names (full ∷ []) (scopes full) around) (All-nil IsClosed));
  }

-- ---- one more node

module _ (texts : List (List ℕ)) (keys : List Key) (names : List (List ℕ)) (sound : IsSound texts keys names) (place : Option ℕ) (known : IsKnown names place) (text : ℕ) (name : List ℕ) (is : slice_get texts text ≡ Some name) (identifier : is_identifier name ≡ true) where
  abbrev pub added : List ℕ
  added = within (name_of_place (name_at_place names) place) name

  -- the key is new
  pub no_such_key : place_of_name names added ≡ None → (n : ℕ) → slice_get keys n ≡ Some (place, text) → ⊥
  no_such_key fresh n at =
      let node = sound.node n (place, text) at in
      none-some n (sym fresh ∙ sound.tree.numbered.number_of added n (node.full_name ∙ ap (λ own. Some (within (name_of_place (name_at_place names) place) own)) (same_Some node.own name (sym node.text ∙ is))))

  old_node : (n : ℕ) (key : Key) → IsNode texts names n key → IsNode texts (names ++ added ∷ []) n key
  old_node n key node = record {
    own = node.own;
    text = node.text;
    identifier = node.identifier;
    known = known_kept names (added ∷ []) key.0 node.known;
    full_name = slice_get-append names (added ∷ []) n _ node.full_name ∙ ap (λ scope. Some (within scope node.own)) (sym (place_kept names (added ∷ []) key.0 node.known));
  }

  new_node : (n : ℕ) (key : Key) → n ≡ length keys → (place, text) ≡ key → IsNode texts (names ++ added ∷ []) n key
  new_node n key last same =
      subst (IsNode texts (names ++ added ∷ []) n) same (record {
        own = name;
        text = is;
        identifier = identifier;
        known = known_kept names (added ∷ []) place known;
        full_name =
            ap (slice_get (names ++ added ∷ [])) (last ∙ sound.as_many) ∙ slice_get-last names added
            ∙ ap (λ scope. Some (within scope name)) (sym (place_kept names (added ∷ []) place known));
      })

  pub sound_pushed : place_of_name names added ≡ None → IsSound texts (keys ++ (place, text) ∷ []) (names ++ added ∷ [])
  sound_pushed fresh = record {
    as_many = omega (arith, sound.as_many, length-append keys ((place, text) ∷ []), length-append names (added ∷ []));
    node = λ n key h. elim (slice_get-push keys (place, text) n key h) [
      | inl before ↦ old_node n key (sound.node n key before)
      | inr at ↦ new_node n key at.0 at.1
    ];
    tree = tree_pushed names added sound.tree fresh (parts_pushed names sound.tree name identifier place known) (scopes_pushed names sound.tree name identifier place known);
  }
