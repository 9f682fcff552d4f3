-- A full name, cut at its last dot.
use Rattle.std.proofs.Common.{◌≡◌, ◌≢◌, ◌<◌, ◌≤◌, ◌+◌, ◌&&◌, ◌==◌, ℕ, Bool, true, false, List, [], ◌∷◌, ◌++◌, length, take, drop, Option, Some, None, MatchOption, Bor, is_some, lit<, refl, sym, ap, ◌∙◌}
use Rattle.std.specs.Str.Pattern.{RFindsChar}
use Rattle.std.specs.Str.{NoCharPasses}
use Rattle.std.proofs.lemmas.List.{append_assoc, take-append-drop}
use Rattle.std.proofs.lemmas.Str.Pattern.{NoCharPasses-char, drop_at_char}
use Rattle.std.proofs.Math.Seq.{drop-append-add}
use Rattle.protox_names.specs.Names.{is_identifier, is_one_part, scopes, within}
use Rattle.protox_names.proofs.Lemmas.{one_part, scopes_at_dot, scopes_of_one_part}
use Rattle.protox_name_tree.specs.Tree.{AreTreeNames, IsKnown, Names, can_stand, has_innermost, name_at, name_in, number_of, own_name}
use Rattle.protox_name_tree.proofs.FullNames.{found_known, known_name, known_some}
use Rattle.protox_name_tree.proofs.Missing.{no_odd_end, no_odd_name, none_behind}
use Rattle.protox_name_tree.proofs.Outwards.{name_of_found}

no_char : (name : List ℕ) → NoCharPasses (λ d. d == 46) name → is_one_part name ≡ true
no_char name none = one_part name (λ i below. NoCharPasses-char 46 name i none (lit< tt) below)

pub record IsCutAtLast (name scope own : List ℕ) : Type 0 where
  pub whole : name ≡ scope ++ 46 ∷ own
  pub one : is_one_part own ≡ true

-- what `rsplit_once` says
pub cut_last : (name : List ℕ) (r : Option (Bor (List ℕ) × Bor (List ℕ))) → MatchOption r (RFindsChar 46 name None) (λ x. (i : ℕ) × (j : ℕ) × RFindsChar 46 name (Some (i, j)) × (x.0.now ≡ take i name) × (x.1.now ≡ drop j name) × (i ≤ j) × (length x.0.now ≡ i) × (length x.1.now + j ≡ length name)) → MatchOption r (scopes name ≡ []) (λ x. IsCutAtLast name x.0.now x.1.now)
cut_last name None none = scopes_of_one_part name (no_char name none)
cut_last name (Some x) (i, j, at, before, after, order, front, back) = record {
  whole =
      sym (take-append-drop i name) ∙ ap (λ l. take i name ++ l) (drop_at_char 46 name i j at.1 (lit< tt))
      ∙ ap (λ l. l ++ 46 ∷ drop j name) (sym before) ∙ ap (λ l. x.0.now ++ 46 ∷ l) (sym after);
  one = ap is_one_part after ∙ no_char (drop j name) at.0;
}

-- what `rsplit_once` says where it finds no dot
pub uncut : (name : List ℕ) → RFindsChar 46 name None → is_one_part name ≡ true
uncut name none = no_char name none

-- A name in a scope is cut where the name is.
pub cut_within : (around name scope own : List ℕ) → IsCutAtLast name scope own → IsCutAtLast (within around name) (within around scope) own
cut_within [] name scope own at = at
cut_within (byte ∷ around) name scope own at = record {
  whole = ap (λ l. (byte ∷ around) ++ 46 ∷ l) at.whole ∙ sym (append_assoc (byte ∷ around) (46 ∷ scope) (46 ∷ own));
  one = at.one;
}

pub stands_alone : (tree : Names) (name : List ℕ) → scopes name ≡ [] → can_stand tree name ≡ is_identifier name
stands_alone tree name h = ap (λ s. has_innermost tree s && is_identifier (own_name name s)) h

pub stands_in : (tree : Names) (name scope own : List ℕ) → IsCutAtLast name scope own → can_stand tree name ≡ (is_some (number_of tree scope) && is_identifier own)
stands_in tree name scope own at =
    ap (λ s. has_innermost tree s && is_identifier (own_name name s)) (ap scopes at.whole ∙ scopes_at_dot scope own at.one)
    ∙ ap (λ o. is_some (number_of tree scope) && is_identifier o) (ap (drop (length scope + 1)) at.whole ∙ drop-append-add scope (46 ∷ own) 1)

pub no_scope : (tree : Names) (name scope own : List ℕ) → IsCutAtLast name scope own → number_of tree scope ≡ None → can_stand tree name ≡ false
no_scope tree name scope own at none = stands_in tree name scope own at ∙ ap (λ found. is_some found && is_identifier own) none

pub in_scope : (tree : Names) (name scope own : List ℕ) (place : ℕ) (answer : Bool) → IsCutAtLast name scope own → number_of tree scope ≡ Some place → is_identifier own ≡ answer → can_stand tree name ≡ answer
in_scope tree name scope own place answer at found is =
    stands_in tree name scope own at ∙ ap (λ f. is_some f && is_identifier own) found ∙ is

within_some : (scope own : List ℕ) → scope ≢ [] → within scope own ≡ scope ++ 46 ∷ own
within_some [] own some = absurd (some refl)
within_some (byte ∷ scope) own some = refl

-- the scope's number and the own name make the full name
pub whole_name : (tree : Names) (name scope own : List ℕ) (place : ℕ) → AreTreeNames tree.full_names → IsCutAtLast name scope own → number_of tree scope ≡ Some place → name_in tree (Some place) own ≡ name
whole_name tree name scope own place names at found =
    within_some (name_at tree place) own (known_some tree.full_names place names (found_known tree.full_names scope place found))
    ∙ ap (λ s. s ++ 46 ∷ own) (name_of_found tree.full_names scope place names found) ∙ sym at.whole

-- what has a name without dots in a place
cut_in_place : (tree : Names) (n : ℕ) (name : List ℕ) → AreTreeNames tree.full_names → n < length tree.full_names → is_one_part name ≡ true → IsCutAtLast (name_in tree (Some n) name) (name_at tree n) name
cut_in_place tree n name names known one = record {
  whole = within_some (name_at tree n) name (known_some tree.full_names n names known);
  one = one;
}

pub stands_in_place : (tree : Names) (place : Option ℕ) (name : List ℕ) → AreTreeNames tree.full_names → IsKnown tree.full_names place → is_one_part name ≡ true → can_stand tree (name_in tree place name) ≡ is_identifier name
stands_in_place tree None name names known one = stands_alone tree name (scopes_of_one_part name one)
stands_in_place tree (Some n) name names known one =
    in_scope tree (name_in tree (Some n) name) (name_at tree n) name n (is_identifier name) (cut_in_place tree n name names known one)
    (names.numbered.number_of (name_at tree n) n (known_name tree.full_names n known)) refl

-- ---- what isn't in the tree

pub none_with_end : (tree : Names) (name scope own : List ℕ) → AreTreeNames tree.full_names → IsCutAtLast name scope own → is_identifier own ≡ false → number_of tree name ≡ None
none_with_end tree name scope own names at odd =
    ap (number_of tree) at.whole ∙ no_odd_end tree.full_names scope own names at.one odd

pub none_in_place : (tree : Names) (place : Option ℕ) (name : List ℕ) → AreTreeNames tree.full_names → IsKnown tree.full_names place → is_one_part name ≡ true → is_identifier name ≡ false → number_of tree (name_in tree place name) ≡ None
none_in_place tree None name names known one odd = no_odd_name tree.full_names name names one odd
none_in_place tree (Some n) name names known one odd =
    none_with_end tree (name_in tree (Some n) name) (name_at tree n) name names (cut_in_place tree n name names known one) odd

pub none_in_scope : (tree : Names) (name scope own : List ℕ) → AreTreeNames tree.full_names → IsCutAtLast name scope own → number_of tree scope ≡ None → number_of tree name ≡ None
none_in_scope tree name scope own names at none =
    ap (number_of tree) at.whole ∙ none_behind tree.full_names scope own names none
