-- The scope that what was declared is, or that there is none.
use Rattle.std.proofs.Common.{◌≡◌, ◌≢◌, ◌==◌, ℕ, true, false, List, [], ◌∷◌, length, Option, Some, None, is_some, refl, sym, subst, ◌∙◌}
use Rattle.std.proofs.lemmas.Bool.{false≢true}
use Rattle.protox_name_tree.specs.Tree.{AreTreeNames, number_of}
use Rattle.protox_name_tree.proofs.Lemmas.{empty_scope, found_known, known_some, name_of_found}
use Rattle.protox_name_tree.proofs.Lemmas.{some_scope}
use Rattle.protox_walk.specs.Declarations.{full_name, text_of}
use Rattle.protox_symbols.specs.Symbols.{Table}
use Rattle.protox_symbols.specs.Scopes.{IsFoundScope, IsMissing, IsScopeOf, scope_name}
use Rattle.protox_symbols.proofs.Growing.{IsKept}

pub with_number : (t : Table) (name : List ℕ) (n : ℕ) → AreTreeNames t.names.full_names → number_of t.names name ≡ Some n → IsScopeOf t name (Some n)
with_number t name n tree found = record {
  known = found_known t.names.full_names name n found;
  named = name_of_found t.names.full_names name n tree found;
}

-- the scope of a part whose name was read first
pub scope_of_part : (t : Table) (scope : List ℕ) (read name : Option (List ℕ)) (found found' : Option (Option ℕ)) → read ≡ name → found ≡ found' → IsFoundScope t (full_name scope read) found → IsFoundScope t (full_name scope name) found'
scope_of_part t scope read name found found' same is h =
    subst (λ n. IsFoundScope t (full_name scope n) found') same (subst (IsFoundScope t (full_name scope read)) is h)

pub scope_of_name : (t : Table) (read name : List ℕ) (found found' : Option (Option ℕ)) → read ≡ name → found ≡ found' → IsFoundScope t read found → IsFoundScope t name found'
scope_of_name t read name found found' same is h = subst (λ n. IsFoundScope t n found') same (subst (IsFoundScope t read) is h)

-- the nameless scope
pub nameless : (t t' : Table) (scope : Option ℕ) (name : Option (List ℕ)) → is_some scope ≡ false → (length (text_of name) == 0) ≡ true → IsScopeOf t' (full_name (scope_name t scope) name) None
nameless t t' None name none empty = record { known = tt; named = sym (empty_scope (text_of name) empty) }
nameless t t' (Some n) name none empty = absurd (false≢true (sym none))

full_some : (scope : List ℕ) (name : Option (List ℕ)) → scope ≢ [] → full_name scope name ≢ []
full_some [] name some = absurd (some refl)
full_some (byte ∷ scope) name some = λ h. cc

-- A full name in a scope is not empty.
pub no_scope_in : (t t' : Table) (scope : Option ℕ) (name : Option (List ℕ)) → is_some scope ≡ true → IsKept t t' scope → AreTreeNames t'.names.full_names → number_of t'.names (full_name (scope_name t scope) name) ≡ None
    → IsMissing t' (full_name (scope_name t scope) name)
no_scope_in t t' None name some kept tree none = absurd (false≢true some)
no_scope_in t t' (Some n) name some kept tree none = record {
  tree = tree;
  some = full_some (scope_name t (Some n)) name (λ empty. known_some t'.names.full_names n tree kept.known (kept.named ∙ empty));
  none = none;
}

some_full : (t : Table) (scope : Option ℕ) (name : Option (List ℕ)) → is_some scope ≡ false → text_of name ≢ [] → full_name (scope_name t scope) name ≢ []
some_full t None name none some = some
some_full t (Some n) name none some = absurd (false≢true (sym none))

pub no_scope_of : (t t' : Table) (scope : Option ℕ) (name : Option (List ℕ)) → is_some scope ≡ false → (length (text_of name) == 0) ≡ false → AreTreeNames t'.names.full_names → number_of t'.names (full_name (scope_name t scope) name) ≡ None
    → IsMissing t' (full_name (scope_name t scope) name)
no_scope_of t t' scope name none some tree missing = record {
  tree = tree;
  some = some_full t scope name none (some_scope (text_of name) some);
  none = missing;
}
