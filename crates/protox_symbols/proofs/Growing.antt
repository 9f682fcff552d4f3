-- A table only grows: a scope of it keeps its number.
use Rattle.std.proofs.Common.{◌≡◌, ℕ, Bool, true, false, cond, List, [], ◌∷◌, ◌++◌, fold, length, map, Option, Some, None, is_some, refl, sym, ap, subst, ◌∙◌, arith, append-nil, append_assoc, length-append}
use Rattle.std.proofs.lemmas.List.{get_or_append_left}
use Rattle.protox_names.specs.Tree.{name_of_place}
use Rattle.protox_scopes.specs.declared.kind.Kind.{Kind}
use Rattle.protox_name_tree.specs.Tree.{IsKnown, Names, can_stand, name_at_place, number_of}
use Rattle.protox_walk.specs.Parts.{Declared}
use Rattle.protox_symbols.specs.Symbols.{Table}
use Rattle.protox_symbols.specs.Things.{Entry, entry_of, with_entry}
use Rattle.protox_symbols.specs.Scopes.{scope_name, with_declarations}

record IsLonger (names names' : List (List ℕ)) : Type 0 where
  more : List (List ℕ)
  is : names' ≡ names ++ more

same_names : (names : List (List ℕ)) → IsLonger names names
same_names names = record { more = []; is = sym (append-nil names) }

longer_by : (names : Names) (full_name : List ℕ) (kind : Kind) (stands found : Bool)
    → IsLonger names.full_names (cond stands (cond found names (record { full_names = names.full_names ++ full_name ∷ []; kinds = names.kinds ++ kind ∷ [] })) names).full_names
longer_by names full_name kind false found = same_names names.full_names
longer_by names full_name kind true true = same_names names.full_names
longer_by names full_name kind true false = record { more = full_name ∷ []; is = refl }

longer_with : (t : Table) (e : Entry) → IsLonger t.names.full_names (with_entry t e).names.full_names
longer_with t e = longer_by t.names e.full_name e.kind (can_stand t.names e.full_name) (is_some (number_of t.names e.full_name))

longer_still : (names names' names'' : List (List ℕ)) → IsLonger names names' → IsLonger names' names'' → IsLonger names names''
longer_still names names' names'' h k = record {
  more = h.more ++ k.more;
  is = k.is ∙ ap (λ l. l ++ k.more) h.is ∙ append_assoc names h.more k.more;
}

longer_with_all : (t : Table) (es : List Entry) → IsLonger t.names.full_names (fold with_entry t es).names.full_names
longer_with_all t [] = same_names t.names.full_names
longer_with_all t (e ∷ es) =
    longer_still t.names.full_names (with_entry t e).names.full_names (fold with_entry (with_entry t e) es).names.full_names (longer_with t e) (longer_with_all (with_entry t e) es)

known_in_longer : (names names' : List (List ℕ)) (scope : Option ℕ) → IsLonger names names' → IsKnown names scope → IsKnown names' scope
known_in_longer names names' None h known = tt
known_in_longer names names' (Some n) h known = omega (arith, ap length h.is, length-append names h.more, known)

named_in_longer : (names names' : List (List ℕ)) (scope : Option ℕ) → IsLonger names names' → IsKnown names scope → name_of_place (name_at_place names') scope ≡ name_of_place (name_at_place names) scope
named_in_longer names names' None h known = refl
named_in_longer names names' (Some n) h known = ap (λ l. name_at_place l n) h.is ∙ get_or_append_left names h.more [] n known

-- A scope is known still, under the same name.
pub record IsKept (t t' : Table) (scope : Option ℕ) : Type 0 where
  pub known : IsKnown t'.names.full_names scope
  pub named : scope_name t' scope ≡ scope_name t scope

kept_by : (t t' : Table) (scope : Option ℕ) → IsLonger t.names.full_names t'.names.full_names → IsKnown t.names.full_names scope → IsKept t t' scope
kept_by t t' scope h known = record {
  known = known_in_longer t.names.full_names t'.names.full_names scope h known;
  named = named_in_longer t.names.full_names t'.names.full_names scope h known;
}

pub kept_with : (t t' : Table) (e : Entry) (scope : Option ℕ) → t' ≡ with_entry t e → IsKnown t.names.full_names scope → IsKept t t' scope
kept_with t t' e scope is known = subst (λ u. IsKept t u scope) (sym is) (kept_by t (with_entry t e) scope (longer_with t e) known)

pub kept : (file : ℕ) (t t' : Table) (ds : List Declared) (scope : Option ℕ) → t' ≡ with_declarations file t ds → IsKnown t.names.full_names scope → IsKept t t' scope
unfolding with_declarations
kept file t t' ds scope is known =
    subst (λ u. IsKept t u scope) (sym is) (kept_by t (with_declarations file t ds) scope (longer_with_all t (map (entry_of file) ds)) known)
