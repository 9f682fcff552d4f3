-- A search in one scope, and in what it finds there.
use Rattle.std.proofs.Common.{◌≡◌, ◌≢◌, ◌||◌, ℕ, Bool, true, false, not, cond, List, [], ◌∷◌, ◌++◌, Option, Some, None, refl, sym, ap, ◌∙◌}
use Rattle.std.specs.List.{list_any}
use Rattle.std.specs.Option.{option_and_then}
use Rattle.std.proofs.lemmas.Bool.{true≢false}
use Rattle.std.proofs.lemmas.Option.{get_or_from_slice_get, none-some}
use Rattle.protox_names.specs.Names.{front, is_absolute, is_dot, is_one_part, within}
use Rattle.protox_names.proofs.Lemmas.{within_nests}
use Rattle.protox_name_tree.proofs.Lemmas.{found_name, none_within}
use Rattle.protox_name_tree.specs.Tree.{AreTreeNames, Names, name_at, name_in, number_of}
use Rattle.protox_name_tree.specs.Word.{Sought}
use Rattle.protox_scopes.specs.Scopes.{fits, holds_names, step, step_from}
use Rattle.protox_scopes.specs.declared.kind.Kind.{Kind}
use Rattle.protox_scopes.specs.declared.kind.Wanted.{Wanted}
use Rattle.protox_scopes.specs.declared.step.Step.TheVariants.{Ends, GoesOn}

-- ---- a name with a dot

or_true : (test : Bool) → (test || true) ≡ true
or_true true = refl
or_true false = refl

some_dot : (part rest : List ℕ) → list_any is_dot (part ++ 46 ∷ rest) ≡ true
some_dot [] rest = refl
some_dot (byte ∷ part) rest = ap (λ test. is_dot byte || test) (some_dot part rest) ∙ or_true (is_dot byte)

-- a name that is cut at a dot has more than one part
pub more_parts : (name part rest : List ℕ) → name ≡ part ++ 46 ∷ rest → is_one_part name ≡ false
more_parts name part rest is = ap is_one_part is ∙ ap not (some_dot part rest)

some_byte : (byte : ℕ) (rest : List ℕ) → byte ∷ rest ≢ []
some_byte byte rest h = cc

nested : (scope part rest : List ℕ) → is_absolute (part ++ 46 ∷ rest) ≡ false → within (within scope part) rest ≡ within scope (part ++ 46 ∷ rest)
nested scope [] rest relative = absurd (true≢false relative)
nested scope (byte ∷ part) rest relative = within_nests scope (byte ∷ part) rest (some_byte byte part)

-- In what has the first part of a name, the rest has the full name that the name has in the scope.
pub rest_within : (names : Names) (scope name rest : List ℕ) (thing : ℕ) → is_absolute name ≡ false → name ≡ front name ++ 46 ∷ rest → number_of names (within scope (front name)) ≡ Some thing → within (name_at names thing) rest ≡ within scope name
rest_within names scope name rest thing relative is found =
    ap (λ full. within full rest) (get_or_from_slice_get names.full_names thing (within scope (front name)) [] (found_name names.full_names (within scope (front name)) thing found))
    ∙ nested scope (front name) rest (sym (ap is_absolute is) ∙ relative)
    ∙ ap (within scope) (sym is)

-- ---- what is seen

if_kept : (test : Bool) (one other : ℕ) → cond test (Some one) None ≡ Some other → Some one ≡ Some other
if_kept true one other h = h
if_kept false one other h = absurd (none-some other h)

-- what is seen was found
pub seen_is_found : (is_seen : ℕ → Bool) (found : Option ℕ) (thing : ℕ) → option_and_then (λ n. cond (is_seen n) (Some n) None) found ≡ Some thing → found ≡ Some thing
seen_is_found is_seen None thing h = h
seen_is_found is_seen (Some n) thing h = if_kept (is_seen n) n thing h

-- ---- one scope

-- what is found under the first part
pub first_found : (sought : Sought) (names : Names) (scope : ℕ) (name : List ℕ) (found : Option ℕ) → sought.tree ≡ names → sought.name ≡ front name → found ≡ number_of sought.tree (name_in sought.tree (Some scope) sought.name) → found ≡ number_of names (within (name_at names scope) (front name))
first_found sought names scope name found same first is =
    is ∙ ap (λ tree. number_of tree (name_in tree (Some scope) sought.name)) same
    ∙ ap (λ part. number_of names (name_in names (Some scope) part)) first

-- the search ends in what has the first part
pub ends_inside : (kind : ℕ → Kind) (seen : List ℕ → Option ℕ) (wanted : Wanted) (name scope : List ℕ) (thing : ℕ) (found : Option ℕ) → seen (within scope (front name)) ≡ Some thing → is_one_part name ≡ false → holds_names (kind thing) ≡ true → found ≡ seen (within scope name) → Ends found ≡ step kind seen wanted name scope
ends_inside kind seen wanted name scope thing found first more holds is =
    let inside = seen (within scope name) in
    ap Ends is
    ∙ sym (ap (step_from kind seen wanted name scope) first
    ∙ ap (λ one. cond one (cond (fits wanted (kind thing)) (Ends (Some thing)) GoesOn) (cond (holds_names (kind thing)) (Ends inside) GoesOn)) more
    ∙ ap (λ holds. cond holds (Ends inside) GoesOn) holds)

-- ---- the nameless scope

-- what is found under the first part
pub found_at_top : (sought : Sought) (names : Names) (name : List ℕ) (found : Option ℕ) → sought.tree ≡ names → sought.name ≡ front name → found ≡ number_of sought.tree (name_in sought.tree None sought.name) → found ≡ number_of names (front name)
found_at_top sought names name found same first is =
    is ∙ ap (λ tree. number_of tree sought.name) same ∙ ap (number_of names) first

-- the first part of a name with a dot, unless it begins with one
some_front : (name rest : List ℕ) → is_absolute name ≡ false → name ≡ front name ++ 46 ∷ rest → front name ≢ []
some_front name rest relative is none =
    true≢false (sym (ap is_absolute (is ∙ ap (λ part. part ++ 46 ∷ rest) none)) ∙ relative)

within_front : (name rest : List ℕ) → is_absolute name ≡ false → name ≡ front name ++ 46 ∷ rest → within (front name) rest ≡ name
within_front name rest relative is = nested [] (front name) rest (sym (ap is_absolute is) ∙ relative) ∙ sym is

-- without what has the first part, nothing has the name
pub none_at_top : (names : Names) (name rest : List ℕ) → AreTreeNames names.full_names → is_absolute name ≡ false → name ≡ front name ++ 46 ∷ rest → number_of names (front name) ≡ None → None ≡ number_of names name
none_at_top names name rest tree relative is none =
    none_within names.full_names (front name) rest tree (some_front name rest relative is) none
    ∙ ap (number_of names) (within_front name rest relative is)
