-- Full names of declarations, and what can't stand in a table.
use Rattle.std.proofs.Common.{◌≡◌, ◌&&◌, not, ℕ, suc, ◌+◌, ◌<◌, false, cond, List, [], ◌∷◌, ◌++◌, get_or, length, Option, is_some, refl, sym, ap, ◌∙◌, append_assoc, arith}
use Rattle.std.specs.Prelude.{ℤ}
use Rattle.protox_names.specs.Names.{within}
use Rattle.protox_scopes.specs.declared.kind.Kind.{Kind}
use Rattle.protox_name_tree.specs.Tree.{can_stand, number_of, with_name}
use Rattle.protox_name_tree.proofs.Lemmas.{none_behind, none_stands_behind}
use Rattle.protox_walk.specs.Declarations.{At, Path, all_in, declared, full_name, nth, numbered, text_of}
use Rattle.protox_walk.specs.Parts.{Declared, Described}
use Rattle.protox_symbols.specs.Symbols.{Table, with_thing}
use Rattle.protox_symbols.specs.Things.{entry_of, kind_of, with_entry}
use Rattle.protox_symbols.specs.Scopes.{IsMissing, with_declarations}
use Rattle.protox_symbols.specs.declared.thing.Thing.{Thing}
use Rattle.protox_symbols.proofs.Folding.{both_added, none_added, one_added}

-- both words for a name in a scope
pub full_is_within : (scope : List ℕ) (name : Option (List ℕ)) → within scope (text_of name) ≡ full_name scope name
full_is_within [] name = refl
full_is_within (byte ∷ scope) name = sym (append_assoc (byte ∷ scope) (46 ∷ []) (text_of name))

-- an entry that is made of a name in a scope
pub entry_made : (t t' : Table) (scope text : List ℕ) (name : Option (List ℕ)) (kind : Kind) (file : ℕ) (made path : Path) → text ≡ text_of name → made ≡ path
    → t' ≡ with_thing t (within scope text) kind (record { file = file; path = made })
    → t' ≡ with_entry t (record { full_name = full_name scope name; kind = kind; thing = record { file = file; path = path } })
entry_made t t' scope text name kind file made path named at is =
    is ∙ ap (λ full. with_thing t full kind (record { file = file; path = made })) (ap (within scope) named ∙ full_is_within scope name)
    ∙ ap (λ p. with_thing t (full_name scope name) kind (record { file = file; path = p })) at

-- the same for a declaration, where its name is read first
pub entry_named : (t t' : Table) (scope : List ℕ) (read name : Option (List ℕ)) (file : ℕ) (path : Path) (part : Described) → read ≡ name
    → t' ≡ with_entry t (record { full_name = full_name scope read; kind = kind_of part; thing = record { file = file; path = path } })
    → t' ≡ with_entry t (entry_of file (declared path (full_name scope name) part))
entry_named t t' scope read name file path part same is =
    is ∙ ap (λ n. with_entry t (record { full_name = full_name scope n; kind = kind_of part; thing = record { file = file; path = path } })) same

-- what can't stand changes nothing
pub unchanged : (t : Table) (full_name : List ℕ) (kind : Kind) (thing : Thing) → can_stand t.names full_name ≡ false → with_thing t full_name kind thing ≡ t
unchanged t full_name kind thing h =
    ap (λ b. record {
      names = cond b (with_name t.names full_name kind) t.names;
      things = cond (b && not (is_some (number_of t.names full_name))) (t.things ++ thing ∷ []) t.things;
    }) h

-- ---- in a scope that isn't there

behind_full : (byte : ℕ) (scope : List ℕ) (name : Option (List ℕ)) → full_name (byte ∷ scope) name ≡ (byte ∷ scope) ++ 46 ∷ text_of name
behind_full byte scope name = append_assoc (byte ∷ scope) (46 ∷ []) (text_of name)

pub no_inner_scope : (t : Table) (scope : List ℕ) (name : Option (List ℕ)) → IsMissing t scope → IsMissing t (full_name scope name)
no_inner_scope t [] name missing = absurd (missing.some refl)
no_inner_scope t (byte ∷ scope) name missing = record {
  tree = missing.tree;
  some = λ h. cc;
  none = ap (number_of t.names) (behind_full byte scope name) ∙ none_behind t.names.full_names (byte ∷ scope) (text_of name) missing.tree missing.none;
}

none_in_missing : (t : Table) (scope : List ℕ) (name : Option (List ℕ)) → IsMissing t scope → can_stand t.names (full_name scope name) ≡ false
none_in_missing t [] name missing = absurd (missing.some refl)
none_in_missing t (byte ∷ scope) name missing =
    ap (can_stand t.names) (behind_full byte scope name) ∙ none_stands_behind t.names (byte ∷ scope) (text_of name) missing.tree missing.none

-- declarations that change nothing
abbrev pub AddNothing : ℕ → Table → List Declared → Type 0
AddNothing file t ds = with_declarations file t ds ≡ t

pub nothing_then : (file : ℕ) (t : Table) (xs ys : List Declared) → AddNothing file t xs → AddNothing file t ys → AddNothing file t (xs ++ ys)
nothing_then file t xs ys h k = both_added file t xs ys ∙ ap (λ u. with_declarations file u ys) h ∙ k

pub nothing_named : (file : ℕ) (t : Table) (scope : List ℕ) (name : Option (List ℕ)) (path : Path) (part : Described) (ds : List Declared) → IsMissing t scope → AddNothing file t ds → AddNothing file t (declared path (full_name scope name) part ∷ ds)
nothing_named file t scope name path part ds missing h =
    one_added file t (declared path (full_name scope name) part) ds
    ∙ ap (λ u. with_declarations file u ds) (unchanged t (full_name scope name) (kind_of part) (record { file = file; path = path }) (none_in_missing t scope name missing))
    ∙ h

pub nothing_alone : (file : ℕ) (t : Table) (scope : List ℕ) (name : Option (List ℕ)) (path : Path) (part : Described) → IsMissing t scope → AddNothing file t (declared path (full_name scope name) part ∷ [])
nothing_alone file t scope name path part missing = nothing_named file t scope name path part [] missing (none_added file t)

-- Of a part and what is in it, only the part is added.
pub only_first : (file : ℕ) (t t' : Table) (d : Declared) (ds : List Declared) → t' ≡ with_entry t (entry_of file d) → AddNothing file t' ds → t' ≡ with_declarations file t (d ∷ ds)
only_first file t t' d ds is nothing =
    sym nothing ∙ ap (λ u. with_declarations file u ds) is ∙ sym (one_added file t d ds)

pub nothing_numbered : {A : Type 0} (file : ℕ) (t : Table) (declares : A → List ℕ → At) (scope : List ℕ) (path : Path) (tag : ℤ) (n : ℕ) (siblings : List A)
    → ((i : ℕ) (x : A) (place : Path) → i < length siblings → x ≡ get_or siblings i x → AddNothing file t (declares x scope place))
    → AddNothing file t (numbered path tag n (all_in declares scope siblings))
nothing_numbered file t declares scope path tag n [] each = none_added file t
nothing_numbered file t declares scope path tag n (x ∷ siblings) each =
    nothing_then file t (declares x scope (nth path tag n)) (numbered path tag (n + 1) (all_in declares scope siblings))
    (each 0 x (nth path tag n) (omega arith) refl)
    (nothing_numbered file t declares scope path tag (n + 1) siblings (λ i y place below is. each (suc i) y place (omega (arith, below)) is))
