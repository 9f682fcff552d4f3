-- Declarations that are added to a table, one behind another.
use Rattle.std.proofs.Common.{◌≡◌, ℕ, ◌+◌, ◌<◌, ◌≤◌, List, OnOk, Result, [], ◌∷◌, ◌++◌, drop, fold, get_or, length, map, refl, sym, ap, ◌∙◌}
use Rattle.std.specs.Prelude.{ℤ}
use Rattle.std.proofs.lemmas.List.{drop_all, drop_more, map-append}
use Rattle.std.proofs.lemmas.List.Sums.{fold-append}
use Rattle.std.proofs.lemmas.Result.{on_ok_weaker}
use Rattle.protox_walk.specs.Declarations.{At, Path, all_in, nth, numbered}
use Rattle.protox_walk.specs.Parts.{Declared}
use Rattle.protox_symbols.specs.Symbols.{Table}
use Rattle.protox_symbols.specs.Things.{Entry, entry_of, with_entry}
use Rattle.protox_symbols.specs.Scopes.{with_declarations}

pub none_added : (file : ℕ) (t : Table) → with_declarations file t [] ≡ t
unfolding with_declarations
none_added file t = refl

pub one_added : (file : ℕ) (t : Table) (d : Declared) (ds : List Declared) → with_declarations file t (d ∷ ds) ≡ with_declarations file (with_entry t (entry_of file d)) ds
unfolding with_declarations
one_added file t d ds = refl

pub both_added : (file : ℕ) (t : Table) (xs ys : List Declared) → with_declarations file t (xs ++ ys) ≡ with_declarations file (with_declarations file t xs) ys
unfolding with_declarations
both_added file t xs ys =
    ap (fold with_entry t) (map-append (entry_of file) xs ys) ∙ fold-append with_entry t (map (entry_of file) xs) (map (entry_of file) ys)

-- behind other entries
pub added_behind : (file : ℕ) (t : Table) (es : List Entry) (ds : List Declared) → with_declarations file (fold with_entry t es) ds ≡ fold with_entry t (es ++ map (entry_of file) ds)
unfolding with_declarations
added_behind file t es ds = sym (fold-append with_entry t es (map (entry_of file) ds))

-- what a sibling declares, and then those behind it
pub sibling_added : {A : Type 0} (file : ℕ) (declares : A → List ℕ → At) (scope within : List ℕ) (path place : Path) (tag : ℤ) (siblings : List A) (i : ℕ) (x : A) (t t' : Table)
    → i < length siblings → x ≡ get_or siblings i x → within ≡ scope → place ≡ nth path tag i
    → t' ≡ with_declarations file t (declares x within place)
    → with_declarations file t' (numbered path tag (i + 1) (all_in declares scope (drop (i + 1) siblings))) ≡ with_declarations file t (numbered path tag i (all_in declares scope (drop i siblings)))
sibling_added {A = A} file declares scope within path place tag siblings i x t t' below is in_scope at added =
    let rest = numbered path tag (i + 1) (all_in declares scope (drop (i + 1) siblings)) in
    ap (λ (u : Table). with_declarations file u rest) (added ∙ ap (λ (s : List ℕ). with_declarations file t (declares x s place)) in_scope ∙ ap (λ (p : Path). with_declarations file t (declares x scope p)) at)
    ∙ sym (both_added file t (declares x scope (nth path tag i)) rest)
    ∙ ap (λ (left : List A). with_declarations file t (numbered path tag i (all_in declares scope left))) (sym (drop_more siblings i x below ∙ ap (λ (y : A). y ∷ drop (i + 1) siblings) (sym is)))

-- Behind the last sibling there is none.
pub siblings_added : {A : Type 0} (file : ℕ) (declares : A → List ℕ → At) (scope : List ℕ) (path : Path) (tag : ℤ) (siblings : List A) (i : ℕ) (t : Table)
    → length siblings ≤ i → with_declarations file t (numbered path tag i (all_in declares scope (drop i siblings))) ≡ t
siblings_added {A = A} file declares scope path tag siblings i t end =
    ap (λ (left : List A). with_declarations file t (numbered path tag i (all_in declares scope left))) (drop_all i siblings end) ∙ none_added file t

-- ---- what calls that may fail add

pub alone_added : (file : ℕ) (t t' : Table) (d : Declared) → t' ≡ with_entry t (entry_of file d) → t' ≡ with_declarations file t (d ∷ [])
unfolding with_declarations
alone_added file t t' d is = is

pub first_added : {T E : Type 0} (r : Result T E) (file : ℕ) (t t₁ t' : Table) (d : Declared) (ds : List Declared) → t₁ ≡ with_entry t (entry_of file d)
    → OnOk r (t' ≡ with_declarations file t₁ ds) → OnOk r (t' ≡ with_declarations file t (d ∷ ds))
first_added r file t t₁ t' d ds is =
    on_ok_weaker r (λ rest. rest ∙ ap (λ u. with_declarations file u ds) is ∙ sym (one_added file t d ds))

pub front_added : {T E : Type 0} (r : Result T E) (file : ℕ) (t t₁ t' : Table) (xs ys : List Declared) → t₁ ≡ with_declarations file t xs
    → OnOk r (t' ≡ with_declarations file t₁ ys) → OnOk r (t' ≡ with_declarations file t (xs ++ ys))
front_added r file t t₁ t' xs ys is =
    on_ok_weaker r (λ rest. rest ∙ ap (λ u. with_declarations file u ys) is ∙ sym (both_added file t xs ys))

-- the same declarations, where a scope has another name that is equal
pub in_scope_named : {T E : Type 0} (r : Result T E) (file : ℕ) (t t' : Table) (ds : List ℕ → List Declared) (one other : List ℕ) → one ≡ other
    → OnOk r (t' ≡ with_declarations file t (ds one)) → OnOk r (t' ≡ with_declarations file t (ds other))
in_scope_named r file t t' ds one other same = on_ok_weaker r (λ is. is ∙ ap (λ s. with_declarations file t (ds s)) same)
