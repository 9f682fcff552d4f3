-- Faults are added node by node.
use Rattle.std.proofs.Common.{◌≡◌, ℕ, zero, suc, not-suc-le-zero, le_of_suc-le-suc, refl, ◌+◌, ◌<◌, ◌≤◌, List, [], ◌∷◌, ◌++◌, length, take, get_or, flat_map, Result, Ok, Err, OnOk, ap, sym, ◌∙◌, append_assoc, append-nil, take_all}
use Rattle.std.proofs.lemmas.Grind.{flat_map-append}
use Rattle.std.proofs.lemmas.List.{take_more}
use Rattle.protox_fault.specs.declared.error.ParseErrorKind.{ParseErrorKind}
use Rattle.protox_ast.specs.declared.ast.Syntax.{Syntax}
use Rattle.protox_checks.specs.Checks.{node_faults, nodes_faults}
use Rattle.protox_checks.specs.Nodes.{Node}
use Rattle.protox_checks.specs.inner.Walk.{Adds, AddsIn}

-- ---- in one syntax

pub in-both : (s : Syntax) (old mid new : List ParseErrorKind) (xs ys : List Node) → AddsIn s old mid xs → AddsIn s mid new ys → AddsIn s old new (xs ++ ys)
in-both s old mid new xs ys a b =
    b ∙ (ap (λ l. l ++ nodes_faults s ys) a ∙ (append_assoc old (nodes_faults s xs) (nodes_faults s ys) ∙ ap (λ l. old ++ l) (sym (flat_map-append (node_faults s) xs ys))))

pub in-one : (s : Syntax) (node : Node) (old new : List ParseErrorKind) → new ≡ old ++ node_faults s node → AddsIn s old new (node ∷ [])
in-one s node old new h = h ∙ ap (λ l. old ++ l) (sym (append-nil (node_faults s node)))

pub flat-more : {A : Type 0} (g : A → List Node) (xs : List A) (i : ℕ) (x : A) → i < length xs → x ≡ get_or xs i x → flat_map g (take (i + 1) xs) ≡ flat_map g (take i xs) ++ g x
flat-more g xs i x h e =
    ap (flat_map g) (take_more xs i x h)
    ∙ (flat_map-append g (take i xs) (get_or xs i x ∷ [])
    ∙ ap (λ l. flat_map g (take i xs) ++ l) (append-nil (g (get_or xs i x)) ∙ ap g (sym e)))

-- one more of a list
pub in-more : {A : Type 0} (s : Syntax) (g : A → List Node) (xs : List A) (i : ℕ) (x : A) (start old new : List ParseErrorKind) → i < length xs → x ≡ get_or xs i x
    → AddsIn s start old (flat_map g (take i xs)) → AddsIn s old new (g x) → AddsIn s start new (flat_map g (take (i + 1) xs))
in-more s g xs i x start old new h e a b =
    in-both s start old new (flat_map g (take i xs)) (g x) a b ∙ ap (λ l. start ++ nodes_faults s l) (sym (flat-more g xs i x h e))

-- An element is the same, whichever value counts as the one past the end.
read-same : {A : Type 0} (xs : List A) (i : ℕ) (d e : A) → i < length xs → get_or xs i d ≡ get_or xs i e
read-same [] i d e h = absurd (not-suc-le-zero h)
read-same (x ∷ xs) zero d e h = refl
read-same (x ∷ xs) (suc i) d e h = read-same xs i d e (le_of_suc-le-suc h)

-- all of a list, which is that one
pub in-all : {A : Type 0} (s : Syntax) (g : A → List Node) (xs ys : List A) (i : ℕ) (start new : List ParseErrorKind) → length xs ≤ i → xs ≡ ys
    → AddsIn s start new (flat_map g (take i xs)) → AddsIn s start new (flat_map g ys)
in-all s g xs ys i start new h e a = a ∙ ap (λ l. start ++ nodes_faults s (flat_map g l)) (take_all i xs h ∙ e)

-- of two lists that are that one
pub in-both-at : (s : Syntax) (old mid new : List ParseErrorKind) (xs ys zs : List Node) → xs ++ ys ≡ zs → AddsIn s old mid xs → AddsIn s mid new ys → AddsIn s old new zs
in-both-at s old mid new xs ys zs e a b = in-both s old mid new xs ys a b ∙ ap (λ l. old ++ nodes_faults s l) e

-- ---- in every syntax

pub both : (old mid new : List ParseErrorKind) (xs ys : List Node) → Adds old mid xs → Adds mid new ys → Adds old new (xs ++ ys)
both old mid new xs ys a b = λ s. in-both s old mid new xs ys (a s) (b s)

pub both-at : (old mid new : List ParseErrorKind) (xs ys zs : List Node) → xs ++ ys ≡ zs → Adds old mid xs → Adds mid new ys → Adds old new zs
both-at old mid new xs ys zs e a b = λ s. in-both-at s old mid new xs ys zs e (a s) (b s)

pub more : {A : Type 0} (g : A → List Node) (xs : List A) (i : ℕ) (x : A) (start old new : List ParseErrorKind) → i < length xs → x ≡ get_or xs i x
    → Adds start old (flat_map g (take i xs)) → Adds old new (g x) → Adds start new (flat_map g (take (i + 1) xs))
more g xs i x start old new h e a b = λ s. in-more s g xs i x start old new h e (a s) (b s)

pub more-at : {A : Type 0} (g : A → List Node) (xs : List A) (i : ℕ) (d : A) (start old new : List ParseErrorKind) → i < length xs
    → Adds start old (flat_map g (take i xs)) → Adds old new (g (get_or xs i d)) → Adds start new (flat_map g (take (i + 1) xs))
more-at g xs i d start old new h a b = more g xs i (get_or xs i d) start old new h (read-same xs i d (get_or xs i d) h) a b

pub all : {A : Type 0} (g : A → List Node) (xs ys : List A) (i : ℕ) (start new : List ParseErrorKind) → length xs ≤ i → xs ≡ ys
    → Adds start new (flat_map g (take i xs)) → Adds start new (flat_map g ys)
all g xs ys i start new h e a = λ s. in-all s g xs ys i start new h e (a s)

-- the same nodes by another list
pub same : (old new : List ParseErrorKind) (xs ys : List Node) → xs ≡ ys → Adds old new xs → Adds old new ys
same old new xs ys e a = λ s. a s ∙ ap (λ l. old ++ nodes_faults s l) e

-- ---- if memory did not run out

pub on-ok : {A E P Q : Type 0} (r : Result A E) → (P → Q) → OnOk r P → OnOk r Q
on-ok (Ok x) f h = f h
on-ok (Err e) f h = h
