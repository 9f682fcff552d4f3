-- The options that are left, one after another.
use Rattle.std.proofs.Common.{◌≡◌, ℕ, suc, ◌+◌, ◌-◌, ◌<◌, ◌≤◌, Bool, true, false, if◌then◌else◌, List, [], ◌∷◌, ◌++◌, length, take, drop, get_or, ap, sym, ◌∙◌, append_assoc, append-nil, add-one, arith, codes}
use Rattle.std.proofs.Math.Seq.{drop-cons}
use Rattle.std.proofs.lemmas.List.{drop_all, length-drop, take_all}
use Rattle.protox_fault.specs.declared.error.ParseErrorKind.{ParseErrorKind}
use Rattle.protox_ast.specs.Options.{has_name, without_first}
use Rattle.protox_ast.specs.declared.ast.OptionBody.{OptionBody}
use Rattle.protox_ast.specs.declared.ast.Syntax.{Syntax}
use Rattle.protox_checks.specs.Checks.{node_faults, nodes_faults}
use Rattle.protox_checks.specs.Nodes.{AnOption, option_nodes}
use Rattle.protox_checks.specs.inner.Walk.{Adds, others}

-- the faults so far, and then those of these options
abbrev pub after : Syntax → List ParseErrorKind → List OptionBody → List ParseErrorKind
after s found bodies = found ++ nodes_faults s (option_nodes bodies)

-- one option is checked
pub one-after : (s : Syntax) (x : OptionBody) (xs : List OptionBody) (old new : List ParseErrorKind) → Adds old new (AnOption x.value ∷ []) → after s new xs ≡ after s old (x ∷ xs)
one-after s x xs old new h =
    let f = node_faults s (AnOption x.value) in
    let g = nodes_faults s (option_nodes xs) in
    ap (λ l. l ++ g) (h s) ∙ (append_assoc old (f ++ []) g ∙ ap (λ l. old ++ (l ++ g)) (append-nil f))

-- ---- without the first of a name

choose-false : (b : Bool) (x y : List OptionBody) → b ≡ false → (if b then x else y) ≡ y
choose-false b x y e = ap (λ t. if t then x else y) e

choose-true : (b : Bool) (x y : List OptionBody) → b ≡ true → (if b then x else y) ≡ x
choose-true b x y e = ap (λ t. if t then x else y) e

pub kept : (name : List ℕ) (x : OptionBody) (xs : List OptionBody) → has_name name x ≡ false → without_first name (x ∷ xs) ≡ x ∷ without_first name xs
kept name x xs e = choose-false (has_name name x) xs (x ∷ without_first name xs) e

pub dropped : (name : List ℕ) (x : OptionBody) (xs : List OptionBody) → has_name name x ≡ true → without_first name (x ∷ xs) ≡ xs
dropped name x xs e = choose-true (has_name name x) xs (x ∷ without_first name xs) e

pub default-dropped : (x : OptionBody) (xs : List OptionBody) → has_name (codes "default") x ≡ true → others (x ∷ xs) ≡ without_first (codes "json_name") xs
default-dropped x xs e = ap (without_first (codes "json_name")) (dropped (codes "default") x xs e)

pub json_name-dropped : (x : OptionBody) (xs : List OptionBody) → has_name (codes "default") x ≡ false → has_name (codes "json_name") x ≡ true → others (x ∷ xs) ≡ without_first (codes "default") xs
json_name-dropped x xs d e = ap (without_first (codes "json_name")) (kept (codes "default") x xs d) ∙ dropped (codes "json_name") x (without_first (codes "default") xs) e

pub both-kept : (x : OptionBody) (xs : List OptionBody) → has_name (codes "default") x ≡ false → has_name (codes "json_name") x ≡ false → others (x ∷ xs) ≡ x ∷ others xs
both-kept x xs d e = ap (without_first (codes "json_name")) (kept (codes "default") x xs d) ∙ kept (codes "json_name") x (without_first (codes "default") xs) e

-- ---- a list without some of its elements, one element after another

drop_more : (xs : List OptionBody) (i : ℕ) (x : OptionBody) → i < length xs → x ≡ get_or xs i x → drop i xs ≡ x ∷ drop (i + 1) xs
drop_more xs i x h e = rw (add-one) (drop-cons xs i x h ∙ ap (λ y. y ∷ drop (suc i) xs) (sym e))

-- what stands behind i, as a slice
abbrev pub rest : List OptionBody → ℕ → List OptionBody
rest xs i = take (length xs - (i + 1)) (drop (i + 1) xs)

rest-is : (xs : List OptionBody) (i : ℕ) → rest xs i ≡ drop (i + 1) xs
rest-is xs i = take_all (length xs - (i + 1)) (drop (i + 1) xs) (omega (arith, length-drop (i + 1) xs))

-- `found` with the faults of the options left from i on is the same as `start` with the faults of
-- all options that are left.
abbrev pub ToCome : (List OptionBody → List OptionBody) → List OptionBody → ℕ → List ParseErrorKind → List ParseErrorKind → Type 0
ToCome left xs i start found = (s : Syntax) → after s found (left (drop i xs)) ≡ after s start (left xs)

module _ (left : List OptionBody → List OptionBody) (xs : List OptionBody) (i : ℕ) (x : OptionBody) (start old new : List ParseErrorKind) (h : i < length xs) (e : x ≡ get_or xs i x) (inv : ToCome left xs i start old) where
  here : (others : List OptionBody) → left (x ∷ drop (i + 1) xs) ≡ others → (s : Syntax) → after s old others ≡ after s start (left xs)
  here others k s = ap (after s old) (sym k) ∙ (ap (λ l. after s old (left l)) (sym (drop_more xs i x h e)) ∙ inv s)

  -- The options left from there on are described by the rest, which is checked as a whole.
  pub whole : (of_rest : List OptionBody → List OptionBody) → left (x ∷ drop (i + 1) xs) ≡ of_rest (drop (i + 1) xs) → Adds old new (option_nodes (of_rest (rest xs i))) → Adds start new (option_nodes (left xs))
  whole of_rest k a = λ s. a s ∙ (ap (λ l. after s old (of_rest l)) (rest-is xs i) ∙ here (of_rest (drop (i + 1) xs)) k s)

  pub next : left (x ∷ drop (i + 1) xs) ≡ x ∷ left (drop (i + 1) xs) → Adds old new (AnOption x.value ∷ []) → ToCome left xs (i + 1) start new
  next k a = λ s. one-after s x (left (drop (i + 1) xs)) old new a ∙ here (x ∷ left (drop (i + 1) xs)) k s

pub at-end : (left : List OptionBody → List OptionBody) (xs : List OptionBody) (i : ℕ) (start found : List ParseErrorKind) → left [] ≡ [] → length xs ≤ i → ToCome left xs i start found → Adds start found (option_nodes (left xs))
at-end left xs i start found k h inv = λ s.
    sym (append-nil found) ∙ (ap (after s found) (sym k ∙ ap left (sym (drop_all i xs h))) ∙ inv s)
