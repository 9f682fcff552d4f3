use Rattle.std.proofs.Common.{◌≡◌, ◌≤◌, ◌+◌, ℕ, [], ◌∷◌, ◌++◌, List, length, Some, sym, ap, ◌∙◌, arith}
use Rattle.std.specs.BTreeMap.{get}
use Rattle.std.proofs.lemmas.Option.{none-some}
use Rattle.protox_set_paths.specs.Paths.{is_set, path_of}
use Rattle.protox_set_paths.specs.inner.Steps.{paths_of, step_cmp}
use Rattle.protox_set_paths.proofs.Places.{has_path, no_path, path_kept, path_last, set_at_place, set_more}
use Rattle.protox_set_paths.proofs.Stepping.{as_many, seen_more, still_tree}
use Rattle.protox_set_paths.proofs.tree.SetTree.enter.Goals as goal

-- how many steps there are, as paths that are seen
many : (steps : List (ℕ × ℕ)) (seen : List (List ℕ)) (count len : ℕ) → paths_of steps ≡ seen → count ≡ len → len ≡ length steps → count ≡ length seen
many steps seen count len view is ok = is ∙ ok ∙ sym (as_many steps) ∙ ap length view

-- ---- a place past the tree

pub returns-then-place-len-clause-place : goal.returns-then-place-len-clause-place
returns-then-place-len-clause-place c path at =
    let count = many c.self.inside.steps.items c.args.self.now c.len.result _ c.self.view_is c.len.ensures c.self.inside.steps.ok.0 in
    absurd (no_path c.args.self.now c.args.place path (omega (arith, count)) at)

pub returns-then-place-len-clause-set : goal.returns-then-place-len-clause-set
returns-then-place-len-clause-set c path at q =
    let count = many c.self.inside.steps.items c.args.self.now c.len.result _ c.self.view_is c.len.ensures c.self.inside.steps.ok.0 in
    absurd (no_path c.args.self.now c.args.place path (omega (arith, count)) at)

-- ---- a path that is there

pub returns-in-Some-clause-set : goal.returns-in-Some-clause-set
returns-in-Some-clause-set c path at q =
    set_at_place c.args.self.now c.in-Some.next path c.args.number q (c.in-Some.ensures.place path at)

-- ---- one more path

within : (c : goal.After-push_reserved) → c.args.place ≤ length c.args.self.now
within c =
    let count = many c.self.inside.steps.items c.args.self.now c.len.result _ c.self.view_is c.len.ensures c.self.inside.steps.ok.0 in
    omega (arith, count)

last : (c : goal.After-push_reserved) → c.len-next.result + 1 ≡ length c.args.self.now + 1
last c = ap (λ n. n + 1) (many c.self.inside.steps.items c.args.self.now c.len-next.result _ c.self.view_is c.len-next.ensures c.self.inside.steps.ok.0)

pushed : (c : goal.After-push_reserved) → c.push_reserved.new.self.items ≡ c.self.inside.steps.items ++ (c.args.place, c.args.number) ∷ []
pushed c = c.push_reserved.ensures.items ∙ ap (λ l. l ++ (c.args.place, c.args.number) ∷ []) c.reserve.ensures.items

grown : (c : goal.After-push_reserved) (path : List ℕ) → path_of c.args.self.now c.args.place ≡ Some path
    → paths_of c.push_reserved.new.self.items ≡ c.args.self.now ++ (path ++ c.args.number ∷ []) ∷ []
grown c =
    seen_more c.self.inside.steps.items c.args.self.now c.self.view_is c.args.place c.args.number c.push_reserved.new.self.items (pushed c)

pub invariant_of-self-2 : goal.invariant_of-self-2
invariant_of-self-2 c =
    still_tree c.self.inside.steps.items c.args.self.now c.self.view_is c.args.place c.args.number c.push_reserved.new.self.items (pushed c)
    (get step_cmp c.self.inside.places) c.self.invariant (within c) c.in_default.ensures.set
    (get step_cmp c.insert.new.self) (c.len-next.result + 1) (last c) c.in_ok-insert.ensures.updates.0

pub returns-clause-place : goal.returns-clause-place
returns-clause-place c path at =
    ap (λ l. path_of l (c.len-next.result + 1)) (grown c path at)
    ∙ path_last c.args.self.now (path ++ c.args.number ∷ []) (c.len-next.result + 1) (last c)

pub returns-clause-kept : goal.returns-clause-kept
returns-clause-kept c n path at =
    let (front, here) = has_path c.args.self.now c.args.place (within c) in
    ap (λ l. path_of l n) (grown c front here)
    ∙ path_kept c.args.self.now ((front ++ c.args.number ∷ []) ∷ []) n path at

pub returns-clause-set : goal.returns-clause-set
returns-clause-set c path at q =
    ap (λ l. is_set l q) (grown c path at) ∙ set_more c.args.self.now q (path ++ c.args.number ∷ [])

pub returns-clause-elsewhere : goal.returns-clause-elsewhere
returns-clause-elsewhere c none =
    let (path, at) = has_path c.args.self.now c.args.place (within c) in
    absurd (none-some path (sym none ∙ at))
