use Rattle.std.proofs.Common.{◌≡◌, ◌∙◌, ◌++◌, ◌∷◌, [], ℕ, List, Option, Some, Contains, length, set, map, drop, refl, sym, ap, subst, arith}
use Rattle.std.specs.Prelude.{slice_get}
use Rattle.std.proofs.lemmas.Option.{slice_get-get_or}
use Rattle.protox_imports.specs.Rows.{named_of, ImportsIn}
use Rattle.protox_imports.specs.declared.walk.State.{State}
use Rattle.protox_imports.specs.declared.walk.State.TheVariants.{Open, Placed}
use Rattle.protox_imports.specs.declared.walk.Frame.{Frame}
use Rattle.protox_imports.specs.inner.Walk.{ArePlaced}
use Rattle.protox_imports.proofs.Steps.{top_within, placing_goes, entering_goes, closing, depth_within, new_state, placed_as, next_as, next_file_within}
use Rattle.protox_imports.proofs.walk.Walk.step.Goals as goal

pub named-requires : goal.named-requires
named-requires c =
    let t = top_within c.args.imports.now.files c.args.self.now.states.items c.args.self.now.stack.items
    c.args.self.now.placed.items c.args.top c.requires in
    omega (arith, t.0, t.1)

pub next_import-requires-clause-within : goal.next_import-requires-clause-within
next_import-requires-clause-within c = λ g h.
    let i : ImportsIn c.args.imports.now.files c.args.top.file g =
    subst (λ (xs : List (Option ℕ)). Contains xs (Some g)) c.named.ensures h in
    let below = c.args.imports.now.within c.args.top.file g i in
    let count = c.requires.count in
    let same = ap length c.deref.ensures.value in
    omega (arith, below, count, same)

pub next_import-requires-clause-passed : goal.next_import-requires-clause-passed
next_import-requires-clause-passed c =
    let t = top_within c.args.imports.now.files c.args.self.now.states.items c.args.self.now.stack.items
    c.args.self.now.placed.items c.args.top c.requires in
    subst (λ (ss : List State). ArePlaced ss c.named.result.now c.args.top.next) (sym c.deref.ensures.value)
    (subst (λ (xs : List (Option ℕ)). ArePlaced c.args.self.now.states.items xs c.args.top.next) (sym c.named.ensures) t.2)

pub place-requires : goal.place-requires
place-requires c =
    let t = top_within c.args.imports.now.files c.args.self.now.states.items c.args.self.now.stack.items
    c.args.self.now.placed.items c.args.top c.requires in
    omega (arith, t.0, c.args.self.now.states.ok.0)

pub returns-in_default : goal.returns-in_default
returns-in_default c =
    let rows = c.args.imports.now.files in
    let states = c.args.self.now.states.items in
    let placed = c.args.self.now.placed in
    placing_goes rows states c.place.new.self.states.items c.args.self.now.stack.items
    c.place.new.self.stack.items placed.items c.place.new.self.placed.items c.args.top c.requires
    (placed_as c.deref.result.now states c.named.result.now (named_of rows c.args.top.file)
    c.deref.ensures.value c.named.ensures c.in_default.ensures.none)
    (c.in_ok-place.ensures.states ∙ ap (λ n. set states c.args.top.file (Placed n)) (placed.ok.0))
    (ap (λ v. v.items) c.in_ok-place.ensures.stack) c.in_ok-place.ensures.placed

pub index-requires : goal.index-requires
index-requires c =
    let rows = c.args.imports.now.files in
    let states = c.args.self.now.states.items in
    let next = next_as c.deref.result.now states c.named.result.now (named_of rows c.args.top.file)
    c.in-Some.next c.in-Some.file c.deref.ensures.value c.named.ensures c.in-Some.ensures.found in
    let below = next_file_within rows states c.args.self.now.stack.items c.args.self.now.placed.items
    c.args.top c.in-Some.next c.in-Some.file c.args.imports.now.within c.requires next in
    omega (arith, below, c.args.self.now.states.ok.0)

pub files_from-requires : goal.files_from-requires
files_from-requires c =
    let rows = c.args.imports.now.files in
    let states = c.args.self.now.states.items in
    let stack = c.args.self.now.stack.items in
    let placed = c.args.self.now.placed.items in
    let top' : Frame = record { file = c.args.top.file; next = c.in-Some.next } in
    let next = next_as c.deref.result.now states c.named.result.now (named_of rows c.args.top.file)
    c.in-Some.next c.in-Some.file c.deref.ensures.value c.named.ensures c.in-Some.ensures.found in
    let below = next_file_within rows states stack placed c.args.top c.in-Some.next c.in-Some.file
    c.args.imports.now.within c.requires next in
    let is_open : slice_get states c.in-Some.file ≡ Some (Open c.in-Open.depth) =
    slice_get-get_or states c.in-Some.file c.index.result.now below
    ∙ ap Some (sym c.index.ensures ∙ c.in-Open.is) in
    let depth = depth_within rows states stack placed c.args.top top' c.in-Some.file c.in-Open.depth
    c.requires is_open in
    let same = ap length (c.deref-in-Open.ensures.value ∙ c.in_ok-push.ensures.items) in
    omega (arith, depth, same)

pub returns-in-Open : goal.returns-in-Open
returns-in-Open c =
    let rows = c.args.imports.now.files in
    let states = c.args.self.now.states.items in
    let stack = c.args.self.now.stack.items in
    let placed = c.args.self.now.placed.items in
    let top' : Frame = record { file = c.args.top.file; next = c.in-Some.next } in
    let next = next_as c.deref.result.now states c.named.result.now (named_of rows c.args.top.file)
    c.in-Some.next c.in-Some.file c.deref.ensures.value c.named.ensures c.in-Some.ensures.found in
    let below = next_file_within rows states stack placed c.args.top c.in-Some.next c.in-Some.file
    c.args.imports.now.within c.requires next in
    let is_open : slice_get states c.in-Some.file ≡ Some (Open c.in-Open.depth) =
    slice_get-get_or states c.in-Some.file c.index.result.now below
    ∙ ap Some (sym c.index.ensures ∙ c.in-Open.is) in
    closing rows states stack placed c.args.top top' c.in-Some.file c.in-Open.depth
    c.in_ok-files_from.field-0.items c.requires refl next is_open
    (c.in_ok-files_from.ensures
    ∙ ap (λ (xs : List Frame). map (λ (a : Frame). a.file) (drop c.in-Open.depth xs))
    (c.deref-in-Open.ensures.value ∙ c.in_ok-push.ensures.items))

pub enter-requires : goal.enter-requires
enter-requires c =
    let rows = c.args.imports.now.files in
    let states = c.args.self.now.states.items in
    let next = next_as c.deref.result.now states c.named.result.now (named_of rows c.args.top.file)
    c.in-Some.next c.in-Some.file c.deref.ensures.value c.named.ensures c.in-Some.ensures.found in
    let below = next_file_within rows states c.args.self.now.stack.items c.args.self.now.placed.items
    c.args.top c.in-Some.next c.in-Some.file c.args.imports.now.within c.requires next in
    omega (arith, below, c.args.self.now.states.ok.0)

pub returns : goal.returns
returns c =
    let rows = c.args.imports.now.files in
    let states = c.args.self.now.states.items in
    let stack = c.args.self.now.stack.items in
    let placed = c.args.self.now.placed.items in
    let g = c.in-Some.file in
    let top' : Frame = record { file = c.args.top.file; next = c.in-Some.next } in
    let frame : Frame = record { file = g; next = 0 } in
    let next = next_as c.deref.result.now states c.named.result.now (named_of rows c.args.top.file)
    c.in-Some.next g c.deref.ensures.value c.named.ensures c.in-Some.ensures.found in
    let below = next_file_within rows states stack placed c.args.top c.in-Some.next g
    c.args.imports.now.within c.requires next in
    let new = new_state states g c.index.result.now
    (slice_get-get_or states g c.index.result.now below ∙ ap Some (sym c.index.ensures))
    c.in_default-index.not-Open next.waits in
    let depth : c.push.new.self.len ≡ length (stack ++ top' ∷ []) =
    c.push.new.self.ok.0 ∙ ap length c.in_ok-push.ensures.items in
    entering_goes rows states c.enter.new.self.states.items stack c.enter.new.self.stack.items placed
    c.enter.new.self.placed.items c.args.top c.in-Some.next g c.requires next new
    (c.in_ok-enter.ensures.states ∙ ap (λ n. set states g (Open n)) depth)
    (c.in_ok-enter.ensures.stack ∙ ap (λ (xs : List Frame). xs ++ frame ∷ []) c.in_ok-push.ensures.items)
    (ap (λ v. v.items) c.in_ok-enter.ensures.placed)
