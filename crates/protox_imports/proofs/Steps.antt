-- The steps of the walk that puts files in order: they lead on, and they visit files depth first.
use Rattle.std.proofs.Common.{◌≡◌, ◌≢◌, inl, inr, ℕ, ◌<◌, ◌+◌, ◌-◌, List, [], ◌∷◌, ◌++◌, length, get_or, set, drop, map, reverse, replicate, Option, Some, None, cond, refl, sym, ◌∙◌, ap, subst, arith, length-append}
use Rattle.std.specs.Prelude.{slice_get, Contains, IfSome}
use Rattle.std.proofs.lemmas.Bool.{cases_lt}
use Rattle.std.proofs.lemmas.List.Sums.{sum_by-set}
use Rattle.std.proofs.lemmas.Option.{slice_get_within, slice_get-get_or, same_Some, get_or_from_slice_get}
use Rattle.protox_imports.specs.Rows.{ImportsIn, AreWithin, named_of}
use Rattle.protox_imports.specs.Order.{IsCycle}
use Rattle.protox_imports.specs.declared.row.FileImports.{FileImports}
use Rattle.protox_imports.specs.declared.walk.State.{State}
use Rattle.protox_imports.specs.declared.walk.State.TheVariants.{New, Open, Placed}
use Rattle.protox_imports.specs.declared.walk.Frame.{Frame}
use Rattle.protox_imports.specs.inner.Walk.{IsNew, IsPlaced, ArePlaced, IsNext, is_new, new_count, IsWalk, Onward, Goes, Visited, Orderly}
use Rattle.protox_imports.specs.DepthFirst.Visits.{Ends, Passes}
use Rattle.protox_imports.proofs.Visiting.{comes_places, comes_enters, root_enters, reverse-push, visits_more, all_files-more}
use Rattle.protox_imports.specs.DepthFirst.{Visits, all_files}
use Rattle.protox_imports.proofs.Elements as at
use Rattle.protox_imports.proofs.Walking.{open_new, placed_new, enter_walk, place_walk, move_walk, cycle_closes, walk_starts}

-- A write of a state takes no file back.
pub onward_set : (states : List State) (g : ℕ) (now : State) → now ≢ New
    → Onward states (set states g now)
onward_set states g now other f e = elim (at.get_set_cases states g f now New e) [
  | inl h ↦ absurd (other (h.1))
  | inr h ↦ h.1
]

-- how many new files there are after a write
pub new_count-set : (states : List State) (g : ℕ) (was now : State) → slice_get states g ≡ Some was
    → new_count (set states g now) + cond (is_new was) 1 0 ≡ new_count states + cond (is_new now) 1 0
new_count-set states g was now e =
    let below = slice_get_within states g was e in
    let is : get_or states g now ≡ was = get_or_from_slice_get states g was now e in
    let weight : State → ℕ = λ x. cond (is_new x) 1 0 in
    subst (λ (x : State). new_count (set states g now) + cond (is_new x) 1 0 ≡ new_count states + cond (is_new now) 1 0)
    is (sum_by-set weight states g now now below)

if_some : {X : Type 0} (o : Option X) (P : X → Type 0) → ((x : X) → o ≡ Some x → P x) → IfSome o P
if_some None P h = tt
if_some (Some x) P h = h x refl

-- What the search for the next import knows.
pub import_within : (named : List (Option ℕ)) (n i : ℕ) → i < length named
    → ((g : ℕ) → Contains named (Some g) → g < n)
    → IfSome (get_or {A = Option ℕ} named i None) (λ g. g < n)
import_within named n i below within =
    if_some (get_or named i None) (λ g. g < n) (λ g e.
    within g (at.contains_at named i (Some g) (slice_get-get_or named i None below ∙ ap Some e)))

pub placed_more : (states : List State) (named : List (Option ℕ)) (i : ℕ) → i < length named
    → ArePlaced states named i
    → ((g : ℕ) → get_or {A = Option ℕ} named i None ≡ Some g → IsPlaced states g)
    → ArePlaced states named (i + 1)
placed_more states named i below placed here k g before e =
    elim (cases_lt k i) [
      | inl h ↦ placed k g h e
      | inr h ↦
          let same : k ≡ i = omega (arith, before, h) in
          here g (get_or_from_slice_get named i (Some g) None (ap (slice_get named) (sym same) ∙ e))
    ]

pub found_next : (states : List State) (named : List (Option ℕ)) (i g : ℕ) → i < length named
    → ArePlaced states named i → get_or {A = Option ℕ} named i None ≡ Some g
    → (IsPlaced states g → ⊥) → IsNext states named i g
found_next states named i g below placed e waits = record {
  at = slice_get-get_or named i None below ∙ ap Some e;
  passed = placed;
  waits = waits;
}

-- The file on top of the stack is a file.
pub top_within : (rows : List FileImports) (states : List State) (stack : List Frame)
    (placed : List ℕ) (top : Frame) → IsWalk rows states (stack ++ top ∷ []) placed
    → (top.file < length states) × (length states ≡ length rows)
    × ArePlaced states (named_of rows top.file) top.next
top_within rows states stack placed top s =
    let last = at.get_push_last stack top in (
      slice_get_within states top.file (Open (length stack)) (s.open_at (length stack) top last),
      s.count,
      s.passed (length stack) top last,
    )

-- What stands in the order has its place.
module _ (rows : List FileImports) (states : List State) (stack : List Frame) (placed : List ℕ)
    (s : IsWalk rows states stack placed) where
  pub contains_placed : (f : ℕ) → IsPlaced states f → Contains placed f
  contains_placed f h = at.contains_at placed h.0 f (s.at_placed f h.0 h.1)

  pub placed_contains : (f : ℕ) → Contains placed f → IsPlaced states f
  placed_contains f h = let there = at.at_contains placed f h in (there.0, s.placed_at there.0 f there.1)

-- A step that gives the file on top its place leads on.
pub placing_goes : (rows : List FileImports) (states states' : List State)
    (stack stack' : List Frame) (placed placed' : List ℕ) (top : Frame)
    → IsWalk rows states (stack ++ top ∷ []) placed
    → ArePlaced states (named_of rows top.file) (length (named_of rows top.file))
    → states' ≡ set states top.file (Placed (length placed)) → stack' ≡ stack
    → placed' ≡ placed ++ top.file ∷ []
    → Goes rows states states' (stack ++ top ∷ []) stack' placed placed'
placing_goes rows states states' stack stack' placed placed' top s all e e' e'' =
    let m = length placed in
    let now = set states top.file (Placed m) in
    let named = named_of rows top.file in
    let was = s.open_at (length stack) top (at.get_push_last stack top) in
    let count = new_count-set states top.file (Open (length stack)) (Placed m) was in
    let goes : Goes rows states now (stack ++ top ∷ []) stack placed (placed ++ top.file ∷ []) =
    record {
      walk = place_walk rows states stack placed top s all;
      onward = onward_set states top.file (Placed m) (placed_new m);
      less = omega (arith, count, length-append stack (top ∷ []));
      orderly = λ start root o.
          comes_places rows start root top (reverse stack) placed
          (subst (λ (xs : List Frame). Orderly rows start root xs placed) (reverse-push stack top) o)
          (λ k h there. contains_placed rows states (stack ++ top ∷ []) placed s h
          (all k h (slice_get_within named k (Some h) there) there));
    } in
    subst (λ (x : List State). Goes rows states x (stack ++ top ∷ []) stack' placed placed') (sym e)
    (subst (λ (x : List Frame). Goes rows states now (stack ++ top ∷ []) x placed placed') (sym e')
    (subst (λ (x : List ℕ). Goes rows states now (stack ++ top ∷ []) stack placed x) (sym e'') goes))

-- The last element of a stack with one more is that one.
last_is : (stack : List Frame) (top a : Frame) (j : ℕ) → slice_get (stack ++ top ∷ []) j ≡ Some a
    → j + 1 ≡ length (stack ++ top ∷ []) → top ≡ a
last_is stack top a j e end = elim (at.get_push_cases stack top j a e) [
  | inl o ↦
      let within = slice_get_within stack j a o in
      absurd (omega (arith, within, end, length-append stack (top ∷ [])))
  | inr l ↦ l.1
]

-- The next import of the file on top: the stack stays, but for where it looks next.
pub moved : (rows : List FileImports) (states : List State) (stack : List Frame) (placed : List ℕ)
    (top top' : Frame) (g : ℕ) → IsWalk rows states (stack ++ top ∷ []) placed → top'.file ≡ top.file
    → IsNext states (named_of rows top.file) top'.next g
    → IsWalk rows states (stack ++ top' ∷ []) placed × ImportsIn rows top'.file g
moved rows states stack placed top top' g s same next = (
  move_walk rows states stack placed top top' s same next.passed,
  subst (λ (f : ℕ). ImportsIn rows f g) (sym same)
      (at.contains_at (named_of rows top.file) top'.next (Some g) next.at),
)

-- the file on top, once its import with this index is looked at
abbrev pub at_import : Frame → ℕ → Frame
at_import top i = record { file = top.file; next = i }

-- a file that is put on the stack
abbrev pub entered : ℕ → Frame
entered g = record { file = g; next = 0 }

-- A step that puts the next import on the stack leads on.
pub entering_goes : (rows : List FileImports) (states states' : List State)
    (stack stack' : List Frame) (placed placed' : List ℕ) (top : Frame) (i g : ℕ)
    → IsWalk rows states (stack ++ top ∷ []) placed → IsNext states (named_of rows top.file) i g
    → IsNew states g → states' ≡ set states g (Open (length (stack ++ at_import top i ∷ [])))
    → stack' ≡ (stack ++ at_import top i ∷ []) ++ entered g ∷ [] → placed' ≡ placed
    → Goes rows states states' (stack ++ top ∷ []) stack' placed placed'
entering_goes rows states states' stack stack' placed placed' top i g s next new e e' e'' =
    let top' : Frame = at_import top i in
    let frame : Frame = entered g in
    let whole = stack ++ top ∷ [] in
    let n = length (stack ++ top' ∷ []) in
    let now = set states g (Open n) in
    let m = moved rows states stack placed top top' g s refl next in
    let walk = enter_walk rows states (stack ++ top' ∷ []) placed g m.0 new
    (λ j a h end. subst (λ (x : Frame). ImportsIn rows x.file g) (last_is stack top' a j h end) m.1)
    frame refl refl in
    let count = new_count-set states g New (Open n) new in
    let t = top_within rows states stack placed top s in
    let has : (h : ℕ) → IsPlaced states h → Contains placed h = contains_placed rows states whole placed s in
    let goes : Goes rows states now whole ((stack ++ top' ∷ []) ++ frame ∷ []) placed placed =
    record {
      walk = walk;
      onward = onward_set states g (Open n) (open_new n);
      less = omega (
        arith,
        count,
        length-append stack (top ∷ []),
        length-append stack (top' ∷ []),
        length-append (stack ++ top' ∷ []) (frame ∷ []),
      );
      orderly = λ start root o.
          subst (λ (xs : List Frame). Orderly rows start root xs placed)
          (sym (reverse-push (stack ++ top' ∷ []) frame ∙ ap (λ xs. frame ∷ xs) (reverse-push stack top')))
          (comes_enters rows start root top (reverse stack) placed i g
          (subst (λ (xs : List Frame). Orderly rows start root xs placed) (reverse-push stack top) o)
          next.at (λ h. next.waits (placed_contains rows states whole placed s g h))
          (λ k h below there. has h (t.2 k h below there))
          (λ k h below there. has h (next.passed k h below there)));
    } in
    subst (λ (x : List State). Goes rows states x whole stack' placed placed') (sym e)
    (subst (λ (x : List Frame). Goes rows states now whole x placed placed') (sym e')
    (subst (λ (x : List ℕ). Goes rows states now whole ((stack ++ top' ∷ []) ++ frame ∷ []) placed x) (sym e'') goes))

-- The next import is on the stack: a cycle.
pub closing : (rows : List FileImports) (states : List State) (stack : List Frame) (placed : List ℕ)
    (top top' : Frame) (g d : ℕ) (files : List ℕ) → IsWalk rows states (stack ++ top ∷ []) placed
    → top'.file ≡ top.file → IsNext states (named_of rows top.file) top'.next g
    → slice_get states g ≡ Some (Open d)
    → files ≡ map (λ (a : Frame). a.file) (drop d (stack ++ top' ∷ []))
    → IsCycle (ImportsIn rows) files
closing rows states stack placed top top' g d files s same next is_open e =
    let m = moved rows states stack placed top top' g s same next in
    let some = length-append stack (top' ∷ []) in
    cycle_closes rows states (stack ++ top' ∷ []) placed g d m.0 is_open
    (λ a h. subst (λ (x : Frame). ImportsIn rows x.file g)
    (last_is stack top' a (length (stack ++ top' ∷ []) - 1) h (omega (arith, some))) m.1)
    files e

-- A file that is on the stack has its depth there.
pub depth_within : (rows : List FileImports) (states : List State) (stack : List Frame) (placed : List ℕ)
    (top top' : Frame) (g d : ℕ) → IsWalk rows states (stack ++ top ∷ []) placed
    → slice_get states g ≡ Some (Open d) → d < length (stack ++ top' ∷ [])
depth_within rows states stack placed top top' g d s is_open =
    let f = s.at_open g d is_open in
    let within = slice_get_within (stack ++ top ∷ []) d f.0 f.1 in
    omega (arith, within, length-append stack (top ∷ []), length-append stack (top' ∷ []))

-- A file that is neither on the stack nor in the order is new.
pub new_state : (states : List State) (g : ℕ) (x : State) → slice_get states g ≡ Some x
    → ((j : ℕ) → x ≡ Open j → ⊥) → (IsPlaced states g → ⊥) → IsNew states g
new_state states g New e not_open waits = e
new_state states g (Open j) e not_open waits = absurd (not_open j refl)
new_state states g (Placed p) e not_open waits = absurd (waits (p, e))

-- The walk comes to its first file.
pub record Starts (rows : List FileImports) (states states' : List State) (stack' : List Frame)
    (placed placed' : List ℕ) (root : ℕ) : Type 0 where
  pub walk : IsWalk rows states' stack' placed'
  pub onward : Onward states states'
  pub came : IsNew states' root → ⊥
  pub orderly : Orderly rows placed root (reverse stack') placed'

pub visit_starts : (rows : List FileImports) (states states' : List State)
    (stack' : List Frame) (placed placed' : List ℕ) (root : ℕ)
    → IsWalk rows states [] placed → IsNew states root
    → states' ≡ set states root (Open 0) → stack' ≡ entered root ∷ [] → placed' ≡ placed
    → Starts rows states states' stack' placed placed' root
visit_starts rows states states' stack' placed placed' root s new e e' e'' =
    let now = set states root (Open 0) in
    let frame : Frame = entered root in
    let this = at.get_set_same states root (Open 0) New new in
    let starts : Starts rows states now (frame ∷ []) placed placed root = record {
      walk = enter_walk rows states [] placed root s new (λ j a h. cc) frame refl refl;
      onward = onward_set states root (Open 0) (open_new 0);
      came = λ h. open_new 0 (same_Some (Open 0) New (sym this ∙ h));
      orderly = root_enters rows placed root (λ h.
          let there = placed_contains rows states [] placed s root h in
          placed_new there.0 (same_Some (Placed there.0) New (sym there.1 ∙ new)));
    } in
    subst (λ (x : List State). Starts rows states x stack' placed placed' root) (sym e)
    (subst (λ (x : List Frame). Starts rows states now x placed placed' root) (sym e')
    (subst (λ (x : List ℕ). Starts rows states now (frame ∷ []) placed x root) (sym e'') starts))

state_placed : (rows : List FileImports) (states : List State) (placed : List ℕ) (root : ℕ)
    (x : State) → IsWalk rows states [] placed → slice_get states root ≡ Some x → (x ≡ New → ⊥)
    → Contains placed root
state_placed rows states placed root New s e other = absurd (other refl)
state_placed rows states placed root (Open j) s e other =
    let on = s.at_open root j e in
    let none = on.1 in
    cc
state_placed rows states placed root (Placed p) s e other =
    at.contains_at placed p root (s.at_placed root p e)

-- A file that was not new is passed by.
pub passed_visited : (rows : List FileImports) (states : List State) (stack : List Frame)
    (placed : List ℕ) (root : ℕ) (x : State) → IsWalk rows states [] placed → stack ≡ []
    → slice_get states root ≡ Some x → (x ≡ New → ⊥)
    → Visited rows states states root stack placed placed
passed_visited rows states stack placed root x s ends is other = record {
  walk = s;
  ends = ends;
  onward = λ f h. h;
  came = λ h. other (same_Some x New (sym is ∙ h));
  visits = Passes placed placed root [] (state_placed rows states placed root x s is other) (Ends placed);
}

-- What is placed by some lists is placed by equal ones.
pub placed_as : (states states' : List State) (named named' : List (Option ℕ)) → states ≡ states'
    → named ≡ named' → ArePlaced states named (length named) → ArePlaced states' named' (length named')
placed_as states states' named named' e e' h =
    subst (λ (x : List State). ArePlaced x named' (length named')) e
    (subst (λ (x : List (Option ℕ)). ArePlaced states x (length x)) e' h)

pub next_as : (states states' : List State) (named named' : List (Option ℕ)) (i g : ℕ)
    → states ≡ states' → named ≡ named' → IsNext states named i g → IsNext states' named' i g
next_as states states' named named' i g e e' h =
    subst (λ (x : List State). IsNext x named' i g) e
    (subst (λ (x : List (Option ℕ)). IsNext states x i g) e' h)

-- The next import is a file.
pub next_file_within : (rows : List FileImports) (states : List State) (stack : List Frame)
    (placed : List ℕ) (top : Frame) (i g : ℕ) → AreWithin rows
    → IsWalk rows states (stack ++ top ∷ []) placed → IsNext states (named_of rows top.file) i g
    → g < length states
next_file_within rows states stack placed top i g within s next =
    let below = within top.file g (at.contains_at (named_of rows top.file) i (Some g) next.at) in
    let count = s.count in
    omega (arith, below, count)

-- One file more was visited.
pub record Came (rows : List FileImports) (states : List State) (stack : List Frame)
    (placed : List ℕ) (n : ℕ) : Type 0 where
  pub walk : IsWalk rows states [] placed
  pub ends : stack ≡ []
  pub visits : Visits rows [] (all_files n) placed
  pub came : (f : ℕ) → f < n → IsNew states f → ⊥

pub comes_first : (rows : List FileImports) (states : List State) (stack : List Frame)
    (placed : List ℕ) → states ≡ replicate (length rows) New → stack ≡ [] → placed ≡ []
    → Came rows states stack placed 0
comes_first rows states stack placed e e' e'' = record {
  walk = walk_starts rows states stack placed e e' e'';
  ends = e';
  visits = subst (λ (x : List ℕ). Visits rows [] [] x) (sym e'') (Ends []);
  came = λ f below h. omega (arith, below);
}

pub comes_next : (rows : List FileImports) (states states' : List State) (stack stack' : List Frame)
    (placed placed' : List ℕ) (n : ℕ) → Came rows states stack placed n
    → Visited rows states states' n stack' placed placed' → Came rows states' stack' placed' (n + 1)
comes_next rows states states' stack stack' placed placed' n c v = record {
  walk = v.walk;
  ends = v.ends;
  visits = subst (λ (xs : List (Option ℕ)). Visits rows [] xs placed') (sym (all_files-more n))
      (visits_more c.visits v.visits);
  came = λ f below h. elim (cases_lt f n) [
    | inl low ↦ c.came f low (v.onward f h)
    | inr high ↦
        let same : f ≡ n = omega (arith, below, high) in
        v.came (subst (λ (x : ℕ). IsNew states' x) same h)
  ];
}
