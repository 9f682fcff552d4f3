-- What is known of the walk that puts files in order stays known with each change of its stack,
-- and what follows at its end.
use Rattle.std.proofs.Common.{◌≡◌, ◌≢◌, inl, inr, ℕ, zero, suc, ◌<◌, ◌+◌, ◌-◌, List, [], ◌∷◌, ◌++◌, length, get_or, set, drop, map, replicate, Some, refl, sym, ◌∙◌, ap, subst, arith, length-set, length-drop}
use Rattle.std.specs.Prelude.{slice_get, Contains}
use Rattle.std.proofs.lemmas.List.{take-append-le, take_all, length-map}
use Rattle.std.proofs.Math.ListN.{length-replicate}
use Rattle.std.proofs.lemmas.Option.{slice_get_within, slice_get-get_or, same_Some}
use Rattle.protox_imports.specs.Rows.{ImportsIn, named_of}
use Rattle.protox_imports.specs.Order.{IsInOrder, IsCycle}
use Rattle.protox_imports.specs.declared.row.FileImports.{FileImports}
use Rattle.protox_imports.specs.declared.walk.State.{State}
use Rattle.protox_imports.specs.declared.walk.State.TheVariants.{New, Open, Placed}
use Rattle.protox_imports.specs.declared.walk.Frame.{Frame}
use Rattle.protox_imports.specs.inner.Walk.{IsNew, ArePlaced, IsWalk}
use Rattle.protox_imports.proofs.Elements as at

same_open : (i j : ℕ) → ◌≡◌ {A = State} (Open i) (Open j) → i ≡ j
same_open i j e = cc

same_placed : (i j : ℕ) → ◌≡◌ {A = State} (Placed i) (Placed j) → i ≡ j
same_placed i j e = cc

pub open_new : (j : ℕ) → ◌≢◌ {A = State} (Open j) New
open_new j e = cc

pub placed_new : (p : ℕ) → ◌≢◌ {A = State} (Placed p) New
placed_new p e = cc

placed_open : (p j : ℕ) → ◌≢◌ {A = State} (Placed p) (Open j)
placed_open p j e = cc

-- A file that is in another state is not the one that is written.
kept : (states : List State) (g f : ℕ) (was now x : State) → slice_get states g ≡ Some was
    → slice_get states f ≡ Some x → x ≢ was → slice_get (set states g now) f ≡ Some x
kept states g f was now x here e other =
    at.get_set_other states g f now
    (λ same. other (same_Some x was (sym e ∙ (ap (slice_get states) same ∙ here))))
    ∙ e

-- A file is put on the stack.
module _ (rows : List FileImports) (states : List State) (stack : List Frame) (placed : List ℕ)
    (g : ℕ) (s : IsWalk rows states stack placed) (new : IsNew states g)
    (from : (j : ℕ) (a : Frame) → slice_get stack j ≡ Some a → j + 1 ≡ length stack
    → ImportsIn rows a.file g) where
  stays : (f : ℕ) (x : State) → slice_get states f ≡ Some x → x ≢ New
      → slice_get (set states g (Open (length stack))) f ≡ Some x
  stays f x e other = kept states g f New (Open (length stack)) x new e other

  pub enter_walk : (top : Frame) → top.file ≡ g → top.next ≡ 0
      → IsWalk rows (set states g (Open (length stack))) (stack ++ top ∷ []) placed
  enter_walk top is_g is_0 =
      let n = length stack in
      let states' = set states g (Open n) in
      let this : slice_get states' g ≡ Some (Open n) = at.get_set_same states g (Open n) New new in
      record {
        count = length-set states g (Open n) ∙ s.count;
        open_at = λ j a e. elim (at.get_push_cases stack top j a e) [
          | inl o ↦ stays a.file (Open j) (s.open_at j a o) (open_new j)
          | inr l ↦ subst (λ (i : ℕ). slice_get states' a.file ≡ Some (Open i)) (sym (l.0))
              (subst (λ (f : ℕ). slice_get states' f ≡ Some (Open n))
              (sym is_g ∙ ap (λ (x : Frame). x.file) (l.1)) this)
        ];
        at_open = λ f j e. elim (at.get_set_cases states g f (Open n) (Open j) e) [
          | inl h ↦ (
            top,
            subst (λ i. slice_get (stack ++ top ∷ []) i ≡ Some top) (same_open n j (h.1)) (at.get_push_last stack top),
            is_g ∙ sym (h.0),
          )
          | inr h ↦
              let there = s.at_open f j (h.1) in
              (there.0, at.get_append_left stack (top ∷ []) j there.0 there.1, there.2)
        ];
        placed_at = λ p f e. stays f (Placed p) (s.placed_at p f e) (placed_new p);
        at_placed = λ f p e. elim (at.get_set_cases states g f (Open n) (Placed p) e) [
          | inl h ↦ let no = h.1 in cc
          | inr h ↦ s.at_placed f p (h.1)
        ];
        passed = λ j a e k h below i. elim (at.get_push_cases stack top j a e) [
          | inl o ↦
              let there = s.passed j a o k h below i in
              (there.0, stays h (Placed there.0) there.1 (placed_new there.0))
          | inr l ↦
              let zero' : a.next ≡ 0 = sym (ap (λ (x : Frame). x.next) (l.1)) ∙ is_0 in
              absurd (omega (arith, below, zero'))
        ];
        chain = λ j a b ea eb. elim (at.get_push_cases stack top (j + 1) b eb) [
          | inl ob ↦ elim (at.get_push_cases stack top j a ea) [
            | inl oa ↦ s.chain j a b oa ob
            | inr la ↦
                let w = slice_get_within stack (j + 1) b ob in
                let e = la.0 in
                absurd (omega (arith, w, e))
          ]
          | inr lb ↦ elim (at.get_push_cases stack top j a ea) [
            | inl oa ↦ subst (λ (f : ℕ). ImportsIn rows a.file f)
                (sym is_g ∙ ap (λ (x : Frame). x.file) (lb.1)) (from j a oa (lb.0))
            | inr la ↦
                let e = la.0 in
                let e' = lb.0 in
                absurd (omega (arith, e, e'))
          ]
        ];
        behind = s.behind;
      }

-- The file on top of the stack gets its place.
module _ (rows : List FileImports) (states : List State) (stack : List Frame) (placed : List ℕ)
    (top : Frame) (s : IsWalk rows states (stack ++ top ∷ []) placed)
    (all : ArePlaced states (named_of rows top.file) (length (named_of rows top.file))) where
  on_top : slice_get states top.file ≡ Some (Open (length stack))
  on_top = s.open_at (length stack) top (at.get_push_last stack top)

  other_stays : (f : ℕ) (x : State) → slice_get states f ≡ Some x → x ≢ Open (length stack)
      → slice_get (set states top.file (Placed (length placed))) f ≡ Some x
  other_stays f x e other =
      kept states top.file f (Open (length stack)) (Placed (length placed)) x on_top e other

  pub place_walk : IsWalk rows (set states top.file (Placed (length placed))) stack (placed ++ top.file ∷ [])
  place_walk =
      let n = length stack in
      let m = length placed in
      let states' = set states top.file (Placed m) in
      let this : slice_get states' top.file ≡ Some (Placed m) =
      at.get_set_same states top.file (Placed m) (Open n) on_top in
      record {
        count = length-set states top.file (Placed m) ∙ s.count;
        open_at = λ j a e.
            let below = slice_get_within stack j a e in
            other_stays a.file (Open j) (s.open_at j a (at.get_append_left stack (top ∷ []) j a e))
            (λ same. let i = same_open j n same in omega (arith, below, i));
        at_open = λ f j e. elim (at.get_set_cases states top.file f (Placed m) (Open j) e) [
          | inl h ↦ let no = h.1 in cc
          | inr h ↦
              let there = s.at_open f j (h.1) in
              elim (at.get_push_cases stack top j there.0 there.1) [
                | inl o ↦ (there.0, o, there.2)
                | inr l ↦ absurd (h.0 (sym (ap (λ (x : Frame). x.file) (l.1) ∙ there.2)))
              ]
        ];
        placed_at = λ p f e. elim (at.get_push_cases placed top.file p f e) [
          | inl o ↦ other_stays f (Placed p) (s.placed_at p f o) (placed_open p n)
          | inr l ↦ subst (λ (i : ℕ). slice_get states' f ≡ Some (Placed i)) (sym (l.0))
              (subst (λ (x : ℕ). slice_get states' x ≡ Some (Placed m)) (l.1) this)
        ];
        at_placed = λ f p e. elim (at.get_set_cases states top.file f (Placed m) (Placed p) e) [
          | inl h ↦ subst (λ (x : ℕ). slice_get (placed ++ top.file ∷ []) p ≡ Some x) (sym (h.0))
              (subst (λ (i : ℕ). slice_get (placed ++ top.file ∷ []) i ≡ Some top.file)
              (same_placed m p (h.1)) (at.get_push_last placed top.file))
          | inr h ↦ at.get_append_left placed (top.file ∷ []) p f (s.at_placed f p (h.1))
        ];
        passed = λ j a e k h below i.
            let there = s.passed j a (at.get_append_left stack (top ∷ []) j a e) k h below i in
            (there.0, other_stays h (Placed there.0) there.1 (placed_open there.0 n));
        chain = λ j a b ea eb. s.chain j a b (at.get_append_left stack (top ∷ []) j a ea)
            (at.get_append_left stack (top ∷ []) (j + 1) b eb);
        behind = λ p f h e i. elim (at.get_push_cases placed top.file p f e) [
          | inl o ↦
              let within = slice_get_within placed p f o in
              subst (λ (xs : List ℕ). Contains xs h)
              (sym (take-append-le p placed (top.file ∷ []) (omega (arith, within)))) (s.behind p f h o i)
          | inr l ↦
              let i' : ImportsIn rows top.file h = subst (λ (x : ℕ). ImportsIn rows x h) (sym (l.1)) i in
              let there = at.at_contains (named_of rows top.file) (Some h) i' in
              let has = all there.0 h (slice_get_within (named_of rows top.file) there.0 (Some h) there.1) there.1 in
              let same = l.0 in
              subst (λ (xs : List ℕ). Contains xs h)
              (sym (take-append-le p placed (top.file ∷ []) (omega (arith, same))
              ∙ take_all p placed (omega (arith, same))))
              (at.contains_at placed has.0 h (s.at_placed h has.0 has.1))
        ];
      }

-- The file on top of the stack is looked at further on.
module _ (rows : List FileImports) (states : List State) (stack : List Frame) (placed : List ℕ)
    (top top' : Frame) (s : IsWalk rows states (stack ++ top ∷ []) placed) (same : top'.file ≡ top.file)
    (passed' : ArePlaced states (named_of rows top.file) top'.next) where
  -- an element of the new stack is the old one's, but for what is looked at next
  was : (j : ℕ) (a : Frame) → slice_get (stack ++ top' ∷ []) j ≡ Some a
      → (b : Frame) × (slice_get (stack ++ top ∷ []) j ≡ Some b) × (b.file ≡ a.file)
  was j a e = elim (at.get_push_cases stack top' j a e) [
    | inl o ↦ (a, at.get_append_left stack (top ∷ []) j a o, refl)
    | inr l ↦ (
      top,
      subst (λ (i : ℕ). slice_get (stack ++ top ∷ []) i ≡ Some top) (sym (l.0)) (at.get_push_last stack top),
      sym same ∙ ap (λ (x : Frame). x.file) (l.1),
    )
  ]

  pub move_walk : IsWalk rows states (stack ++ top' ∷ []) placed
  move_walk = record {
    count = s.count;
    open_at = λ j a e.
        let old = was j a e in
        subst (λ (f : ℕ). slice_get states f ≡ Some (Open j)) old.2 (s.open_at j old.0 old.1);
    at_open = λ f j e.
        let old = s.at_open f j e in
        elim (at.get_push_cases stack top j old.0 old.1) [
          | inl o ↦ (old.0, at.get_append_left stack (top' ∷ []) j old.0 o, old.2)
          | inr l ↦ (
            top',
            subst (λ (i : ℕ). slice_get (stack ++ top' ∷ []) i ≡ Some top') (sym (l.0)) (at.get_push_last stack top'),
            same ∙ (ap (λ (x : Frame). x.file) (l.1) ∙ old.2),
          )
        ];
    placed_at = s.placed_at;
    at_placed = s.at_placed;
    passed = λ j a e. elim (at.get_push_cases stack top' j a e) [
      | inl o ↦ s.passed j a (at.get_append_left stack (top ∷ []) j a o)
      | inr l ↦ subst (λ (x : Frame). ArePlaced states (named_of rows x.file) x.next) (l.1)
          (subst (λ (f : ℕ). ArePlaced states (named_of rows f) top'.next) (sym same) passed')
    ];
    chain = λ j a b ea eb.
        let old_a = was j a ea in
        let old_b = was (j + 1) b eb in
        subst (λ (f : ℕ). ImportsIn rows f b.file) old_a.2
        (subst (λ (f : ℕ). ImportsIn rows old_a.0.file f) old_b.2
        (s.chain j old_a.0 old_b.0 old_a.1 old_b.1));
    behind = s.behind;
  }

-- An import that is on the stack closes a cycle.
module _ (rows : List FileImports) (states : List State) (stack : List Frame) (placed : List ℕ)
    (g d : ℕ) (s : IsWalk rows states stack placed) (there : slice_get states g ≡ Some (Open d))
    (last : (a : Frame) → slice_get stack (length stack - 1) ≡ Some a → ImportsIn rows a.file g) where
  pub closes : d < length stack
  closes = let f = s.at_open g d there in slice_get_within stack d f.0 f.1

  pub cycle_closes : (files : List ℕ) → files ≡ map (λ (a : Frame). a.file) (drop d stack)
      → IsCycle (ImportsIn rows) files
  cycle_closes files e =
      let file : Frame → ℕ = λ a. a.file in
      let count : length files ≡ length stack - d =
      ap length e ∙ (length-map (drop d stack) file ∙ length-drop d stack) in
      let below = closes in
      let found : (k f : ℕ) → slice_get files k ≡ Some f
      → (a : Frame) × (slice_get stack (d + k) ≡ Some a) × (a.file ≡ f) =
      λ k f h.
      let a = at.get_map file (drop d stack) k f (ap (λ xs. slice_get xs k) (sym e) ∙ h) in
      (a.0, sym (at.get_drop d stack k) ∙ a.1, a.2) in
      record {
        some = omega (arith, count, below);
        next = λ k f h ef eh.
            let a = found k f ef in
            let b = found (k + 1) h eh in
            subst (λ (x : ℕ). ImportsIn rows x h) a.2 (subst (λ (x : ℕ). ImportsIn rows a.0.file x) b.2
            (s.chain (d + k) a.0 b.0 a.1
            (ap (slice_get stack) (omega arith) ∙ b.1)));
        around = λ f h ef eh.
            let a = found (length files - 1) f ef in
            let b = found 0 h eh in
            let first = s.at_open g d there in
            let is_g : g ≡ h =
            sym first.2 ∙ (ap (λ (x : Frame). x.file) (same_Some first.0 b.0 (sym first.1 ∙ (ap (slice_get stack) (omega arith) ∙ b.1))) ∙ b.2) in
            subst (λ (x : ℕ). ImportsIn rows x h) a.2 (subst (λ (x : ℕ). ImportsIn rows a.0.file x) is_g
            (last a.0 (ap (slice_get stack) (omega (arith, count, below)) ∙ a.1)));
      }

-- The walk begins.
all_new : (n f : ℕ) (x : State) → slice_get (replicate n New) f ≡ Some x → x ≡ New
all_new zero f x e = cc
all_new (suc n) zero x e = cc
all_new (suc n) (suc f) x e = all_new n f x e

pub walk_starts : (rows : List FileImports) (states : List State) (stack : List Frame)
    (placed : List ℕ) → states ≡ replicate (length rows) New → stack ≡ [] → placed ≡ []
    → IsWalk rows states [] placed
walk_starts rows states stack placed e e' e'' =
    let new : (f : ℕ) (x : State) → slice_get states f ≡ Some x → x ≡ New =
    λ f x h. all_new (length rows) f x (ap (λ xs. slice_get xs f) (sym e) ∙ h) in
    record {
      count = ap length e ∙ length-replicate (length rows) New;
      open_at = λ j a h. cc;
      at_open = λ f j h. absurd (open_new j (new f (Open j) h));
      placed_at = λ p f h.
          let no : slice_get {X = ℕ} [] p ≡ Some f = ap (λ (xs : List ℕ). slice_get xs p) (sym e'') ∙ h in cc;
      at_placed = λ f p h. absurd (placed_new p (new f (Placed p) h));
      passed = λ j a h. cc;
      chain = λ j a b h. cc;
      behind = λ p f g h.
          let no : slice_get {X = ℕ} [] p ≡ Some f = ap (λ (xs : List ℕ). slice_get xs p) (sym e'') ∙ h in cc;
    }

-- The walk is at its end: there is no new file, and none on the stack.
module _ (rows : List FileImports) (states : List State) (placed : List ℕ)
    (s : IsWalk rows states [] placed) (came : (f : ℕ) → f < length rows → IsNew states f → ⊥) where
  has_place : (f : ℕ) (x : State) → slice_get states f ≡ Some x → f < length rows → Contains placed f
  has_place f New e below = absurd (came f below e)
  has_place f (Open j) e below =
      let on = s.at_open f j e in
      let no = on.1 in
      cc
  has_place f (Placed p) e below = at.contains_at placed p f (s.at_placed f p e)

  placed_state : (p d : ℕ) → p < length placed → slice_get states (get_or placed p d) ≡ Some (Placed p)
  placed_state p d below = s.placed_at p (get_or placed p d) (slice_get-get_or placed p d below)

  pub walk_ends : IsInOrder (ImportsIn rows) (length rows) placed
  walk_ends = record {
    all = λ f below.
        let count = s.count in
        has_place f (get_or states f New) (slice_get-get_or states f New (omega (arith, below, count))) below;
    within = λ p d below.
        let h = slice_get_within states (get_or placed p d) (Placed p) (placed_state p d below) in
        let count = s.count in
        omega (arith, h, count);
    once = λ i j d before below same.
        let here = placed_state i d (omega (arith, before, below)) in
        let there = placed_state j d below in
        let e = same_placed i j (same_Some (Placed i) (Placed j)
        (sym here ∙ (ap (slice_get states) same ∙ there))) in
        omega (arith, before, e);
    behind = s.behind;
  }
