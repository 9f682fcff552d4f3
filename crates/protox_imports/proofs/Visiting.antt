-- The walk visits files depth first.
use Rattle.std.proofs.Common.{◌≡◌, inl, inr, ℕ, zero, suc, ◌<◌, ◌≤◌, ◌+◌, ◌-◌, List, [], ◌∷◌, ◌++◌, length, get_or, take, map, Option, Some, None, refl, sym, ◌∙◌, ap, subst, arith, add-zero, zero-add, add-one}
use Rattle.std.specs.Prelude.{slice_get, Contains, reverse}
use Rattle.std.specs.List.{range_with_len}
use Rattle.std.proofs.lemmas.Bool.{cases_lt}
use Rattle.std.proofs.lemmas.List.{take_more, take_all, reverse-append}
use Rattle.std.proofs.lemmas.List.Elements.{Contains-push}
use Rattle.std.proofs.lemmas.Option.{slice_get_within, slice_get-get_or, get_or_from_slice_get}
use Rattle.protox_imports.specs.Rows.{named_of}
use Rattle.protox_imports.specs.DepthFirst.{Visits, all_files}
use Rattle.protox_imports.specs.DepthFirst.Visits.{Ends, Missing, Passes, Places}
use Rattle.protox_imports.specs.declared.row.FileImports.{FileImports}
use Rattle.protox_imports.specs.declared.walk.Frame.{Frame}
use Rattle.protox_imports.specs.inner.Walk.{Waits, Comes, Orderly}
use Rattle.protox_imports.specs.inner.Walk.Waits.{Bottom, On}

-- One list of files is visited after another.
pub visits_more : {rows : List FileImports} {p q r : List ℕ} {xs ys : List (Option ℕ)}
    → Visits rows p xs q → Visits rows q ys r → Visits rows p (xs ++ ys) r
visits_more {ys = ys} (Ends p) v = v
visits_more {r = r} {ys = ys} (Missing p q more w) v = Missing p r (more ++ ys) (visits_more w v)
visits_more {r = r} {ys = ys} (Passes p q f more h w) v =
    Passes p r f (more ++ ys) h (visits_more w v)
visits_more {r = r} {ys = ys} (Places p m q f more h i w) v =
    Places p m r f (more ++ ys) h i (visits_more w v)

-- One file that has its place, or that is missing.
one_passed : (rows : List FileImports) (placed : List ℕ) (o : Option ℕ)
    → ((g : ℕ) → o ≡ Some g → Contains placed g) → Visits rows placed (o ∷ []) placed
one_passed rows placed None has = Missing placed placed [] (Ends placed)
one_passed rows placed (Some f) has = Passes placed placed f [] (has f refl) (Ends placed)

-- Files that have their place change nothing.
pub visits_on : (rows : List FileImports) (before placed : List ℕ) (named : List (Option ℕ))
    (more m : ℕ) → m + more ≤ length named → Visits rows before (take m named) placed
    → ((k g : ℕ) → m ≤ k → k < m + more → slice_get named k ≡ Some (Some g) → Contains placed g)
    → Visits rows before (take (m + more) named) placed
visits_on rows before placed named zero m within v has =
    subst (λ (n : ℕ). Visits rows before (take n named) placed) (sym (add-zero m)) v
visits_on rows before placed named (suc more) m within v has =
    let last = m + more in
    let below : last < length named = omega (arith, within) in
    let front = visits_on rows before placed named more m (omega (arith, within)) v
    (λ k g from to e. has k g from (omega (arith, to)) e) in
    let one = one_passed rows placed (get_or named last None) (λ g e.
    has last g (omega arith) (omega arith) (slice_get-get_or named last None below ∙ ap Some e)) in
    subst (λ (xs : List (Option ℕ)). Visits rows before xs placed)
    (sym (take_more named last None below) ∙ ap (λ n. take n named) (omega arith))
    (visits_more front one)

-- The file on top gets its place.
pub pops : {rows : List FileImports} {start : List ℕ} {root : ℕ} {rest : List Frame} {f : ℕ}
    {before : List ℕ} (placed : List ℕ) → Waits rows start root rest f before
    → (Contains before f → ⊥) → Visits rows before (named_of rows f) placed
    → Orderly rows start root rest (placed ++ f ∷ [])
pops {start = start} {root = root} placed Bottom new v =
    Places start placed (placed ++ root ∷ []) root [] new v (Ends (placed ++ root ∷ []))
pops {rows = rows} placed (On frame rest before now f w other vis there) new v =
    let named = named_of rows frame.file in
    let i = frame.next in
    let below = slice_get_within named i (Some f) there in
    let last : get_or named i None ≡ Some f = get_or_from_slice_get named i (Some f) None there in
    let one : Visits rows now (Some f ∷ []) (placed ++ f ∷ []) =
    Places now placed (placed ++ f ∷ []) f [] new v (Ends (placed ++ f ∷ [])) in
    record {
      before = before;
      upto = i + 1;
      waits = w;
      new = other;
      within = omega (arith, below);
      visits = subst (λ (xs : List (Option ℕ)). Visits rows before xs (placed ++ f ∷ []))
          (ap (λ o. take i named ++ o ∷ []) (sym last) ∙ sym (take_more named i None below))
          (visits_more vis one);
      passed = λ k g from to e.
          let same : k ≡ i = omega (arith, from, to) in
          let is : Some g ≡ Some f =
          sym (get_or_from_slice_get named k (Some g) None e) ∙ (ap (λ n. get_or named n None) same ∙ last) in
          subst (λ (x : ℕ). Contains (placed ++ f ∷ []) x) (cc) (Contains-push placed f);
    }

-- All imports of the file on top have their place: so it gets its own.
pub comes_places : (rows : List FileImports) (start : List ℕ) (root : ℕ) (top : Frame)
    (rest : List Frame) (placed : List ℕ) → Comes rows start root top rest placed
    → ((k h : ℕ) → slice_get (named_of rows top.file) k ≡ Some (Some h) → Contains placed h)
    → Orderly rows start root rest (placed ++ top.file ∷ [])
comes_places rows start root top rest placed c has =
    let named = named_of rows top.file in
    let m = c.upto in
    let within = c.within in
    let whole = visits_on rows c.before placed named (length named - m) m (omega (arith, within)) c.visits
    (λ k h from to e. has k h e) in
    pops placed c.waits c.new
    (subst (λ (xs : List (Option ℕ)). Visits rows c.before xs placed)
    (take_all (m + (length named - m)) named (omega (arith, within))) whole)

-- The next import of the file on top is put on the stack.
pub comes_enters : (rows : List FileImports) (start : List ℕ) (root : ℕ) (top : Frame)
    (rest : List Frame) (placed : List ℕ) (i g : ℕ) → Comes rows start root top rest placed
    → slice_get (named_of rows top.file) i ≡ Some (Some g) → (Contains placed g → ⊥)
    → ((k h : ℕ) → k < top.next → slice_get (named_of rows top.file) k ≡ Some (Some h) → Contains placed h)
    → ((k h : ℕ) → k < i → slice_get (named_of rows top.file) k ≡ Some (Some h) → Contains placed h)
    → Comes rows start root (record { file = g; next = 0 })
    (record { file = top.file; next = i } ∷ rest) placed
comes_enters rows start root top rest placed i g c there new early has =
    let named = named_of rows top.file in
    let m = c.upto in
    let below = slice_get_within named i (Some g) there in
    let not_before : m ≤ i = elim (cases_lt i m) [
      | inl h ↦ elim (cases_lt i top.next) [
        | inl low ↦ absurd (new (early i g low there))
        | inr high ↦ absurd (new (c.passed i g high h there))
      ]
      | inr h ↦ h
    ] in
    let upto = visits_on rows c.before placed named (i - m) m (omega (arith, below, not_before)) c.visits
    (λ k h from to e. has k h (omega (arith, to, not_before)) e) in
    record {
      before = placed;
      upto = 0;
      waits = On (record { file = top.file; next = i }) rest c.before placed g c.waits c.new
          (subst (λ (n : ℕ). Visits rows c.before (take n named) placed) (omega (arith, not_before)) upto)
          there;
      new = new;
      within = omega arith;
      visits = Ends placed;
      passed = λ k h from to e. absurd (omega (arith, to));
    }

-- The root is put on an empty stack.
pub root_enters : (rows : List FileImports) (placed : List ℕ) (root : ℕ)
    → (Contains placed root → ⊥)
    → Comes rows placed root (record { file = root; next = 0 }) [] placed
root_enters rows placed root new = record {
  before = placed;
  upto = 0;
  waits = Bottom;
  new = new;
  within = omega arith;
  visits = Ends placed;
  passed = λ k h from to e. absurd (omega (arith, to));
}

map_push : {X Y : Type 0} (f : X → Y) (xs : List X) (y : X)
    → map f (xs ++ y ∷ []) ≡ map f xs ++ f y ∷ []
map_push f [] y = refl
map_push f (x ∷ xs) y = ap (λ ys. f x ∷ ys) (map_push f xs y)

-- one file more, as they are given
range_suc : (a n : ℕ) → range_with_len a (suc n) ≡ range_with_len a n ++ (a + n) ∷ []
range_suc a zero = ap (λ x. x ∷ []) (sym (add-zero a))
range_suc a (suc n) = ap (λ xs. a ∷ xs) (range_suc (a + 1) n ∙ ap (λ x. range_with_len (a + 1) n ++ x ∷ []) (omega arith))

range_more : (a n : ℕ) → range_with_len a (n + 1) ≡ range_with_len a n ++ (a + n) ∷ []
range_more a n = rw add-one (range_suc a n)

pub all_files-more : (n : ℕ) → all_files (n + 1) ≡ all_files n ++ Some n ∷ []
all_files-more n =
    ap (map Some) (range_more 0 n)
    ∙ (map_push Some (range_with_len 0 n) (0 + n)
    ∙ ap (λ x. all_files n ++ Some x ∷ []) (zero-add n))

-- A stack from its top down.
pub reverse-push : (stack : List Frame) (top : Frame)
    → reverse (stack ++ top ∷ []) ≡ top ∷ reverse stack
reverse-push stack top = reverse-append stack (top ∷ [])
