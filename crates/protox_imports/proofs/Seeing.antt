-- The search for what a file sees.
use Rattle.std.proofs.Common.{◌≡◌, inl, inr, ℕ, zero, suc, ◌<◌, List, [], ◌∷◌, ◌++◌, length, set, replicate, Option, Some, None, Bool, true, false, refl, sym, ◌∙◌, ap, subst, arith}
use Rattle.std.specs.Prelude.{slice_get, Contains, IsTrue, unwrap_or, ◌↔◌}
use Rattle.std.proofs.lemmas.List.Elements.{Contains-push, Contains-push_cases, Contains-append_left}
use Rattle.std.proofs.Math.Bool.{Bool-set}
use Rattle.std.specs.Coded.{le_prop}
use Rattle.std.proofs.Math.Logic.{∥∥₁_elim}
use Rattle.std.proofs.Math.ListN.{length-replicate}
use Rattle.std.proofs.lemmas.Option.{slice_get_within}
use Rattle.protox_imports.specs.Rows.{ImportsIn, PassesOnIn, AreWithin, AreAmongImports}
use Rattle.protox_imports.specs.Sees.{Passes, Sees, IsClosed}
use Rattle.protox_imports.specs.Sees.Passes.{Itself, Publicly}
use Rattle.protox_imports.specs.declared.row.FileImports.{FileImports}
use Rattle.protox_imports.specs.inner.Marks.{IsMarked, Marks, IsSeeing}
use Rattle.protox_imports.proofs.Elements.{get_set_cases}
use Rattle.protox_imports.proofs.Marking.{IsMarked-set, set_marked}

pub passes_more : {R : ℕ → ℕ → Type 0} {a b : ℕ} (c : ℕ) → Passes R a b → R b c → Passes R a c
passes_more c (Itself a) r = Publicly a c c r (Itself c)
passes_more c (Publicly a g b r' p) r = Publicly a g c r' (passes_more c p r)

none_marked : (n h : ℕ) → IsMarked (replicate n false) h → ⊥
none_marked zero h m = cc
none_marked (suc n) zero m = cc
none_marked (suc n) (suc h) m = none_marked n h m

-- The search begins.
pub seeing_starts : (rows : List FileImports) (f : ℕ) (before marks : List Bool)
    (from list : List ℕ) → before ≡ replicate (length rows) false → from ≡ []
    → Marks before from (λ g. ImportsIn rows f g) marks list → IsSeeing rows f marks list
seeing_starts rows f before marks from list e e' m =
    let none : (h : ℕ) → IsMarked before h → ⊥ =
    λ h k. none_marked (length rows) h (subst (λ ms. IsMarked ms h) e k) in
    record {
      count = m.count ∙ (ap length e ∙ length-replicate (length rows) false);
      sound = λ h k. elim (m.only h k) [
        | inl x ↦ absurd (none h x)
        | inr w ↦ (h, w, Itself h)
      ];
      start = m.marked;
      closed = λ g h k p. elim (m.new_listed g k) [
        | inl x ↦ absurd (none g x)
        | inr x ↦ inl x
      ];
      listed = λ g k. elim (m.listed g k) [
        | inl x ↦
            let no : Contains {X = ℕ} [] g = subst (λ (xs : List ℕ). Contains xs g) e' x in
            absurd (omega (arith, no.1))
        | inr x ↦ x
      ];
    }

-- One file is taken off the list, and what it passes on is marked.
pub seeing_goes_on : (rows : List FileImports) (f g : ℕ) (before marks : List Bool)
    (from rest list : List ℕ) → from ≡ rest ++ g ∷ []
    → IsSeeing rows f before from → Marks before rest (λ h. PassesOnIn rows g h) marks list
    → IsSeeing rows f marks list
seeing_goes_on rows f g before marks from rest list e s m = record {
  count = m.count ∙ s.count;
  sound = λ h k. elim (m.only h k) [
    | inl x ↦ s.sound h x
    | inr w ↦
        let there = s.sound g (s.listed g (subst (λ xs. Contains xs g) (sym e) (Contains-push rest g))) in
        (there.0, there.1, passes_more h there.2 w)
  ];
  start = λ h i. m.kept h (s.start h i);
  closed = λ a h k p. elim (m.new_listed a k) [
    | inl x ↦ elim (s.closed a h x p) [
      | inl on ↦ elim (Contains-push_cases rest g a (subst (λ xs. Contains xs a) e on)) [
        | inl y ↦ inl (m.stays a y)
        | inr same ↦ inr (m.marked h (subst (λ b. PassesOnIn rows b h) (sym same) p))
      ]
      | inr y ↦ inr (m.kept h y)
    ]
    | inr x ↦ inl x
  ];
  listed = λ h k. elim (m.listed h k) [
    | inl x ↦ m.kept h (s.listed h
        (subst (λ xs. Contains xs h) (sym e) (Contains-append_left rest (g ∷ []) h x)))
    | inr x ↦ x
  ];
}

module _ (rows : List FileImports) (f : ℕ) (marks : List Bool) (s : IsSeeing rows f marks []) where
  passed : {g h : ℕ} → Passes (PassesOnIn rows) g h → IsMarked marks g → IsMarked marks h
  passed (Itself g) k = k
  passed (Publicly a g h r p) k =
      elim (s.closed a g k r) [ inl x ↦ absurd (omega (arith, x.1)) | inr x ↦ passed p x ]

  -- At the end what is seen is marked, once the file itself is.
  pub seen_all : f < length rows → (h : ℕ)
      → IsMarked (set marks f true) h ↔ Sees (ImportsIn rows) (PassesOnIn rows) f h
  seen_all below h = (
    (λ k. elim (get_set_cases marks f h true true k) [
      | inl e ↦ inl (sym (e.0))
      | inr o ↦ inr (s.sound h (o.1))
    ]),
    (λ k. elim k [
      | inl e ↦ subst (λ x. IsMarked (set marks f true) x) e (set_marked marks f (omega (arith, s.count)))
      | inr there ↦ IsMarked-set marks f h (passed (there.2) (s.start (there.0) (there.1)))
    ]),
  )

-- What is closed has what is passed on.
least_passed : {R : ℕ → ℕ → Type 0} {g h : ℕ} (holds : ℕ → Bool)
    → ((a b : ℕ) → IsTrue (holds a) → R a b → IsTrue (holds b))
    → Passes R g h → IsTrue (holds g) → IsTrue (holds h)
least_passed holds on (Itself g) k = k
least_passed holds on (Publicly a g h r p) k = least_passed holds on p (on a g k r)

-- A file sees no more than any closed set has.
pub sees_least : (imports publicly : ℕ → ℕ → Type 0) (f h : ℕ) (holds : ℕ → Bool)
    → IsClosed imports publicly f holds → Sees imports publicly f h → IsTrue (holds h)
sees_least imports publicly f h holds closed k = elim k [
  | inl e ↦ subst (λ x. IsTrue (holds x)) e closed.itself
  | inr there ↦ least_passed holds closed.passed_on (there.2) (closed.imported (there.0) (there.1))
]

marked_test : (o : Option Bool) → IsTrue (unwrap_or o false) → o ≡ Some true
marked_test None t = cc
marked_test (Some true) t = refl
marked_test (Some false) t = cc

-- What it sees is closed.
pub sees_closed : (rows : List FileImports) (f : ℕ) (marks : List Bool) → ∥ AreAmongImports rows ∥₁
    → ((h : ℕ) → IsMarked marks h ↔ Sees (ImportsIn rows) (PassesOnIn rows) f h)
    → IsClosed (ImportsIn rows) (PassesOnIn rows) f (λ h. unwrap_or (slice_get marks h) false)
sees_closed rows f marks among sees =
    let test : (h : ℕ) → IsMarked marks h → IsTrue (unwrap_or (slice_get marks h) false) =
    λ h k. subst (λ o. IsTrue (unwrap_or o false)) (sym k) refl in
    let fact : (h : ℕ) → IsTrue (unwrap_or (slice_get marks h) false) → IsMarked marks h =
    λ h t. marked_test (slice_get marks h) t in
    record {
      itself = test f ((sees f).1 (inl refl));
      imported = λ g i. test g ((sees g).1 (inr (g, i, Itself g)));
      passed_on = λ g h t p. elim ((sees g).0 (fact g t)) [
        | inl e ↦ ∥∥₁_elim among (Bool-set _ _) (λ all.
            test h ((sees h).1 (inr (h, all f h (subst (λ x. PassesOnIn rows x h) (sym e) p), Itself h))))
        | inr there ↦ test h ((sees h).1 (inr (there.0, there.1, passes_more h (there.2) p)))
      ];
    }

-- The next file of the list is within the rows.
pub next_within : (rows : List FileImports) (f g : ℕ) (marks : List Bool) (list rest : List ℕ)
    → list ≡ rest ++ g ∷ [] → IsSeeing rows f marks list → g < length rows
next_within rows f g marks list rest e s =
    let marked = s.listed g (subst (λ xs. Contains xs g) (sym e) (Contains-push rest g)) in
    let below = slice_get_within marks g true marked in
    omega (arith, below, s.count)

-- What is passed on is within the rows.
pub passed_within : (rows : List FileImports) (f g : ℕ) → AreWithin rows
    → ∥ AreAmongImports rows ∥₁ → PassesOnIn rows f g → g < length rows
passed_within rows f g within among on = ∥∥₁_elim among le_prop (λ all. within f g (all f g on))
