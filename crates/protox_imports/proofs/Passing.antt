-- Marking what files pass on, and what is known once all rows are made.
use Rattle.std.proofs.Common.{◌≡◌, ◌≢◌, ◌⊎◌, inl, inr, ℕ, zero, suc, ◌<◌, ◌≤◌, ◌+◌, ◌||◌, ◌==◌, List, [], ◌∷◌, length, get_or, set, replicate, take, Option, Some, None, Bool, true, false, refl, sym, ◌∙◌, ap, subst, arith, length-set}
use Rattle.std.specs.Prelude.{slice_get, Contains, ◌↔◌}
use Rattle.std.proofs.Math.Bool.{Bool-set}
use Rattle.std.proofs.Math.Logic.{∥∥₁_elim}
use Rattle.std.proofs.lemmas.Bool.{false≢true}
use Rattle.std.proofs.lemmas.Bool.Decides.{Decides-eqb, eqb_tells}
use Rattle.std.proofs.lemmas.List.{get_or-set_same, get_or-set_other, length-replicate, take_all, take_more}
use Rattle.std.proofs.lemmas.List.Elements.{Contains-append_left, Contains-push, Contains-push_cases}
use Rattle.std.proofs.lemmas.Option.{same_Some, slice_get-get_or}
use Rattle.protox_imports.specs.Order.{IsInOrder}
use Rattle.protox_imports.specs.Passing.{AreRows, IsRow, PassedIn}
use Rattle.protox_imports.specs.Rows.{ImportsIn, PassesOnIn, AreAmongImports, named_of, public_of}
use Rattle.protox_imports.specs.Sees.{Passes, Sees}
use Rattle.protox_imports.specs.Sees.Passes.{Itself, Publicly}
use Rattle.protox_imports.specs.declared.row.FileImports.{FileImports}
use Rattle.protox_imports.specs.inner.Marks.{IsMarked}
use Rattle.protox_imports.specs.inner.Passing.{Adds, AreAsLong}
use Rattle.protox_imports.proofs.Elements.{at_contains, contains_at, get_set_cases}
use Rattle.protox_imports.proofs.Marking.{IsMarked-set, set_marked}

-- ---- marks

either_true : (a b : Bool) → (a || b) ≡ true → (a ≡ true) ⊎ (b ≡ true)
either_true true b is = inl refl
either_true false b is = inr is

or_left : (a b : Bool) → a ≡ true → (a || b) ≡ true
or_left a b is = ap (λ a. a || b) is

or_right : (a b : Bool) → b ≡ true → (a || b) ≡ true
or_right true b is = refl
or_right false b is = is

none_marked : (n h : ℕ) → IsMarked (replicate n false) h → ⊥
none_marked zero h m = cc
none_marked (suc n) zero m = cc
none_marked (suc n) (suc h) m = none_marked n h m

-- one file alone is marked
pub marks_itself : (marks : List Bool) (g : ℕ) → g < length marks → Adds marks (λ h. g ≡ h) (set marks g true)
marks_itself marks g below = record {
  count = length-set marks g true;
  kept = λ h m. IsMarked-set marks g h m;
  added = λ h same. subst (IsMarked (set marks g true)) same (set_marked marks g below);
  only = λ h m. elim (get_set_cases marks g h true true m) [
    | inl this ↦ inr (sym (this.0))
    | inr other ↦ inl (other.1)
  ];
}

pub adds_none : (marks : List Bool) (wanted : ℕ → Type 0) → ((h : ℕ) → wanted h → ⊥) → Adds marks wanted marks
adds_none marks wanted none = record {
  count = refl;
  kept = λ h m. m;
  added = λ h w. absurd (none h w);
  only = λ h m. inl m;
}

-- the same is wanted, in other words
pub adds_as : (before after : List Bool) (wanted other : ℕ → Type 0) → ((h : ℕ) → wanted h → other h) → ((h : ℕ) → other h → wanted h) → Adds before wanted after → Adds before other after
adds_as before after wanted other to from a = record {
  count = a.count;
  kept = a.kept;
  added = λ h w. a.added h (from h w);
  only = λ h m. elim (a.only h m) [ inl old ↦ inl old | inr w ↦ inr (to h w) ];
}

-- first what is wanted, and then what else is
pub adds_more : (before middle after : List Bool) (wanted one : ℕ → Type 0) → Adds before wanted middle → Adds middle one after → Adds before (λ h. wanted h ⊎ one h) after
adds_more before middle after wanted one a b = record {
  count = b.count ∙ a.count;
  kept = λ h m. b.kept h (a.kept h m);
  added = λ h w. elim w [ inl first ↦ b.kept h (a.added h first) | inr then_one ↦ b.added h then_one ];
  only = λ h m. elim (b.only h m) [
    | inl old ↦ elim (a.only h old) [ inl older ↦ inl older | inr w ↦ inr (inl w) ]
    | inr w ↦ inr (inr w)
  ];
}

-- ---- lists of files

-- one element more of a list is done
pub one_more : {X : Type 0} (xs : List X) (i : ℕ) (d : X) (P : X → ℕ → Type 0) (before middle after : List Bool) → i < length xs
    → Adds before (λ h. (x : X) × Contains (take i xs) x × P x h) middle → Adds middle (P (get_or xs i d)) after
    → Adds before (λ h. (x : X) × Contains (take (i + 1) xs) x × P x h) after
one_more {X} xs i d P before middle after below a b =
    let x = get_or xs i d in
    let more = take_more xs i d below in
    adds_as before after (λ h. ((y : X) × Contains (take i xs) y × P y h) ⊎ P x h) (λ h. (y : X) × Contains (take (i + 1) xs) y × P y h)
    (λ h w. elim w [
      | inl there ↦ (there.0, subst (λ (ys : List X). Contains ys there.0) (sym more) (Contains-append_left (take i xs) (x ∷ []) there.0 there.1), there.2)
      | inr new ↦ (x, subst (λ (ys : List X). Contains ys x) (sym more) (Contains-push (take i xs) x), new)
    ])
    (λ h w. elim (Contains-push_cases (take i xs) x w.0 (subst (λ (ys : List X). Contains ys w.0) more w.1)) [
      | inl old ↦ inl (w.0, old, w.2)
      | inr same ↦ inr (subst (λ y. P y h) (sym same) w.2)
    ])
    (adds_more before middle after (λ h. (y : X) × Contains (take i xs) y × P y h) (P x) a b)

-- ---- rows

-- The row of a file that imports nothing publicly.
pub alone : (files : List FileImports) (file : ℕ) → public_of files file ≡ [] → IsRow files file None
alone files file none = record {
  as_many = λ marks is. absurd (some_none marks is);
  passed = λ h. ((λ same. subst (Passes (PassesOnIn files) file) same (Itself file)), (λ p. itself p));
} where
  some_none : (marks : List Bool) → None ≡ Some marks → ⊥
  some_none marks is = cc

  itself : {h : ℕ} → Passes (PassesOnIn files) file h → file ≡ h
  itself (Itself f) = refl
  itself (Publicly f g h on p) = let no_one : Contains {X = ℕ} [] g = subst (λ (xs : List ℕ). Contains xs g) none on in absurd (omega (arith, no_one.1))

-- ---- lists that have gaps

abbrev pub PassedNamed : List (Option (List Bool)) → Option ℕ → ℕ → Type 0
PassedNamed rows None h = ⊥
PassedNamed rows (Some g) h = PassedIn rows g h

module _ (rows : List (Option (List Bool))) (named : List (Option ℕ)) where
  to_some : (h : ℕ) (name : Option ℕ) → Contains named name → PassedNamed rows name h → (g : ℕ) × Contains named (Some g) × PassedIn rows g h
  to_some h None there passed = absurd passed
  to_some h (Some g) there passed = (g, there, passed)

  named_as : (before after : List Bool) → Adds before (λ h. (name : Option ℕ) × Contains named name × PassedNamed rows name h) after → Adds before (λ h. (g : ℕ) × Contains named (Some g) × PassedIn rows g h) after
  named_as before after a = adds_as before after (λ h. (name : Option ℕ) × Contains named name × PassedNamed rows name h) (λ h. (g : ℕ) × Contains named (Some g) × PassedIn rows g h)
      (λ h w. to_some h w.0 w.1 w.2) (λ h w. (Some w.0, w.1, w.2)) a

  as_named : (before after : List Bool) → Adds before (λ h. (g : ℕ) × Contains named (Some g) × PassedIn rows g h) after → Adds before (λ h. (name : Option ℕ) × Contains named name × PassedNamed rows name h) after
  as_named before after a = adds_as before after (λ h. (g : ℕ) × Contains named (Some g) × PassedIn rows g h) (λ h. (name : Option ℕ) × Contains named name × PassedNamed rows name h)
      (λ h w. (Some w.0, w.1, w.2)) (λ h w. to_some h w.0 w.1 w.2) a

-- one import more
pub named_more : (rows : List (Option (List Bool))) (named : List (Option ℕ)) (i file : ℕ) (before middle after : List Bool) → i < length named → get_or named i None ≡ Some file
    → Adds before (λ h. (g : ℕ) × Contains (take i named) (Some g) × PassedIn rows g h) middle → Adds middle (PassedIn rows file) after
    → Adds before (λ h. (g : ℕ) × Contains (take (i + 1) named) (Some g) × PassedIn rows g h) after
named_more rows named i file before middle after below is a b =
    named_as rows (take (i + 1) named) before after
    (one_more named i None (PassedNamed rows) before middle after below (as_named rows (take i named) before middle a)
    (subst (λ (name : Option ℕ). Adds middle (PassedNamed rows name) after) (sym is) b))

-- one that names no file
pub gap_more : (rows : List (Option (List Bool))) (named : List (Option ℕ)) (i : ℕ) (before middle after : List Bool) → i < length named → get_or named i None ≡ None → after ≡ middle
    → Adds before (λ h. (g : ℕ) × Contains (take i named) (Some g) × PassedIn rows g h) middle
    → Adds before (λ h. (g : ℕ) × Contains (take (i + 1) named) (Some g) × PassedIn rows g h) after
gap_more rows named i before middle after below is same a =
    named_as rows (take (i + 1) named) before after
    (one_more named i None (PassedNamed rows) before middle after below (as_named rows (take i named) before middle a)
    (subst (λ (name : Option ℕ). Adds middle (PassedNamed rows name) after) (sym is)
    (subst (λ (marks : List Bool). Adds middle (PassedNamed rows None) marks) (sym same) (adds_none middle (PassedNamed rows None) (λ h w. w)))))

-- ---- one file

-- what is marked where nothing was
pub from_none : (n : ℕ) (wanted : ℕ → Type 0) (after : List Bool) → Adds (replicate n false) wanted after → (h : ℕ) → IsMarked after h ↔ wanted h
from_none n wanted after a h = (
  (λ m. elim (a.only h m) [ inl old ↦ absurd (none_marked n h old) | inr w ↦ w ]),
  a.added h,
)

-- a file, and what is wanted behind it
pub with_itself : (n file : ℕ) (wanted : ℕ → Type 0) (marks after : List Bool) → file < n → marks ≡ set (replicate n false) file true → Adds marks wanted after → Adds (replicate n false) (λ h. (file ≡ h) ⊎ wanted h) after
with_itself n file wanted marks after below is a =
    adds_more (replicate n false) marks after (λ h. file ≡ h) wanted
    (subst (Adds (replicate n false) (λ h. file ≡ h)) (sym is) (marks_itself (replicate n false) file (omega (arith, below, length-replicate n false)))) a

module _ (files : List FileImports) (rows : List (Option (List Bool))) (file : ℕ) (below : file < length files) where
  -- The row of a file.
  pub row_made : (public : List ℕ) (marks after : List Bool) → public ≡ public_of files file
      → ((g : ℕ) → PassesOnIn files file g → IsRow files g (get_or rows g None))
      → marks ≡ set (replicate (length files) false) file true
      → Adds marks (λ h. (g : ℕ) × Contains public g × PassedIn rows g h) after → IsRow files file (Some after)
  row_made public marks after own known is a =
      let wanted : ℕ → Type 0 = λ h. (g : ℕ) × Contains public g × PassedIn rows g h in
      let all = with_itself (length files) file wanted marks after below is a in
      record {
        as_many = λ row same. ap length (sym (same_Some after row same)) ∙ all.count ∙ length-replicate (length files) false;
        passed = λ h. (
          (λ m. elim ((from_none (length files) (λ h. (file ≡ h) ⊎ wanted h) after all h).0 m) [
            | inl same ↦ subst (Passes (PassesOnIn files) file) same (Itself file)
            | inr w ↦
                let on : PassesOnIn files file w.0 = subst (λ (xs : List ℕ). Contains xs w.0) own w.1 in
                Publicly file w.0 h on (((known w.0 on).passed h).0 w.2)
          ]),
          (λ p. (from_none (length files) (λ h. (file ≡ h) ⊎ wanted h) after all h).1 (passed p)),
        );
      } where
        passed : {h : ℕ} → Passes (PassesOnIn files) file h → (file ≡ h) ⊎ ((g : ℕ) × Contains public g × PassedIn rows g h)
        passed (Itself f) = inl refl
        passed (Publicly f g h on p) = inr (g, subst (λ (xs : List ℕ). Contains xs g) (sym own) on, ((known g on).passed h).1 p)

  -- What a file sees.
  pub seen_made : (named : List (Option ℕ)) (marks after : List Bool) → named ≡ named_of files file
      → ((g : ℕ) → ImportsIn files file g → IsRow files g (get_or rows g None))
      → marks ≡ set (replicate (length files) false) file true
      → Adds marks (λ h. (g : ℕ) × Contains named (Some g) × PassedIn rows g h) after
      → (h : ℕ) → IsMarked after h ↔ Sees (ImportsIn files) (PassesOnIn files) file h
  seen_made named marks after own known is a h =
      let wanted : ℕ → Type 0 = λ h. (g : ℕ) × Contains named (Some g) × PassedIn rows g h in
      let all = from_none (length files) (λ h. (file ≡ h) ⊎ wanted h) after (with_itself (length files) file wanted marks after below is a) h in (
        (λ m. elim (all.0 m) [
          | inl same ↦ inl same
          | inr w ↦
              let on : ImportsIn files file w.0 = subst (λ (xs : List (Option ℕ)). Contains xs (Some w.0)) own w.1 in
              inr (w.0, on, ((known w.0 on).passed h).0 w.2)
        ]),
        (λ s. all.1 (elim s [
          | inl same ↦ inl same
          | inr w ↦ inr (w.0, subst (λ (xs : List (Option ℕ)). Contains xs (Some w.0)) (sym own) w.1, ((known w.0 w.1).passed h).1 w.2)
        ])),
      )

-- ---- in order

abbrev is_in : List ℕ → ℕ → Bool
is_in [] g = false
is_in (x ∷ xs) g = (x == g) || is_in xs g

contains_in : (xs : List ℕ) (k g : ℕ) → slice_get xs k ≡ Some g → is_in xs g ≡ true
contains_in [] k g is = cc
contains_in (x ∷ xs) zero g is = ap (λ b. b || is_in xs g) ((Decides-eqb x g).1 (same_Some x g is))
contains_in (x ∷ xs) (suc k) g is = or_right (x == g) (is_in xs g) (contains_in xs k g is)

in_contains : (xs : List ℕ) (g : ℕ) → is_in xs g ≡ true → (k : ℕ) × (slice_get xs k ≡ Some g)
in_contains [] g is = absurd (false≢true is)
in_contains (x ∷ xs) g is = elim (either_true (x == g) (is_in xs g) is) [
  | inl same ↦ (0, ap Some ((Decides-eqb x g).0 same))
  | inr more ↦ let there = in_contains xs g more in (suc there.0, there.1)
]

-- The rows of the first files of an order are made.
pub record AreMade (files : List FileImports) (order : List ℕ) (i : ℕ) (rows : List (Option (List Bool))) : Type 0 where
  pub count : length rows ≡ length files
  pub long : AreAsLong rows (length files)
  pub done : (g : ℕ) → Contains (take i order) g → IsRow files g (get_or rows g None)

no_row : (n g : ℕ) (marks : List Bool) → get_or (replicate n None) g None ≡ Some marks → ⊥
no_row zero g marks is = cc
no_row (suc n) zero marks is = cc
no_row (suc n) (suc g) marks is = no_row n g marks is

pub none_made : (files : List FileImports) (order : List ℕ) (rows : List (Option (List Bool))) → rows ≡ replicate (length files) None → AreMade files order 0 rows
none_made files order rows is = record {
  count = ap length is ∙ length-replicate (length files) None;
  long = λ g marks row. absurd (no_row (length files) g marks (sym (ap (λ (rs : List (Option (List Bool))). get_or rs g None) is) ∙ row));
  done = λ g there. absurd (omega (arith, there.1));
}

-- what a file imports publicly stands before it
pub public_made : (files : List FileImports) (order : List ℕ) (i : ℕ) (rows : List (Option (List Bool))) → IsInOrder (ImportsIn files) (length files) order → ∥ AreAmongImports files ∥₁ → i < length order
    → AreMade files order i rows → (g : ℕ) → PassesOnIn files (get_or order i 0) g → IsRow files g (get_or rows g None)
public_made files order i rows sorted among below made g on =
    let file = get_or order i 0 in
    let told : is_in (take i order) g ≡ true = ∥∥₁_elim among (Bool-set _ _) (λ all.
    let there = at_contains (take i order) g (sorted.behind i file g (slice_get-get_or order i 0 below) (all file g on)) in
    contains_in (take i order) there.0 g there.1) in
    let found = in_contains (take i order) g told in
    made.done g (contains_at (take i order) found.0 g found.1)

-- one row more
pub one_made : (files : List FileImports) (order : List ℕ) (i : ℕ) (rows : List (Option (List Bool))) (row : Option (List Bool)) → IsInOrder (ImportsIn files) (length files) order → i < length order → get_or order i 0 < length rows
    → IsRow files (get_or order i 0) row → AreMade files order i rows → AreMade files order (i + 1) (set rows (get_or order i 0) row)
one_made files order i rows row sorted below within is made =
    let file = get_or order i 0 in
    record {
      count = length-set rows file row ∙ made.count;
      long = λ g marks there. elim (eqb_tells g file) [
        | inl (_, same) ↦ is.as_many marks (sym (get_or-set_same rows file row None within) ∙ ap (λ f. get_or (set rows file row) f None) (sym same) ∙ there)
        | inr (_, apart) ↦ made.long g marks (sym (get_or-set_other rows file g row None apart) ∙ there)
      ];
      done = λ g there. elim (eqb_tells g file) [
        | inl (_, same) ↦ subst (λ f. IsRow files f (get_or (set rows file row) f None)) (sym same) (subst (IsRow files file) (sym (get_or-set_same rows file row None within)) is)
        | inr (_, apart) ↦ subst (IsRow files g) (sym (get_or-set_other rows file g row None apart)) (elim (Contains-push_cases (take i order) file g (subst (λ (xs : List ℕ). Contains xs g) (take_more order i 0 below) there)) [
          | inl old ↦ made.done g old
          | inr same ↦ absurd (apart (sym same))
        ])
      ];
    }

pub all_made : (files : List FileImports) (order : List ℕ) (i : ℕ) (rows : List (Option (List Bool))) → IsInOrder (ImportsIn files) (length files) order → length order ≤ i → AreMade files order i rows → AreRows files rows
all_made files order i rows sorted past made = record {
  count = made.count;
  row = λ g below. made.done g (subst (λ (xs : List ℕ). Contains xs g) (sym (take_all i order past)) (sorted.all g below));
}
