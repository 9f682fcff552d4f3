-- What the list of faults contains.
use Rattle.std.proofs.Common.{◌≡◌, ◌↔◌, ◌≤◌, ◌<◌, ◌+◌, ◌-◌, ℕ, zero, suc, Bool, true, false, cond, List, [], ◌∷◌, ◌++◌, refl, sym, ap, subst, ◌∙◌, arith, inl, inr}
use Rattle.std.proofs.lemmas.Bool.{cases_lt, lt-ltb, le-ltb}
use Rattle.std.specs.List.{All}
use Rattle.std.specs.Prelude.{slice_index_or}
use Rattle.protox_fault.specs.Faults.{LiesIn, faults_in}
use Rattle.protox_fault.specs.declared.error.ParseErrorKind.{ParseErrorKind}
use Rattle.protox_ast.specs.Keywords.{Each}
use Rattle.protox_grammar.specs.Told.{Notes, IsNoFault, IsFaultless}
use Rattle.protox_grammar.specs.declared.note.Note.{Note}
use Rattle.protox_grammar.specs.declared.note.Noted.{Noted}
use Rattle.protox_grammar.specs.declared.note.Noted.TheVariants.{Fault, TextFormat}
pub use Rattle.protox_grammar.proofs.Lemmas.{Fall}
use Rattle.protox_grammar.proofs.Lemmas.{AllLie, NotedLies, mode_at, mode_of}
use Rattle.protox_syntax.specs.inner.Merge.{Progress, progress, faults_of_rows, read_until, rows_to_read, with_noted, noted_in, merge_notes, beginning, merged_faults}
use Rattle.protox_syntax.proofs.Entries.{append-empty, each-in}

abbrev Faults : Type 0
Faults = List ParseErrorKind

pub each-append : {A : Type 0} (P : A → Type 0) (xs ys : List A) → Each P xs → Each P ys → Each P (xs ++ ys)
each-append P [] ys h k = k
each-append P (x ∷ xs) ys h k = (h.0, each-append P xs ys h.1 k)

-- if no note is made while more rows are left, the mode stays
pub unset : (m : Bool) (left bound : ℕ) (ns : Notes) → Fall bound ns → bound ≤ left → mode_at m left ns ≡ m
unset m left bound [] h g = refl
unset m left bound (n ∷ ns) h g =
    ap (λ c. mode_at (cond c (mode_of m n.noted) m) left ns) (le-ltb left n.left (omega (arith, h.0, g))) ∙ unset m left n.left ns h.1 (omega (arith, h.0, g))

module _ (faults : List Faults) (total : ℕ) where
  merge_notes-more : (xs : Notes) (x : Note) (p : Progress) → merge_notes faults total (xs ++ x ∷ []) p ≡ noted_in faults total x (merge_notes faults total xs p)
  merge_notes-more [] x p = refl
  merge_notes-more (y ∷ ys) x p = merge_notes-more ys x (noted_in faults total y p)

  -- one turn of playing the notes
  pub merge_notes-turn : (read pushed : Faults) (n : ℕ) (on off : Bool) (before start : Progress) (xs : Notes) (x : Note) → progress read n off ≡ read_until faults total x.left before → before ≡ merge_notes faults total xs start
      → progress pushed n on ≡ with_noted x.noted (progress read n off) → progress pushed n on ≡ merge_notes faults total (xs ++ x ∷ []) start
  merge_notes-turn read pushed n on off before start xs x reads so_far push =
      push ∙ ap (with_noted x.noted) reads ∙ ap (noted_in faults total x) so_far ∙ sym (merge_notes-more xs x start)

  -- ---- where faults lie

  module _ (high : ℕ) (entries : (i : ℕ) → Each (LiesIn high) (slice_index_or faults i [])) where
    faults_of_rows-lie : (b : Bool) (low n : ℕ) → Each (LiesIn high) (faults_of_rows b faults low n)
    faults_of_rows-lie b low zero = tt
    faults_of_rows-lie b low (suc n) = each-append (LiesIn high) (faults_of_rows b faults low n) (faults_in b (slice_index_or faults (low + n) [])) (faults_of_rows-lie b low n) (each-in (LiesIn high) b (slice_index_or faults (low + n) []) (entries (low + n)))

    read-lie : (left : ℕ) (p : Progress) → Each (LiesIn high) p.errors → Each (LiesIn high) (read_until faults total left p).errors
    read-lie left p h = each-append (LiesIn high) p.errors (faults_of_rows p.text_format faults p.next (rows_to_read total left p.next)) h (faults_of_rows-lie p.text_format p.next (rows_to_read total left p.next))

    noted-lie : (n : Noted) (p : Progress) → NotedLies high n → Each (LiesIn high) p.errors → Each (LiesIn high) (with_noted n p).errors
    noted-lie (Fault f) p k h = each-append (LiesIn high) p.errors (f ∷ []) h (k, tt)
    noted-lie (TextFormat on) p k h = h

    merge_notes-lie : (xs : Notes) (p : Progress) → AllLie high xs → Each (LiesIn high) p.errors → Each (LiesIn high) (merge_notes faults total xs p).errors
    merge_notes-lie [] p k h = h
    merge_notes-lie (x ∷ xs) p k h = merge_notes-lie xs (noted_in faults total x p) k.1 (noted-lie x.noted (read_until faults total x.left p) k.0 (read-lie x.left p h))

    pub merged_faults-lie : (xs : Notes) (left : ℕ) → AllLie high xs → Each (LiesIn high) (merged_faults faults total xs left)
    merged_faults-lie xs left h = read-lie left (merge_notes faults total xs beginning) (merge_notes-lie xs beginning h tt)

  -- ---- what stays

  noted-empty : (n : Noted) (p : Progress) → (with_noted n p).errors ≡ [] → IsNoFault n × (p.errors ≡ [])
  noted-empty (Fault f) p e = absurd (let m = (append-empty p.errors (f ∷ []) e).1 in cc)
  noted-empty (TextFormat on) p e = (tt, e)

  merge_notes-empty : (xs : Notes) (p : Progress) → (merge_notes faults total xs p).errors ≡ [] → IsFaultless xs × (p.errors ≡ [])
  merge_notes-empty [] p e = (tt, e)
  merge_notes-empty (x ∷ xs) p e =
      let k = merge_notes-empty xs (noted_in faults total x p) e in
      let m = noted-empty x.noted (read_until faults total x.left p) k.1 in
      ((m.0, k.0), (append-empty p.errors (faults_of_rows p.text_format faults p.next (rows_to_read total x.left p.next)) m.1).0)

  -- a fault that is noted is among the faults
  pub faultless : (xs : Notes) (left : ℕ) → merged_faults faults total xs left ≡ [] → IsFaultless xs
  faultless xs left e =
      let p = merge_notes faults total xs beginning in
      (merge_notes-empty xs beginning (append-empty p.errors (faults_of_rows p.text_format faults p.next (rows_to_read total left p.next)) e).0).0

  -- ---- rows whose faults are read, in some mode

  abbrev IsSeen : ℕ → Type 0
  IsSeen k = (b : Bool) × (faults_in b (slice_index_or faults k []) ≡ [])

  pub faults_of_rows-none : (b : Bool) (low n k : ℕ) → faults_of_rows b faults low n ≡ [] → low ≤ k → k < low + n → faults_in b (slice_index_or faults k []) ≡ []
  faults_of_rows-none b low zero k e h g = absurd (omega (arith, h, g))
  faults_of_rows-none b low (suc n) k e h g =
      let both = append-empty (faults_of_rows b faults low n) (faults_in b (slice_index_or faults (low + n) [])) e in
      elim (cases_lt k (low + n)) [
        | inl lt ↦ faults_of_rows-none b low n k both.0 h lt
        | inr le ↦ let same : low + n ≡ k = omega (arith, g, le) in subst (λ v. faults_in b (slice_index_or faults v []) ≡ []) same both.1
      ]

  none-faults_of_rows : (b : Bool) (low n : ℕ) → ((k : ℕ) → low ≤ k → k < low + n → faults_in b (slice_index_or faults k []) ≡ []) → faults_of_rows b faults low n ≡ []
  none-faults_of_rows b low zero h = refl
  none-faults_of_rows b low (suc n) h = (λ i. none-faults_of_rows b low n (λ k g l. h k g (omega (arith, l))) i ++ h (low + n) (omega arith) (omega arith) i)

  read-seen : (left k : ℕ) (p : Progress) → (read_until faults total left p).errors ≡ [] → ((k : ℕ) → k < p.next → IsSeen k) → k < (read_until faults total left p).next → IsSeen k
  read-seen left k p e h g =
      let none = (append-empty p.errors (faults_of_rows p.text_format faults p.next (rows_to_read total left p.next)) e).1 in
      elim (cases_lt k p.next) [
        | inl lt ↦ h k lt
        | inr le ↦ (p.text_format, faults_of_rows-none p.text_format p.next (rows_to_read total left p.next) k none le g)
      ]

  noted-next : (n : Noted) (p : Progress) → (with_noted n p).next ≡ p.next
  noted-next (Fault f) p = refl
  noted-next (TextFormat on) p = refl

  merge_notes-seen : (xs : Notes) (k : ℕ) (p : Progress) → (merge_notes faults total xs p).errors ≡ [] → ((k : ℕ) → k < p.next → IsSeen k) → k < (merge_notes faults total xs p).next → IsSeen k
  merge_notes-seen [] k p e h g = h k g
  merge_notes-seen (x ∷ xs) k p e h g =
      let m = noted-empty x.noted (read_until faults total x.left p) (merge_notes-empty xs (noted_in faults total x p) e).1 in
      merge_notes-seen xs k (noted_in faults total x p) e (λ j l. read-seen x.left j p m.1 h (subst (λ v. j < v) (noted-next x.noted (read_until faults total x.left p)) l)) g

  -- if there is no fault, no row that was read has one in its mode
  pub merged_faults-seen : (xs : Notes) (left k : ℕ) → merged_faults faults total xs left ≡ [] → k < total - left → IsSeen k
  merged_faults-seen xs left k e h =
      let p = merge_notes faults total xs beginning in
      let both = append-empty p.errors (faults_of_rows p.text_format faults p.next (rows_to_read total left p.next)) e in
      let reach : k < p.next + rows_to_read total left p.next = omega (arith, h) in
      read-seen left k p e (λ j l. merge_notes-seen xs j beginning both.0 (λ i m. absurd (omega (arith, m))) l) reach

  -- ---- rows in the modes of the notes

  -- no row from there on has a fault in its mode
  abbrev pub AreClear : Bool → Notes → ℕ → Type 0
  AreClear mode notes next = (k : ℕ) → next ≤ k → k < total → faults_in (mode_at mode (total - suc k) notes) (slice_index_or faults k []) ≡ []

  abbrev IsEmptyAt : Notes → Progress → Type 0
  IsEmptyAt ns p = (read_until faults total 0 (merge_notes faults total ns p)).errors ≡ []

  abbrev Clear : Notes → Type 0
  Clear ns = (e : Faults) (i : ℕ) (m : Bool) → i ≤ total → IsEmptyAt ns (progress e i m) ↔ ((e ≡ []) × AreClear m ns i)

  none-clear : Clear []
  none-clear e i m le =
      let all : i + rows_to_read total 0 i ≡ total = omega (arith, le) in (
        λ g. let both = append-empty e (faults_of_rows m faults i (rows_to_read total 0 i)) g in (both.0, λ k a b. faults_of_rows-none m i (rows_to_read total 0 i) k both.1 a (omega (arith, b, all))),
        λ g. (λ j. g.0 j ++ none-faults_of_rows m i (rows_to_read total 0 i) (λ k a b. g.1 k a (omega (arith, b, all))) j),
      )

  abbrev first_note : ℕ → Noted → Note
  first_note left noted = record { left = left; noted = noted }

  one-clear : (left : ℕ) (v : Noted) (ns : Notes) → IsNoFault v → Fall left ns → Clear ns → Clear (first_note left v ∷ ns)
  one-clear left (Fault f) ns none fall ih e i m le = absurd none
  one-clear left (TextFormat on) ns none fall ih e i m le = (forth, back)
    where
      c : ℕ
      c = rows_to_read total left i

      k : IsEmptyAt ns (progress (e ++ faults_of_rows m faults i c) (i + c) on) ↔ ((e ++ faults_of_rows m faults i c ≡ []) × AreClear on ns (i + c))
      k = ih (e ++ faults_of_rows m faults i c) (i + c) on (omega (arith, le))

      early : (j : ℕ) → i ≤ j → j < i + c → mode_at m (total - suc j) (first_note left (TextFormat on) ∷ ns) ≡ m
      early j a b =
          let far : left ≤ total - suc j = omega (arith, a, b) in
          ap (λ v. mode_at (cond v on m) (total - suc j) ns) (le-ltb (total - suc j) left far) ∙ unset m (total - suc j) left ns fall far

      late : (j : ℕ) → i + c ≤ j → j < total → mode_at m (total - suc j) (first_note left (TextFormat on) ∷ ns) ≡ mode_at on (total - suc j) ns
      late j a b = let near : total - suc j < left = omega (arith, a, b) in ap (λ v. mode_at (cond v on m) (total - suc j) ns) (lt-ltb (total - suc j) left near)

      forth : IsEmptyAt (first_note left (TextFormat on) ∷ ns) (progress e i m) → (e ≡ []) × AreClear m (first_note left (TextFormat on) ∷ ns) i
      forth g =
          let q = k.0 g in
          let both = append-empty e (faults_of_rows m faults i c) q.0 in (
            both.0,
            λ j a b. elim (cases_lt j (i + c)) [
              | inl lt ↦ subst (λ v. faults_in v (slice_index_or faults j []) ≡ []) (sym (early j a lt)) (faults_of_rows-none m i c j both.1 a lt)
              | inr ge ↦ subst (λ v. faults_in v (slice_index_or faults j []) ≡ []) (sym (late j ge b)) (q.1 j ge b)
            ],
          )

      back : (e ≡ []) × AreClear m (first_note left (TextFormat on) ∷ ns) i → IsEmptyAt (first_note left (TextFormat on) ∷ ns) (progress e i m)
      back g = k.1 (
        λ j. g.0 j ++ none-faults_of_rows m i c (λ k a b. subst (λ v. faults_in v (slice_index_or faults k []) ≡ []) (early k a b) (g.1 k a (omega (arith, b, le)))) j,
        λ j a b. subst (λ v. faults_in v (slice_index_or faults j []) ≡ []) (late j a b) (g.1 j (omega (arith, a)) b),
      )

  all-clear : (ns : Notes) (bound : ℕ) → IsFaultless ns → Fall bound ns → Clear ns
  all-clear [] bound f h = none-clear
  all-clear (n ∷ ns) bound f h = one-clear n.left n.noted ns f.0 h.1 (all-clear ns n.left f.1 h.1)

  -- If no fault is noted, the list is empty exactly if no row has a fault in its mode.
  pub merged_faults-clear : (ns : Notes) (bound : ℕ) → IsFaultless ns → Fall bound ns → (merged_faults faults total ns 0 ≡ []) ↔ AreClear false ns 0
  merged_faults-clear ns bound f h =
      let k = all-clear ns bound f h [] 0 false (omega arith) in
      (λ g. (k.0 g).1, λ g. k.1 (refl, g))

-- ---- where no row has a fault

nothing-at : (faults : List (List ParseErrorKind)) (k : ℕ) → All (λ fs. fs ≡ []) faults → slice_index_or faults k [] ≡ []
nothing-at [] k none = refl
nothing-at (fs ∷ faults) zero none = none zero [] (omega arith)
nothing-at (fs ∷ faults) (suc k) none = nothing-at faults k (λ i d l. none (suc i) d (omega arith))

no-faults : (text_format : Bool) → faults_in text_format [] ≡ []
no-faults true = refl
no-faults false = refl

pub nothing-faults_of_rows : (text_format : Bool) (faults : List (List ParseErrorKind)) (low n : ℕ) → All (λ fs. fs ≡ []) faults → faults_of_rows text_format faults low n ≡ []
nothing-faults_of_rows text_format faults low zero none = refl
nothing-faults_of_rows text_format faults low (suc n) none = rw (nothing-faults_of_rows text_format faults low n none, nothing-at faults (low + n) none, no-faults text_format) refl
