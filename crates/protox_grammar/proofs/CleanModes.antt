-- The lexemes of a source are clean exactly when no gap and no row of its table has a fault in the
-- mode of its place.
use Rattle.std.proofs.Common.{◌≡◌, ◌↔◌, ◌+◌, ℕ, zero, suc, Bool, true, false, not, cond, List, [], ◌∷◌, ◌++◌, refl, sym, ap, subst, ◌∙◌, arith, append-nil, true≢false}
use Rattle.std.specs.Prelude.{slice_index_or}
use Rattle.std.proofs.lemmas.List.Elements.{filter-append}
use Rattle.protox_fault.specs.Faults.{Span, faults_in, is_of_mode, span_from}
use Rattle.protox_fault.specs.declared.error.ParseErrorKind.{ParseErrorKind}
use Rattle.protox_lexeme.specs.Lexemes.{Lexeme}
use Rattle.protox_lexeme.specs.Shapes.{Shape, Ident, Int, Float, Str, Mark, LineComment, BlockComment, Newline, Invalid}
use Rattle.protox_lexeme.specs.Table.{faults_of, in_front, invalid_faults, is_gap, row_faults}
use Rattle.protox_ast.specs.Fronts.{AreCleanBehind, AreClean, Inside, IsCleanBehind}

abbrev Faults : Type 0
Faults = List ParseErrorKind

-- ---- faults in a mode

-- The faults of two lists in a mode are those of the first list, and then those of the second.
pub in-append : (b : Bool) (x y : Faults) → faults_in b (x ++ y) ≡ faults_in b x ++ faults_in b y
in-append true x y = filter-append (λ f. not (is_of_mode f)) x y
in-append false x y = refl

-- If there are no faults, there are none in any mode.
pub in-none : (b : Bool) → faults_in b [] ≡ []
in-none true = refl
in-none false = refl

first-none : (x y : Faults) → x ++ y ≡ [] → x ≡ []
first-none [] y e = refl
first-none (f ∷ x) y e = absurd cc

last-none : (x y : Faults) → x ++ y ≡ [] → y ≡ []
last-none [] y e = e
last-none (f ∷ x) y e = absurd cc

-- If two lists have no fault, neither has one.
pub both-none : (b : Bool) (x y : Faults) → faults_in b (x ++ y) ≡ [] → (faults_in b x ≡ []) × (faults_in b y ≡ [])
both-none b x y e = let h = sym (in-append b x y) ∙ e in (first-none (faults_in b x) (faults_in b y) h, last-none (faults_in b x) (faults_in b y) h)

none-both : (b : Bool) (x y : Faults) → faults_in b x ≡ [] → faults_in b y ≡ [] → faults_in b (x ++ y) ≡ []
none-both b x y e f = in-append b x y ∙ (λ i. e i ++ f i)

-- An invalid character is a fault in each mode.
pub invalid-some : (b : Bool) (s : Shape) (span : Span) → s ≡ Invalid → faults_in b (invalid_faults s span) ≡ [] → ⊥
invalid-some b s span is e = at b (subst (λ v. faults_in b (invalid_faults v span) ≡ []) is e)
  where
    at : (b : Bool) → faults_in b (invalid_faults Invalid span) ≡ [] → ⊥
    at true h = absurd cc
    at false h = absurd cc

invalid-none : (b : Bool) (s : Shape) (span : Span) → (s ≡ Invalid → ⊥) → faults_in b (invalid_faults s span) ≡ []
invalid-none b Invalid span h = absurd (h refl)
invalid-none b (Ident t) span h = in-none b
invalid-none b (Int n) span h = in-none b
invalid-none b (Float t) span h = in-none b
invalid-none b (Str t) span h = in-none b
invalid-none b (Mark t) span h = in-none b
invalid-none b (LineComment t) span h = in-none b
invalid-none b (BlockComment t) span h = in-none b
invalid-none b Newline span h = in-none b

gap-valid : (s : Shape) → is_gap s ≡ true → s ≡ Invalid → ⊥
gap-valid s g e = true≢false (sym (subst (λ v. is_gap v ≡ true) e g))

-- a comment or a newline has no faults but its own
pub gap-own : (x : Lexeme) → is_gap x.shape ≡ true → row_faults x ≡ x.faults
gap-own x g = ap (λ fs. x.faults ++ fs) (invalid-none false x.shape (span_from x.start x.stop) (gap-valid x.shape g)) ∙ append-nil x.faults

-- ---- one lexeme, in a mode that is text format only inside an aggregate

fault-clean : (lexemes : List Lexeme) (b : Bool) (k : ℕ) (fs : Faults) → (b ≡ true → Inside lexemes k) → faults_in b fs ≡ [] → (faults_in true fs ≡ []) × ((fs ≡ [] → ⊥) → Inside lexemes k)
fault-clean lexemes true k fs inside h = (h, λ some. inside refl)
fault-clean lexemes false k fs inside h = (ap (faults_in true) h, λ some. absurd (some h))

-- A lexeme with no fault in its mode is clean.
pub lexeme-clean : (lexemes : List Lexeme) (b : Bool) (k : ℕ) (x : Lexeme) → (b ≡ true → Inside lexemes k) → faults_in b (row_faults x) ≡ [] → IsCleanBehind lexemes k x
lexeme-clean lexemes b k x inside h =
    let span : Span = span_from x.start x.stop in
    let p = both-none b x.faults (invalid_faults x.shape span) h in
    let q = fault-clean lexemes b k x.faults inside p.0 in
    ((λ is. invalid-some b x.shape span is p.1), q.0, q.1)

-- ---- entries

entry-by : (x : Lexeme) (xs : List Lexeme) → (fs : Faults) × (fss : List Faults) × (faults_of xs ≡ fs ∷ fss) → (b : Bool) → (fs : Faults) × (fss : List Faults) × (cond b (in_front x.faults (faults_of xs)) (row_faults x ∷ faults_of xs) ≡ fs ∷ fss)
entry-by x xs e true = (x.faults ++ e.0, e.1, ap (in_front x.faults) e.2)
entry-by x xs e false = (row_faults x, faults_of xs, refl)

-- a source has a first entry
pub some-entry : (xs : List Lexeme) → (fs : Faults) × (fss : List Faults) × (faults_of xs ≡ fs ∷ fss)
some-entry [] = ([], [], refl)
some-entry (x ∷ xs) = entry-by x xs (some-entry xs) (is_gap x.shape)

-- ---- the modes of places: whether a file may be inside an aggregate there

module _ (lexemes : List Lexeme) (on : ℕ → Bool) (is_inside : (k : ℕ) → on k ≡ true → Inside lexemes k) (is_on : (k : ℕ) → Inside lexemes k → on k ≡ true) where
  -- one lexeme
  clean-fault : (b : Bool) (k : ℕ) (fs : Faults) → on k ≡ b → faults_in true fs ≡ [] → ((fs ≡ [] → ⊥) → Inside lexemes k) → faults_in b fs ≡ []
  clean-fault true k fs e h inside = h
  clean-fault false k [] e h inside = refl
  clean-fault false k (f ∷ fs) e h inside = absurd (true≢false (sym (is_on k (inside (λ g. absurd cc))) ∙ e))

  abbrev NoneFrom : ℕ → List Faults → Type 0
  NoneFrom n fss = (k : ℕ) → faults_in (on (n + k)) (slice_index_or fss k []) ≡ []

  -- the first entry, and the entries after it
  none-first : (n : ℕ) (fs : Faults) (fss : List Faults) → NoneFrom n (fs ∷ fss) → faults_in (on n) fs ≡ []
  none-first n fs fss h = let e : n + 0 ≡ n = omega arith in ap (λ v. faults_in (on v) fs) (sym e) ∙ h 0

  none-later : (n : ℕ) (fs : Faults) (fss : List Faults) → NoneFrom n (fs ∷ fss) → NoneFrom (suc n) fss
  none-later n fs fss h k = let e : n + suc k ≡ suc n + k = omega arith in ap (λ v. faults_in (on v) (slice_index_or fss k [])) (sym e) ∙ h (suc k)

  none-from : (n : ℕ) (fs : Faults) (fss : List Faults) → faults_in (on n) fs ≡ [] → NoneFrom (suc n) fss → NoneFrom n (fs ∷ fss)
  none-from n fs fss e h zero = let s : n + 0 ≡ n = omega arith in ap (λ v. faults_in (on v) fs) s ∙ e
  none-from n fs fss e h (suc k) = let s : n + suc k ≡ suc n + k = omega arith in ap (λ v. faults_in (on v) (slice_index_or fss k [])) s ∙ h k

  none-in-front : (n : ℕ) (ys : Faults) (fss : List Faults) → faults_in (on n) ys ≡ [] → NoneFrom n fss → NoneFrom n (in_front ys fss)
  none-in-front n ys [] e h = h
  none-in-front n ys (fs ∷ fss) e h = none-from n (ys ++ fs) fss (none-both (on n) ys fs e (none-first n fs fss h)) (none-later n fs fss h)

  in-front-none : (n : ℕ) (ys : Faults) (fs : Faults) (fss : List Faults) → NoneFrom n (in_front ys (fs ∷ fss)) → (faults_in (on n) ys ≡ []) × NoneFrom n (fs ∷ fss)
  in-front-none n ys fs fss h =
      let both = both-none (on n) ys fs (none-first n (ys ++ fs) fss h) in
      (both.0, none-from n fs fss both.1 (none-later n (ys ++ fs) fss h))

  nothing-there : (n k : ℕ) → faults_in (on (n + k)) (slice_index_or ([] ∷ []) k []) ≡ []
  nothing-there n zero = in-none (on (n + 0))
  nothing-there n (suc k) = in-none (on (n + suc k))

  abbrev Step : Bool → ℕ → Lexeme → List Lexeme → Type 0
  Step b n x xs = (IsCleanBehind lexemes n x × AreCleanBehind lexemes (cond b n (suc n)) xs) ↔ NoneFrom n (cond b (in_front x.faults (faults_of xs)) (row_faults x ∷ faults_of xs))

  one-step : (b : Bool) (n : ℕ) (x : Lexeme) (xs : List Lexeme) → is_gap x.shape ≡ b → (AreCleanBehind lexemes (cond b n (suc n)) xs ↔ NoneFrom (cond b n (suc n)) (faults_of xs)) → Step b n x xs
  one-step true n x xs g h = (forth, back)
    where
      forth : IsCleanBehind lexemes n x × AreCleanBehind lexemes n xs → NoneFrom n (in_front x.faults (faults_of xs))
      forth c = none-in-front n x.faults (faults_of xs) (clean-fault (on n) n x.faults refl c.0.1 c.0.2) (h.0 c.1)

      back : NoneFrom n (in_front x.faults (faults_of xs)) → IsCleanBehind lexemes n x × AreCleanBehind lexemes n xs
      back c =
          let e = some-entry xs in
          let p = in-front-none n x.faults e.0 e.1 (subst (λ v. NoneFrom n (in_front x.faults v)) e.2 c) in
          (lexeme-clean lexemes (on n) n x (is_inside n) (ap (faults_in (on n)) (gap-own x g) ∙ p.0), h.1 (subst (NoneFrom n) (sym e.2) p.1))
  one-step false n x xs g h = (forth, back)
    where
      forth : IsCleanBehind lexemes n x × AreCleanBehind lexemes (suc n) xs → NoneFrom n (row_faults x ∷ faults_of xs)
      forth c = none-from n (row_faults x) (faults_of xs)
          (none-both (on n) x.faults (invalid_faults x.shape (span_from x.start x.stop)) (clean-fault (on n) n x.faults refl c.0.1 c.0.2) (invalid-none (on n) x.shape (span_from x.start x.stop) c.0.0)) (h.0 c.1)

      back : NoneFrom n (row_faults x ∷ faults_of xs) → IsCleanBehind lexemes n x × AreCleanBehind lexemes (suc n) xs
      back c = (lexeme-clean lexemes (on n) n x (is_inside n) (none-first n (row_faults x) (faults_of xs) c), h.1 (none-later n (row_faults x) (faults_of xs) c))

  clean-from : (n : ℕ) (xs : List Lexeme) → AreCleanBehind lexemes n xs ↔ NoneFrom n (faults_of xs)
  clean-from n [] = ((λ h k. nothing-there n k), (λ h. tt))
  clean-from n (x ∷ xs) = one-step (is_gap x.shape) n x xs refl (clean-from (cond (is_gap x.shape) n (suc n)) xs)

  -- all of them
  pub clean-modes : AreClean lexemes ↔ ((k : ℕ) → faults_in (on k) (slice_index_or (faults_of lexemes) k []) ≡ [])
  clean-modes =
      let h = clean-from 0 lexemes in (
        λ c k. let e : 0 + k ≡ k = omega arith in subst (λ v. faults_in (on v) (slice_index_or (faults_of lexemes) k []) ≡ []) e (h.0 c k),
        λ g. h.1 (λ k. let e : 0 + k ≡ k = omega arith in subst (λ v. faults_in (on v) (slice_index_or (faults_of lexemes) k []) ≡ []) (sym e) (g k)),
      )
