-- The faults in a source's table, each in the mode of its entry, are those of its lexemes, in
-- order.
use Rattle.std.proofs.Common.{◌≡◌, ◌↔◌, ◌+◌, ◌<◌, inl, inr, ℕ, zero, suc, Bool, true, false, cond, List, [], ◌∷◌, ◌++◌, length, refl, sym, ap, subst, ◌∙◌, append_assoc, arith, true≢false}
use Rattle.std.specs.Prelude.{slice_index_or}
use Rattle.std.proofs.lemmas.Bool.{cases_Bool}
use Rattle.protox_fault.specs.Faults.{faults_in}
use Rattle.protox_fault.specs.declared.error.ParseErrorKind.{ParseErrorKind}
use Rattle.protox_lexeme.specs.Lexemes.{Lexeme}
use Rattle.protox_lexeme.specs.Table.{faults_of, in_front, is_gap, row_faults, rows_of}
use Rattle.protox_ast.specs.FaultList.{AreFaultsOf, HasFaults, HaveFaultsBehind}
use Rattle.protox_ast.specs.Fronts.{Inside}
use Rattle.protox_grammar.proofs.CleanFronts.{AreToldTo, gap-faults, gap-rows, token-faults, token-rows}
use Rattle.protox_grammar.proofs.CleanModes.{in-append, in-none, some-entry}

abbrev Faults : Type 0
Faults = List ParseErrorKind

-- The faults of so many entries in their modes, from entry k on.
abbrev pub all_from : List Lexeme → (ℕ → Bool) → ℕ → ℕ → List ParseErrorKind
all_from lexemes on k zero = []
all_from lexemes on k (suc n) = faults_in (on k) (slice_index_or (faults_of lexemes) k []) ++ all_from lexemes on (suc k) n

-- ---- entries in a list that begins with entry n

abbrev joined : (ℕ → Bool) → ℕ → List Faults → Faults
joined on n [] = []
joined on n (fs ∷ fss) = faults_in (on n) fs ++ joined on (suc n) fss

joined-front : (on : ℕ → Bool) (n : ℕ) (ys fs : Faults) (fss : List Faults) → joined on n (in_front ys (fs ∷ fss)) ≡ faults_in (on n) ys ++ joined on n (fs ∷ fss)
joined-front on n ys fs fss = ap (λ v. v ++ joined on (suc n) fss) (in-append (on n) ys fs) ∙ append_assoc (faults_in (on n) ys) (faults_in (on n) fs) (joined on (suc n) fss)

joined-in-front : (on : ℕ → Bool) (n : ℕ) (ys : Faults) (xs : List Lexeme) → joined on n (in_front ys (faults_of xs)) ≡ faults_in (on n) ys ++ joined on n (faults_of xs)
joined-in-front on n ys xs =
    let e = some-entry xs in
    subst (λ fss. joined on n (in_front ys fss) ≡ faults_in (on n) ys ++ joined on n fss) (sym e.2) (joined-front on n ys e.0 e.1)

joined-none : (b : Bool) → faults_in b [] ++ [] ≡ []
joined-none b = ap (λ (v : Faults). v ++ []) (in-none b)

-- The entries of a source, from entry n on.
all-joined : (lexemes : List Lexeme) (on : ℕ → Bool) (n : ℕ) (fss : List Faults) → ((k i : ℕ) → n + k ≡ i → slice_index_or (faults_of lexemes) i [] ≡ slice_index_or fss k []) → all_from lexemes on n (length fss) ≡ joined on n fss
all-joined lexemes on n [] h = refl
all-joined lexemes on n (fs ∷ fss) h =
    let first : slice_index_or (faults_of lexemes) n [] ≡ fs = h 0 n (omega arith) in
    let later : all_from lexemes on (suc n) (length fss) ≡ joined on (suc n) fss = all-joined lexemes on (suc n) fss (λ k i e. h (suc k) i (omega arith)) in
    ap (λ v. faults_in (on n) v ++ all_from lexemes on (suc n) (length fss)) first ∙ ap (λ v. faults_in (on n) fs ++ v) later

front-length : (ys : Faults) (fss : List Faults) → length (in_front ys fss) ≡ length fss
front-length ys [] = refl
front-length ys (fs ∷ fss) = refl

-- an entry for each token, and one for the end
pub entries-length : (xs : List Lexeme) → length (faults_of xs) ≡ suc (length (rows_of xs))
entries-length [] = refl
entries-length (x ∷ xs) = elim (cases_Bool (is_gap x.shape)) [
  | inl gap ↦ ap length (gap-faults x xs gap) ∙ (front-length (row_faults x) (faults_of xs) ∙ (entries-length xs ∙ ap (λ rows. suc (length rows)) (sym (gap-rows x xs gap))))
  | inr token ↦ ap length (token-faults x xs token) ∙ (ap (λ v. suc v) (entries-length xs) ∙ ap (λ rows. suc (length rows)) (sym (token-rows x xs token)))
]

-- ---- one lexeme, and the lexemes after it

has-faults : (lexemes : List Lexeme) (n : ℕ) (x : Lexeme) (b : Bool) → ((b ≡ true) ↔ Inside lexemes n) → HasFaults lexemes n x (faults_in b (row_faults x))
has-faults lexemes n x true told = ((λ inside. refl), (λ outside. absurd (outside (told.0 refl))))
has-faults lexemes n x false told = ((λ inside. absurd (true≢false (sym (told.1 inside)))), (λ outside. refl))

module _ (lexemes : List Lexeme) (on : ℕ → Bool) (top : ℕ) (told : AreToldTo lexemes on top) where
  faults-gap :
      (n : ℕ) (x : Lexeme) (xs : List Lexeme) → is_gap x.shape ≡ true → n < top → HaveFaultsBehind lexemes n xs (joined on n (faults_of xs))
      → HaveFaultsBehind lexemes n (x ∷ xs) (joined on n (faults_of (x ∷ xs)))
  faults-gap n x xs gap t rest = (
    faults_in (on n) (row_faults x),
    joined on n (faults_of xs),
    ap (joined on n) (gap-faults x xs gap) ∙ joined-in-front on n (row_faults x) xs,
    has-faults lexemes n x (on n) (told n t),
    subst (λ b. HaveFaultsBehind lexemes (cond b n (suc n)) xs (joined on n (faults_of xs))) (sym gap) rest,
  )

  faults-token :
      (n : ℕ) (x : Lexeme) (xs : List Lexeme) → is_gap x.shape ≡ false → n < top → HaveFaultsBehind lexemes (suc n) xs (joined on (suc n) (faults_of xs))
      → HaveFaultsBehind lexemes n (x ∷ xs) (joined on n (faults_of (x ∷ xs)))
  faults-token n x xs token t rest = (
    faults_in (on n) (row_faults x),
    joined on (suc n) (faults_of xs),
    ap (joined on n) (token-faults x xs token),
    has-faults lexemes n x (on n) (told n t),
    subst (λ b. HaveFaultsBehind lexemes (cond b n (suc n)) xs (joined on (suc n) (faults_of xs))) (sym token) rest,
  )

  faults-from : (n : ℕ) (xs : List Lexeme) → n + length (rows_of xs) < top → HaveFaultsBehind lexemes n xs (joined on n (faults_of xs))
  faults-from n [] t = joined-none (on n)
  faults-from n (x ∷ xs) t = elim (cases_Bool (is_gap x.shape)) [
    | inl gap ↦ faults-gap n x xs gap (omega arith) (faults-from n xs (subst (λ rows. n + length rows < top) (gap-rows x xs gap) t))
    | inr token ↦
        let less : n + suc (length (rows_of xs)) < top = subst (λ rows. n + length rows < top) (token-rows x xs token) t in
        faults-token n x xs token (omega arith) (faults-from (suc n) xs (omega arith))
  ]

-- The faults of all entries in their modes are those of the lexemes, in order.
pub faults-are : (lexemes : List Lexeme) (on : ℕ → Bool) → AreToldTo lexemes on (suc (length (rows_of lexemes))) → AreFaultsOf lexemes (all_from lexemes on 0 (suc (length (rows_of lexemes))))
faults-are lexemes on told =
    let m = suc (length (rows_of lexemes)) in
    let all : all_from lexemes on 0 (length (faults_of lexemes)) ≡ joined on 0 (faults_of lexemes) = all-joined lexemes on 0 (faults_of lexemes) (λ k i e. let there : i ≡ k = omega arith in ap (λ v. slice_index_or (faults_of lexemes) v []) there) in
    let same : joined on 0 (faults_of lexemes) ≡ all_from lexemes on 0 m = sym (ap (all_from lexemes on 0) (sym (entries-length lexemes)) ∙ all) in
    subst (HaveFaultsBehind lexemes 0 lexemes) same (faults-from lexemes on m told 0 lexemes (omega arith))
