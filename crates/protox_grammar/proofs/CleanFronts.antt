-- What the first entries in a source's table of faults say about its lexemes. If these entries have
-- no fault in their modes, their lexemes are clean. The first fault of an entry is one of a lexeme
-- with clean lexemes before it.
use Rattle.std.proofs.Common.{◌≡◌, ◌↔◌, ◌+◌, ◌<◌, inl, inr, ℕ, zero, suc, Bool, true, false, cond, List, [], ◌∷◌, ◌++◌, length, Some, refl, sym, ap, subst, ◌∙◌, arith}
use Rattle.std.specs.Prelude.{slice_get, slice_index_or}
use Rattle.std.proofs.lemmas.Bool.{cases_Bool}
use Rattle.protox_fault.specs.Faults.{Span, faults_in, span_from}
use Rattle.protox_fault.specs.declared.error.ParseErrorKind.{ParseErrorKind}
use Rattle.protox_lexeme.specs.Lexemes.{Lexeme}
use Rattle.protox_lexeme.specs.Shapes.{Invalid, Row, Rows}
use Rattle.protox_lexeme.specs.Table.{faults_of, in_front, invalid_faults, is_gap, row_faults, rows_of}
use Rattle.protox_ast.specs.FirstFault.{AreCleanThrough}
use Rattle.protox_ast.specs.Fronts.{AreCleanBehind, AreClean, Inside, IsCleanBehind}
use Rattle.protox_ast.specs.Truth.{source_row}
use Rattle.protox_grammar.proofs.CleanModes.{both-none, gap-own, in-append, in-none, invalid-some, lexeme-clean, some-entry}

abbrev Faults : Type 0
Faults = List ParseErrorKind

-- ---- the first entries of a source, and their modes

-- The modes of the first m entries say whether a file may be inside an aggregate there.
abbrev pub AreToldTo : List Lexeme → (ℕ → Bool) → ℕ → Type 0
AreToldTo lexemes on m = (k : ℕ) → k < m → (on k ≡ true) ↔ Inside lexemes k

-- The first m entries have no fault in their modes.
abbrev pub AreClearTo : List Lexeme → (ℕ → Bool) → ℕ → Type 0
AreClearTo lexemes on m = (k : ℕ) → k < m → faults_in (on k) (slice_index_or (faults_of lexemes) k []) ≡ []

-- This fault is the first in the mode for a lexeme after m tokens. All lexemes before it are clean.
pub record IsFirstLexeme (lexemes : List Lexeme) (text_format : Bool) (m : ℕ) (f : ParseErrorKind) : Type 0 where
  pub before : List Lexeme
  pub here : Lexeme
  pub behind : List Lexeme
  pub parts : lexemes ≡ before ++ (here ∷ behind)
  pub count : length (rows_of before) ≡ m
  pub clean : AreCleanBehind lexemes 0 before
  pub first : (rest : List ParseErrorKind) × (faults_in text_format (row_faults here) ≡ f ∷ rest)

-- ---- entries, by the first lexeme

-- Entry k of the faults of these lexemes.
abbrev entry : List Lexeme → ℕ → Faults
entry xs k = slice_index_or (faults_of xs) k []

abbrev row : Lexeme → Row Span
row x = record { shape = x.shape; at = span_from x.start x.stop }

-- A comment or a newline is no row.
pub gap-rows : (x : Lexeme) (xs : List Lexeme) → is_gap x.shape ≡ true → rows_of (x ∷ xs) ≡ rows_of xs
gap-rows x xs gap = ap (λ b. cond b (rows_of xs) (row x ∷ rows_of xs)) gap

-- Each other lexeme is a row.
pub token-rows : (x : Lexeme) (xs : List Lexeme) → is_gap x.shape ≡ false → rows_of (x ∷ xs) ≡ row x ∷ rows_of xs
token-rows x xs token = ap (λ b. cond b (rows_of xs) (row x ∷ rows_of xs)) token

-- The faults of a comment or a newline stand at the front of the first entry.
pub gap-faults : (x : Lexeme) (xs : List Lexeme) → is_gap x.shape ≡ true → faults_of (x ∷ xs) ≡ in_front (row_faults x) (faults_of xs)
gap-faults x xs gap = ap (λ b. cond b (in_front x.faults (faults_of xs)) (row_faults x ∷ faults_of xs)) gap ∙ ap (λ own. in_front own (faults_of xs)) (sym (gap-own x gap))

-- The faults of each other lexeme are an entry.
pub token-faults : (x : Lexeme) (xs : List Lexeme) → is_gap x.shape ≡ false → faults_of (x ∷ xs) ≡ row_faults x ∷ faults_of xs
token-faults x xs token = ap (λ b. cond b (in_front x.faults (faults_of xs)) (row_faults x ∷ faults_of xs)) token

front-first : (ys : Faults) (xs : List Lexeme) → slice_index_or (in_front ys (faults_of xs)) 0 [] ≡ ys ++ entry xs 0
front-first ys xs = let e = some-entry xs in rw e.2 refl

front-later : (ys : Faults) (fss : List Faults) (k : ℕ) → slice_index_or (in_front ys fss) (suc k) [] ≡ slice_index_or fss (suc k) []
front-later ys [] k = refl
front-later ys (fs ∷ fss) k = refl

gap-first : (x : Lexeme) (xs : List Lexeme) → is_gap x.shape ≡ true → entry (x ∷ xs) 0 ≡ row_faults x ++ entry xs 0
gap-first x xs gap = ap (λ fss. slice_index_or fss 0 []) (gap-faults x xs gap) ∙ front-first (row_faults x) xs

gap-later : (x : Lexeme) (xs : List Lexeme) (k : ℕ) → is_gap x.shape ≡ true → entry (x ∷ xs) (suc k) ≡ entry xs (suc k)
gap-later x xs k gap = ap (λ fss. slice_index_or fss (suc k) []) (gap-faults x xs gap) ∙ front-later (row_faults x) (faults_of xs) k

token-first : (x : Lexeme) (xs : List Lexeme) → is_gap x.shape ≡ false → entry (x ∷ xs) 0 ≡ row_faults x
token-first x xs token = ap (λ fss. slice_index_or fss 0 []) (token-faults x xs token)

token-later : (x : Lexeme) (xs : List Lexeme) (k : ℕ) → is_gap x.shape ≡ false → entry (x ∷ xs) (suc k) ≡ entry xs k
token-later x xs k token = ap (λ fss. slice_index_or fss (suc k) []) (token-faults x xs token)

entry-none : (k : ℕ) → entry [] k ≡ []
entry-none zero = refl
entry-none (suc k) = refl

-- ---- clean lexemes, by the first

gap-behind : (lexemes : List Lexeme) (n : ℕ) (x : Lexeme) (xs : List Lexeme) → is_gap x.shape ≡ true → IsCleanBehind lexemes n x → AreCleanBehind lexemes n xs → AreCleanBehind lexemes n (x ∷ xs)
gap-behind lexemes n x xs gap c cs = (c, subst (λ b. AreCleanBehind lexemes (cond b n (suc n)) xs) (sym gap) cs)

token-behind : (lexemes : List Lexeme) (n : ℕ) (x : Lexeme) (xs : List Lexeme) → is_gap x.shape ≡ false → IsCleanBehind lexemes n x → AreCleanBehind lexemes (suc n) xs → AreCleanBehind lexemes n (x ∷ xs)
token-behind lexemes n x xs token c cs = (c, subst (λ b. AreCleanBehind lexemes (cond b n (suc n)) xs) (sym token) cs)

-- Of these lexemes, which come after n tokens, the token after j others is clean, and so are all
-- before it.
record Through (lexemes : List Lexeme) (n : ℕ) (xs : List Lexeme) (j : ℕ) : Type 0 where
  before : List Lexeme
  here : Lexeme
  behind : List Lexeme
  parts : xs ≡ before ++ (here ∷ behind)
  is_token : is_gap here.shape ≡ false
  number : length (rows_of before) ≡ j
  clean : AreCleanBehind lexemes n (before ++ (here ∷ []))

through-here : (lexemes : List Lexeme) (n : ℕ) (x : Lexeme) (xs : List Lexeme) → is_gap x.shape ≡ false → IsCleanBehind lexemes n x → Through lexemes n (x ∷ xs) 0
through-here lexemes n x xs token c = record { before = []; here = x; behind = xs; parts = refl; is_token = token; number = refl; clean = (c, tt) }

through-gap : (lexemes : List Lexeme) (n : ℕ) (x : Lexeme) (xs : List Lexeme) (j : ℕ) → is_gap x.shape ≡ true → IsCleanBehind lexemes n x → Through lexemes n xs j → Through lexemes n (x ∷ xs) j
through-gap lexemes n x xs j gap c r = record {
  before = x ∷ r.before;
  here = r.here;
  behind = r.behind;
  parts = ap (λ ys. x ∷ ys) r.parts;
  is_token = r.is_token;
  number = ap length (gap-rows x r.before gap) ∙ r.number;
  clean = gap-behind lexemes n x (r.before ++ (r.here ∷ [])) gap c r.clean;
}

through-token : (lexemes : List Lexeme) (n : ℕ) (x : Lexeme) (xs : List Lexeme) (j : ℕ) → is_gap x.shape ≡ false → IsCleanBehind lexemes n x → Through lexemes (suc n) xs j → Through lexemes n (x ∷ xs) (suc j)
through-token lexemes n x xs j token c r = record {
  before = x ∷ r.before;
  here = r.here;
  behind = r.behind;
  parts = ap (λ ys. x ∷ ys) r.parts;
  is_token = r.is_token;
  number = ap length (token-rows x r.before token) ∙ ap (λ k. suc k) r.number;
  clean = token-behind lexemes n x (r.before ++ (r.here ∷ [])) token c r.clean;
}

-- Of these lexemes, which come after n tokens, one after j tokens has the fault as its first in the
-- mode. All before it are clean.
record First (lexemes : List Lexeme) (n : ℕ) (xs : List Lexeme) (j : ℕ) (text_format : Bool) (f : ParseErrorKind) : Type 0 where
  before : List Lexeme
  here : Lexeme
  behind : List Lexeme
  parts : xs ≡ before ++ (here ∷ behind)
  number : length (rows_of before) ≡ j
  clean : AreCleanBehind lexemes n before
  rest : Faults
  first : faults_in text_format (row_faults here) ≡ f ∷ rest

first-here : (lexemes : List Lexeme) (n : ℕ) (x : Lexeme) (xs : List Lexeme) (b : Bool) (f : ParseErrorKind) (rest : Faults) → faults_in b (row_faults x) ≡ f ∷ rest → First lexemes n (x ∷ xs) 0 b f
first-here lexemes n x xs b f rest e = record { before = []; here = x; behind = xs; parts = refl; number = refl; clean = tt; rest = rest; first = e }

first-gap : (lexemes : List Lexeme) (n : ℕ) (x : Lexeme) (xs : List Lexeme) (j : ℕ) (b : Bool) (f : ParseErrorKind) → is_gap x.shape ≡ true → IsCleanBehind lexemes n x → First lexemes n xs j b f → First lexemes n (x ∷ xs) j b f
first-gap lexemes n x xs j b f gap c r = record {
  before = x ∷ r.before;
  here = r.here;
  behind = r.behind;
  parts = ap (λ ys. x ∷ ys) r.parts;
  number = ap length (gap-rows x r.before gap) ∙ r.number;
  clean = gap-behind lexemes n x r.before gap c r.clean;
  rest = r.rest;
  first = r.first;
}

first-token : (lexemes : List Lexeme) (n : ℕ) (x : Lexeme) (xs : List Lexeme) (j : ℕ) (b : Bool) (f : ParseErrorKind) → is_gap x.shape ≡ false → IsCleanBehind lexemes n x → First lexemes (suc n) xs j b f → First lexemes n (x ∷ xs) (suc j) b f
first-token lexemes n x xs j b f token c r = record {
  before = x ∷ r.before;
  here = r.here;
  behind = r.behind;
  parts = ap (λ ys. x ∷ ys) r.parts;
  number = ap length (token-rows x r.before token) ∙ ap (λ k. suc k) r.number;
  clean = token-behind lexemes n x r.before token c r.clean;
  rest = r.rest;
  first = r.first;
}

-- If a comment or a newline has faults in the mode, the first of them is the first of the entry.
first-of-gap :
    (lexemes : List Lexeme) (n : ℕ) (x : Lexeme) (xs : List Lexeme) (b : Bool) (f : ParseErrorKind) (more own : Faults) → faults_in b (row_faults x) ≡ own → own ++ faults_in b (entry xs 0) ≡ f ∷ more
    → (faults_in b (row_faults x) ≡ [] → faults_in b (entry xs 0) ≡ f ∷ more → First lexemes n (x ∷ xs) 0 b f) → First lexemes n (x ∷ xs) 0 b f
first-of-gap lexemes n x xs b f more [] e w later = later e w
first-of-gap lexemes n x xs b f more (g ∷ gs) e w later = let same : g ≡ f = cc in first-here lexemes n x xs b f gs (e ∙ ap (λ v. v ∷ gs) same)

-- ---- by induction on the lexemes, after n tokens

module _ (lexemes : List Lexeme) (on : ℕ → Bool) (top : ℕ) (told : AreToldTo lexemes on top) where
  -- the first m entries of these lexemes have no fault in their modes; the first of them is entry n
  -- of the source
  abbrev AreClearFrom : ℕ → ℕ → List Lexeme → Type 0
  AreClearFrom n m xs = (k i : ℕ) → k < m → n + k ≡ i → faults_in (on i) (entry xs k) ≡ []

  is-clean : (n : ℕ) (x : Lexeme) → n < top → faults_in (on n) (row_faults x) ≡ [] → IsCleanBehind lexemes n x
  is-clean n x t e = lexeme-clean lexemes (on n) n x (told n t).0 e

  gap-both : (n m : ℕ) (x : Lexeme) (xs : List Lexeme) → is_gap x.shape ≡ true → AreClearFrom n (suc m) (x ∷ xs) → (faults_in (on n) (row_faults x) ≡ []) × (faults_in (on n) (entry xs 0) ≡ [])
  gap-both n m x xs gap h = both-none (on n) (row_faults x) (entry xs 0) (ap (faults_in (on n)) (sym (gap-first x xs gap)) ∙ h 0 n (omega arith) (omega arith))

  gap-clear : (n m : ℕ) (x : Lexeme) (xs : List Lexeme) → is_gap x.shape ≡ true → AreClearFrom n (suc m) (x ∷ xs) → AreClearFrom n (suc m) xs
  gap-clear n m x xs gap h zero i l e = let same : n ≡ i = omega arith in subst (λ v. faults_in (on v) (entry xs 0) ≡ []) same (gap-both n m x xs gap h).1
  gap-clear n m x xs gap h (suc k) i l e = ap (faults_in (on i)) (sym (gap-later x xs k gap)) ∙ h (suc k) i l e

  token-none : (n m : ℕ) (x : Lexeme) (xs : List Lexeme) → is_gap x.shape ≡ false → AreClearFrom n (suc m) (x ∷ xs) → faults_in (on n) (row_faults x) ≡ []
  token-none n m x xs token h = ap (faults_in (on n)) (sym (token-first x xs token)) ∙ h 0 n (omega arith) (omega arith)

  token-clear : (n m : ℕ) (x : Lexeme) (xs : List Lexeme) → is_gap x.shape ≡ false → AreClearFrom n (suc m) (x ∷ xs) → AreClearFrom (suc n) m xs
  token-clear n m x xs token h k i l e = ap (faults_in (on i)) (sym (token-later x xs k token)) ∙ h (suc k) i (omega arith) (omega arith)

  through-from : (n j : ℕ) (xs : List Lexeme) → j < length (rows_of xs) → n + j < top → AreClearFrom n (suc j) xs → Through lexemes n xs j
  through-from n j [] l t h = absurd (omega arith)
  through-from n zero (x ∷ xs) l t h = elim (cases_Bool (is_gap x.shape)) [
    | inl gap ↦ through-gap lexemes n x xs 0 gap (is-clean n x (omega arith) (gap-both n 0 x xs gap h).0) (through-from n 0 xs (subst (λ rows. 0 < length rows) (gap-rows x xs gap) l) t (gap-clear n 0 x xs gap h))
    | inr token ↦ through-here lexemes n x xs token (is-clean n x (omega arith) (token-none n 0 x xs token h))
  ]
  through-from n (suc j) (x ∷ xs) l t h = elim (cases_Bool (is_gap x.shape)) [
    | inl gap ↦ through-gap lexemes n x xs (suc j) gap (is-clean n x (omega arith) (gap-both n (suc j) x xs gap h).0) (through-from n (suc j) xs (subst (λ rows. suc j < length rows) (gap-rows x xs gap) l) t (gap-clear n (suc j) x xs gap h))
    | inr token ↦ let less : suc j < suc (length (rows_of xs)) = subst (λ rows. suc j < length rows) (token-rows x xs token) l in
        through-token lexemes n x xs j token (is-clean n x (omega arith) (token-none n (suc j) x xs token h)) (through-from (suc n) j xs (omega arith) (omega arith) (token-clear n (suc j) x xs token h))
  ]

  all-from : (n : ℕ) (xs : List Lexeme) → n + length (rows_of xs) < top → AreClearFrom n (suc (length (rows_of xs))) xs → AreCleanBehind lexemes n xs
  all-from n [] t h = tt
  all-from n (x ∷ xs) t h = elim (cases_Bool (is_gap x.shape)) [
    | inl gap ↦ gap-all n x xs gap t h (all-from n xs)
    | inr token ↦ token-all n x xs token t h (all-from (suc n) xs)
  ] where
    gap-all :
        (n : ℕ) (x : Lexeme) (xs : List Lexeme) → is_gap x.shape ≡ true → n + length (rows_of (x ∷ xs)) < top → AreClearFrom n (suc (length (rows_of (x ∷ xs)))) (x ∷ xs)
        → (n + length (rows_of xs) < top → AreClearFrom n (suc (length (rows_of xs))) xs → AreCleanBehind lexemes n xs) → AreCleanBehind lexemes n (x ∷ xs)
    gap-all n x xs gap t h rest =
        let e = ap length (gap-rows x xs gap) in
        let m = length (rows_of xs) in
        let clear : AreClearFrom n (suc m) (x ∷ xs) = subst (λ v. AreClearFrom n (suc v) (x ∷ xs)) e h in
        gap-behind lexemes n x xs gap (is-clean n x (omega arith) (gap-both n m x xs gap clear).0) (rest (subst (λ v. n + v < top) e t) (gap-clear n m x xs gap clear))

    token-all :
        (n : ℕ) (x : Lexeme) (xs : List Lexeme) → is_gap x.shape ≡ false → n + length (rows_of (x ∷ xs)) < top → AreClearFrom n (suc (length (rows_of (x ∷ xs)))) (x ∷ xs)
        → (suc n + length (rows_of xs) < top → AreClearFrom (suc n) (suc (length (rows_of xs))) xs → AreCleanBehind lexemes (suc n) xs) → AreCleanBehind lexemes n (x ∷ xs)
    token-all n x xs token t h rest =
        let e : length (rows_of (x ∷ xs)) ≡ suc (length (rows_of xs)) = ap length (token-rows x xs token) in
        let m = suc (length (rows_of xs)) in
        let clear : AreClearFrom n (suc m) (x ∷ xs) = subst (λ v. AreClearFrom n (suc v) (x ∷ xs)) e h in
        let less : n + suc (length (rows_of xs)) < top = subst (λ v. n + v < top) e t in
        token-behind lexemes n x xs token (is-clean n x (omega arith) (token-none n m x xs token clear)) (rest (omega arith) (token-clear n m x xs token clear))

  first-from : (n j i : ℕ) (xs : List Lexeme) (f : ParseErrorKind) (more : Faults) → n + j ≡ i → i < top → AreClearFrom n j xs → faults_in (on i) (entry xs j) ≡ f ∷ more → First lexemes n xs j (on i) f
  first-from n j i [] f more e t h w = let none : [] ≡ f ∷ more = sym (in-none (on i)) ∙ (ap (faults_in (on i)) (sym (entry-none j)) ∙ w) in absurd cc
  first-from n zero i (x ∷ xs) f more e t h w = elim (cases_Bool (is_gap x.shape)) [
    | inl gap ↦
        let same : i ≡ n = omega arith in
        let parts : faults_in (on i) (row_faults x) ++ faults_in (on i) (entry xs 0) ≡ f ∷ more = sym (in-append (on i) (row_faults x) (entry xs 0)) ∙ (ap (faults_in (on i)) (sym (gap-first x xs gap)) ∙ w) in
        first-of-gap lexemes n x xs (on i) f more (faults_in (on i) (row_faults x)) refl parts (λ own later.
        first-gap lexemes n x xs 0 (on i) f gap (is-clean n x (omega arith) (subst (λ v. faults_in (on v) (row_faults x) ≡ []) same own)) (first-from n 0 i xs f more e t (λ k v l s. absurd (omega arith)) later))
    | inr token ↦ first-here lexemes n x xs (on i) f more (ap (faults_in (on i)) (sym (token-first x xs token)) ∙ w)
  ]
  first-from n (suc j) i (x ∷ xs) f more e t h w = elim (cases_Bool (is_gap x.shape)) [
    | inl gap ↦
        first-gap lexemes n x xs (suc j) (on i) f gap (is-clean n x (omega arith) (gap-both n j x xs gap h).0)
        (first-from n (suc j) i xs f more e t (gap-clear n j x xs gap h) (ap (faults_in (on i)) (sym (gap-later x xs j gap)) ∙ w))
    | inr token ↦
        first-token lexemes n x xs j (on i) f token (is-clean n x (omega arith) (token-none n j x xs token h))
        (first-from (suc n) j i xs f more (omega arith) t (token-clear n j x xs token h) (ap (faults_in (on i)) (sym (token-later x xs j token)) ∙ w))
  ]

-- ---- the laws

clear-from : (lexemes : List Lexeme) (on : ℕ → Bool) (m : ℕ) → AreClearTo lexemes on m → (k i : ℕ) → k < m → 0 + k ≡ i → faults_in (on i) (entry lexemes k) ≡ []
clear-from lexemes on m h k i l e = let same : k ≡ i = omega arith in subst (λ v. faults_in (on v) (entry lexemes k) ≡ []) same (h k l)

-- If no entry up to that of token n has a fault in its mode, the token and all lexemes before it
-- are clean.
pub clean-through : (lexemes : List Lexeme) (on : ℕ → Bool) (n : ℕ) → n < length (rows_of lexemes) → AreClearTo lexemes on (suc n) → AreToldTo lexemes on (suc n) → AreCleanThrough lexemes n
clean-through lexemes on n l h told =
    let r = through-from lexemes on (suc n) told 0 n lexemes l (omega arith) (clear-from lexemes on (suc n) h) in
    record { before = r.before; here = r.here; behind = r.behind; parts = r.parts; is_token = r.is_token; number = r.number; clean = r.clean }

-- If no entry has a fault in its mode, all lexemes are clean.
pub clean-all : (lexemes : List Lexeme) (on : ℕ → Bool) → AreClearTo lexemes on (suc (length (rows_of lexemes))) → AreToldTo lexemes on (suc (length (rows_of lexemes))) → AreClean lexemes
clean-all lexemes on h told = let m = suc (length (rows_of lexemes)) in all-from lexemes on m told 0 lexemes (omega arith) (clear-from lexemes on m h)

-- If the entries before one have no fault, its first fault is one of a lexeme with clean lexemes
-- before it.
pub first-lexeme :
    (lexemes : List Lexeme) (on : ℕ → Bool) (m : ℕ) (f : ParseErrorKind) (more : List ParseErrorKind)
    → faults_in (on m) (slice_index_or (faults_of lexemes) m []) ≡ f ∷ more → AreClearTo lexemes on m → AreToldTo lexemes on (suc m) → IsFirstLexeme lexemes (on m) m f
first-lexeme lexemes on m f more w h told =
    let r = first-from lexemes on (suc m) told 0 m m lexemes f more (omega arith) (omega arith) (clear-from lexemes on m h) w in
    record { before = r.before; here = r.here; behind = r.behind; parts = r.parts; count = r.number; clean = r.clean; first = (r.rest, r.first) }

-- ---- rows

valid-at : (b : Bool) (j : ℕ) (xs : List Lexeme) → j < length (rows_of xs) → faults_in b (entry xs j) ≡ [] → (source_row (rows_of xs) j).shape ≡ Invalid → ⊥
valid-at b j [] l e is = absurd (omega arith)
valid-at b zero (x ∷ xs) l e is = elim (cases_Bool (is_gap x.shape)) [
  | inl gap ↦
      let rows = gap-rows x xs gap in
      let both = both-none b (row_faults x) (entry xs 0) (ap (faults_in b) (sym (gap-first x xs gap)) ∙ e) in
      valid-at b 0 xs (subst (λ rs. 0 < length rs) rows l) both.1 (subst (λ rs. (source_row rs 0).shape ≡ Invalid) rows is)
  | inr token ↦
      let span : Span = span_from x.start x.stop in
      let both = both-none b x.faults (invalid_faults x.shape span) (ap (faults_in b) (sym (token-first x xs token)) ∙ e) in
      let same : x.shape ≡ Invalid = subst (λ rs. (source_row rs 0).shape ≡ Invalid) (token-rows x xs token) is in
      invalid-some b x.shape span same both.1
]
valid-at b (suc j) (x ∷ xs) l e is = elim (cases_Bool (is_gap x.shape)) [
  | inl gap ↦
      let rows = gap-rows x xs gap in
      valid-at b (suc j) xs (subst (λ rs. suc j < length rs) rows l) (ap (faults_in b) (sym (gap-later x xs j gap)) ∙ e) (subst (λ rs. (source_row rs (suc j)).shape ≡ Invalid) rows is)
  | inr token ↦
      let rows = token-rows x xs token in
      let less : suc j < suc (length (rows_of xs)) = subst (λ rs. suc j < length rs) rows l in
      valid-at b j xs (omega arith) (ap (faults_in b) (sym (token-later x xs j token)) ∙ e) (subst (λ rs. (source_row rs (suc j)).shape ≡ Invalid) rows is)
]

pub row-there : (rows : Rows Span) (n : ℕ) (r : Row Span) → slice_get rows n ≡ Some r → (n < length rows) × (source_row rows n ≡ r)
row-there [] n r e = absurd cc
row-there (x ∷ rows) zero r e = let same : x ≡ r = cc in (omega arith, same)
row-there (x ∷ rows) (suc n) r e = let h = row-there rows n r e in (omega arith, h.1)

-- A row that is looked up is valid, if its entry has no fault in some mode.
pub row-valid : (b : Bool) (xs : List Lexeme) (n : ℕ) (r : Row Span) → slice_get (rows_of xs) n ≡ Some r → faults_in b (slice_index_or (faults_of xs) n []) ≡ [] → r.shape ≡ Invalid → ⊥
row-valid b xs n r e none is =
    let h = row-there (rows_of xs) n r e in
    valid-at b n xs h.0 none (ap (λ (v : Row Span). v.shape) h.1 ∙ is)
