-- What the faults of a table say of its rows.
use Rattle.std.proofs.Common.{◌≡◌, ℕ, zero, suc, Bool, true, false, not, cond, List, [], ◌∷◌, ◌++◌, Some, refl, sym, ap, ◌∙◌, arith}
use Rattle.std.specs.Prelude.{slice_index_or, slice_get, filter}
use Rattle.std.specs.List.{All}
use Rattle.protox_fault.specs.Faults.{Span, faults_in, is_of_mode, span_from}
use Rattle.protox_lexeme.specs.Shapes.{Invalid, Row, Rows}
use Rattle.protox_lexeme.specs.Lexemes.{Lexeme}
use Rattle.protox_lexeme.specs.Table.{is_gap, rows_of, faults_of, in_front, row_faults, invalid_faults}
use Rattle.protox_fault.specs.declared.error.ParseErrorKind.{ParseErrorKind}
use Rattle.protox_ast.specs.Keywords.{Each}
use Rattle.protox_grammar.proofs.Lemmas.{in-append, invalid-some}

abbrev Faults : Type 0
Faults = List ParseErrorKind

pub append-empty : {A : Type 0} (xs ys : List A) → xs ++ ys ≡ [] → (xs ≡ []) × (ys ≡ [])
append-empty [] ys e = (refl, e)
append-empty (x ∷ xs) ys e = absurd cc

pub all-each : {A : Type 0} (P : A → Type 0) (xs : List A) → All P xs → Each P xs
all-each P [] h = tt
all-each P (x ∷ xs) h = (h 0 x (omega arith), all-each P xs (λ k d l. h (suc k) d (omega arith)))

pub each-at : (P : ParseErrorKind → Type 0) (fs : List Faults) → Each (λ (f : Faults). All P f) fs → (i : ℕ) → Each P (slice_index_or fs i [])
each-at P [] h i = tt
each-at P (f ∷ fs) h zero = all-each P f h.0
each-at P (f ∷ fs) h (suc i) = each-at P fs h.1 i

-- the faults in a mode are among all faults
each-kept : {A : Type 0} (P : A → Type 0) (b : Bool) (x : A) (xs : List A) → P x → Each P xs → Each P (cond b (x ∷ xs) xs)
each-kept P true x xs h k = (h, k)
each-kept P false x xs h k = k

each-filter : {A : Type 0} (P : A → Type 0) (test : A → Bool) (xs : List A) → Each P xs → Each P (filter test xs)
each-filter P test [] h = tt
each-filter P test (x ∷ xs) h = each-kept P (test x) x (filter test xs) h.0 (each-filter P test xs h.1)

pub each-in : (P : ParseErrorKind → Type 0) (b : Bool) (fs : Faults) → Each P fs → Each P (faults_in b fs)
each-in P true fs h = each-filter P (λ f. not (is_of_mode f)) fs h
each-in P false fs h = h

-- ---- gaps before rows

-- an entry has a fault in each mode
abbrev pub IsFaulty : Faults → Type 0
IsFaulty fs = (b : Bool) → faults_in b fs ≡ [] → ⊥

behind-faulty : (ys fs : Faults) → IsFaulty fs → IsFaulty (ys ++ fs)
behind-faulty ys fs h b e = h b (append-empty (faults_in b ys) (faults_in b fs) (sym (in-append b ys fs) ∙ e)).1

front-at : (ys : Faults) (fs : List Faults) (i : ℕ) → IsFaulty (slice_index_or fs i []) → IsFaulty (slice_index_or (in_front ys fs) i [])
front-at ys [] i h = h
front-at ys (f ∷ fs) zero h = behind-faulty ys f h
front-at ys (f ∷ fs) (suc i) h = h

-- ---- rows and lexemes

abbrev row : Lexeme → Row Span
row x = record { shape = x.shape; at = span_from x.start x.stop }

some-is : {A : Type 0} (x y : A) → Some x ≡ Some y → x ≡ y
some-is x y e = cc

abbrev AreFaulty : Rows Span → List Faults → Type 0
AreFaulty rows fs = (i : ℕ) (r : Row Span) → slice_get rows i ≡ Some r → r.shape ≡ Invalid → IsFaulty (slice_index_or fs i [])

faulty-by : (x : Lexeme) (xs : List Lexeme) (b : Bool) → AreFaulty (rows_of xs) (faults_of xs) → AreFaulty (cond b (rows_of xs) (row x ∷ rows_of xs)) (cond b (in_front x.faults (faults_of xs)) (row_faults x ∷ faults_of xs))
faulty-by x xs true h i r e v = front-at x.faults (faults_of xs) i (h i r e v)
faulty-by x xs false h zero r e v =
    let same = some-is (row x) r e in
    behind-faulty x.faults (invalid_faults x.shape (span_from x.start x.stop)) (λ b n. invalid-some b x.shape (span_from x.start x.stop) (ap (λ (w : Row Span). w.shape) same ∙ v) n)
faulty-by x xs false h (suc i) r e v = h i r e v

-- an invalid row has a fault in each mode
pub invalid-faulty : (xs : List Lexeme) → AreFaulty (rows_of xs) (faults_of xs)
invalid-faulty [] i r e v = absurd cc
invalid-faulty (x ∷ xs) i r e v = faulty-by x xs (is_gap x.shape) (invalid-faulty xs) i r e v
