-- The faults that are merged in the table of a source are those in the table of its rest, if what
-- stands before the rest has no fault. Rows that are counted from the end are the same in both.
use Rattle.std.proofs.Common.{◌≡◌, ◌≤◌, ◌<◌, ◌+◌, ◌-◌, ℕ, zero, suc, Bool, true, false, List, [], ◌∷◌, ◌++◌, drop, length, Err, refl, sym, ap, ◌∙◌, append-nil, arith, inl, inr}
use Rattle.std.proofs.lemmas.Bool.{cases_Bool, cases_lt, lt-ltb, le-ltb}
use Rattle.std.proofs.lemmas.List.{length-append}
use Rattle.std.specs.Prelude.{slice_index_or, slice_get}
use Rattle.protox_fault.specs.Faults.{Span, faults_in, span_from}
use Rattle.protox_fault.specs.declared.error.ParseErrorKind.{ParseErrorKind}
use Rattle.protox_lexeme.specs.Lexemes.{Lexeme}
use Rattle.protox_lexeme.specs.Shapes.{Shape, Ident, Int, Float, Str, Mark, LineComment, BlockComment, Newline, Invalid, Rows}
use Rattle.protox_lexeme.specs.Table.{Table, faults_of, in_front, invalid_faults, is_gap, rows_of, table_of}
use Rattle.protox_ast.proofs.Lemmas.{as-many, bare, bare-placed}
use Rattle.protox_ast.specs.Basics.{Each}
use Rattle.protox_ast.specs.KeywordWalk as walk
use Rattle.protox_ast.specs.Places.{Place}
use Rattle.protox_grammar.specs.Bodies as bodies
use Rattle.protox_grammar.specs.Reader.{Refusal, Unexpected}
use Rattle.protox_grammar.specs.Steps.{tokens}
use Rattle.protox_grammar.specs.Told.{Notes, is_invalid, IsNoFault, IsFaultless}
use Rattle.protox_grammar.specs.declared.note.Noted.{Noted}
use Rattle.protox_grammar.specs.declared.note.Noted.TheVariants.{Fault, TextFormat}
use Rattle.protox_grammar.proofs.Lemmas.{AreAbove, Halts, body-laws, map_err, mode_of}
use Rattle.protox_grammar.proofs.Lemmas as messages
use Rattle.protox_declarations.specs.inner.Options.{here}
use Rattle.protox_rows.specs.inner.Outcome.{Fails}
use Rattle.protox_rows.specs.declared.refused.Refused.{Refused}
use Rattle.protox_rows.specs.declared.refused.Refused.TheVariants.{OutOfMemory, At, TooDeep}
use Rattle.protox_syntax.specs.inner.Merge.{Progress, beginning, faults_of_rows, merge_notes, merged_faults, noted_in, read_until, refusal, row_at, rows_to_read, with_noted}
use Rattle.protox_syntax.specs.inner.ParsedTable.{total_of}
use Rattle.protox_syntax.specs.inner.Parts.{IsFlawless}
use Rattle.protox_syntax.specs.inner.Recovery.{AreLast, AreRefusalNotes, at_most, behind_block, fault_note, from_statement, last_rows, next_rows, plain_note}
use Rattle.protox_syntax.specs.inner.Statements.{levels, statement, statement_rule, statement_seen}

abbrev Faults : Type 0
Faults = List ParseErrorKind

-- ---- the faults of some rows

-- no fault counts in any mode where there is none
none-in : (b : Bool) → faults_in b [] ≡ []
none-in true = refl
none-in false = refl

-- If the rows below `c` have no fault, only those from `c` on count.
rows-from : (b : Bool) (fs : List Faults) (c : ℕ) → ((i : ℕ) → i < c → slice_index_or fs i [] ≡ []) → (low n : ℕ) → faults_of_rows b fs low n ≡ faults_of_rows b fs (c + (low - c)) (n - (c - low))
rows-from b fs c none low zero = let e : 0 ≡ 0 - (c - low) = omega arith in ap (faults_of_rows b fs (c + (low - c))) e
rows-from b fs c none low (suc n) =
    elim (cases_lt (low + n) c) [
      | inl lt ↦
          let e : n - (c - low) ≡ suc n - (c - low) = omega (arith, lt) in
          (λ i. rows-from b fs c none low n i ++ (ap (faults_in b) (none (low + n) lt) ∙ none-in b) i)
          ∙ append-nil (faults_of_rows b fs (c + (low - c)) (n - (c - low)))
          ∙ ap (faults_of_rows b fs (c + (low - c))) e
      | inr le ↦
          let e : suc (n - (c - low)) ≡ suc n - (c - low) = omega (arith, le) in
          let here : low + n ≡ (c + (low - c)) + (n - (c - low)) = omega (arith, le) in
          (λ i. rows-from b fs c none low n i ++ faults_in b (slice_index_or fs (here i) []))
          ∙ ap (faults_of_rows b fs (c + (low - c))) e
    ]

-- If the entries are the same with places that are shifted, so are the faults.
rows-shifted : (b : Bool) (fs gs : List Faults) (k : ℕ) → ((i : ℕ) → slice_index_or fs (k + i) [] ≡ slice_index_or gs i []) → (low n : ℕ) → faults_of_rows b fs (k + low) n ≡ faults_of_rows b gs low n
rows-shifted b fs gs k same low zero = refl
rows-shifted b fs gs k same low (suc n) =
    let here : (k + low) + n ≡ k + (low + n) = omega arith in
    (λ i. rows-shifted b fs gs k same low n i ++ faults_in b ((ap (λ j. slice_index_or fs j []) here ∙ same (low + n)) i))

-- ---- notes

-- the last mode that these notes set, if they set one
abbrev pub last_mode : Bool → Notes → Bool
last_mode b [] = b
last_mode b (n ∷ ns) = last_mode (mode_of b n.noted) ns

merge-both : (fs : List Faults) (total : ℕ) (a b : Notes) (p : Progress) → merge_notes fs total (a ++ b) p ≡ merge_notes fs total b (merge_notes fs total a p)
merge-both fs total [] b p = refl
merge-both fs total (x ∷ a) b p = merge-both fs total a b (noted_in fs total x p)

-- ---- the rest of a source

-- The table `p` is that of the rest of a source with the table `t`. Its rows come `k` rows later
-- there. Nothing before them has a fault, and nothing in the first `d` of them.
module _ (t p : Table) (k d : ℕ) (rows : length t.rows ≡ k + length p.rows) (entries : (i : ℕ) → slice_index_or t.faults (k + i) [] ≡ slice_index_or p.faults i [])
    (none : (i : ℕ) → i < k + d → slice_index_or t.faults i [] ≡ []) where
  rest-none : (i : ℕ) → i < d → slice_index_or p.faults i [] ≡ []
  rest-none i lt = sym (entries i) ∙ none (k + i) (omega (arith, lt))

  -- Both lists have come equally far, not counting rows without a fault.
  abbrev IsLike : Progress → Progress → Type 0
  IsLike u v = (u.errors ≡ v.errors) × (u.text_format ≡ v.text_format) × ((k + d) + (u.next - (k + d)) ≡ k + (d + (v.next - d)))

  rows-like : (b : Bool) (left i j : ℕ) → (k + d) + (i - (k + d)) ≡ k + (d + (j - d)) → faults_of_rows b t.faults i (rows_to_read (total_of t) left i) ≡ faults_of_rows b p.faults j (rows_to_read (total_of p) left j)
  rows-like b left i j e =
      let count : rows_to_read (total_of t) left i - ((k + d) - i) ≡ rows_to_read (total_of p) left j - (d - j) = omega (arith, rows, e) in
      rows-from b t.faults (k + d) none i (rows_to_read (total_of t) left i)
      ∙ (λ h. faults_of_rows b t.faults (e h) (count h))
      ∙ rows-shifted b t.faults p.faults k entries (d + (j - d)) (rows_to_read (total_of p) left j - (d - j))
      ∙ sym (rows-from b p.faults d rest-none j (rows_to_read (total_of p) left j))

  read-like : (left : ℕ) (u v : Progress) → IsLike u v → IsLike (read_until t.faults (total_of t) left u) (read_until p.faults (total_of p) left v)
  read-like left u v h =
      let same : faults_of_rows u.text_format t.faults u.next (rows_to_read (total_of t) left u.next) ≡ faults_of_rows v.text_format p.faults v.next (rows_to_read (total_of p) left v.next) =
      ap (λ b. faults_of_rows b t.faults u.next (rows_to_read (total_of t) left u.next)) h.1 ∙ rows-like v.text_format left u.next v.next h.2 in
      ((λ i. h.0 i ++ same i), h.1, omega (arith, rows, h.2))

  note-like : (n : Noted) (u v : Progress) → IsLike u v → IsLike (with_noted n u) (with_noted n v)
  note-like (Fault f) u v h = (ap (λ e. e ++ f ∷ []) h.0, h.1, h.2)
  note-like (TextFormat on) u v h = (h.0, refl, h.2)

  notes-like : (ns : Notes) (u v : Progress) → IsLike u v → IsLike (merge_notes t.faults (total_of t) ns u) (merge_notes p.faults (total_of p) ns v)
  notes-like [] u v h = h
  notes-like (n ∷ ns) u v h =
      let a = read_until t.faults (total_of t) n.left u in
      let b = read_until p.faults (total_of p) n.left v in
      notes-like ns (with_noted n.noted a) (with_noted n.noted b) (note-like n.noted a b (read-like n.left u v h))

  -- ---- what comes before the rest

  -- No fault is in the list, and no row that may have one is read.
  abbrev IsClear : Progress → Type 0
  IsClear u = (u.errors ≡ []) × (u.next ≤ k + d)

  clear-read : (m left : ℕ) (u : Progress) → length t.rows ≡ (k + d) + m → suc m ≤ left → IsClear u → IsClear (read_until t.faults (total_of t) left u)
  clear-read m left u size above h =
      let none_left : rows_to_read (total_of t) left u.next - ((k + d) - u.next) ≡ 0 = omega (arith, size, above) in
      let nothing : faults_of_rows u.text_format t.faults u.next (rows_to_read (total_of t) left u.next) ≡ [] =
      rows-from u.text_format t.faults (k + d) none u.next (rows_to_read (total_of t) left u.next) ∙ ap (faults_of_rows u.text_format t.faults ((k + d) + (u.next - (k + d)))) none_left in
      ((λ i. h.0 i ++ nothing i), omega (arith, size, above, h.1))

  clear-note : (n : Noted) (u : Progress) → IsNoFault n → IsClear u → IsClear (with_noted n u) × ((with_noted n u).text_format ≡ mode_of u.text_format n)
  clear-note (Fault f) u free h = absurd free
  clear-note (TextFormat on) u free h = (h, refl)

  clear-notes : (m : ℕ) (ns : Notes) (u : Progress) → length t.rows ≡ (k + d) + m → IsFaultless ns → AreAbove (suc m) ns → IsClear u
      → IsClear (merge_notes t.faults (total_of t) ns u) × ((merge_notes t.faults (total_of t) ns u).text_format ≡ last_mode u.text_format ns)
  clear-notes m [] u size free above h = (h, refl)
  clear-notes m (n ∷ ns) u size free above h =
      let a = read_until t.faults (total_of t) n.left u in
      let v = clear-note n.noted a free.0 (clear-read m n.left u size above.0 h) in
      let w = clear-notes m ns (with_noted n.noted a) size free.1 above.1 v.0 in
      (w.0, w.1 ∙ ap (λ b. last_mode b ns) v.1)

  -- The faults that are merged are those of the rest, behind notes that are no faults and stand
  -- before the rest.
  pub merged-same : (before notes : Notes) (left m : ℕ) → IsFaultless before → AreAbove (suc m) before → last_mode false before ≡ false → length t.rows ≡ (k + d) + m
      → merged_faults t.faults (total_of t) (before ++ notes) left ≡ merged_faults p.faults (total_of p) notes left
  merged-same before notes left m free above mode size =
      let a = merge_notes t.faults (total_of t) before beginning in
      let v = clear-notes m before beginning size free above (refl, omega arith) in
      let start : IsLike a beginning = (v.0.0, v.1 ∙ mode, omega (arith, v.0.1)) in
      ap (λ q. (read_until t.faults (total_of t) left q).errors) (merge-both t.faults (total_of t) before notes beginning)
      ∙ (read-like left (merge_notes t.faults (total_of t) notes a) (merge_notes p.faults (total_of p) notes beginning) (notes-like notes a beginning start)).0

-- ---- rows counted from the end

drop-past : (n a : ℕ) (front ys : Rows Place) → n ≡ length front + a → drop n (front ++ ys) ≡ drop a ys
drop-past n a [] ys e = let same : n ≡ a = omega (arith, e) in ap (λ m. drop m ys) same
drop-past zero a (x ∷ front) ys e = absurd (omega (arith, e))
drop-past (suc n) a (x ∷ front) ys e = drop-past n a front ys (omega (arith, e))

get-past : (n a : ℕ) (front ys : Rows Place) → n ≡ length front + a → slice_get (bare (front ++ ys)) n ≡ slice_get (bare ys) a
get-past n a [] ys e = let same : n ≡ a = omega (arith, e) in ap (slice_get (bare ys)) same
get-past zero a (x ∷ front) ys e = absurd (omega (arith, e))
get-past (suc n) a (x ∷ front) ys e = get-past n a front ys (omega (arith, e))

most-within : (most n : ℕ) → at_most most n ≤ most
most-within most n =
    elim (cases_lt n most) [
      | inl lt ↦ rw (lt-ltb n most lt) (omega (arith, lt))
      | inr le ↦ rw (le-ltb n most le) (omega arith)
    ]

module _ (t : Table) (rows : Rows Place) (h : AreLast t rows) where
  many : length t.rows ≡ length h.0 + length rows
  many = omega (arith, ap length h.1, length-append h.0 rows, as-many true t.rows t.gaps)

  last-of : (count : ℕ) → count ≤ length rows → last_rows t count ≡ drop (length rows - count) rows
  last-of count le =
      let skipped : length t.rows - count ≡ length h.0 + (length rows - count) = omega (arith, many, le) in
      ap (drop (length t.rows - count)) h.1 ∙ drop-past (length t.rows - count) (length rows - count) h.0 rows skipped

  row-of-last : (left : ℕ) → left ≤ length rows → row_at t.rows left ≡ slice_get (bare rows) (length rows - left)
  row-of-last left le =
      let skipped : length t.rows - left ≡ length h.0 + (length rows - left) = omega (arith, many, le) in
      ap (λ xs. slice_get xs (length t.rows - left)) (sym (bare-placed true t.rows t.gaps) ∙ ap bare h.1) ∙ get-past (length t.rows - left) (length rows - left) h.0 rows skipped

module _ (t p : Table) (rows : Rows Place) (h : AreLast t rows) (g : AreLast p rows) where
  last-same : (count : ℕ) → count ≤ length rows → last_rows t count ≡ last_rows p count
  last-same count le = last-of t rows h count le ∙ sym (last-of p rows g count le)

  -- Reading goes on with the same rows.
  pub next-same : (e : Refused) (most : ℕ) → most ≤ length rows → next_rows t e most ≡ next_rows p e most
  next-same OutOfMemory most le = last-same 0 (omega arith)
  next-same (At left expected) most le = ap from_statement (last-same (at_most most left) (omega (arith, le, most-within most left)))
  next-same (TooDeep left) most le = ap (λ xs. from_statement (behind_block 0 xs)) (last-same (at_most most (left - 1)) (omega (arith, le, most-within most (left - 1))))

  -- The same row has so many rows left.
  pub row-same : (left : ℕ) → left ≤ length rows → row_at t.rows left ≡ row_at p.rows left
  row-same left le = row-of-last t rows h left le ∙ sym (row-of-last p rows g left le)

-- A statement is refused at one of the last `n` rows, or at their end.
abbrev pub RefusedWithin : ℕ → Refused → Type 0
RefusedWithin n OutOfMemory = Unit {0}
RefusedWithin n (At left expected) = left ≤ n
RefusedWithin n (TooDeep left) = Unit {0}

-- The notes of a refusal are the same.
pub refusal-same : (t p : Table) (rows : Rows Place) → AreLast t rows → AreLast p rows → (e : Refused) (notes : Notes) → RefusedWithin (length rows) e → AreRefusalNotes p.rows e notes → AreRefusalNotes t.rows e notes
refusal-same t p rows h g OutOfMemory notes within v = v
refusal-same t p rows h g (At left expected) notes within v = (v.0, v.1, v.2 ∙ ap (λ r. fault_note left (refusal v.0 r) ++ plain_note left) (sym (row-same t p rows h g left within)))
refusal-same t p rows h g (TooDeep left) notes within v = v

statement-err : (xs : Rows Place) (e : Refusal) → statement.code xs ≡ Err e → statement_rule.read xs ≡ Err e
statement-err xs e h = map_err statement_seen (statement_rule.read xs) e (sym (statement.shows.same xs) ∙ h)

halts : (xs : Rows Place) (e : Refusal) → statement_rule.read xs ≡ Err e → Halts statement_rule xs e
halts = (messages.statement-laws here walk.KeepsMbody (bodies.FitsMbody levels) (bodies.unsealed levels).read (bodies.unsealed levels).steps (bodies.unsealed levels).trace (body-laws here levels)).traced.halts

-- A statement is refused at one of its own rows, or at the end of them.
pub fails-within : (e : Refused) (rows : Rows Place) → Fails e (statement.code rows) → RefusedWithin (length rows) e
fails-within OutOfMemory rows fails = tt
fails-within (At left expected) rows fails =
    let v = halts rows (Unexpected left) (statement-err rows (Unexpected left) fails) in
    omega (arith, v.left_is, ap length v.parts, length-append (tokens (statement_rule.trace rows)) v.rest)
fails-within (TooDeep left) rows fails = tt

-- ---- the table behind lexemes without a fault

-- for each row an entry without a fault
abbrev no_faults : Rows Span → List Faults
no_faults [] = []
no_faults (r ∷ rs) = [] ∷ no_faults rs

front-of-none : (fs : List Faults) → in_front [] fs ≡ fs
front-of-none [] = refl
front-of-none (f ∷ fs) = refl

valid-none : (s : Shape) (span : Span) → is_invalid s ≡ false → invalid_faults s span ≡ []
valid-none Invalid span h = absurd cc
valid-none (Ident t) span h = refl
valid-none (Int n) span h = refl
valid-none (Float t) span h = refl
valid-none (Str t) span h = refl
valid-none (Mark b) span h = refl
valid-none (LineComment t) span h = refl
valid-none (BlockComment t) span h = refl
valid-none Newline span h = refl

rows-both : (xs ys : List Lexeme) → rows_of (xs ++ ys) ≡ rows_of xs ++ rows_of ys
rows-both [] ys = refl
rows-both (x ∷ xs) ys =
    elim (cases_Bool (is_gap x.shape)) [
      | inl gap ↦ rw gap (rows-both xs ys)
      | inr row ↦ rw row (ap (λ rs. record { shape = x.shape; at = span_from x.start x.stop } ∷ rs) (rows-both xs ys))
    ]

faults-behind : (xs ys : List Lexeme) → Each IsFlawless xs → faults_of (xs ++ ys) ≡ no_faults (rows_of xs) ++ faults_of ys
faults-behind [] ys h = refl
faults-behind (x ∷ xs) ys h =
    elim (cases_Bool (is_gap x.shape)) [
      | inl gap ↦ rw gap (ap (λ fs. in_front fs (faults_of (xs ++ ys))) h.0.1 ∙ front-of-none (faults_of (xs ++ ys)) ∙ faults-behind xs ys h.1)
      | inr row ↦ rw row (λ i. (h.0.1 i ++ valid-none x.shape (span_from x.start x.stop) h.0.0 i) ∷ faults-behind xs ys h.1 i)
    ]

entry-past : (rs : Rows Span) (fs : List Faults) (n i : ℕ) → n ≡ length rs + i → slice_index_or (no_faults rs ++ fs) n [] ≡ slice_index_or fs i []
entry-past [] fs n i e = let same : n ≡ i = omega (arith, e) in ap (λ j. slice_index_or fs j []) same
entry-past (r ∷ rs) fs zero i e = absurd (omega (arith, e))
entry-past (r ∷ rs) fs (suc n) i e = entry-past rs fs n i (omega (arith, e))

entry-within : (rs : Rows Span) (fs : List Faults) (i : ℕ) → i < length rs → slice_index_or (no_faults rs ++ fs) i [] ≡ []
entry-within [] fs i lt = absurd (omega (arith, lt))
entry-within (r ∷ rs) fs zero lt = refl
entry-within (r ∷ rs) fs (suc i) lt = entry-within rs fs i (omega (arith, lt))

-- The rows of the lexemes in front come before those behind.
pub rows-shift : (xs ys : List Lexeme) → length (table_of (xs ++ ys)).rows ≡ length (rows_of xs) + length (table_of ys).rows
rows-shift xs ys = ap length (rows-both xs ys) ∙ length-append (rows_of xs) (rows_of ys)

-- An entry behind them stays as it is. Comments and newlines at their end add nothing to it.
pub entries-shift : (xs ys : List Lexeme) → Each IsFlawless xs → (i : ℕ) → slice_index_or (table_of (xs ++ ys)).faults (length (rows_of xs) + i) [] ≡ slice_index_or (table_of ys).faults i []
entries-shift xs ys h i = ap (λ fs. slice_index_or fs (length (rows_of xs) + i) []) (faults-behind xs ys h) ∙ entry-past (rows_of xs) (faults_of ys) (length (rows_of xs) + i) i refl

-- The entries of the lexemes in front are empty.
pub entries-none : (xs ys : List Lexeme) → Each IsFlawless xs → (i : ℕ) → i < length (rows_of xs) → slice_index_or (table_of (xs ++ ys)).faults i [] ≡ []
entries-none xs ys h i lt = ap (λ fs. slice_index_or fs i []) (faults-behind xs ys h) ∙ entry-within (rows_of xs) (faults_of ys) i lt
