-- The first fault of a source's list, and what is known of the rows before it. It is one of four:
-- the fault of the first row with a fault in its mode, the first noted fault, the fault of a token
-- that doesn't fit, or the end of the tokens where more was expected.
use Rattle.std.proofs.Common.{◌≡◌, ◌≤◌, ◌<◌, ◌+◌, ◌-◌, inl, inr, ◌⊎◌, ℕ, zero, suc, Bool, true, false, cond, List, [], ◌∷◌, ◌++◌, length, Option, Some, None, Ok, Err, refl, sym, ap, subst, ◌∙◌, append-nil, append_assoc, arith}
use Rattle.std.specs.Prelude.{slice_index_or, slice_get, option_to_list}
use Rattle.std.proofs.lemmas.List.{length-append}
use Rattle.protox_fault.specs.Faults.{Span, faults_in}
use Rattle.protox_fault.specs.declared.error.ParseErrorKind.{ParseErrorKind}
use Rattle.protox_fault.specs.declared.error.ParseErrorKind.TheVariants.{UnexpectedToken, UnexpectedEof}
use Rattle.protox_lexeme.specs.Lexemes.{Lexeme}
use Rattle.protox_lexeme.specs.Printed.{printed}
use Rattle.protox_lexeme.specs.Shapes.{Row, Rows}
use Rattle.protox_lexeme.specs.Table.{faults_of, rows_of, table_of}
use Rattle.protox_ast.proofs.Lemmas.{as-many}
use Rattle.protox_ast.specs.Places.{Place}
use Rattle.protox_grammar.specs.TagLaws.{placed_steps_by, placed_tokens}
use Rattle.protox_grammar.specs.Noted.{trace}
use Rattle.protox_grammar.specs.Reader.{Unexpected}
use Rattle.protox_grammar.specs.Steps.{Steps, tokens, until}
use Rattle.protox_grammar.specs.Told.{Notes, first_behind, is_invalid, keyword_behind, past, told, then_notes, IsFaultless}
use Rattle.protox_grammar.specs.declared.note.Noted.TheVariants.{Fault, TextFormat}
use Rattle.protox_grammar.proofs.Lemmas.{AreAbove, FirstOf, IsCheckedFirst, bind_ok, checked-first}
use Rattle.protox_grammar.proofs.Lemmas.{faultless-first, is_open_behind, mode-of-all, mode-of-front}
use Rattle.protox_grammar.proofs.Lemmas.{mode_at, ok_is, past-taken, row-valid, taken-rows}
use Rattle.protox_grammar.proofs.Lemmas.{told-append, told-in-order, until-front}
use Rattle.protox_grammar.proofs.Lemmas as main
use Rattle.protox_declarations.specs.inner.Options.{here}
use Rattle.protox_rows.specs.Expected.{words_of}
use Rattle.protox_rows.specs.inner.Outcome.{Fails}
use Rattle.protox_rows.specs.inner.Words.{SaysOf}
use Rattle.protox_rows.specs.declared.refused.Refused.{Refused}
use Rattle.protox_rows.specs.declared.refused.Refused.TheVariants.{OutOfMemory, At, TooDeep}
use Rattle.protox_syntax.specs.inner.ParsedTable.{AreMergedFaults, unknown_syntax, unexpected_row, refused_statement, all_read, rows_left_at_first_note}
use Rattle.protox_syntax.specs.inner.Recovery as r
use Rattle.protox_syntax.specs.inner.Recovery.{AreRefusalNotes, IsSaid}
use Rattle.protox_syntax.specs.inner.Words as said
use Rattle.protox_syntax.specs.inner.Statements.{levels, notes_behind, syntax_if_any}
use Rattle.protox_syntax.specs.inner.Merge.{refusal, row_at, merged_faults}
use Rattle.protox_syntax.specs.inner.Whole.{Whole, all_notes, file_seen, whole}
use Rattle.protox_syntax.proofs.ParsedTable.{front-faultless, is-invalid}
use Rattle.protox_syntax.proofs.Modes.{faults-none}
use Rattle.protox_syntax.proofs.Modes as modes
use Rattle.protox_syntax.proofs.Reading.{deep-noted, err-read, file-told, whole-shows}
use Rattle.protox_syntax.proofs.SyntaxNotes.{syntax-faults}
use Rattle.protox_syntax.proofs.Merging.{Fall}
use Rattle.protox_syntax.proofs.MergeFirst.{AreClearBelow, HasFirst, IsFirstRow, first-row-as, first-row-on, first-row-to, front-first, has-first-on, has-first-as}
use Rattle.protox_syntax.proofs.MergeParts.{DownTo, Grows, note_at, seen_faults, merged_faults-behind, merged_faults-note}

abbrev Faults : Type 0
Faults = List ParseErrorKind

-- ---- what the first fault is

-- the rows of a source with their places
abbrev pub rows : List Lexeme → Rows Place
rows = placed_tokens

-- how many of them are taken
abbrev pub taken : List Lexeme → ℕ
taken lexemes = length (tokens (trace levels (rows lexemes)))

-- the rows, and the end
abbrev pub total : List Lexeme → ℕ
total lexemes = length (rows_of lexemes) + 1

-- the faults of a row and its gap, inside an aggregate or outside
abbrev pub in_mode : List Lexeme → ℕ → Faults
in_mode lexemes k = faults_in (is_open_behind lexemes k) (slice_index_or (faults_of lexemes) k [])

-- no fault is noted while these rows are read
abbrev pub IsFineTo : List Lexeme → ℕ → Type 0
IsFineTo lexemes n = IsFaultless (told None here (placed_steps_by lexemes n) (rows lexemes))

-- the fault is one of a row
pub record IsOfRow (lexemes : List Lexeme) (errors : Faults) : Type 0 where
  pub bound : ℕ
  pub within : bound ≤ taken lexemes
  pub first : IsFirstRow (in_mode lexemes) (suc bound) errors
  pub fine : (j : ℕ) → j < bound → IsFineTo lexemes j

-- the fault is noted at a node
pub record IsOfNode (lexemes : List Lexeme) (errors : Faults) : Type 0 where
  pub number : ℕ
  pub left : ℕ
  pub fault : ParseErrorKind
  pub checked : IsCheckedFirst lexemes here number left fault
  pub begins : HasFirst fault errors
  pub before : AreClearBelow (in_mode lexemes) number

-- a token doesn't fit
pub record IsOfToken (lexemes : List Lexeme) (errors : Faults) : Type 0 where
  pub left : ℕ
  pub read : whole (rows lexemes) ≡ Err (Unexpected left)
  pub row : Row Span
  pub there : slice_get (rows_of lexemes) (taken lexemes) ≡ Some row
  pub text : List ℕ
  pub is_said : IsSaid (said.whole (rows lexemes)) text
  pub begins : HasFirst (UnexpectedToken row.at text (printed row.shape)) errors
  pub before : AreClearBelow (in_mode lexemes) (suc (taken lexemes))
  pub fine : (j : ℕ) → IsFineTo lexemes j

-- the tokens end too soon
pub record IsOfEnd (lexemes : List Lexeme) (errors : Faults) : Type 0 where
  pub read : whole (rows lexemes) ≡ Err (Unexpected 0)
  pub text : List ℕ
  pub is_said : IsSaid (said.whole (rows lexemes)) text
  pub begins : HasFirst (UnexpectedEof text) errors
  pub before : AreClearBelow (in_mode lexemes) (total lexemes)
  pub fine : (j : ℕ) → IsFineTo lexemes j

pub data FirstOfList (lexemes : List Lexeme) (errors : Faults) : Type 0 where
  of_row : IsOfRow lexemes errors → FirstOfList lexemes errors
  of_node : IsOfNode lexemes errors → FirstOfList lexemes errors
  of_token : IsOfToken lexemes errors → FirstOfList lexemes errors
  of_end : IsOfEnd lexemes errors → FirstOfList lexemes errors

-- ---- notes that fall

above-down : (b l : ℕ) (ns : Notes) → l ≤ b → AreAbove b ns → DownTo l ns
above-down b l [] h a = tt
above-down b l (n ∷ ns) h a = (omega (arith, h, a.0), above-down b l ns h a.1)

clear-fewer : (g : ℕ → Faults) (m n : ℕ) → m ≤ n → AreClearBelow g n → AreClearBelow g m
clear-fewer g m n h c j l = c j (omega (arith, h, l))

clear-as : (g h : ℕ → Faults) (n : ℕ) → ((k : ℕ) → k < n → h k ≡ g k) → AreClearBelow g n → AreClearBelow h n
clear-as g h n same c j l = same j l ∙ c j l

-- among fewer rows
first-row-in : (g : ℕ → Faults) (m n : ℕ) (all : Faults) → m ≤ n → IsFirstRow g m all → IsFirstRow g n all
first-row-in g m n all h x = record { row = x.row; fault = x.fault; within = omega (arith, h, x.within); begins = x.begins; here = x.here; before = x.before }

none-there : (xs : Rows Span) (k : ℕ) → slice_get xs k ≡ None → length xs ≤ k
none-there [] k e = omega arith
none-there (x ∷ xs) zero e = absurd cc
none-there (x ∷ xs) (suc k) e = omega (arith, none-there xs k e)

module _ (lexemes : List Lexeme) where
  abbrev l : Steps Place
  l = trace levels (rows lexemes)

  abbrev entries : List Faults
  entries = faults_of lexemes

  abbrev notes : Notes
  notes = all_notes (rows lexemes)

  abbrev found : Notes → ℕ → Faults
  found ns left = merged_faults entries (total lexemes) ns left

  many : length (rows lexemes) ≡ length (rows_of lexemes)
  many = as-many true (rows_of lexemes) (table_of lexemes).gaps

  -- ---- how many rows are taken

  pub stops-at : (left : ℕ) → whole (rows lexemes) ≡ Err (Unexpected left) → taken lexemes + left ≡ length (rows lexemes)
  stops-at left e =
      let v = (main.laws here levels).traced.halts (rows lexemes) (Unexpected left) (err-read (rows lexemes) (Unexpected left) e) in
      omega (arith, v.left_is, ap length v.parts, length-append (tokens l) v.rest)

  ends-at : (x : Whole) → whole (rows lexemes) ≡ Ok (x, []) → taken lexemes ≡ length (rows lexemes)
  ends-at x e =
      let laws = main.laws here levels in
      let p = bind_ok ((main.file_at here levels).read (rows lexemes)) (λ y. Ok (file_seen y.0, y.1)) (x, []) (sym (whole-shows.same (rows lexemes)) ∙ e) in
      let none : p.0.1 ≡ [] = ap (λ (w : Whole × Rows Place). w.1) (ok_is (file_seen p.0.0, p.0.1) (x, []) p.2) in
      let took = laws.read.takes (rows lexemes) p.0 p.1 in
      omega (arith, ap length took.parts, length-append ((main.file_at here levels).spell p.0.0) p.0.1, ap length none, ap (λ u. length (tokens u)) (laws.traced.ok (rows lexemes) p.0 p.1), ap length (laws.traced.rows p.0.0))

  pub taken-within : taken lexemes ≤ length (rows lexemes)
  taken-within = let q = taken-rows (rows lexemes) in omega (arith, ap length q.1, length-append (tokens l) q.0)

  past-many : length (past l (rows lexemes)) + taken lexemes ≡ length (rows lexemes)
  past-many =
      let q = taken-rows (rows lexemes) in
      omega (arith, ap length (ap (past l) q.1 ∙ past-taken l q.0), ap length q.1, length-append (tokens l) q.0)

  -- the list merged with these notes begins with the list up to the refused row
  behind-up-to : (left : ℕ) (o : Option ParseErrorKind) (later : Notes) → Grows (found notes left ++ option_to_list o) (found (notes ++ ((r.fault_note left o ++ r.plain_note left) ++ later)) 0)
  behind-up-to left None later =
      let front = merged_faults-behind entries (total lexemes) notes (note_at left (TextFormat false)) later left 0 (omega arith) in
      (front.0, front.1 ∙ ap (λ v. v ++ front.0) (sym (append-nil (found notes left))))
  behind-up-to left (Some f) later =
      let front = merged_faults-note entries (total lexemes) notes (r.plain_note left ++ later) f left 0 in
      (front.0, front.1 ∙ sym (append_assoc (found notes left) (f ∷ []) front.0))

  -- ---- no fault is noted

  module _ (fine-told : IsFaultless (told None here l (rows lexemes))) where
    abbrev order : Fall (suc (length (rows lexemes))) (told None here l (rows lexemes)) × AreAbove (suc (length (past l (rows lexemes)))) (told None here l (rows lexemes))
    order = told-in-order None here l (rows lexemes) fine-told

    fine : IsFaultless notes
    fine = subst IsFaultless (file-told (rows lexemes)) fine-told

    fine-to : (j : ℕ) → IsFineTo lexemes j
    fine-to j =
        let m = until-front j l in
        faultless-first (told None here (until j l) (rows lexemes)) (told (first_behind None (until j l)) (keyword_behind here (until j l)) m.0 (past (until j l) (rows lexemes)))
        (subst IsFaultless (ap (λ u. told None here u (rows lexemes)) m.1 ∙ told-append None here (until j l) m.0 (rows lexemes)) fine-told)

    same-mode : (k : ℕ) → k < total lexemes → in_mode lexemes k ≡ seen_faults entries (total lexemes) notes k
    same-mode k h =
        let count : length (rows lexemes) ≡ k + (total lexemes - suc k) = omega (arith, h, many) in
        ap (λ v. faults_in v (slice_index_or entries k [])) (sym (ap (mode_at false (total lexemes - suc k)) (sym (file-told (rows lexemes))) ∙ mode-of-all lexemes here k (total lexemes - suc k) count))

    -- Either neither the rows taken nor the one behind them have a fault, or the list begins with the
    -- fault of the first of these rows that has one.
    rows-first : (left : ℕ) (errors more : Faults) → taken lexemes + left ≡ length (rows lexemes) → errors ≡ found notes left ++ more
        → ((found notes left ≡ []) × AreClearBelow (in_mode lexemes) (suc (taken lexemes))) ⊎ IsOfRow lexemes errors
    rows-first left errors more count e =
        let seen : ℕ → Faults = seen_faults entries (total lexemes) notes in
        let n : ℕ = total lexemes - left in
        let same : n ≡ suc (taken lexemes) = omega (arith, count, many) in
        let modes : (k : ℕ) → k < n → in_mode lexemes k ≡ seen k = λ k g. same-mode k (omega (arith, g)) in
        let falls : Fall (suc (length (rows lexemes))) notes = subst (Fall (suc (length (rows lexemes)))) (file-told (rows lexemes)) order.0 in
        let above : AreAbove (suc (length (past l (rows lexemes)))) notes = subst (AreAbove (suc (length (past l (rows lexemes))))) (file-told (rows lexemes)) order.1 in
        let down : DownTo left notes = above-down (suc (length (past l (rows lexemes)))) left notes (omega (arith, count, past-many)) above in
        elim (first-row-to entries (total lexemes) notes (suc (length (rows lexemes))) left fine falls down) [
          | inl h ↦ inl (h.0, clear-fewer (in_mode lexemes) (suc (taken lexemes)) n (omega (arith, same)) (clear-as seen (in_mode lexemes) n modes h.1))
          | inr x ↦ inr (record {
            bound = taken lexemes;
            within = omega arith;
            first = first-row-in (in_mode lexemes) n (suc (taken lexemes)) errors (omega (arith, same)) (first-row-as seen (in_mode lexemes) n errors modes (first-row-on seen n (found notes left) more errors e x));
            fine = λ j h. fine-to j;
          })
        ]

    all_read-first : (x : Whole) (errors : Faults) → (errors ≡ [] → ⊥) → whole (rows lexemes) ≡ Ok (x, []) → errors ≡ found notes 0 → FirstOfList lexemes errors
    all_read-first x errors some e w = elim (rows-first 0 errors [] (omega (arith, ends-at x e)) (w ∙ sym (append-nil (found notes 0)))) [
      | inl h ↦ absurd (some (w ∙ h.0))
      | inr y ↦ of_row y
    ]

    -- the row behind those that are taken, which doesn't fit
    refused-first : (left : ℕ) (text : List ℕ) (errors more : Faults) → IsSaid (said.whole (rows lexemes)) text → whole (rows lexemes) ≡ Err (Unexpected left) → AreClearBelow (in_mode lexemes) (suc (taken lexemes))
        → (o : Option (Row Span)) → row_at (rows_of lexemes) left ≡ o → errors ≡ option_to_list (refusal text o) ++ more → FirstOfList lexemes errors
    refused-first left text errors more plain e clear None there w =
        let none : left ≡ 0 = omega (arith, none-there (rows_of lexemes) (length (rows_of lexemes) - left) there, stops-at left e, many) in
        of_end (record {
          read = e ∙ ap (λ n. Err (Unexpected n)) none;
          text = text;
          is_said = plain;
          begins = (more, w);
          before = clear-fewer (in_mode lexemes) (total lexemes) (suc (taken lexemes)) (omega (arith, none, stops-at left e, many)) clear;
          fine = fine-to;
        })
    refused-first left text errors more plain e clear (Some x) there w = by (is_invalid x.shape) refl w
      where
        at : slice_get (rows_of lexemes) (taken lexemes) ≡ Some x
        at = let place : taken lexemes ≡ length (rows_of lexemes) - left = omega (arith, stops-at left e, many) in ap (slice_get (rows_of lexemes)) place ∙ there

        by : (b : Bool) → is_invalid x.shape ≡ b → errors ≡ option_to_list (cond b None (Some (UnexpectedToken x.at text (printed x.shape)))) ++ more → FirstOfList lexemes errors
        by true v w = absurd (row-valid (is_open_behind lexemes (taken lexemes)) lexemes (taken lexemes) x at (clear (taken lexemes) (omega arith)) (is-invalid x.shape v))
        by false v w = of_token (record { left = left; read = e; row = x; there = at; text = text; is_said = plain; begins = (more, w); before = clear; fine = fine-to })

    unexpected_row-first : (left : ℕ) (text : List ℕ) (errors more : Faults) → IsSaid (said.whole (rows lexemes)) text → whole (rows lexemes) ≡ Err (Unexpected left)
        → errors ≡ (found notes left ++ option_to_list (refusal text (row_at (rows_of lexemes) left))) ++ more → FirstOfList lexemes errors
    unexpected_row-first left text errors more plain e w =
        let own : Faults = option_to_list (refusal text (row_at (rows_of lexemes) left)) in
        elim (rows-first left errors (own ++ more) (stops-at left e) (w ∙ append_assoc (found notes left) own more)) [
          | inl h ↦ refused-first left text errors more plain e h.1 (row_at (rows_of lexemes) left) refl (w ∙ ap (λ v. (v ++ own) ++ more) h.0)
          | inr y ↦ of_row y
        ]

    refused_statement-first : (e : Refused) (at_refusal later : Notes) (errors : Faults) → Fails e (whole (rows lexemes)) → SaysOf e (said.whole (rows lexemes)) → AreRefusalNotes (rows_of lexemes) e at_refusal → errors ≡ found (notes ++ (at_refusal ++ later)) 0 → FirstOfList lexemes errors
    refused_statement-first OutOfMemory at_refusal later errors fails says h w = absurd h
    refused_statement-first (At left expected) at_refusal later errors fails says h w =
        let front = behind-up-to left (refusal h.0 (row_at (rows_of lexemes) left)) later in
        unexpected_row-first left h.0 errors front.0 (h.1.0, h.1.1 ∙ ap words_of says) fails (w ∙ ap (λ u. found (notes ++ (u ++ later)) 0) h.2 ∙ front.1)
    refused_statement-first (TooDeep left) at_refusal later errors fails says h w = absurd (deep-noted (rows lexemes) left fails fine)

    fine-first : (errors : Faults) → (errors ≡ [] → ⊥) → AreMergedFaults (table_of lexemes) errors → FirstOfList lexemes errors
    fine-first errors some (unknown_syntax node w) = absurd (node (faults-none (syntax_if_any.notes (rows lexemes)) (syntax-faults (rows lexemes)) (front-faultless (rows lexemes) fine)))
    fine-first errors some (unexpected_row left text plain e w) = unexpected_row-first left text errors [] plain e (w ∙ sym (append-nil (found notes left ++ option_to_list (refusal text (row_at (rows_of lexemes) left)))))
    fine-first errors some (refused_statement e at_refusal later fails says h notable w) = refused_statement-first e at_refusal later errors fails says h w
    fine-first errors some (all_read x e w) = all_read-first x errors some e w

  -- ---- a fault is noted

  module _ (v : FirstOf lexemes here) (c : IsCheckedFirst lexemes here (length (tokens v.before)) v.left v.fault) where
    abbrev number : ℕ
    number = length (tokens v.before)

    abbrev front_notes : Notes
    front_notes = told None here v.before (rows lexemes)

    parts : notes ≡ front_notes ++ note_at v.left (Fault v.fault) ∷ v.more
    parts = sym (file-told (rows lexemes)) ∙ v.told_is

    counted : (number ≤ total lexemes - v.left) × (total lexemes - v.left ≤ suc number)
    counted = elim c.counted [
      | inl e ↦ (omega (arith, e, many), omega (arith, e, many))
      | inr e ↦ (omega (arith, e, many), omega (arith, e, many))
    ]

    down : DownTo v.left front_notes
    down =
        let least : v.left ≤ suc (length (past v.before (rows lexemes))) = elim v.left_is [
          | inl e ↦ omega (arith, e)
          | inr e ↦ omega (arith, e)
        ] in
        above-down (suc (length (past v.before (rows lexemes)))) v.left front_notes least (told-in-order None here v.before (rows lexemes) v.faultless).1

    modes-in-front : (k : ℕ) → k < total lexemes - v.left → in_mode lexemes k ≡ seen_faults entries (total lexemes) front_notes k
    modes-in-front k h =
        let count : length (rows lexemes) ≡ k + (total lexemes - suc k) = omega (arith, h, many) in
        ap (λ b. faults_in b (slice_index_or entries k [])) (sym (mode-of-front lexemes here v k (total lexemes - suc k) count (omega (arith, h, counted.1))))

    node-first : (b : Notes) (left : ℕ) (errors more : Faults) → errors ≡ found (front_notes ++ note_at v.left (Fault v.fault) ∷ b) left ++ more → FirstOfList lexemes errors
    node-first b left errors more e =
        let seen : ℕ → Faults = seen_faults entries (total lexemes) front_notes in
        let n : ℕ = total lexemes - v.left in
        let all : Faults = found (front_notes ++ note_at v.left (Fault v.fault) ∷ b) left in
        elim (front-first entries (total lexemes) front_notes b v.fault (suc (length (rows lexemes))) v.left left v.faultless (told-in-order None here v.before (rows lexemes) v.faultless).0 down) [
          | inl x ↦ of_row (record {
            bound = number;
            within = c.within;
            first = first-row-in (in_mode lexemes) n (suc number) errors counted.1 (first-row-as seen (in_mode lexemes) n errors modes-in-front (first-row-on seen n all more errors e x));
            fine = c.none_before;
          })
          | inr h ↦ of_node (record {
            number = number;
            left = v.left;
            fault = v.fault;
            checked = c;
            begins = has-first-as v.fault (all ++ more) errors e (has-first-on v.fault all more h.0);
            before = clear-fewer (in_mode lexemes) number n counted.0 (clear-as seen (in_mode lexemes) n modes-in-front h.1);
          })
        ]

    -- if the syntax statement has notes, they begin with the first fault
    head-first : (s x a m : Notes) → (s ≡ [] → ⊥) → modes.AreFaults s → IsFaultless a → s ++ x ≡ a ++ note_at v.left (Fault v.fault) ∷ m → (ns : Notes) × (s ≡ note_at v.left (Fault v.fault) ∷ ns) × (a ≡ [])
    head-first [] x a m some faults fine e = absurd (some refl)
    head-first (n ∷ s) x [] m some faults fine e = let same : n ≡ note_at v.left (Fault v.fault) = cc in (s, ap (λ u. u ∷ s) same, refl)
    head-first (n ∷ s) x (y ∷ a) m some faults fine e =
        let same : y ≡ n = cc in
        absurd (let none = faults-none (n ∷ []) (faults.0, tt) (subst (λ u. IsFaultless (u ∷ [])) same (fine.0, tt)) in cc)

    unknown_syntax-first-at : (errors : Faults) → (syntax_if_any.notes (rows lexemes) ≡ [] → ⊥) → errors ≡ found (syntax_if_any.notes (rows lexemes)) (rows_left_at_first_note (syntax_if_any.notes (rows lexemes))) → FirstOfList lexemes errors
    unfolding all_notes
    unknown_syntax-first-at errors some w =
        let h = head-first (syntax_if_any.notes (rows lexemes)) (then_notes (notes_behind None) (syntax_if_any.code (rows lexemes))) front_notes v.more some (syntax-faults (rows lexemes)) v.faultless parts in
        let whole : syntax_if_any.notes (rows lexemes) ≡ front_notes ++ note_at v.left (Fault v.fault) ∷ h.0 = h.1 ∙ ap (λ u. u ++ note_at v.left (Fault v.fault) ∷ h.0) (sym h.2) in
        node-first h.0 v.left errors [] (w ∙ (λ i. found (whole i) (rows_left_at_first_note (h.1 i))) ∙ sym (append-nil (found (front_notes ++ note_at v.left (Fault v.fault) ∷ h.0) v.left)))

    noted-first : (errors : Faults) → AreMergedFaults (table_of lexemes) errors → FirstOfList lexemes errors
    noted-first errors (unknown_syntax some w) = unknown_syntax-first-at errors some w
    noted-first errors (unexpected_row left text plain e w) = node-first v.more left errors (option_to_list (refusal text (row_at (rows_of lexemes) left))) (w ∙ ap (λ u. found u left ++ option_to_list (refusal text (row_at (rows_of lexemes) left))) parts)
    noted-first errors (refused_statement e at_refusal later fails says h notable w) =
        let all : notes ++ (at_refusal ++ later) ≡ front_notes ++ note_at v.left (Fault v.fault) ∷ (v.more ++ (at_refusal ++ later)) = ap (λ u. u ++ (at_refusal ++ later)) parts ∙ append_assoc front_notes (note_at v.left (Fault v.fault) ∷ v.more) (at_refusal ++ later) in
        node-first (v.more ++ (at_refusal ++ later)) 0 errors [] (w ∙ ap (λ u. found u 0) all ∙ sym (append-nil (found (front_notes ++ note_at v.left (Fault v.fault) ∷ (v.more ++ (at_refusal ++ later))) 0)))
    noted-first errors (all_read x e w) = node-first v.more 0 errors [] (w ∙ ap (λ u. found u 0) parts ∙ sym (append-nil (found (front_notes ++ note_at v.left (Fault v.fault) ∷ v.more) 0)))

  -- The first fault of the list.
  pub first-of-list : (errors : Faults) → (errors ≡ [] → ⊥) → AreMergedFaults (table_of lexemes) errors → FirstOfList lexemes errors
  first-of-list errors some w = elim (checked-first lexemes here) [
    | inl fine ↦ fine-first fine errors some w
    | inr v ↦ noted-first v.0 v.1 errors w
  ]
