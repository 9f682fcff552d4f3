-- The list of a source begins with the first fault of the source.
use Rattle.std.proofs.Common.{◌≡◌, ◌≤◌, ◌<◌, inl, inr, ◌⊎◌, ℕ, zero, suc, Bool, true, false, not, cond, codes, List, [], ◌∷◌, ◌++◌, length, Some, Ok, Err, refl, sym, ap, subst, ◌∙◌, arith}
use Rattle.std.specs.Prelude.{slice_get, filter}
use Rattle.protox_fault.specs.Faults.{Span, faults_in, is_of_mode, span_from}
use Rattle.protox_fault.specs.declared.error.ParseErrorKind.{ParseErrorKind}
use Rattle.protox_fault.specs.declared.error.ParseErrorKind.TheVariants as fault
use Rattle.protox_lexeme.proofs.Lemmas.{IsRowKind}
use Rattle.protox_lexeme.specs.Lexemes.{Lexeme}
use Rattle.protox_lexeme.specs.Printed.{printed}
use Rattle.protox_lexeme.specs.Shapes.{Shape, Ident, Int, Float, Str, Mark, LineComment, BlockComment, Newline, Invalid, Row, Rows}
use Rattle.protox_lexeme.specs.Table.{is_gap, row_faults, rows_of, table_of}
use Rattle.protox_ast.proofs.Lemmas.{as-many, bare-placed}
use Rattle.protox_ast.specs.Basics.{Each, first_of}
use Rattle.protox_ast.specs.CheckedNodes.{CheckedNode, ASyntax, AnImport, AReservedName, AGroupName, APackageAgain, ATooDeep, checked_nodes}
use Rattle.protox_ast.specs.Checks.{WrongCheckedNode}
use Rattle.protox_ast.specs.FirstFault.{IsFirstFault, IsFirstOfLexemes, IsFirstOfNodes, NoneIsWrongBefore}
use Rattle.protox_ast.specs.Fronts.{Inside}
use Rattle.protox_ast.specs.Keywords.{is_significant}
use Rattle.protox_ast.specs.Places.{Place}
use Rattle.protox_ast.specs.Spells.{BeginsFile, IsEnded, IsUnexpected, shapes}
use Rattle.protox_ast.specs.Truth.{IsWrongBefore, IsWrongBehind, is_terminator, token_span}
use Rattle.protox_grammar.specs.Reader.{Refusal, Unexpected, ◌>>=◌}
use Rattle.protox_grammar.specs.Reads.{read}
use Rattle.protox_grammar.specs.Told.{is_invalid}
use Rattle.protox_grammar.proofs.Lemmas.{AreClearTo, AreToldTo, Holds, IsFirstLexeme, any-holds}
use Rattle.protox_grammar.proofs.Lemmas.{begins-at, clean-all, clean-through, first-lexeme, holds-one}
use Rattle.protox_grammar.proofs.Lemmas.{is_open_behind, mode-inside-all, placed-shapes, row-there}
use Rattle.protox_grammar.proofs.Lemmas.{row-valid}
use Rattle.protox_grammar.proofs.Lemmas as grammar
use Rattle.protox_declarations.specs.inner.Options.{here}
use Rattle.protox_syntax.specs.inner.ParsedTable.{AreMergedFaults}
use Rattle.protox_syntax.specs.inner.Statements.{levels}
use Rattle.protox_syntax.specs.inner.Whole.{whole}
use Rattle.protox_syntax.proofs.FirstOfMerged.{FirstOfList, IsOfRow, IsOfNode, IsOfToken, IsOfEnd, IsFineTo, first-of-list, in_mode, of_row, of_node, of_token, of_end, rows, taken, stops-at, taken-within}
use Rattle.protox_syntax.proofs.ParsedTable.{bare-get}
use Rattle.protox_syntax.proofs.Modes.{not-invalid}
use Rattle.protox_syntax.proofs.Reading.{err-read}
use Rattle.protox_syntax.proofs.MergeFirst.{AreClearBelow, HasFirst}

abbrev Faults : Type 0
Faults = List ParseErrorKind

-- ---- one of many

pub each-here : {A : Type 0} (P : A → Type 0) (before : List A) (x : A) (behind : List A) → Each P (before ++ (x ∷ behind)) → P x
each-here P [] x behind h = h.0
each-here P (y ∷ before) x behind h = each-here P before x behind h.1

-- ---- a lexeme's faults

-- what is a fault inside an aggregate isn't one of text format
kept-plain : (fs : Faults) (f : ParseErrorKind) (rest : Faults) → faults_in true fs ≡ f ∷ rest → is_of_mode f ≡ false
kept-plain [] f rest e = absurd cc
kept-plain (g ∷ fs) f rest e = by (is_of_mode g) refl e (kept-plain fs f rest)
  where
    by : (b : Bool) → is_of_mode g ≡ b → cond (not b) (g ∷ filter (λ x. not (is_of_mode x)) fs) (filter (λ x. not (is_of_mode x)) fs) ≡ f ∷ rest → (faults_in true fs ≡ f ∷ rest → is_of_mode f ≡ false) → is_of_mode f ≡ false
    by true v q more = more q
    by false v q more = let same : g ≡ f = cc in subst (λ u. is_of_mode u ≡ false) same v

pub is-terminator : (text : List ℕ) → (text ≡ codes "string terminator") ⊎ (text ≡ codes "comment terminator") → is_terminator text ≡ true
is-terminator text (inl e) = ap is_terminator e
is-terminator text (inr e) = ap is_terminator e

-- ---- rows are no gaps

row-significant : (xs : List Lexeme) (n : ℕ) (r : Row Span) → slice_get (rows_of xs) n ≡ Some r → is_gap r.shape ≡ false
row-significant [] n r e = absurd cc
row-significant (x ∷ xs) n r e = by (is_gap x.shape) refl n e (λ k. row-significant xs k r)
  where
    by : (b : Bool) → is_gap x.shape ≡ b → (n : ℕ) → slice_get (cond b (rows_of xs) (record { shape = x.shape; at = span_from x.start x.stop } ∷ rows_of xs)) n ≡ Some r
        → ((k : ℕ) → slice_get (rows_of xs) k ≡ Some r → is_gap r.shape ≡ false) → is_gap r.shape ≡ false
    by true v n e more = more n e
    by false v zero e more = let same : record { shape = x.shape; at = span_from x.start x.stop } ≡ r = cc in ap (λ (u : Row Span). is_gap u.shape) (sym same) ∙ v
    by false v (suc n) e more = more n e

significant : (s : Shape) → is_gap s ≡ false → is_invalid s ≡ false → is_significant s ≡ true
significant (Ident t) g i = refl
significant (Int n) g i = refl
significant (Float t) g i = refl
significant (Str t) g i = refl
significant (Mark b) g i = refl
significant (LineComment t) g i = absurd cc
significant (BlockComment t) g i = absurd cc
significant Newline g i = absurd cc
significant Invalid g i = absurd cc

-- what is said of a lexeme's faults by those that are first, in each mode, and by their kinds
abbrev pub IsOrdered : Lexeme → Type 0
IsOrdered x = (b : Bool) (f : ParseErrorKind) (rest : List ParseErrorKind) → faults_in b (row_faults x) ≡ f ∷ rest → (more : List ParseErrorKind) × (row_faults x ≡ f ∷ more)

abbrev pub AreOfKinds : Lexeme → Type 0
AreOfKinds x = Each (IsRowKind x) (row_faults x)

module _ (lexemes : List Lexeme) where
  abbrev on : ℕ → Bool
  on = is_open_behind lexemes

  many : length (rows lexemes) ≡ length (rows_of lexemes)
  many = as-many true (rows_of lexemes) (table_of lexemes).gaps

  told : (n : ℕ) → n ≤ suc (taken lexemes) → AreToldTo lexemes on n
  told n h k l = mode-inside-all lexemes k (omega (arith, h, l))

  clear-to : (n m : ℕ) → m ≤ n → AreClearBelow (in_mode lexemes) n → AreClearTo lexemes on m
  clear-to n m h c k l = c k (omega (arith, h, l))

  -- the rows before are tokens
  valid : (n : ℕ) → AreClearBelow (in_mode lexemes) (suc n) → grammar.AreTokensTo n (rows lexemes)
  valid n c = grammar.tokens-to n (rows lexemes) (λ k r h e. token k r e (c k (omega (arith, h))))
    where
      token : (k : ℕ) (r : Row Place) → slice_get (rows lexemes) k ≡ Some r → in_mode lexemes k ≡ [] → is_invalid r.shape ≡ false
      token k r e none =
          let bare : Row Span = record { shape = r.shape; at = r.at.span } in
          let there : slice_get (rows_of lexemes) k ≡ Some bare = subst (λ (xs : Rows Span). slice_get xs k ≡ Some bare) (bare-placed true (rows_of lexemes) (table_of lexemes).gaps) (bare-get (rows lexemes) k r e) in
          not-invalid r.shape (row-valid (on k) lexemes k bare there none)

  -- so no node is wrong that ends before
  none-before : (n : ℕ) → AreClearBelow (in_mode lexemes) n → ((j : ℕ) → j < n → IsFineTo lexemes j) → NoneIsWrongBefore lexemes n
  none-before zero c fine = λ k wrong l h. absurd (omega (arith, l))
  none-before (suc n) c fine = (grammar.none-passed lexemes here n (valid n c) (fine n (omega arith))).0

  -- ---- of a row

  -- what text format doesn't have is no fault inside an aggregate
  outside : (f : ParseErrorKind) (k : ℕ) (x : IsFirstLexeme lexemes (on k) k f) → (Inside lexemes k → on k ≡ true) → is_of_mode f ≡ true → Inside lexemes (length (rows_of x.before)) → ⊥
  outside f k x inside mode h =
      let open_here : on k ≡ true = inside (subst (Inside lexemes) x.count h) in
      let plain : is_of_mode f ≡ false = kept-plain (row_faults x.here) f x.first.0 (subst (λ b. faults_in b (row_faults x.here) ≡ f ∷ x.first.0) open_here x.first.1) in
      absurd (let both : true ≡ false = sym mode ∙ plain in cc)

  row-first : (f : ParseErrorKind) (t : IsFirstOfLexemes lexemes f) → (is_of_mode f ≡ true → Inside lexemes (length (rows_of t.before)) → ⊥) → (x : Lexeme) → IsRowKind x f → IsFirstFault lexemes f
  row-first (fault.InvalidToken span) t out x h = t
  row-first (fault.IntegerOutOfRange span) t out x h = t
  row-first (fault.InvalidStringCharacters span) t out x h = t
  row-first (fault.UnterminatedString span) t out x h = t
  row-first (fault.InvalidStringEscape span) t out x h = t
  row-first (fault.NestedBlockComment span) t out x h = t
  row-first (fault.NoSpaceBetweenIntAndIdent span) t out x h = t
  row-first (fault.HashCommentOutsideTextFormat span) t out x h = (t, out refl)
  row-first (fault.FloatSuffixOutsideTextFormat span) t out x h = (t, out refl)
  row-first (fault.UnexpectedEof text) t out x h = inl (is-terminator text h, t)
  row-first _ t out x h = absurd h

  -- The fault is one of its row's kinds.
  pub row-kind : Each IsOrdered lexemes → Each AreOfKinds lexemes → (errors : Faults) (y : IsOfRow lexemes errors) → (x : Lexeme) × IsRowKind x y.first.fault
  row-kind ordered kinds errors y =
      let k = y.first.row in
      let x = first-lexeme lexemes on k y.first.fault y.first.here.0 y.first.here.1 (clear-to k k (omega arith) y.first.before) (told (suc k) (omega (arith, y.first.within, y.within))) in
      let o = each-here IsOrdered x.before x.here x.behind (subst (Each IsOrdered) x.parts ordered) in
      let s = each-here AreOfKinds x.before x.here x.behind (subst (Each AreOfKinds) x.parts kinds) in
      let own = o (on k) y.first.fault x.first.0 x.first.1 in
      (x.here, (subst (λ fs. Each (IsRowKind x.here) fs) own.1 s).0)

  of-row : Each IsOrdered lexemes → Each AreOfKinds lexemes → (errors : Faults) (y : IsOfRow lexemes errors) → IsFirstFault lexemes y.first.fault
  of-row ordered kinds errors y =
      let k = y.first.row in
      let x = first-lexeme lexemes on k y.first.fault y.first.here.0 y.first.here.1 (clear-to k k (omega arith) y.first.before) (told (suc k) (omega (arith, y.first.within, y.within))) in
      let o = each-here IsOrdered x.before x.here x.behind (subst (Each IsOrdered) x.parts ordered) in
      let s = each-here AreOfKinds x.before x.here x.behind (subst (Each AreOfKinds) x.parts kinds) in
      let own = o (on k) y.first.fault x.first.0 x.first.1 in
      let within : k ≤ taken lexemes = omega (arith, y.first.within, y.within) in
      let first : IsFirstOfLexemes lexemes y.first.fault = record {
        before = x.before;
        here = x.here;
        behind = x.behind;
        parts = x.parts;
        is_first = ap first_of own.1;
        clean = x.clean;
        begins = subst (BeginsFile (shapes (rows_of lexemes))) (sym x.count) (begins-at lexemes k within);
        none_before = subst (NoneIsWrongBefore lexemes) (sym x.count) (none-before k y.first.before (λ j l. y.fine j (omega (arith, l, y.first.within))));
      } in
      row-first y.first.fault first (outside y.first.fault k x (mode-inside-all lexemes k within).1) x.here (subst (λ fs. Each (IsRowKind x.here) fs) own.1 s).0

  -- ---- of a node

  by-kind : (wrong kind : ParseErrorKind) → wrong ≡ kind → (IsFirstOfNodes lexemes kind → IsFirstFault lexemes kind) → IsFirstOfNodes lexemes wrong → IsFirstFault lexemes wrong
  by-kind wrong kind e f = subst (λ (w : ParseErrorKind). IsFirstOfNodes lexemes w → IsFirstFault lexemes w) (sym e) f

  node-first : (node : CheckedNode ℕ) (wrong : ParseErrorKind) → WrongCheckedNode (token_span (rows_of lexemes)) node wrong → IsFirstOfNodes lexemes wrong → IsFirstFault lexemes wrong
  node-first (ASyntax x) wrong h = by-kind wrong _ h.1 (λ o. o)
  node-first (AnImport x) wrong (inl h) = by-kind wrong _ h.1 (λ o. o)
  node-first (AnImport x) wrong (inr h) = by-kind wrong _ h.1 (λ o. o)
  node-first (AReservedName x) wrong (inl h) = by-kind wrong _ h.1 (λ o. o)
  node-first (AReservedName x) wrong (inr h) = by-kind wrong _ h.1 (λ o. o)
  node-first (AGroupName x) wrong h = by-kind wrong _ h.1 (λ o. o)
  node-first (APackageAgain first again) wrong h = by-kind wrong _ h (λ o. o)
  node-first (ATooDeep keyword open_at) wrong h = by-kind wrong _ h (λ o. o)

  module _ (errors : Faults) (y : IsOfNode lexemes errors) where
    pub its-node : Holds (IsWrongBefore lexemes y.checked.end y.fault) (checked_nodes y.checked.is_wrong.0)
    its-node = any-holds (IsWrongBefore lexemes y.checked.end y.fault) (checked_nodes y.checked.is_wrong.0) y.checked.is_wrong.2

    -- all is clean through the last token of the node
    first-node : (e : ℕ) → y.checked.end ≡ e → IsFirstOfNodes lexemes y.fault
    first-node zero same = absurd (omega (arith, same, y.checked.end_least))
    first-node (suc m) same =
        let before : AreClearBelow (in_mode lexemes) (suc m) = λ j l. y.before j (omega (arith, l, same, y.checked.end_most)) in
        let within : m < length (rows_of lexemes) = omega (arith, same, y.checked.end_most, y.checked.within, taken-within lexemes, many) in
        record {
          number = m;
          is_wrong = subst (λ n. IsWrongBehind lexemes n y.fault) same y.checked.is_wrong;
          clean = clean-through lexemes on m within (clear-to (suc m) (suc m) (omega arith) before) (told (suc m) (omega (arith, same, y.checked.end_most, y.checked.within)));
          none_before = none-before (suc m) before (λ j l. y.checked.none_before j (omega (arith, l, same, y.checked.end_most)));
        }

    of-node : IsFirstFault lexemes y.fault
    of-node =
        let v = holds-one (IsWrongBefore lexemes y.checked.end y.fault) (checked_nodes y.checked.is_wrong.0) its-node in
        node-first v.0 y.fault v.1.2 (first-node y.checked.end refl)

  -- ---- of tokens

  pub same-shapes : shapes (rows lexemes) ≡ shapes (rows_of lexemes)
  same-shapes = placed-shapes true (rows_of lexemes) (table_of lexemes).gaps

  pub not-read : (e : Refusal) → whole (rows lexemes) ≡ Err e → read levels (rows lexemes) ≡ Err e
  unfolding read
  not-read e h = ap (λ w. w >>= λ x. Ok x.0) (err-read (rows lexemes) e h)

  -- there is a row, so it isn't the end
  pub not-at-end : (errors : Faults) (y : IsOfToken lexemes errors) → y.left ≡ 0 → ⊥
  not-at-end errors y e = omega (arith, e, stops-at lexemes y.left y.read, many, (row-there (rows_of lexemes) (taken lexemes) y.row y.there).0)

  pub of-token : (errors : Faults) (y : IsOfToken lexemes errors) → IsFirstFault lexemes (fault.UnexpectedToken y.row.at y.text (printed y.row.shape))
  of-token errors y =
      let there = row-there (rows_of lexemes) (taken lexemes) y.row y.there in
      let clear = clear-to (suc (taken lexemes)) (suc (taken lexemes)) (omega arith) y.before in
      let valid_here = not-invalid y.row.shape (row-valid (on (taken lexemes)) lexemes (taken lexemes) y.row y.there (y.before (taken lexemes) (omega arith))) in
      let text_here = significant y.row.shape (row-significant lexemes (taken lexemes) y.row y.there) valid_here in
      let same = there.1 in
      let u = at y.left refl in
      record {
        number = taken lexemes;
        unexpected = u;
        significant = ap (λ (r : Row Span). is_significant r.shape) same ∙ text_here;
        place = ap (λ (r : Row Span). r.at) (sym same);
        text = ap (λ (r : Row Span). printed r.shape) (sym same);
        clean = clean-through lexemes on (taken lexemes) there.0 clear (told (suc (taken lexemes)) (omega arith));
        none_before = none-before (suc (taken lexemes)) y.before (λ j l. y.fine j);
      }
    where
      at : (left : ℕ) → y.left ≡ left → IsUnexpected (shapes (rows_of lexemes)) (taken lexemes)
      at zero e = absurd (not-at-end errors y e)
      at (suc left) e =
          let u = grammar.unexpected here levels left (rows lexemes) (not-read (Unexpected y.left) y.read ∙ ap (λ n. Err (Unexpected n)) e) in
          let same : u.0 ≡ taken lexemes = omega (arith, u.1, e, stops-at lexemes y.left y.read) in
          subst (λ n. IsUnexpected (shapes (rows_of lexemes)) n) same (subst (λ ss. IsUnexpected ss u.0) same-shapes u.2)

  pub token-number : (errors : Faults) (y : IsOfToken lexemes errors) → (of-token errors y).number ≡ taken lexemes
  unfolding of-token
  token-number errors y = refl

  of-end : (errors : Faults) (y : IsOfEnd lexemes errors) → IsFirstFault lexemes (fault.UnexpectedEof y.text)
  of-end errors y =
      let n = length (rows_of lexemes) in
      let last : taken lexemes ≡ n = omega (arith, stops-at lexemes 0 y.read, many) in
      let ended : IsEnded (shapes (rows_of lexemes)) = subst IsEnded same-shapes (grammar.ended here levels (rows lexemes) (not-read (Unexpected 0) y.read)) in
      let before : AreClearBelow (in_mode lexemes) (suc n) = λ j l. y.before j (omega (arith, l)) in
      let clean = clean-all lexemes on (clear-to (suc n) (suc n) (omega arith) before) (told (suc n) (omega (arith, last))) in
      inr (y.is_said.0, record { ended = ended; clean = clean; none_before = none-before (suc n) before (λ j l. y.fine j) })

  -- ---- of a list

  pub same-first : (errors : Faults) (f g : ParseErrorKind) → HasFirst g errors → first_of errors ≡ Some f → f ≡ g
  same-first errors f g h e = let first : Some f ≡ Some g = sym e ∙ ap first_of h.1 in cc

  -- The list begins with the first fault.
  pub first-is : Each IsOrdered lexemes → Each AreOfKinds lexemes → (errors : Faults) → (errors ≡ [] → ⊥) → AreMergedFaults (table_of lexemes) errors
      → (f : ParseErrorKind) → first_of errors ≡ Some f → IsFirstFault lexemes f
  first-is ordered kinds errors some merged f e = by (first-of-list lexemes errors some merged)
    where
      by : FirstOfList lexemes errors → IsFirstFault lexemes f
      by (of_row y) = subst (IsFirstFault lexemes) (sym (same-first errors f y.first.fault y.first.begins e)) (of-row ordered kinds errors y)
      by (of_node y) = subst (IsFirstFault lexemes) (sym (same-first errors f y.fault y.begins e)) (of-node errors y)
      by (of_token y) = subst (IsFirstFault lexemes) (sym (same-first errors f (fault.UnexpectedToken y.row.at y.text (printed y.row.shape)) y.begins e)) (of-token errors y)
      by (of_end y) = subst (IsFirstFault lexemes) (sym (same-first errors f (fault.UnexpectedEof y.text) y.begins e)) (of-end errors y)
