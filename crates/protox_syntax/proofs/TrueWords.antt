-- The words of the first fault are true.
use Rattle.std.proofs.Common.{◌≡◌, inl, inr, ℕ, zero, suc, true, false, IfErr, List, [], ◌∷◌, ◌++◌, length, take, Option, Some, None, Result, Ok, Err, refl, sym, ap, subst, ◌∙◌, append-nil, arith}
use Rattle.std.proofs.lemmas.List.{length-append}
use Rattle.std.specs.Prelude.{IfSome}
use Rattle.protox_fault.specs.declared.error.ParseErrorKind.{ParseErrorKind}
use Rattle.protox_fault.specs.declared.error.ParseErrorKind.TheVariants as fault
use Rattle.protox_fault.specs.declared.error.SyntaxFailure.{SyntaxFailure}
use Rattle.protox_fault.specs.declared.error.SyntaxFailure.TheVariants as failure
use Rattle.protox_lexeme.proofs.Lemmas.{IsRowKind, first-in-mode, kinds-of}
use Rattle.protox_lexeme.specs.Lexemes.{Lexeme, cut}
use Rattle.protox_lexeme.specs.Printed.{printed}
use Rattle.protox_lexeme.specs.Shapes.{Shape, Row, Rows}
use Rattle.protox_lexeme.specs.Table.{rows_of, table_of}
use Rattle.protox_ast.proofs.Lemmas.{as-many}
use Rattle.protox_ast.specs.Basics.{Each, first_of}
use Rattle.protox_ast.specs.CheckedNodes.{CheckedNode, ASyntax, AnImport, AReservedName, AGroupName, APackageAgain, ATooDeep, checked_nodes}
use Rattle.protox_ast.specs.Checks.{WrongCheckedNode}
use Rattle.protox_ast.specs.Places.{Place}
use Rattle.protox_ast.specs.Spells.{BeginsFile, shapes}
use Rattle.protox_ast.specs.Truth.{IsWrongBefore, token_span}
use Rattle.protox_ast.specs.declared.ast.File.{File}
use Rattle.protox_grammar.specs.Reader.{Refusal, Unexpected, Deep, ◌>>=◌}
use Rattle.protox_grammar.specs.Reads.{read}
use Rattle.protox_grammar.proofs.Lemmas as grammar
use Rattle.protox_grammar.proofs.Lemmas.{holds-one, shapes-append, shapes-length, take-front}
use Rattle.protox_declarations.specs.inner.Options.{here}
use Rattle.protox_rows.proofs.Lemmas.{Fits, Took}
use Rattle.protox_syntax.specs.ExpectedWords.{AreTrueBehind, ExpectsTruly, HasTrueWords}
use Rattle.protox_syntax.specs.inner.ParsedTable.{AreMergedFaults, ParsesTable, RefusesTable}
use Rattle.protox_syntax.specs.inner.Recovery.{IsSaid}
use Rattle.protox_syntax.specs.inner.Statements.{levels}
use Rattle.protox_syntax.specs.inner.Whole.{Whole, whole}
use Rattle.protox_syntax.specs.inner.Words as said
use Rattle.protox_syntax.proofs.ExactFile.{whole-fits}
use Rattle.protox_syntax.proofs.FirstFaults as first
use Rattle.protox_syntax.proofs.FirstFaults.{AreOfKinds, IsOrdered}
use Rattle.protox_syntax.proofs.FirstOfMerged.{FirstOfList, IsOfToken, first-of-list, of_row, of_node, of_token, of_end, rows, stops-at, taken}
use Rattle.protox_syntax.proofs.Reading.{err-read, whole-read}

-- ---- with another token where reading stops

-- A row with this token, at some place.
abbrev row_of : Shape → Row Place
row_of token = record { shape = token; at = here }

not-read : (xs : Rows Place) (e : Refusal) → whole xs ≡ Err e → read levels xs ≡ Err e
unfolding read
not-read xs e h = ap (λ w. w >>= λ x. Ok x.0) (err-read xs e h)

-- The rows were taken: a file begins with them.
begins-by : (xs : Rows Place) (v : Result (Whole × Rows Place) Refusal) → whole xs ≡ v → Took 0 v → BeginsFile (shapes xs) (length (shapes xs))
begins-by xs (Ok (x, [])) q t =
    let f = whole-read xs x [] q in
    grammar.spelling-begins here xs f.0 ((grammar.accepts_iff here levels xs f.0).0 f.1).0
begins-by xs (Ok (x, r ∷ rs)) q t = absurd (omega (arith, t))
begins-by xs (Err (Unexpected zero)) q t = (grammar.ended here levels xs (not-read xs (Unexpected 0) q)).0
begins-by xs (Err (Unexpected (suc n))) q t = absurd (omega (arith, t))
begins-by xs (Err (Deep zero)) q t = absurd (omega (arith, t.0))
begins-by xs (Err (Deep (suc zero))) q t =
    let v = grammar.too_deep here levels 0 xs (not-read xs (Deep 1) q) in
    subst (BeginsFile (shapes xs)) (omega (arith, v.1, shapes-length xs)) v.2.1
begins-by xs (Err (Deep (suc (suc n)))) q t = absurd (omega (arith, t.1))

-- The last row was refused: no file begins with it.
none-begins : (front : Rows Place) (token : Shape) → whole (front ++ row_of token ∷ []) ≡ Err (Unexpected 1) → BeginsFile (shapes (front ++ row_of token ∷ [])) (suc (length front)) → ⊥
none-begins front token q b =
    let xs = front ++ row_of token ∷ [] in
    let u = grammar.unexpected here levels 0 xs (not-read xs (Unexpected 1) q) in
    let same : suc u.0 ≡ suc (length front) = omega (arith, u.1, length-append front (row_of token ∷ [])) in
    u.2.2 (subst (BeginsFile (shapes xs)) (sym same) b)

module _ (tokens : List Shape) (front rest : Rows Place) (are : tokens ≡ shapes (front ++ rest)) where
  front-is : take (length front) tokens ≡ shapes front
  front-is = ap (take (length front)) (are ∙ shapes-append front rest) ∙ take-front (length front) (shapes front) (shapes rest) (sym (shapes-length front))

  -- the tokens before it, and this one
  with-it : (token : Shape) → take (length front) tokens ++ token ∷ [] ≡ shapes (front ++ row_of token ∷ [])
  with-it token = ap (λ u. u ++ token ∷ []) front-is ∙ sym (shapes-append front (row_of token ∷ []))

  count : (token : Shape) → length (shapes (front ++ row_of token ∷ [])) ≡ suc (length front)
  count token = omega (arith, shapes-length (front ++ row_of token ∷ []), length-append front (row_of token ∷ []))

  -- Where reading stops, the words are true.
  pub true-behind : (words : List ℕ) → whole (front ++ rest) ≡ Err (Unexpected (length rest)) → IsSaid (said.whole (front ++ rest)) words → AreTrueBehind tokens (length front) words
  true-behind words h s =
      let fits : (token : Shape) → Fits (said.whole (front ++ rest)) (row_of token) 0 (whole (front ++ row_of token ∷ [])) = λ token. whole-fits front rest h (row_of token) [] in
      record {
        expected = said.whole (front ++ rest);
        are_its_words = s.1;
        named_go_on = λ token n.
            let xs = front ++ row_of token ∷ [] in
            let b = begins-by xs (whole xs) refl ((fits token).taken n) in
            subst (λ ts. BeginsFile ts (suc (length front))) (sym (with-it token)) (subst (BeginsFile (shapes xs)) (count token) b);
        others_dont = λ token n g. none-begins front token ((fits token).refused n) (subst (λ ts. BeginsFile ts (suc (length front))) (with-it token) g);
      }

-- ---- of the first fault

module _ (lexemes : List Lexeme) where
  abbrev tokens : List Shape
  tokens = shapes (rows_of lexemes)

  many : length (rows lexemes) ≡ length (rows_of lexemes)
  many = as-many true (rows_of lexemes) (table_of lexemes).gaps

  -- an unexpected token
  token-true : (left : ℕ) (words : List ℕ) → whole (rows lexemes) ≡ Err (Unexpected (suc left)) → IsSaid (said.whole (rows lexemes)) words → AreTrueBehind tokens (taken lexemes) words
  token-true left words h s =
      let u = grammar.unexpected_row here levels left (rows lexemes) (first.not-read lexemes (Unexpected (suc left)) h) in
      let behind = u.here ∷ u.rest in
      let here_is : length u.front ≡ taken lexemes = omega (arith, stops-at lexemes (suc left) h, ap length u.parts, length-append u.front behind, u.left_is) in
      let whole-is : whole (u.front ++ behind) ≡ Err (Unexpected (length behind)) = ap whole (sym u.parts) ∙ h ∙ ap (λ n. Err (Unexpected n)) u.left_is in
      subst (λ n. AreTrueBehind tokens n words) here_is
      (true-behind tokens u.front behind (sym (first.same-shapes lexemes) ∙ ap shapes u.parts) words whole-is (subst (λ xs. IsSaid (said.whole xs) words) u.parts s))

  -- the end of the source
  end-true : (words : List ℕ) → whole (rows lexemes) ≡ Err (Unexpected 0) → IsSaid (said.whole (rows lexemes)) words → AreTrueBehind tokens (length (rows_of lexemes)) words
  end-true words h s =
      let all : rows lexemes ≡ rows lexemes ++ [] = sym (append-nil (rows lexemes)) in
      subst (λ n. AreTrueBehind tokens n words) many
      (true-behind tokens (rows lexemes) [] (sym (first.same-shapes lexemes) ∙ ap shapes all) words (ap whole (sym all) ∙ h) (subst (λ xs. IsSaid (said.whole xs) words) all s))

  of-token-by : (errors : List ParseErrorKind) (y : IsOfToken lexemes errors) (left : ℕ) → y.left ≡ left → HasTrueWords lexemes (fault.UnexpectedToken y.row.at y.text (printed y.row.shape))
  of-token-by errors y zero e = absurd (first.not-at-end lexemes errors y e)
  of-token-by errors y (suc left) e =
      let f = first.of-token lexemes errors y in
      (f.number, f.unexpected, f.place, subst (λ n. AreTrueBehind tokens n y.text) (sym (first.token-number lexemes errors y)) (token-true left y.text (y.read ∙ ap (λ n. Err (Unexpected n)) e) y.is_said))

  -- A row's faults have no such words.
  row-true : (f : ParseErrorKind) (x : Lexeme) → IsRowKind x f → HasTrueWords lexemes f
  row-true (fault.UnexpectedToken span words found) x h = absurd h
  row-true (fault.UnexpectedEof words) x h = λ plain. absurd (let both : true ≡ false = sym (first.is-terminator words h) ∙ plain in cc)
  row-true (fault.InvalidToken span) x h = tt
  row-true (fault.IntegerOutOfRange span) x h = tt
  row-true (fault.InvalidStringCharacters span) x h = tt
  row-true (fault.UnterminatedString span) x h = tt
  row-true (fault.InvalidStringEscape span) x h = tt
  row-true (fault.NestedBlockComment span) x h = tt
  row-true (fault.NoSpaceBetweenIntAndIdent span) x h = tt
  row-true (fault.HashCommentOutsideTextFormat span) x h = tt
  row-true (fault.FloatSuffixOutsideTextFormat span) x h = tt
  row-true _ x h = absurd h

  -- Nor has a fault of a node.
  node-true : (node : CheckedNode ℕ) (wrong : ParseErrorKind) → WrongCheckedNode (token_span (rows_of lexemes)) node wrong → HasTrueWords lexemes wrong
  node-true (ASyntax x) wrong h = subst (HasTrueWords lexemes) (sym h.1) tt
  node-true (AnImport x) wrong (inl h) = subst (HasTrueWords lexemes) (sym h.1) tt
  node-true (AnImport x) wrong (inr h) = subst (HasTrueWords lexemes) (sym h.1) tt
  node-true (AReservedName x) wrong (inl h) = subst (HasTrueWords lexemes) (sym h.1) tt
  node-true (AReservedName x) wrong (inr h) = subst (HasTrueWords lexemes) (sym h.1) tt
  node-true (AGroupName x) wrong h = subst (HasTrueWords lexemes) (sym h.1) tt
  node-true (APackageAgain one again) wrong h = subst (HasTrueWords lexemes) (sym h) tt
  node-true (ATooDeep keyword open_at) wrong h = subst (HasTrueWords lexemes) (sym h) tt

  words-of-first : Each IsOrdered lexemes → Each AreOfKinds lexemes → (errors : List ParseErrorKind) → (errors ≡ [] → ⊥) → AreMergedFaults (table_of lexemes) errors
      → (f : ParseErrorKind) → first_of errors ≡ Some f → HasTrueWords lexemes f
  words-of-first ordered kinds errors some merged f e = by (first-of-list lexemes errors some merged)
    where
      by : FirstOfList lexemes errors → HasTrueWords lexemes f
      by (of_row y) = let k = first.row-kind lexemes ordered kinds errors y in subst (HasTrueWords lexemes) (sym (first.same-first lexemes errors f y.first.fault y.first.begins e)) (row-true y.first.fault k.0 k.1)
      by (of_node y) =
          let v = holds-one (IsWrongBefore lexemes y.checked.end y.fault) (checked_nodes y.checked.is_wrong.0) (first.its-node lexemes errors y) in
          subst (HasTrueWords lexemes) (sym (first.same-first lexemes errors f y.fault y.begins e)) (node-true v.0 y.fault v.1.2)
      by (of_token y) = subst (HasTrueWords lexemes) (sym (first.same-first lexemes errors f (fault.UnexpectedToken y.row.at y.text (printed y.row.shape)) y.begins e)) (of-token-by errors y y.left refl)
      by (of_end y) = subst (HasTrueWords lexemes) (sym (first.same-first lexemes errors f (fault.UnexpectedEof y.text) y.begins e)) (λ plain. end-true y.text y.read y.is_said)

-- ---- of a source

if-some : {A : Type 0} (P : A → Type 0) (o : Option A) → ((x : A) → o ≡ Some x → P x) → IfSome o P
if-some P None h = tt
if-some P (Some x) h = h x refl

refused-true : (source : List ℕ) (e : SyntaxFailure) → RefusesTable (table_of (cut 0 source)) (length source) e → ExpectsTruly source e
refused-true source failure.OutOfMemory j = tt
refused-true source (failure.Faults v) j =
    let of_first : (f : ParseErrorKind) → first_of v.items ≡ Some f → HasTrueWords (cut 0 source) f = words-of-first (cut 0 source) (first-in-mode source) (kinds-of source) v.items j.0 j.3 in
    if-some (HasTrueWords (cut 0 source)) (first_of v.items) of_first

pub parsed-words : (source : List ℕ) (r : Result File SyntaxFailure) → ParsesTable (table_of (cut 0 source)) (length source) r → IfErr r (ExpectsTruly source)
parsed-words source (Ok file) j = tt
parsed-words source (Err e) j = refused-true source e j
