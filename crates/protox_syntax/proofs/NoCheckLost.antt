-- Each fault that is noted while a source is read is in its list, so no check is lost.
use Rattle.std.proofs.Common.{◌≡◌, ℕ, zero, suc, ◌+◌, Bool, true, false, List, [], ◌∷◌, ◌++◌, drop, length, None, Result, Ok, Err, IfErr, refl, sym, ap, subst, ◌∙◌, arith, inl, inr}
use Rattle.std.specs.Prelude.{Contains, IfSome, option_to_list, slice_get}
use Rattle.protox_fault.specs.Faults.{Span}
use Rattle.protox_fault.specs.declared.error.ParseErrorKind.{ParseErrorKind}
use Rattle.protox_fault.specs.declared.error.SyntaxFailure.{SyntaxFailure}
use Rattle.protox_fault.specs.declared.error.SyntaxFailure.TheVariants.{Faults, OutOfMemory}
use Rattle.protox_lexeme.specs.Lexemes.{Lexeme, cut}
use Rattle.protox_lexeme.specs.Shapes.{Shape, Invalid, Rows}
use Rattle.protox_lexeme.specs.Table.{rows_of, table_of}
use Rattle.protox_ast.specs.CheckedNodes.{CheckedNode, ASyntax, AnImport, AReservedName, AGroupName, APackageAgain, ATooDeep, checked_nodes}
use Rattle.protox_ast.specs.Checks.{WrongCheckedNode}
use Rattle.protox_ast.specs.Fronts.{GoesOn, shapes}
use Rattle.protox_ast.specs.Places.{Place, later_gaps, placed_from}
use Rattle.protox_ast.specs.Tree as t
use Rattle.protox_ast.specs.Truth.{is_run}
use Rattle.protox_ast.specs.declared.ast.File.{File}
use Rattle.protox_grammar.specs.CheckLaws.{levels, noted_by, steps_by}
use Rattle.protox_grammar.specs.TagLaws.{map_node, place_at, placed_steps_by, placed_tokens}
use Rattle.protox_grammar.specs.Noted.{trace}
use Rattle.protox_grammar.specs.Reader.{head_in}
use Rattle.protox_grammar.specs.Steps.{until}
use Rattle.protox_grammar.specs.Told.{Notes, first_behind, is_invalid, keyword_behind, past, told}
use Rattle.protox_grammar.specs.declared.note.Noted.{Noted}
use Rattle.protox_grammar.specs.declared.note.Noted.TheVariants.{Fault, TextFormat}
use Rattle.protox_grammar.proofs.Lemmas.{Holds, any-holds, holds-left, holds-one, holds-right}
use Rattle.protox_grammar.proofs.Lemmas.{noted_alike, placed-worded, same-told, told-append}
use Rattle.protox_grammar.proofs.Lemmas.{until-front, wrong_alike}
use Rattle.protox_declarations.specs.inner.Options.{here}
use Rattle.protox_syntax.specs.inner.ParsedTable.{AreMergedFaults, ParsesTable, RefusesTable, unknown_syntax, unexpected_row, refused_statement, all_read}
use Rattle.protox_syntax.specs.LostChecks.{IsCheckedBefore, NoCheckIsLost, NoneIsLost}
use Rattle.protox_syntax.specs.inner.Statements.{syntax_if_any}
use Rattle.protox_syntax.specs.inner.Merge.{Progress, beginning, noted_in, merge_notes, read_until, refusal, row_at, merged_faults, with_noted}
use Rattle.protox_syntax.specs.inner.Whole.{all_notes}
use Rattle.protox_syntax.proofs.Modes.{not-invalid}
use Rattle.protox_syntax.proofs.NodesNoted.{IsSame, ends-here, node-noted, steps-numbered, steps-placed}
use Rattle.protox_syntax.proofs.NodesTold.{IsOfFault, node-has, told-of}
use Rattle.protox_syntax.proofs.Reading.{file-told}
use Rattle.protox_syntax.proofs.SyntaxStops.{stops}

-- ---- noted faults are in the list

module _ (faults : List (List ParseErrorKind)) (total : ℕ) (wrong : ParseErrorKind) where
  abbrev Is : ParseErrorKind → Type 0
  Is x = x ≡ wrong

  noted-keeps : (v : Noted) (p : Progress) → Holds Is p.errors → Holds Is (with_noted v p).errors
  noted-keeps (Fault x) p h = holds-left Is p.errors (x ∷ []) h
  noted-keeps (TextFormat on) p h = h

  merge_notes-keeps : (ns : Notes) (p : Progress) → Holds Is p.errors → Holds Is (merge_notes faults total ns p).errors
  merge_notes-keeps [] p h = h
  merge_notes-keeps (n ∷ ns) p h = merge_notes-keeps ns (noted_in faults total n p) (noted-keeps n.noted (read_until faults total n.left p) (holds-left Is p.errors _ h))

  merge_notes-has : (ns : Notes) (p : Progress) → Holds (IsOfFault wrong) ns → Holds Is (merge_notes faults total ns p).errors
  merge_notes-has [] p h = absurd h
  merge_notes-has (n ∷ ns) p (inl e) =
      let read = read_until faults total n.left p in
      merge_notes-keeps ns (noted_in faults total n p) (subst (λ v. Holds Is (with_noted v read).errors) (sym e) (holds-right Is read.errors (wrong ∷ []) (inl refl)))
  merge_notes-has (n ∷ ns) p (inr h) = merge_notes-has ns (noted_in faults total n p) h

  merged_faults-has : (ns : Notes) (left : ℕ) → Holds (IsOfFault wrong) ns → Holds Is (merged_faults faults total ns left)
  merged_faults-has ns left h = holds-left Is (merge_notes faults total ns beginning).errors _ (merge_notes-has ns beginning h)

contains-of : (x : ParseErrorKind) (xs : List ParseErrorKind) → Holds (λ u. u ≡ x) xs → Contains xs x
contains-of x [] h = absurd h
contains-of x (y ∷ ys) (inl e) = (0, omega arith, e)
contains-of x (y ∷ ys) (inr h) = let v = contains-of x ys h in (suc v.0, omega (arith, v.1), v.2)

-- ---- the notes of a node of a file that goes on

run-map : (f : ℕ → Place) (x : CheckedNode ℕ) → is_run (map_node f x) ≡ is_run x
run-map f (ASyntax x) = refl
run-map f (AnImport x) = refl
run-map f (AReservedName x) = refl
run-map f (AGroupName x) = refl
run-map f (APackageAgain first again) = refl
run-map f (ATooDeep keyword open_at) = refl

-- whether row n is invalid
head-placed : (first : Bool) (rows : Rows Span) (gaps : List (List Shape)) (n : ℕ) → IfSome (slice_get rows n) (λ row. row.shape ≡ Invalid → ⊥) → head_in is_invalid (drop n (placed_from first rows gaps)) ≡ false
head-placed first [] gaps zero h = refl
head-placed first [] gaps (suc n) h = refl
head-placed first (x ∷ xs) gaps zero h = not-invalid x.shape h
head-placed first (x ∷ xs) gaps (suc n) h = head-placed false xs (later_gaps gaps) n h

module _ (lexemes : List Lexeme) (n : ℕ) (f : t.File ℕ) (go : GoesOn (shapes (rows_of lexemes)) n f) (wrong : ParseErrorKind) (node : CheckedNode ℕ) (checked : IsCheckedBefore lexemes f n wrong node)
    (its : Holds (λ u. u ≡ node) (checked_nodes f)) where
  abbrev rows : Rows Place
  rows = placed_tokens lexemes

  abbrev place : ℕ → Place
  place = place_at lexemes

  noted : IsSame lexemes n f go × Holds (λ u. u ≡ node) (noted_by lexemes n)
  noted = node-noted lexemes n f go node checked.0.0 checked.0.1 its checked.1

  placed-wrong : WrongCheckedNode (λ (p : Place). p.span) (map_node place node) wrong
  placed-wrong = (wrong_alike lexemes node wrong).1 checked.0.2

  -- the fault is noted
  told-has : Holds (IsOfFault wrong) (told None (place 0) (placed_steps_by lexemes n) rows)
  told-has =
      let v = told-of place wrong 0 None (steps_by lexemes n) _ (steps-placed lexemes n f go noted.0) tt (steps-numbered lexemes n f go noted.0) None 0 rows node noted.1 in
      let past-is : v.past ≡ n = omega (arith, v.at, checked.0.0) in
      let valid : is_run (map_node place node) ≡ true → head_in is_invalid (drop v.past rows) ≡ false = λ g. ap (λ k. head_in is_invalid (drop k rows)) past-is ∙ head-placed true (rows_of lexemes) (table_of lexemes).gaps n (checked.2 (sym (run-map place node) ∙ g)) in
      subst (λ u. Holds (IsOfFault wrong) (told None (place 0) u rows)) (sym (noted_alike lexemes n).steps) (v.has (node-has (map_node place node) wrong (drop v.past rows) valid placed-wrong))

  pub all-have : Holds (IsOfFault wrong) (all_notes rows)
  all-have =
      let l = trace levels rows in
      let cut = until-front n l in
      let front = until n l in
      let whole : Holds (IsOfFault wrong) (told None (place 0) l rows) =
      subst (Holds (IsOfFault wrong)) (sym (ap (λ u. told None (place 0) u rows) cut.1 ∙ told-append None (place 0) front cut.0 rows))
      (holds-left (IsOfFault wrong) (told None (place 0) front rows) (told (first_behind None front) (keyword_behind (place 0) front) cut.0 (past front rows)) told-has)
      in
      subst (Holds (IsOfFault wrong)) (same-told None (place 0) here l rows (placed-worded lexemes) ∙ file-told rows) whole

  -- A wrong syntax is this node.
  pub syntax-has : (syntax_if_any.notes rows ≡ [] → ⊥) → Holds (IsOfFault wrong) (syntax_if_any.notes rows)
  syntax-has some =
      let v = stops lexemes n node noted.1 some in
      let same = ends-here lexemes n f go node checked.0.0 checked.0.1 noted.0 checked.1 v.node v.ends v.noted in
      v.holds wrong (subst (λ u. WrongCheckedNode (λ (p : Place). p.span) (map_node place u) wrong) (sym same) placed-wrong)

-- ---- the list

module _ (lexemes : List Lexeme) (errors : List ParseErrorKind) where
  abbrev total : ℕ
  total = length (rows_of lexemes) + 1

  abbrev entries : List (List ParseErrorKind)
  entries = (table_of lexemes).faults

  abbrev notes : Notes
  notes = all_notes (placed_tokens lexemes)

  merged-has : (wrong : ParseErrorKind) → Holds (IsOfFault wrong) notes → ((syntax_if_any.notes (placed_tokens lexemes) ≡ [] → ⊥) → Holds (IsOfFault wrong) (syntax_if_any.notes (placed_tokens lexemes))) → AreMergedFaults (table_of lexemes) errors
      → Holds (λ u. u ≡ wrong) errors
  merged-has wrong h g (unknown_syntax some w) = subst (Holds (λ u. u ≡ wrong)) (sym w) (merged_faults-has entries total wrong (syntax_if_any.notes (placed_tokens lexemes)) _ (g some))
  merged-has wrong h g (unexpected_row left text plain e w) =
      subst (Holds (λ u. u ≡ wrong)) (sym w) (holds-left (λ u. u ≡ wrong) (merged_faults entries total notes left) (option_to_list (refusal text (row_at (rows_of lexemes) left))) (merged_faults-has entries total wrong notes left h))
  merged-has wrong h g (refused_statement e at_refusal later fails says is notable w) = subst (Holds (λ u. u ≡ wrong)) (sym w) (merged_faults-has entries total wrong (notes ++ (at_refusal ++ later)) 0 (holds-left (IsOfFault wrong) notes (at_refusal ++ later) h))
  merged-has wrong h g (all_read x e w) = subst (Holds (λ u. u ≡ wrong)) (sym w) (merged_faults-has entries total wrong notes 0 h)

  pub none-lost : AreMergedFaults (table_of lexemes) errors → NoneIsLost lexemes errors
  none-lost merged n f wrong go any =
      let x = holds-one (IsCheckedBefore lexemes f n wrong) (checked_nodes f) (any-holds (IsCheckedBefore lexemes f n wrong) (checked_nodes f) any) in
      contains-of wrong errors (merged-has wrong (all-have lexemes n f go wrong x.0 x.1 x.2) (syntax-has lexemes n f go wrong x.0 x.1 x.2) merged)

-- from the answer for a source's table
lost-by : (source : List ℕ) (e : SyntaxFailure) → RefusesTable (table_of (cut 0 source)) (length source) e → NoCheckIsLost source e
lost-by source OutOfMemory j = tt
lost-by source (Faults v) j = none-lost (cut 0 source) v.items j.3

pub parsed-none-lost : (source : List ℕ) (r : Result File SyntaxFailure) → ParsesTable (table_of (cut 0 source)) (length source) r → IfErr r (NoCheckIsLost source)
parsed-none-lost source (Ok file) j = tt
parsed-none-lost source (Err e) j = lost-by source e j
