-- If a source's tokens spell a file, the source has no fault exactly if nothing is wrong with the
-- file and its lexemes are clean.
use Rattle.std.proofs.Common.{◌≡◌, ◌↔◌, ◌≤◌, ◌<◌, ◌+◌, ◌-◌, ℕ, zero, suc, Bool, true, false, cond, List, [], ◌∷◌, ◌++◌, length, Option, Some, None, refl, sym, ap, subst, ◌∙◌, arith, inl, inr, true≢false}
use Rattle.std.proofs.lemmas.Bool.{cases_lt, lt-ltb, le-ltb}
use Rattle.std.specs.Prelude.{slice_index_or, nat_lt}
use Rattle.protox_fault.specs.Faults.{Span, faults_in, span_from}
use Rattle.protox_fault.specs.declared.error.ParseErrorKind.{ParseErrorKind}
use Rattle.protox_lexeme.specs.Lexemes.{Lexeme}
use Rattle.protox_lexeme.specs.Shapes.{Shape, Ident, Int, Float, Str, Mark, LineComment, BlockComment, Newline, Invalid, Row, Rows}
use Rattle.protox_lexeme.specs.Table.{faults_of, is_gap, rows_of, table_of}
use Rattle.protox_lex.proofs.Lemmas.{faults_of_length}
use Rattle.protox_ast.proofs.Lemmas.{as-many}
use Rattle.protox_ast.specs.AstParts.{strings_span, strings_value, text_of}
use Rattle.protox_ast.specs.CheckedNodes.{CheckedNode, ASyntax, AnImport, AReservedName, AGroupName, APackageAgain, ATooDeep}
use Rattle.protox_ast.specs.Checks.{NothingWrong}
use Rattle.protox_ast.specs.Nodes.{depth}
use Rattle.protox_ast.specs.Fronts.{AreClean, AreCleanBehind, Inside}
use Rattle.protox_ast.specs.KeywordWalk as k
use Rattle.protox_ast.specs.Places.{Place, later_gaps, placed_from}
use Rattle.protox_ast.specs.Spells.{Spells, shapes}
use Rattle.protox_ast.specs.Tree as tree
use Rattle.protox_grammar.specs.Bodies as bodies
use Rattle.protox_grammar.specs.CheckLaws.{is_too_deep_by}
use Rattle.protox_grammar.specs.TagLaws.{placed_tokens}
use Rattle.protox_grammar.specs.Noted.{open_behind, trace}
use Rattle.protox_grammar.specs.Reader.{head_in}
use Rattle.protox_grammar.specs.Steps.{ANode, APackage, AKeyword, ADeepBody, ADeeperBody, AnOpenBrace, ACloseBrace, Token, Note, Steps, has_deep, tokens, until}
use Rattle.protox_grammar.specs.declared.note.Note as note_type
use Rattle.protox_grammar.specs.declared.note.Noted.{Noted}
use Rattle.protox_grammar.specs.declared.note.Noted.TheVariants.{Fault, TextFormat}
use Rattle.protox_grammar.specs.Told.{Notes, at_once, behind, group_faults, ident_faults, is_invalid, node_notes, noted, run_note, path_faults, syntax_faults, text_faults, told, AreValidTokens, IsFaultless, IsNoFault}
use Rattle.protox_grammar.proofs.Lemmas.{clean-modes, faultless-first, faultless-last, in-none}
use Rattle.protox_grammar.proofs.Lemmas.{mode_at, none-deep, noted-wrong, noted_alike, shallow-ends}
use Rattle.protox_grammar.proofs.Lemmas.{taken, told-mode, until-note}
use Rattle.protox_grammar.proofs.Lemmas as grammar
use Rattle.protox_declarations.specs.inner.Options.{here}
use Rattle.protox_syntax.specs.inner.Statements.{levels}
use Rattle.protox_syntax.specs.inner.Merge.{merged_faults}
use Rattle.protox_syntax.specs.inner.Whole.{all_notes}
use Rattle.protox_syntax.proofs.Reading.{file-told}
use Rattle.protox_syntax.proofs.Merging.{Fall, AreClear, faultless, merged_faults-clear}

-- ---- notes without a fault are in order

abbrev pub IsFault : Noted → Type 0
IsFault (Fault f) = Unit {0}
IsFault (TextFormat on) = ⊥

abbrev pub AreFaults : Notes → Type 0
AreFaults ns = k.Each (λ (n : note_type.Note). IsFault n.noted) ns

fault-both : (v : Noted) → IsFault v → IsNoFault v → ⊥
fault-both (Fault f) h g = g
fault-both (TextFormat on) h g = h

pub faults-none : (ns : Notes) → AreFaults ns → IsFaultless ns → ns ≡ []
faults-none [] h f = refl
faults-none (n ∷ ns) h f = absurd (fault-both n.noted h.0 f.0)

both-faults : (a b : Notes) → AreFaults a → AreFaults b → AreFaults (a ++ b)
both-faults [] b h g = g
both-faults (n ∷ a) b h g = (h.0, both-faults a b h.1 g)

pub cond-faults : (c : Bool) (a b : Notes) → AreFaults a → AreFaults b → AreFaults (cond c a b)
cond-faults true a b h g = h
cond-faults false a b h g = g

pub noted-faults : (fs : List ParseErrorKind) (xs : Rows Place) → AreFaults (noted fs xs)
noted-faults [] xs = tt
noted-faults (f ∷ fs) xs = both-faults (run_note f xs) (noted fs xs) (cond-faults (head_in is_invalid xs) [] (record { left = length xs; noted = Fault f } ∷ []) tt (tt, tt)) (noted-faults fs xs)

at-once-faults : (fs : List ParseErrorKind) (xs : Rows Place) → AreFaults (at_once fs xs)
at-once-faults [] xs = tt
at-once-faults (f ∷ fs) xs = (tt, at-once-faults fs xs)

pub node-faults : (x : CheckedNode Place) (xs : Rows Place) → AreFaults (node_notes x xs)
node-faults (ASyntax x) xs = noted-faults (syntax_faults (strings_value x) (strings_span x)) xs
node-faults (AnImport x) xs = both-faults _ _ (noted-faults (text_faults (strings_value x) (strings_span x)) xs) (noted-faults (path_faults (text_of (strings_value x)) (strings_span x)) xs)
node-faults (AReservedName x) xs = both-faults _ _ (noted-faults (text_faults (strings_value x) (strings_span x)) xs) (noted-faults (ident_faults (text_of (strings_value x)) (strings_span x)) xs)
node-faults (AGroupName x) xs = at-once-faults (group_faults x.0 x.1.span) xs
node-faults (APackageAgain first again) xs = (tt, tt)
node-faults (ATooDeep keyword open_at) xs = (tt, tt)

fall-wider : (b c : ℕ) (ns : Notes) → b ≤ c → Fall b ns → Fall c ns
fall-wider b c [] le h = tt
fall-wider b c (n ∷ ns) le h = (omega (arith, le, h.0), h.1)

behind-fewer : (xs : Rows Place) → length (behind xs) ≤ length xs
behind-fewer [] = omega arith
behind-fewer (x ∷ xs) = omega arith

-- behind a node without a noted fault
past-fall : (x : CheckedNode Place) (xs : Rows Place) (more : Notes) → IsFaultless (node_notes x xs ++ more) → (IsFaultless more → Fall (suc (length xs)) more) → Fall (suc (length xs)) (node_notes x xs ++ more)
past-fall x xs more f h =
    let none = faults-none (node_notes x xs) (node-faults x xs) (faultless-first (node_notes x xs) more f) in
    subst (λ v. Fall (suc (length xs)) (v ++ more)) (sym none) (h (faultless-last (node_notes x xs) more f))

told-fall : (p : Option (tree.Package Place)) (w : Place) (l : Steps Place) (xs : Rows Place) → IsFaultless (told p w l xs) → Fall (suc (length xs)) (told p w l xs)
told-fall p w [] xs f = tt
told-fall p w (Token r ∷ l) xs f = fall-wider (suc (length (behind xs))) (suc (length xs)) (told p w l (behind xs)) (omega (arith, behind-fewer xs)) (told-fall p w l (behind xs) f)
told-fall p w (Note (ANode x) ∷ l) xs f = past-fall x xs (told p w l xs) f (told-fall p w l xs)
told-fall None w (Note (APackage x) ∷ l) xs f = told-fall (Some x) w l xs f
told-fall (Some y) w (Note (APackage x) ∷ l) xs f = past-fall (APackageAgain y x) xs (told (Some y) w l xs) f (told-fall (Some y) w l xs)
told-fall p w (Note (AKeyword m) ∷ l) xs f = told-fall p m l xs f
told-fall p w (Note (ADeepBody m) ∷ l) xs f = past-fall (ATooDeep w m) xs (told p w l xs) f (told-fall p w l xs)
told-fall p w (Note (ADeeperBody m) ∷ l) xs f = told-fall p w l xs f
told-fall p w (Note (AnOpenBrace m) ∷ l) xs f = (omega arith, told-fall p w l xs f.1)
told-fall p w (Note (ACloseBrace m) ∷ l) xs f = (omega arith, told-fall p w l xs f.1)

-- ---- lexemes that are clean are tokens

abbrev pub AreValid : Rows Span → Type 0
AreValid rows = k.Each (λ (r : Row Span). is_invalid r.shape ≡ false) rows

pub not-invalid : (s : Shape) → (s ≡ Invalid → ⊥) → is_invalid s ≡ false
not-invalid Invalid h = absurd (h refl)
not-invalid (Ident t) h = refl
not-invalid (Int n) h = refl
not-invalid (Float t) h = refl
not-invalid (Str t) h = refl
not-invalid (Mark b) h = refl
not-invalid (LineComment t) h = refl
not-invalid (BlockComment t) h = refl
not-invalid Newline h = refl

pub valid-by : (x : Lexeme) (xs : List Lexeme) (b : Bool) → (x.shape ≡ Invalid → ⊥) → AreValid (rows_of xs) → AreValid (cond b (rows_of xs) (record { shape = x.shape; at = span_from x.start x.stop } ∷ rows_of xs))
valid-by x xs true h g = g
valid-by x xs false h g = (not-invalid x.shape h, g)

clean-valid : (all : List Lexeme) (n : ℕ) (xs : List Lexeme) → AreCleanBehind all n xs → AreValid (rows_of xs)
clean-valid all n [] h = tt
clean-valid all n (x ∷ xs) h = valid-by x xs (is_gap x.shape) h.0.0 (clean-valid all _ xs h.1)

pub valid-tokens : (first : Bool) (rows : Rows Span) (gaps : List (List Shape)) → AreValid rows → AreValidTokens (placed_from first rows gaps)
valid-tokens first [] gaps h = tt
valid-tokens first (r ∷ rs) gaps h = (h.0, valid-tokens false rs (later_gaps gaps) h.1)

pub clean-tokens : (lexemes : List Lexeme) → AreClean lexemes → AreValidTokens (placed_tokens lexemes)
clean-tokens lexemes h = valid-tokens true (rows_of lexemes) (table_of lexemes).gaps (clean-valid lexemes 0 lexemes h)

-- ---- the modes of rows

taken-until : {M : Type 0} (n : ℕ) (l : Steps M) → has_deep l ≡ false → n ≤ length (tokens l) → length (tokens (until n l)) ≡ n
taken-until zero [] d h = refl
taken-until (suc n) [] d h = absurd (omega (arith, h))
taken-until zero (Token r ∷ l) d h = refl
taken-until (suc n) (Token r ∷ l) d h = ap suc (taken-until n l d (omega (arith, h)))
taken-until n (Note (ADeepBody m) ∷ l) d h = absurd cc
taken-until n (Note (ADeeperBody m) ∷ l) d h = absurd cc
taken-until n (Note (ANode x) ∷ l) d h = ap (λ v. length (tokens v)) (until-note n (ANode x) l) ∙ taken-until n l d h
taken-until n (Note (APackage x) ∷ l) d h = ap (λ v. length (tokens v)) (until-note n (APackage x) l) ∙ taken-until n l d h
taken-until n (Note (AKeyword x) ∷ l) d h = ap (λ v. length (tokens v)) (until-note n (AKeyword x) l) ∙ taken-until n l d h
taken-until n (Note (AnOpenBrace x) ∷ l) d h = ap (λ v. length (tokens v)) (until-note n (AnOpenBrace x) l) ∙ taken-until n l d h
taken-until n (Note (ACloseBrace x) ∷ l) d h = ap (λ v. length (tokens v)) (until-note n (ACloseBrace x) l) ∙ taken-until n l d h

or-beyond : {A : Type 0} (none : A) (xs : List A) (n : ℕ) → length xs ≤ n → slice_index_or xs n none ≡ none
or-beyond none [] n h = refl
or-beyond none (x ∷ xs) zero h = absurd (omega (arith, h))
or-beyond none (x ∷ xs) (suc n) h = or-beyond none xs n (omega (arith, h))

shapes-many : (rs : Rows Span) → length (shapes rs) ≡ length rs
shapes-many [] = refl
shapes-many (r ∷ rs) = ap suc (shapes-many rs)

module _ (lexemes : List Lexeme) (f : tree.File Place) (spelled : Spells (placed_tokens lexemes) f) (deep : depth f ≤ levels) where
  abbrev pub rows : Rows Place
  rows = placed_tokens lexemes

  many : length rows ≡ length (rows_of lexemes)
  many = as-many true (rows_of lexemes) (table_of lexemes).gaps

  tokens-are : tokens (trace levels rows) ≡ rows
  unfolding bodies.file
  tokens-are = ap tokens (taken lexemes f spelled deep).same ∙ (grammar.laws here levels).traced.rows f ∙ sym (spelled.0)

  flat : (n : ℕ) → is_too_deep_by lexemes n ≡ false
  flat n = sym (noted_alike lexemes n).too_deep ∙ none-deep (trace levels rows) n (taken lexemes f spelled deep).shallow

  abbrev open_at : ℕ → Bool
  open_at n = open_behind false (until n (trace levels rows))

  abbrev pub on : ℕ → Bool
  on n = cond (nat_lt (length rows) n) false (open_at n)

  on-within : (n : ℕ) → n ≤ length rows → on n ≡ open_at n
  on-within n h = ap (λ c. cond c false (open_at n)) (le-ltb (length rows) n h)

  on-beyond : (n : ℕ) → length rows < n → on n ≡ false
  on-beyond n h = ap (λ c. cond c false (open_at n)) (lt-ltb (length rows) n h)

  pub is_inside : (n : ℕ) → on n ≡ true → Inside lexemes n
  is_inside n e = elim (cases_lt (length rows) n) [
    | inl lt ↦ absurd (true≢false (sym e ∙ on-beyond n lt))
    | inr le ↦
        let open_now = sym ((noted_alike lexemes n).is_open false) ∙ sym (on-within n le) ∙ e in
        let took = sym (noted_alike lexemes n).taken ∙ taken-until n (trace levels rows) (taken lexemes f spelled deep).shallow (subst (λ (v : Rows Place). n ≤ length v) (sym tokens-are) le) in
        grammar.open_is_inside lexemes n (flat n) took open_now
  ]

  pub is_on : (n : ℕ) → Inside lexemes n → on n ≡ true
  is_on n i =
      let le : n ≤ length rows = omega (arith, i.1.there, many, shapes-many (rows_of lexemes)) in
      on-within n le ∙ (noted_alike lexemes n).is_open false ∙ grammar.inside_is_open lexemes n (flat n) i

  abbrev pub total : ℕ
  total = length (rows_of lexemes) + 1

  abbrev pub entries : List (List ParseErrorKind)
  entries = faults_of lexemes

  pub mode-is : (n : ℕ) → n < total → mode_at false (total - suc n) (all_notes rows) ≡ on n
  mode-is n h =
      let le : n ≤ length rows = omega (arith, h, many) in
      let count : length rows ≡ n + (total - suc n) = omega (arith, h, many) in
      ap (mode_at false (total - suc n)) (sym (file-told rows))
      ∙ told-mode None here (trace levels rows) rows false n (total - suc n) count (omega (arith, ap length tokens-are)) (shallow-ends (trace levels rows) (taken lexemes f spelled deep).shallow)
      ∙ sym (on-within n le)

  clear-clean : AreClear entries total false (all_notes rows) 0 ↔ AreClean lexemes
  clear-clean =
      let by = clean-modes lexemes on is_inside is_on in (
        λ h. by.1 (λ n. elim (cases_lt n total) [
          | inl lt ↦ subst (λ b. faults_in b (slice_index_or entries n []) ≡ []) (mode-is n lt) (h n (omega arith) lt)
          | inr le ↦ ap (faults_in (on n)) (or-beyond [] entries n (omega (arith, le, faults_of_length lexemes))) ∙ in-none (on n)
        ]),
        λ h n a b. subst (λ c. faults_in c (slice_index_or entries n []) ≡ []) (sym (mode-is n b)) (by.0 h n),
      )

  keeps : k.Each (bodies.StatementHas k.KeepsMbody) f.statements
  unfolding bodies.file
  keeps = grammar.may-of here levels f spelled.1

  pub wrong : AreValidTokens rows → IsFaultless (all_notes rows) ↔ NothingWrong f
  wrong a =
      let h = noted-wrong here rows f a keeps (taken lexemes f spelled deep).same in
      (λ g. h.0 (subst IsFaultless (sym (file-told rows)) g), λ g. subst IsFaultless (file-told rows) (h.1 g))

  pub falls : IsFaultless (all_notes rows) → Fall (suc (length rows)) (all_notes rows)
  falls g = subst (Fall (suc (length rows))) (file-told rows) (told-fall None here (trace levels rows) rows (subst IsFaultless (sym (file-told rows)) g))

  pub no-faults : (merged_faults entries total (all_notes rows) 0 ≡ []) ↔ (NothingWrong f × AreClean lexemes)
  no-faults = (
    λ e.
        let g = faultless entries total (all_notes rows) 0 e in
        let clean = clear-clean.0 ((merged_faults-clear entries total (all_notes rows) (suc (length rows)) g (falls g)).0 e) in
        ((wrong (clean-tokens lexemes clean)).0 g, clean),
    λ h.
        let g = (wrong (clean-tokens lexemes h.1)).1 h.0 in
        (merged_faults-clear entries total (all_notes rows) (suc (length rows)) g (falls g)).1 (clear-clean.1 h.1),
  )
