-- A file that begins with an invalid character is refused there, and nothing is noted.
use Rattle.std.proofs.Common.{false, ◌≡◌, ℕ, suc, ◌-◌, true, cond, List, [], ◌∷◌, ◌++◌, length, Some, None, Ok, Err, refl, sym, ap, subst, ◌∙◌, append-nil, arith}
use Rattle.std.specs.Prelude.{option_to_list, slice_get}
use Rattle.protox_fault.specs.Faults.{Span}
use Rattle.protox_fault.specs.declared.error.ParseErrorKind.{ParseErrorKind}
use Rattle.protox_fault.specs.declared.error.ParseErrorKind.TheVariants as fault
use Rattle.protox_lexeme.specs.Printed.{printed}
use Rattle.protox_lexeme.specs.Table.{Table}
use Rattle.protox_ast.proofs.Lemmas.{as-many}
use Rattle.protox_lexeme.specs.Shapes.{Shape, Invalid, Row, Rows}
use Rattle.protox_ast.specs.Places.{Place, placed, placed_from}
use Rattle.protox_grammar.specs.Class.{all, in_set}
use Rattle.protox_grammar.specs.Reader.{Unexpected, fixed, gathered, head_in, star, star_at, ◌>>=◌}
use Rattle.protox_grammar.specs.Told.{checked, is_invalid, then_notes}
use Rattle.protox_grammar.proofs.Lemmas.{stated-turn}
use Rattle.protox_declarations.specs.inner.Services.{service}
use Rattle.protox_syntax.specs.AllFaults.{refusal, row_at}
use Rattle.protox_syntax.specs.inner.ParsedTable.{IsTableOf, total_of}
use Rattle.protox_syntax.specs.inner.Statements.{add_statement, declared, item_, next_first, no_statements, notes_behind, statement, statements_at, syntax_if_any}
use Rattle.protox_syntax.specs.inner.Merge.{merged_faults}
use Rattle.protox_syntax.specs.inner.Whole.{all_notes, whole}
use Rattle.protox_ast.specs.Truth.{is_terminator}
use Rattle.protox_rows.specs.Expected.{words_of}
use Rattle.protox_rows.specs.declared.expected.Expected.{Expected}
use Rattle.protox_rows.specs.declared.expected.Expected.TheVariants as expected
use Rattle.protox_syntax.specs.inner.Words as said
use Rattle.protox_syntax.proofs.ParsedTable.{AreTableFaults, unexpected_row-parsed, is-invalid}
use Rattle.protox_syntax.proofs.Turns.{statement-eats}

abbrev bad : Place → Row Place
bad m = record { shape = Invalid; at = m }

module _ (m : Place) (rs : Rows Place) where
  refused-code : statement.code (bad m ∷ rs) ≡ Err (Unexpected (suc (length rs)))
  unfolding statement declared item_ service fixed
  refused-code = refl

  refused-notes : statement.notes None (bad m ∷ rs) ≡ []
  unfolding statement declared item_ service fixed
  refused-notes = refl

  no-syntax : syntax_if_any.code (bad m ∷ rs) ≡ Ok (None, bad m ∷ rs)
  unfolding syntax_if_any
  no-syntax = refl

  no-syntax-notes : syntax_if_any.notes (bad m ∷ rs) ≡ []
  unfolding syntax_if_any
  no-syntax-notes = refl

  refused-statements : statements_at (bad m ∷ rs) ≡ Err (Unexpected (suc (length rs)))
  unfolding statements_at star star_at
  refused-statements = ap (λ v. gathered add_statement no_statements (v >>= λ y. star_at (in_set all) statement.code (suc (length rs)) y.1 >>= λ z. Ok (y.0 ∷ z.0, z.1))) refused-code

  refused-whole : whole (bad m ∷ rs) ≡ Err (Unexpected (suc (length rs)))
  unfolding whole
  refused-whole = ap (λ v. v >>= λ x. statements_at x.1 >>= λ y. Ok ((x.0, y.0), y.1)) no-syntax ∙ ap (λ v. v >>= λ y. Ok ((None, y.0), y.1)) refused-statements

  no-notes : all_notes (bad m ∷ rs) ≡ []
  unfolding all_notes
  no-notes =
      (λ i. no-syntax-notes i ++ then_notes (notes_behind None) (no-syntax i))
      ∙ stated-turn (in_set all) next_first statement.code statement.notes statement-eats None (bad m ∷ rs) refl
      ∙ (λ i. refused-notes i ++ checked (λ x rest. notes_behind (next_first None x) rest) (refused-code i))

abbrev IsRefusedFirst : Rows Place → Type 0
IsRefusedFirst xs = (whole xs ≡ Err (Unexpected (length xs))) × (all_notes xs ≡ [])

pub invalid-first : (xs : Rows Place) → head_in is_invalid xs ≡ true → IsRefusedFirst xs
invalid-first [] h = absurd cc
invalid-first (r ∷ rs) h = subst (λ s. IsRefusedFirst (record { shape = s; at = r.at } ∷ rs)) (sym (is-invalid r.shape h)) (refused-whole r.at rs, no-notes r.at rs)

-- ---- what is answered then

first-none : (text : List ℕ) (rows : Rows Span) (gaps : List (List Shape)) → head_in is_invalid (placed_from true rows gaps) ≡ true → refusal text (slice_get rows 0) ≡ None
first-none text [] gaps h = absurd cc
first-none text (r ∷ rs) gaps h = ap (λ b. cond b None (Some (fault.UnexpectedToken r.at text (printed r.shape)))) h

-- No words name the end of a string or a comment.
pub words-plain : (e : Expected) → is_terminator (words_of e) ≡ false
words-plain expected.Syntax = refl
words-plain expected.Import = refl
words-plain expected.Message = refl
words-plain expected.Returns = refl
words-plain expected.To = refl
words-plain expected.Dot = refl
words-plain expected.Minus = refl
words-plain expected.Equals = refl
words-plain expected.Semicolon = refl
words-plain expected.Comma = refl
words-plain expected.LeftParen = refl
words-plain expected.RightParen = refl
words-plain expected.LeftBrace = refl
words-plain expected.RightBrace = refl
words-plain expected.LeftBracket = refl
words-plain expected.LeftAngleBracket = refl
words-plain expected.RightAngleBracket = refl
words-plain expected.Statement = refl
words-plain expected.Ident = refl
words-plain expected.Int = refl
words-plain expected.Type = refl
words-plain expected.TypeName = refl
words-plain expected.String = refl
words-plain expected.StringLiteral = refl
words-plain expected.ImportString = refl
words-plain expected.WeakOrPublic = refl
words-plain expected.MessageBody = refl
words-plain expected.OneofBody = refl
words-plain expected.ExtendBody = refl
words-plain expected.EnumBody = refl
words-plain expected.ServiceBody = refl
words-plain expected.RpcBody = refl
words-plain expected.SemicolonOrOptions = refl
words-plain expected.BraceOrOptions = refl
words-plain expected.StreamOrType = refl
words-plain expected.SemicolonOrBrace = refl
words-plain expected.ReservedItem = refl
words-plain expected.CommaOrSemicolon = refl
words-plain expected.AfterReservedStart = refl
words-plain expected.AfterExtensionStart = refl
words-plain expected.IntOrMax = refl
words-plain expected.AfterExtensionEnd = refl
words-plain expected.CommaOrRightBracket = refl
words-plain expected.OptionName = refl
words-plain expected.EqualsOrDot = refl
words-plain expected.Constant = refl
words-plain expected.Numeric = refl
words-plain expected.DotOrIdent = refl
words-plain expected.DotOrSemicolon = refl
words-plain expected.DotOrLeftBrace = refl
words-plain expected.DotOrRightParen = refl
words-plain expected.DotOrComma = refl
words-plain expected.DotOrRightAngleBracket = refl

pub invalid-parsed : (t : Table) (size : ℕ) → IsTableOf size t → (total left : ℕ) (errors : List ParseErrorKind) → total ≡ total_of t → left ≡ length t.rows → head_in is_invalid (placed t) ≡ true → errors ≡ merged_faults t.faults total [] left → AreTableFaults t size errors
invalid-parsed t size tab total left errors is left-is h e =
    let first = invalid-first (placed t) h in
    let counted : length (placed t) ≡ left = omega (arith, as-many true t.rows t.gaps, left-is) in
    let start : 0 ≡ length t.rows - left = omega (arith, left-is) in
    let text = words_of (said.whole (placed t)) in
    let none : refusal text (row_at t.rows left) ≡ None = ap (λ n. refusal text (slice_get t.rows n)) (sym start) ∙ first-none text t.rows t.gaps h in
    unexpected_row-parsed t size tab [] total left text errors errors is (words-plain (said.whole (placed t)), refl) (first.0 ∙ ap (λ n. Err (Unexpected n)) counted) (sym first.1) e (sym (append-nil errors) ∙ ap (λ o. errors ++ option_to_list o) (sym none))
