-- The text of an aggregate is cut into the tokens that it was made of.
use Rattle.std.proofs.Common.{◌≡◌, ◌⊎◌, inl, inr, ℕ, Bool, true, false, List, [], ◌∷◌, ◌++◌, refl, sym, ap, subst, ◌∙◌, append-nil}
use Rattle.std.specs.Str.{IsUtf8}
use Rattle.protox_fault.specs.Faults.{Span}
use Rattle.protox_lexeme.specs.Lexemes.{cut}
use Rattle.protox_lexeme.specs.Printed.{printed}
use Rattle.protox_lexeme.specs.Shapes.{Shape, Invalid, Row, Rows}
use Rattle.protox_lexeme.specs.Table.{rows_of, table_of}
use Rattle.protox_lex.specs.LexesBack.{IsPrintable, ArePrintable, spaced}
use Rattle.protox_lex.proofs.Lemmas.{Gives, gives, printable_rows, utf8_bytes}
use Rattle.protox_ast.specs.Accepted.{IsAccepted}
use Rattle.protox_ast.specs.Fronts.{aggregates}
use Rattle.protox_ast.specs.AstParts.{aggregate_text}
use Rattle.protox_ast.specs.Fronts.{AreClean}
use Rattle.protox_ast.specs.Keywords.{Each}
use Rattle.protox_ast.specs.Places.{Place, later_gaps, placed, placed_from}
use Rattle.protox_ast.specs.Spelling.{◌⌢◌, sign, open_brace, close_brace}
use Rattle.protox_ast.specs.Spells.{shapes}
use Rattle.protox_ast.specs.Tree as tree
use Rattle.protox_grammar.specs.Told.{is_invalid, AreValidTokens}
use Rattle.protox_grammar.proofs.Lemmas.{each-all}
use Rattle.protox_syntax.specs.Aggregates.{LexBack, AggregatesLexBack}
use Rattle.protox_syntax.proofs.Entries.{all-each}
use Rattle.protox_syntax.proofs.Modes.{clean-tokens}

-- ---- the text of tokens

text-behind : (r : Row Place) (rs : Rows Place) → aggregate_text (r ∷ rs) ≡ spaced (shapes (r ∷ rs))
text-behind r [] = append-nil (printed r.shape)
text-behind r (q ∷ rs) = ap (λ t. printed r.shape ++ (32 ∷ t)) (text-behind q rs)

text-is : (rows : Rows Place) → aggregate_text rows ≡ spaced (shapes rows)
text-is [] = refl
text-is (r ∷ rs) = text-behind r rs

lex-back : (rows : Rows Place) → ArePrintable (shapes rows) → LexBack rows
lex-back rows h = subst (λ t. Gives (shapes rows) (cut 0 t)) (sym (text-is rows)) (gives (shapes rows) h)

-- ---- the tokens of a source

abbrev Prints : Shape → Type 0
Prints s = (s ≡ Invalid) ⊎ IsPrintable s

token-prints : (s : Shape) → Prints s → is_invalid s ≡ false → IsPrintable s
token-prints s (inl e) v = absurd (let no : true ≡ false = sym (ap is_invalid e) ∙ v in cc)
token-prints s (inr p) v = p

tokens-print : (first : Bool) (rows : Rows Span) (gaps : List (List Shape)) → Each (λ (r : Row Span). Prints r.shape) rows
    → AreValidTokens (placed_from first rows gaps) → ArePrintable (shapes (placed_from first rows gaps))
tokens-print first [] gaps h v = tt
tokens-print first (r ∷ rs) gaps h v = (token-prints r.shape h.0 v.0, tokens-print false rs (later_gaps gaps) h.1 v.1)

pub behind-print : (xs ys : Rows Place) → ArePrintable (shapes (xs ++ ys)) → ArePrintable (shapes ys)
behind-print [] ys h = h
behind-print (x ∷ xs) ys h = behind-print xs ys h.1

pub front-print : (xs ys : Rows Place) → ArePrintable (shapes (xs ++ ys)) → ArePrintable (shapes xs)
front-print [] ys h = tt
front-print (x ∷ xs) ys h = (h.0, front-print xs ys h.1)

module _ (source : List ℕ) (u : IsUtf8 source) where
  abbrev rows : Rows Place
  rows = placed (table_of (cut 0 source))

  all-print : AreClean (cut 0 source) → ArePrintable (shapes rows)
  all-print clean =
      let each = all-each (λ (r : Row Span). Prints r.shape) (rows_of (cut 0 source)) (printable_rows source (utf8_bytes source u)) in
      tokens-print true (rows_of (cut 0 source)) (table_of (cut 0 source)).gaps each (clean-tokens (cut 0 source) clean)

  inside-back : AreClean (cut 0 source) → (braces : Place × Place) (before inside behind : Rows Place)
      → rows ≡ before ⌢ sign open_brace braces.0 ⌢ inside ⌢ sign close_brace braces.1 ⌢ behind → LexBack inside
  inside-back clean braces before inside behind e =
      let all = subst (λ (xs : Rows Place). ArePrintable (shapes xs)) e (all-print clean) in
      let opened = behind-print before (sign open_brace braces.0 ⌢ inside ⌢ sign close_brace braces.1 ⌢ behind) all in
      lex-back inside (front-print inside (sign close_brace braces.1 ⌢ behind) opened.1)

  pub aggregates-lex-back : (f : tree.File Place) → IsAccepted source f → AggregatesLexBack source f
  aggregates-lex-back f a = each-all _ (inside-back a.clean) (aggregates f)
