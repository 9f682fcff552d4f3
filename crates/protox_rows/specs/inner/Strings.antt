-- Runs of strings, as the code reads and checks them.
use Rattle.std.specs.Prelude.{◌≡◌, ℕ, List, [], ◌∷◌, ◌++◌, map}
use Rattle.std.proofs.Common.{sym, ap, ◌∙◌, append-nil, append_assoc}
use Rattle.protox_fault.specs.Faults.{Span, SpanLiesIn}
use Rattle.protox_lexeme.specs.Shapes.{Rows}
use Rattle.protox_ast.specs.Tree as tree
use Rattle.protox_ast.specs.Ast as ast
use Rattle.protox_ast.specs.CheckedNodes.{CheckedNode}
use Rattle.protox_ast.specs.Places.{Place}
use Rattle.protox_grammar.specs.Class.{only}
use Rattle.protox_grammar.specs.Reader.{folded, see_text}
use Rattle.protox_grammar.specs.Rules as r
use Rattle.protox_grammar.specs.Steps.{ANode}
use Rattle.protox_grammar.specs.Told.{Notes, node_notes}
use Rattle.protox_grammar.specs.Token as token
use Rattle.protox_grammar.proofs.Lemmas.{AllLie, Noting, Silent, both, named, one, run-lies, seen}
use Rattle.protox_grammar.proofs.Lemmas.{times, with_note}
use Rattle.protox_rows.specs.inner.Names.{with_span}

-- Reads one string.
unfoldable pub string : Silent r.string with_span
string = seen with_span (one see_text)

-- Two strings in a row are one, with one span for both.
abbrev pub more_string : List ℕ × Span → List ℕ × Span → List ℕ × Span
more_string a b = (a.0 ++ b.0, ast.join a.1 b.1)

-- The value of a run of strings, and its span.
abbrev pub joined : tree.Strings Place → List ℕ × Span
joined x = (ast.strings_value x, ast.strings_span x)

-- The span of one string.
abbrev string_place : tree.Text Place → Span
string_place y = y.1.span

strings-folded : (value : List ℕ) (start last : Span) (xs : List (tree.Text Place)) → folded more_string (value, ast.join start last) (map with_span xs) ≡ (value ++ ast.values xs, ast.join start (ast.last_place string_place last xs))
strings-folded value start last [] = ap (λ v. (v, ast.join start last)) (sym (append-nil value))
strings-folded value start last (x ∷ xs) = strings-folded (value ++ x.0) start x.1.span xs ∙ ap (λ v. (v, ast.join start (ast.last_place string_place x.1.span xs))) (append_assoc value x.0 (ast.values xs))

-- Joining the strings one by one gives the value and the span of the run.
pub strings-is : (x : tree.Text Place) (xs : List (tree.Text Place)) → folded more_string (with_span x) (map with_span xs) ≡ joined (record { first = x; others = xs })
strings-is x xs = strings-folded x.0 x.1.span x.1.span xs

-- Reads a run of strings as one string.
unfoldable pub strings : Silent r.strings joined
unfolding r.strings
strings = named _ (λ x. folded more_string x.0 x.1) (λ x. strings-is x.0 x.1) (both string (times (only token.a_string) string))

-- Reads a run of strings, and notes the faults of its node.
abbrev pub checked_strings : (node : tree.Strings Place → CheckedNode Place) (check : List ℕ × Span → Rows Place → Notes)
    → ((x : tree.Strings Place) (rest : Rows Place) → node_notes (node x) rest ≡ check (joined x) rest) → ((high : ℕ) (x : List ℕ × Span) (rest : Rows Place) → SpanLiesIn high x.1 → AllLie high (check x rest))
    → Noting (r.noted_strings node) joined
checked_strings node check e lie =
    with_note (λ x. ANode (node x)) check (λ first w x rest. append-nil (node_notes (node x) rest) ∙ e x rest) (λ low high xs x q h. lie high (joined x.0) x.1 (run-lies x.0.first.1 low high xs x q h)) strings
