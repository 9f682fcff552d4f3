-- Options as the code reads them, and its notes where an aggregate begins and ends.
use Rattle.std.specs.Prelude.{◌≡◌, ◌==◌, ◌-◌, ℕ, suc, Bool, true, false, if◌then◌else◌, List, [], ◌∷◌, Option, Some, None, option_map, codes}
use Rattle.std.proofs.Common.{refl}
use Rattle.protox_fault.specs.Faults.{Span}
use Rattle.protox_lexeme.specs.Shapes.{Shape, Mark, Rows}
use Rattle.protox_lexeme.specs.Printed.{printed}
use Rattle.protox_ast.specs.Tree as tree
use Rattle.protox_ast.specs.Spelling as s
use Rattle.protox_ast.specs.KeywordWalk as k
use Rattle.protox_ast.specs.Ast as ast
use Rattle.protox_ast.specs.Places.{Place}
use Rattle.protox_ast.specs.declared.ast.OptionNamePart.TheVariants as name_part
use Rattle.protox_ast.specs.declared.ast.OptionValue.{OptionValue}
use Rattle.protox_ast.specs.declared.ast.OptionValue.TheVariants as option_value
use Rattle.protox_grammar.specs.Class.{only, words, union, among}
use Rattle.protox_grammar.specs.Reader as reader
use Rattle.protox_grammar.specs.Reader.{mapped, seq, fixed}
use Rattle.protox_grammar.specs.Rule as rule
use Rattle.protox_grammar.specs.Rules as r
use Rattle.protox_grammar.specs.Steps.{AnOpenBrace, ACloseBrace}
use Rattle.protox_grammar.specs.Told.{brace_notes}
use Rattle.protox_grammar.specs.Token as token
use Rattle.protox_grammar.proofs.Lemmas.{Noting, Silent, as_is, both, choice, closed-read, list_of}
use Rattle.protox_grammar.proofs.Lemmas.{list_then, list_view, named, optional, plain-tells, renamed}
use Rattle.protox_grammar.proofs.Lemmas.{right-shows, seen, seq-shows, sign, the, three, two}
use Rattle.protox_grammar.proofs.Lemmas.{with_note}
use Rattle.protox_rows.specs.inner.Names.{ident, typename, integer, float}
use Rattle.protox_rows.specs.inner.Strings.{strings}
use Rattle.protox_declarations.specs.declared.values.Unsigned as unsigned_type
use Rattle.protox_declarations.specs.declared.values.Unsigned.TheVariants as unsigned

-- Any place.
abbrev pub here : Place
here = record { span = record { start = 0; end = 0 }; detached = []; leading = None; trailing = None }

-- ---- names

-- Reads a part of an option's name: an identifier, or an extension's name in parentheses.
unfoldable pub part : Silent r.part ast.part
unfolding r.part
part = renamed r.to_part (two _ _ (λ x. refl) (λ x. refl))
    (choice words (seen name_part.Ident ident) (seen (λ (open_at, ((name, _), close_at)). name_part.Extension name (ast.join open_at.span close_at.span)) (both (sign s.open_paren) (both typename (sign s.close_paren)))))

-- Reads a dot and a part.
unfoldable pub more_part : Silent (rule.seq (r.sign s.dot) r.part) (λ y. ast.part y.1)
more_part = seen (λ x. x.1) (both (sign s.dot) part)

-- Reads an option's name.
unfoldable pub name : Silent (rule.seq r.part (rule.times (only token.dot) (rule.seq (r.sign s.dot) r.part))) (list_view ast.part (λ y. ast.part y.1))
name = list_of (only token.dot) part more_part

-- ---- constants

-- A constant as the code sees it.
abbrev pub constant_seen : tree.Constant Place → unsigned_type.Unsigned
constant_seen (tree.ident x) = unsigned.Ident (ast.ident x)
constant_seen (tree.integer x) = unsigned.Int x.0 x.1.span
constant_seen (tree.float x) = unsigned.Float x.0 x.1.span

-- Reads a constant without its sign.
unfoldable pub constant : Silent r.constant constant_seen
unfolding r.constant
constant = renamed r.to_constant (three _ _ (λ x. refl) (λ x. refl) (λ x. refl))
    (choice words (seen unsigned.Ident ident) (choice (only token.an_integer) (seen (λ x. unsigned.Int x.0 x.1) integer) (seen (λ x. unsigned.Float x.0 x.1) float)))

-- A constant with its sign, if there is one.
abbrev pub signed_with : Option Span → unsigned_type.Unsigned → OptionValue
signed_with None (unsigned.Ident x) = option_value.Ident false x x.span
signed_with None (unsigned.Int n span) = option_value.Int (record { negative = false; value = n; span = span })
signed_with None (unsigned.Float text span) = option_value.Float (record { value = text; span = span })
signed_with (Some m) (unsigned.Ident x) = option_value.Ident true x (ast.join m x.span)
signed_with (Some m) (unsigned.Int n span) = option_value.Int (record { negative = true; value = n; span = ast.join m span })
signed_with (Some m) (unsigned.Float text span) = option_value.Float (record { value = 45 ∷ text; span = ast.join m span })

-- The code's constant is that of the tree.
pub signed_value-is : (d : Option Place) (c : tree.Constant Place) → signed_with (ast.span_if_any (option_map (λ m. m) d)) (constant_seen c) ≡ ast.value (tree.constant d c)
signed_value-is None (tree.ident x) = refl
signed_value-is None (tree.integer x) = refl
signed_value-is None (tree.float x) = refl
signed_value-is (Some m) (tree.ident x) = refl
signed_value-is (Some m) (tree.integer x) = refl
signed_value-is (Some m) (tree.float x) = refl

-- ---- aggregates

-- A token as it prints. All but the first have a space in front.
abbrev pub print_on : Bool → Shape → List ℕ
print_on true shape = printed shape
print_on false shape = 32 ∷ printed shape

-- How many braces are open after a token. None if the token closes the aggregate.
abbrev pub open_behind : ℕ → Shape → Option ℕ
open_behind unclosed shape = if k.is_open_brace shape then Some (suc unclosed) else (if k.is_close_brace shape then (if unclosed == 0 then None else Some (unclosed - 1)) else Some unclosed)

-- Reads the text up to the brace that closes the aggregate.
unfoldable pub inside : reader.Reader Place (List ℕ)
inside = mapped ast.aggregate_text (r.balanced_at 0)

-- The text of an aggregate, and the place of its closing brace.
abbrev pub text_and_brace : Rows Place × Place → List ℕ × Place
text_and_brace x = (ast.aggregate_text x.0, x.1)

-- Reads the text and the closing brace.
unfoldable pub closed : Silent r.closed text_and_brace
unfolding inside
closed = record {
  code = seq inside (fixed (Mark s.close_brace));
  notes = tt;
  shows = seq-shows (right-shows ast.aggregate_text (as_is (r.balanced_at 0))) (as_is (fixed (Mark s.close_brace)));
  tells = plain-tells (seq (r.balanced_at 0) (fixed (Mark s.close_brace))) (λ xs x e. ((r.closed).spell x.0, ((closed-read here).takes xs x e).parts));
}

-- Reads the opening brace, and notes it.
unfoldable pub opened : Noting (rule.noting AnOpenBrace (r.sign s.open_brace)) (λ m. m)
opened = with_note AnOpenBrace (λ m rest. brace_notes true rest) (λ first w x rest. refl) (λ low high xs x q h. (tt, tt)) (sign s.open_brace)

-- Reads the text and the closing brace, and notes the brace.
unfoldable pub noted_closed : Noting (rule.noting (λ (x : Rows Place × Place). ACloseBrace x.1) r.closed) text_and_brace
noted_closed = with_note (λ x. ACloseBrace x.1) (λ x rest. brace_notes false rest) (λ first w x rest. refl) (λ low high xs x q h. (tt, tt)) closed

-- The text of an aggregate, and its span with both braces.
abbrev pub aggregate_and_span : Place × (Rows Place × Place) → List ℕ × Span
aggregate_and_span x = (ast.aggregate_text x.1.0, ast.join x.0.span x.1.1.span)

-- Reads an aggregate.
unfoldable pub aggregate : Noting (rule.seq (rule.noting AnOpenBrace (r.sign s.open_brace)) (rule.noting (λ (x : Rows Place × Place). ACloseBrace x.1) r.closed)) aggregate_and_span
aggregate = seen (λ x. (x.1.0, ast.join x.0.span x.1.1.span)) (both opened noted_closed)

-- ---- values, bodies and lists

-- Reads the value of an option.
unfoldable pub value : Noting r.value ast.value
unfolding r.value
value = renamed r.to_value (three _ _ (λ x. signed_value-is x.0 x.1) (λ x. refl) (λ x. refl))
    (choice (union words (among (token.an_integer ∷ token.a_float ∷ token.minus ∷ []))) (seen (λ x. signed_with (ast.span_if_any x.0) x.1) (both (optional (only token.minus) (sign s.minus)) constant))
    (choice (only token.a_string) (seen (λ x. option_value.String (record { value = x.0; span = x.1 })) strings)
    (seen (λ x. option_value.Aggregate x.0 x.1) aggregate)))

-- Reads the name and the value of an option.
unfoldable pub body : Noting r.body ast.body
unfolding r.body
body = named _ (λ x. record { name = x.0; value = x.1.1 }) (λ x. refl) (list_then (only token.dot) part more_part (both (sign s.equals) value))

-- Reads a comma, a name and a value.
unfoldable pub more_body : Noting (rule.seq (r.sign s.comma) r.body) (λ y. ast.body y.1)
more_body = seen (λ x. x.1) (both (sign s.comma) body)

-- Reads one or more options, with commas between them.
unfoldable pub bodies : Noting (rule.seq r.body (rule.times (only token.comma) (rule.seq (r.sign s.comma) r.body))) (list_view ast.body (λ y. ast.body y.1))
bodies = list_of (only token.comma) body more_body

-- Reads a list of options in brackets.
unfoldable pub list : Noting r.list ast.list
unfolding r.list
list = named _ (λ x. record { options = x.1.0; span = ast.join x.0.span x.1.1.span }) (λ x. refl) (both (sign s.open_bracket) (list_then (only token.comma) body more_body (sign s.close_bracket)))

-- Reads a list of options, if there is one.
unfoldable pub list_if_any : Noting (rule.optional (only token.open_bracket) r.list) (option_map ast.list)
list_if_any = optional (only token.open_bracket) list

-- Reads an option statement.
unfoldable pub option : Noting r.option ast.option
unfolding r.option
option = named _ (λ x. record { body = x.1.0; comments = ast.comments x.0 x.1.1; span = ast.join x.0.span x.1.1.span }) (λ x. refl) (both (the (codes "option")) (both body (sign s.semicolon)))
