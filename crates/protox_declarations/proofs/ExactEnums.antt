-- Enums are read exactly.
use Rattle.std.proofs.Common.{◌≡◌, true, ◌||◌, [], ◌∷◌, refl, ap, arith}
use Rattle.std.specs.Prelude.{codes}
use Rattle.protox_ast.specs.Places.{Place}
use Rattle.protox_ast.specs.Spelling as s
use Rattle.protox_lexeme.specs.Shapes.{Mark}
use Rattle.protox_grammar.specs.Class.{Set, among, but, in_set, none, only, union, within, words}
use Rattle.protox_grammar.specs.Reader.{Reader, folded, fixed, mapped, seq, star}
use Rattle.protox_grammar.specs.Token as token
use Rattle.protox_rows.specs.Expected.{named, allowed}
use Rattle.protox_rows.specs.declared.expected.Expected.{Expected}
use Rattle.protox_rows.specs.declared.expected.Expected.TheVariants as expected
use Rattle.protox_rows.specs.inner.Names as names
use Rattle.protox_rows.specs.inner.Words as rows
use Rattle.protox_rows.specs.inner.Words.{Words, always, and_then, times}
use Rattle.protox_rows.proofs.Lemmas.{Exact, begun_with, choice-exact, from-exact, front-exact}
use Rattle.protox_rows.proofs.Lemmas.{ident-exact, int-exact, mapped-exact, mark-exact}
use Rattle.protox_rows.proofs.Lemmas.{option-exact, or-none, seq-exact, wide-exact, word-exact}
use Rattle.protox_declarations.specs.inner.Options as options_rule
use Rattle.protox_declarations.specs.inner.OptionWords as options
use Rattle.protox_declarations.proofs.ExactOptions.{list-exact-of, option-exact-of}
use Rattle.protox_declarations.specs.inner.Enums as rule
use Rattle.protox_declarations.specs.inner.BlockWords as said
use Rattle.protox_declarations.proofs.ExactRanges.{reserved-exact}

-- One mark, with these words.
pub semicolon-exact : (e : Expected) → Exact (fixed (Mark s.semicolon)) (always e) e (only token.semicolon) (λ (x : Place). none)
semicolon-exact e = mark-exact s.semicolon token.semicolon refl (omega arith) e

pub open_brace-exact : (e : Expected) → Exact (fixed (Mark s.open_brace)) (always e) e (only token.open_brace) (λ (x : Place). none)
open_brace-exact e = mark-exact s.open_brace token.open_brace refl (omega arith) e

pub close_brace-exact : (e : Expected) → Exact (fixed (Mark s.close_brace)) (always e) e (only token.close_brace) (λ (x : Place). none)
close_brace-exact e = mark-exact s.close_brace token.close_brace refl (omega arith) e

-- A list of options and `;`, or `;` alone.
pub list_end-exact : Exact (seq (options_rule.list_if_any).code (fixed (Mark s.semicolon))) (and_then (options_rule.list_if_any).code options.list (λ given. always (options.after_list given))) expected.SemicolonOrOptions
    (union (only token.open_bracket) (only token.semicolon)) (λ x. none)
unfolding options_rule.list_if_any
list_end-exact = option-exact list-exact-of (λ o. semicolon-exact (options.after_list o)) (λ o. refl) (λ o. refl)

-- "=" int list? ";"
pub numbered-exact : (e : Expected) → Exact (seq (fixed (Mark s.equals)) (seq (names.int).code (seq (options_rule.list_if_any).code (fixed (Mark s.semicolon)))))
    (and_then (fixed (Mark s.equals)) (always e) (λ m. and_then (names.int).code rows.int (λ number. and_then (options_rule.list_if_any).code options.list (λ given. always (options.after_list given))))) e (only token.equals) (λ x. none)
numbered-exact e = seq-exact (mark-exact s.equals token.equals refl (omega arith) e) (λ m. seq-exact int-exact (λ number. list_end-exact) (λ n. refl) (λ n. refl)) (λ m. refl) (λ m. refl)

pub evalue-exact : Exact (rule.evalue).code said.evalue expected.EnumBody words (λ x. none)
unfolding rule.evalue said.evalue
evalue-exact = from-exact (λ x. none) _ (λ y ys zs x. refl) (λ xs x. refl) (seq-exact (ident-exact expected.EnumBody) (λ name. numbered-exact expected.Equals) (λ x. refl) (λ x. refl))

-- The words with which an option or a reserved statement begins.
abbrev pub keywords : Set
keywords = among (token.option ∷ token.reserved ∷ [])

pub enum_element-exact : Exact (rule.enum_element).code said.enum_element expected.EnumBody (union (only token.semicolon) (union keywords words)) (λ x. none)
unfolding rule.enum_element said.enum_element
enum_element-exact = choice-exact (mapped-exact (λ x. none) _ (λ x. refl) (semicolon-exact expected.Semicolon))
    (choice-exact (begun_with keywords (λ k. ap (λ v. only token.option k || v) (or-none (only token.reserved k)))
    (choice-exact (mapped-exact (λ x. none) _ (λ x. refl) (option-exact-of expected.EnumBody)) (mapped-exact (λ x. none) _ (λ x. refl) (reserved-exact expected.EnumBody)) (λ x. refl)))
    (mapped-exact (λ x. none) _ (λ x. refl) evalue-exact) (λ x. refl)) (λ x. refl)

-- Elements up to a `}`.
pub elements-exact : {A B : Type 0} (add : B → A → B) (start : B) {element : Reader Place A} {w : Words} {e : Expected} {first : Set} → Exact element w e first (λ x. none)
    → within (named e) (union first (only token.close_brace)) ≡ true → within (union first (only token.close_brace)) (allowed e) ≡ true → within first (but token.close_brace) ≡ true
    → Exact (seq (mapped (folded add start) (star (in_set (but token.close_brace)) element)) (fixed (Mark s.close_brace)))
    (and_then (mapped (folded add start) (star (in_set (but token.close_brace)) element)) (times (in_set (but token.close_brace)) element w) (λ x. always e)) e (union first (only token.close_brace)) (λ x. none)
elements-exact add start {element} {w} {e} {first} h low high wide =
    front-exact (folded add start) (star (in_set (but token.close_brace)) element) (fixed (Mark s.close_brace)) (times (in_set (but token.close_brace)) element w) (λ x. always e) e (union first (only token.close_brace)) (λ x. none)
    (wide-exact h (close_brace-exact e) low high (but token.close_brace) wide refl)

pub enum-exact : (e : Expected) → Exact (rule.enum_).code (said.enum_ e) e (only token.enum) (λ x. none)
unfolding rule.enum_ rule.enum_elements said.enum_ said.enum_elements
enum-exact e = mapped-exact (λ x. none) _ (λ x. refl)
    (seq-exact (word-exact (codes "enum") token.enum refl (omega arith) e)
    (λ m. seq-exact (ident-exact expected.Ident)
    (λ name. seq-exact (open_brace-exact expected.LeftBrace) (λ m. elements-exact rule.add (rule.parts_of [] [] []) enum_element-exact refl refl refl) (λ m. refl) (λ m. refl)) (λ x. refl) (λ x. refl)) (λ m. refl) (λ m. refl))
