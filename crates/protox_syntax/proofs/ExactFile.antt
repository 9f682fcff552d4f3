-- The statements of a file are read exactly: the words name what is taken where reading stops.
use Rattle.std.proofs.Common.{◌≡◌, Bool, true, false, cond, ◌||◌, [], ◌∷◌, ◌++◌, length, Err, refl, ap, arith}
use Rattle.std.proofs.lemmas.Bool.{eqb-true}
use Rattle.std.specs.Prelude.{codes}
use Rattle.protox_ast.specs.Places.{Place}
use Rattle.protox_ast.specs.Spelling as s
use Rattle.protox_lexeme.specs.Shapes.{Shape, Mark, Row, Rows}
use Rattle.protox_grammar.specs.Class.{Set, among, class, in_set, none, only, union}
use Rattle.protox_grammar.specs.Reader as reader
use Rattle.protox_grammar.specs.Reader.{Unexpected, folded, fixed, seq}
use Rattle.protox_grammar.specs.Token as token
use Rattle.protox_rows.specs.Expected.{named, allowed}
use Rattle.protox_rows.specs.declared.expected.Expected.{Expected}
use Rattle.protox_rows.specs.declared.expected.Expected.TheVariants as expected
use Rattle.protox_rows.specs.inner.Words as rows
use Rattle.protox_rows.specs.inner.Words.{always, and_then}
use Rattle.protox_rows.proofs.Lemmas.{Exact, Fits, begun_with, choice-exact, file-fits}
use Rattle.protox_rows.proofs.Lemmas.{fullident-exact, mapped-exact, mark-exact, option-exact}
use Rattle.protox_rows.proofs.Lemmas.{or-none, reworded, seq-exact, strings-exact, word-exact}
use Rattle.protox_declarations.proofs.Lemmas.{option-exact-of}
use Rattle.protox_declarations.proofs.Lemmas.{enum-exact, semicolon-exact, service-exact}
use Rattle.protox_declarations.proofs.Lemmas.{extend-exact, mbody-exact, message-exact}
use Rattle.protox_syntax.specs.inner.Statements as rule
use Rattle.protox_syntax.specs.inner.Whole.{whole}
use Rattle.protox_syntax.specs.inner.Words as said

syntax_value-exact : Exact (rule.syntax_value).code (rows.strings expected.String) expected.String (only token.a_string) (λ x. only token.a_string)
unfolding rule.syntax_value
syntax_value-exact = mapped-exact (λ x. only token.a_string) _ (λ x. refl) (strings-exact expected.String)

pub syntax-exact : Exact (rule.syntax).code said.syntax expected.Syntax (only token.syntax) (λ x. none)
unfolding rule.syntax said.syntax
syntax-exact = mapped-exact (λ x. none) _ (λ x. refl)
    (seq-exact (word-exact (codes "syntax") token.syntax refl (omega arith) expected.Syntax)
    (λ m. seq-exact (mark-exact s.equals token.equals refl (omega arith) expected.Equals)
    (λ m. seq-exact syntax_value-exact (λ x. semicolon-exact expected.Semicolon) (λ x. refl) (λ x. refl)) (λ m. refl) (λ m. refl)) (λ m. refl) (λ m. refl))

-- The words `weak` and `public`.
abbrev import_words : Set
import_words = among (token.weak ∷ token.«public» ∷ [])

import_kind-exact : Exact (rule.import_kind).code (always expected.WeakOrPublic) expected.WeakOrPublic import_words (λ x. none)
unfolding rule.import_kind
import_kind-exact = begun_with import_words (λ k. ap (λ v. only token.weak k || v) (or-none (only token.«public» k)))
    (reworded (always expected.WeakOrPublic) (λ xs. same (reader.head_in (in_set (only token.weak)) xs))
    (choice-exact (mapped-exact (λ x. none) _ (λ x. refl) (word-exact (codes "weak") token.weak refl (omega arith) expected.WeakOrPublic))
    (mapped-exact (λ x. none) _ (λ x. refl) (word-exact (codes "public") token.«public» refl (omega arith) expected.WeakOrPublic)) (λ x. refl)))
  where
    same : (b : Bool) → cond b expected.WeakOrPublic expected.WeakOrPublic ≡ expected.WeakOrPublic
    same true = refl
    same false = refl

path-exact : (e : Expected) → Exact (rule.path).code (rows.strings e) e (only token.a_string) (λ x. only token.a_string)
unfolding rule.path
path-exact e = mapped-exact (λ x. only token.a_string) _ (λ x. refl) (strings-exact e)

path_end-exact : (e : Expected) → Exact (seq (rule.path).code (fixed (Mark s.semicolon))) (and_then (rule.path).code (rows.strings e) (λ path. always expected.Semicolon)) e (only token.a_string) (λ x. none)
path_end-exact e = seq-exact (path-exact e) (λ x. semicolon-exact expected.Semicolon) (λ x. refl) (λ x. refl)

pub import-exact : Exact (rule.import_).code said.import_ expected.Import (only token.«import») (λ x. none)
unfolding rule.import_ rule.import_kind_if_any said.import_
import-exact = mapped-exact (λ x. none) _ (λ x. refl)
    (seq-exact (word-exact (codes "import") token.«import» refl (omega arith) expected.Import)
    (λ m. option-exact import_kind-exact (λ o. path_end-exact (said.after_import o)) (λ x. refl) (λ x. refl)) (λ m. refl) (λ m. refl))

pub package-exact : Exact (rule.package_).code said.package_ expected.Statement (only token.«package») (λ x. none)
unfolding rule.package_ said.package_
package-exact = mapped-exact (λ x. none) _ (λ x. refl)
    (seq-exact (word-exact (codes "package") token.«package» refl (omega arith) expected.Statement)
    (λ m. seq-exact (fullident-exact expected.Ident) (λ name. mark-exact s.semicolon token.semicolon refl (omega arith) expected.DotOrSemicolon) (λ x. refl) (λ x. refl)) (λ m. refl) (λ m. refl))

-- What items begin with, and all statements.
abbrev items : Set
items = union (only token.extend) (union (only token.message) (union (only token.enum) (only token.service)))

abbrev statements : Set
statements = union (only token.semicolon) (union (only token.«import») (union (only token.«package») (union (only token.option) items)))

item-exact : Exact (rule.item_).code said.item_ expected.Statement items (λ x. none)
unfolding rule.item_ said.item_
item-exact = choice-exact (mapped-exact (λ x. none) _ (λ x. refl) (extend-exact rule.levels (mbody-exact rule.levels)))
    (choice-exact (mapped-exact (λ x. none) _ (λ x. refl) (message-exact rule.levels (mbody-exact rule.levels)))
    (choice-exact (mapped-exact (λ x. none) _ (λ x. refl) (enum-exact expected.Statement)) (mapped-exact (λ x. none) _ (λ x. refl) (service-exact expected.Statement)) (λ x. refl)) (λ x. refl)) (λ x. refl)

declared-exact : Exact (rule.declared).code said.declared expected.Statement (union (only token.option) items) (λ x. none)
unfolding rule.declared said.declared
declared-exact = choice-exact (mapped-exact (λ x. none) _ (λ x. refl) (option-exact-of expected.Statement)) item-exact (λ x. refl)

package_statement-exact : Exact (rule.package_statement).code said.package_ expected.Statement (only token.«package») (λ x. none)
unfolding rule.package_statement
package_statement-exact = mapped-exact (λ x. none) _ (λ x. refl) package-exact

pub statement-exact : Exact (rule.statement).code said.statement expected.Statement statements (λ x. none)
unfolding rule.statement said.statement
statement-exact = choice-exact (mapped-exact (λ x. none) _ (λ x. refl) (semicolon-exact expected.Semicolon))
    (choice-exact (mapped-exact (λ x. none) _ (λ x. refl) import-exact) (choice-exact package_statement-exact declared-exact (λ x. refl)) (λ x. refl)) (λ x. refl)

-- `syntax` is allowed where a statement may begin, but not named.
syntax-unnamed : (shape : Shape) → only token.syntax (class shape) ≡ true → (named expected.Statement (class shape) ≡ false) × (allowed expected.Statement (class shape) ≡ true)
syntax-unnamed shape h = let same = eqb-true (class shape) 0 h in (ap (named expected.Statement) same, ap (allowed expected.Statement) same)

-- Wherever reading a file stops, the words name only tokens that are taken there, and allow all of
-- them.
pub whole-fits : (ys t : Rows Place) → whole (ys ++ t) ≡ Err (Unexpected (length t)) → (r : Row Place) (zs : Rows Place) → Fits (said.whole (ys ++ t)) r (length zs) (whole (ys ++ (r ∷ zs)))
unfolding whole rule.syntax_if_any rule.statements_at said.whole said.statements
whole-fits ys t h r zs = file-fits (folded rule.add_statement rule.no_statements) syntax-exact statement-exact refl refl refl syntax-unnamed ys t h r zs
