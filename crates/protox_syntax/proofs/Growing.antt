-- A file that grows by right statements: the head holds them.
use Rattle.std.proofs.Common.{◌≡◌, List, [], ◌∷◌, ◌++◌, Option, None, Some, map, option_map, refl, sym, ap, subst, ◌∙◌, append-nil, append_assoc}
use Rattle.protox_fault.specs.Faults.{Span}
use Rattle.protox_ast.specs.Places.{Place}
use Rattle.protox_ast.specs.Spelling as s
use Rattle.protox_ast.specs.Tree as tree
use Rattle.protox_ast.specs.declared.ast.File.{File}
use Rattle.protox_ast.specs.declared.ast.FileItem.{FileItem}
use Rattle.protox_ast.specs.declared.ast.Package as package_type
use Rattle.protox_ast.specs.declared.ast.Syntax.{Syntax}
use Rattle.protox_grammar.proofs.Lemmas.{or_first}
use Rattle.protox_syntax.proofs.OneMore.{seen-more, spell-more}
use Rattle.protox_syntax.proofs.RightFiles.{and_statement, right-more}
use Rattle.protox_syntax.proofs.Turns.{first-added}
use Rattle.protox_syntax.specs.NextStatement.{IsRight}
use Rattle.protox_syntax.specs.declared.statement_types.Statement as statement_type
use Rattle.protox_syntax.specs.declared.statement_types.Statement.TheVariants as statement_of
use Rattle.protox_syntax.specs.inner.ParsedTable.{syntax_or_default}
use Rattle.protox_syntax.specs.inner.Parts.{IsHeld, IsReached, place_in, with_statement, with_statements}
use Rattle.protox_syntax.specs.inner.SoFar.{IsRightSoFar}
use Rattle.protox_syntax.specs.inner.SomeRead.{AreRight}
use Rattle.protox_syntax.specs.inner.Statements.{Statements, add_statement, first_place, next_first, or_package, statement_seen, statements_seen, syntax_seen}

-- ---- one statement

place-moves : (q : Option package_type.Package) (x : package_type.Package) → option_map (λ (x : package_type.Package). x.span) (or_package q x) ≡ or_first (option_map (λ (x : package_type.Package). x.span) q) x.span
place-moves None x = refl
place-moves (Some y) x = refl

-- the first package statement, where this statement is added
pub place-with : (head : File) (x : statement_type.Statement) → place_in (with_statement head x) ≡ next_first (place_in head) x
place-with head statement_of.Empty = refl
place-with head (statement_of.Import x) = refl
place-with head (statement_of.Package x) = place-moves head.«package» x
place-with head (statement_of.Option x) = refl
place-with head (statement_of.Item x) = refl

pub syntax-with : (head : File) (x : statement_type.Statement) → (with_statement head x).syntax ≡ head.syntax
syntax-with head statement_of.Empty = refl
syntax-with head (statement_of.Import x) = refl
syntax-with head (statement_of.Package x) = refl
syntax-with head (statement_of.Option x) = refl
syntax-with head (statement_of.Item x) = refl

pub span-with : (head : File) (x : statement_type.Statement) → (with_statement head x).syntax_span ≡ head.syntax_span
span-with head statement_of.Empty = refl
span-with head (statement_of.Import x) = refl
span-with head (statement_of.Package x) = refl
span-with head (statement_of.Option x) = refl
span-with head (statement_of.Item x) = refl

module _ (syntax : Syntax) (st : Statements) (gone : List FileItem) (head : File) (h : IsHeld syntax st gone head) where
  -- the head holds one more
  pub held-one : (x : statement_type.Statement) → IsHeld syntax (add_statement st x) gone (with_statement head x)
  held-one statement_of.Empty = h
  held-one (statement_of.Import x) = record { syntax_is = h.syntax_is; package_is = h.package_is; imports = ap (λ l. l ++ x ∷ []) h.imports; options = h.options; items = h.items }
  held-one (statement_of.Package x) = record { syntax_is = h.syntax_is; package_is = ap (λ q. or_package q x) h.package_is; imports = h.imports; options = h.options; items = h.items }
  held-one (statement_of.Option x) = record { syntax_is = h.syntax_is; package_is = h.package_is; imports = h.imports; options = ap (λ l. l ++ x ∷ []) h.options; items = h.items }
  held-one (statement_of.Item x) = record {
    syntax_is = h.syntax_is;
    package_is = h.package_is;
    imports = h.imports;
    options = h.options;
    items = ap (λ l. l ++ x ∷ []) h.items ∙ append_assoc gone head.items (x ∷ []);
  }

  pub place-held : place_in head ≡ first_place st
  place-held = ap (option_map (λ (x : package_type.Package). x.span)) h.package_is

-- ---- some statements

-- The file with some more statements.
abbrev pub and_statements : tree.File Place → List (tree.Statement Place) → tree.File Place
and_statements f xs = record { syntax = f.syntax; statements = f.statements ++ xs }

reached-one : (f : tree.File Place) (x : tree.Statement Place) (gone : List FileItem) (head : File) → IsReached f gone head → IsRight (place_in head) x → IsReached (and_statement f x) gone (with_statement head (statement_seen x))
reached-one f x gone head r right =
    let syntax = syntax_or_default (option_map syntax_seen f.syntax) in
    let first = first_place (statements_seen f.statements) in
    let held = held-one syntax (statements_seen f.statements) gone head r.held (statement_seen x) in
    record {
      right = subst (λ q. IsRightSoFar q (and_statement f x)) (sym (first-added (statements_seen f.statements) (statement_seen x)) ∙ ap first_place (sym (seen-more f.statements x)))
          (right-more first f x r.right (subst (λ q. IsRight q x) (place-held syntax (statements_seen f.statements) gone head r.held) right));
      syntax_span = span-with head (statement_seen x) ∙ r.syntax_span;
      held = subst (λ st. IsHeld syntax st gone (with_statement head (statement_seen x))) (sym (seen-more f.statements x)) held;
    }

pub reached-all : (f : tree.File Place) (xs : List (tree.Statement Place)) (gone : List FileItem) (head : File) → IsReached f gone head → AreRight (place_in head) xs → IsReached (and_statements f xs) gone (with_statements head (map statement_seen xs))
reached-all f [] gone head r right = subst (λ st. IsReached (record { syntax = f.syntax; statements = st }) gone head) (sym (append-nil f.statements)) r
reached-all f (x ∷ xs) gone head r right =
    let now = with_statement head (statement_seen x) in
    subst (λ st. IsReached (record { syntax = f.syntax; statements = st }) gone (with_statements now (map statement_seen xs))) (append_assoc f.statements (x ∷ []) xs)
    (reached-all (and_statement f x) xs gone now (reached-one f x gone head r right.0) (subst (λ q. AreRight q xs) (sym (place-with head (statement_seen x))) right.1))

pub spell-all : (f : tree.File Place) (xs : List (tree.Statement Place)) → s.spell (and_statements f xs) ≡ s.spell f ++ s.many s.statement xs
spell-all f [] = ap (λ st. s.spell (record { syntax = f.syntax; statements = st })) (append-nil f.statements) ∙ sym (append-nil (s.spell f))
spell-all f (x ∷ xs) =
    ap (λ st. s.spell (record { syntax = f.syntax; statements = st })) (sym (append_assoc f.statements (x ∷ []) xs)) ∙ spell-all (and_statement f x) xs
    ∙ ap (λ l. l ++ s.many s.statement xs) (spell-more f x) ∙ append_assoc (s.spell f) (s.statement x) (s.many s.statement xs)

-- the place of the first package statement behind some statements
abbrev pub place_behind : Option Span → List (tree.Statement Place) → Option Span
place_behind first [] = first
place_behind first (x ∷ xs) = place_behind (next_first first (statement_seen x)) xs

pub place-all : (head : File) (xs : List (tree.Statement Place)) → place_in (with_statements head (map statement_seen xs)) ≡ place_behind (place_in head) xs
place-all head [] = refl
place-all head (x ∷ xs) = place-all (with_statement head (statement_seen x)) xs ∙ ap (λ q. place_behind q xs) (place-with head (statement_seen x))

-- one more right statement at the end
pub right-last : (first : Option Span) (xs : List (tree.Statement Place)) (x : tree.Statement Place) → AreRight first xs → IsRight (place_behind first xs) x → AreRight first (xs ++ x ∷ [])
right-last first [] x right last = (last, tt)
right-last first (y ∷ xs) x right last = (right.0, right-last (next_first first (statement_seen y)) xs x right.1 last)

pub with-last : (head : File) (xs : List statement_type.Statement) (x : statement_type.Statement) → with_statements head (xs ++ x ∷ []) ≡ with_statement (with_statements head xs) x
with-last head [] x = refl
with-last head (y ∷ xs) x = with-last (with_statement head y) xs x
