-- A file with one more statement.
use Rattle.std.proofs.Common.{◌≡◌, List, [], ◌∷◌, ◌++◌, refl, sym, ap, ◌∙◌, append-nil, append_assoc}
use Rattle.std.proofs.lemmas.List.Elements.{filter_map-append}
use Rattle.std.specs.List.{filter_map}
use Rattle.protox_lexeme.specs.Shapes.{Rows}
use Rattle.protox_ast.specs.Ast as ast
use Rattle.protox_ast.specs.Places.{Place}
use Rattle.protox_ast.specs.Spelling as s
use Rattle.protox_ast.specs.Tree as tree
use Rattle.protox_ast.specs.declared.ast.File.{File}
use Rattle.protox_ast.specs.declared.ast.FileItem.{FileItem}
use Rattle.protox_ast.specs.declared.ast.FileItem.TheVariants as item_of
use Rattle.protox_ast.specs.declared.ast.Import as import_type
use Rattle.protox_ast.specs.declared.ast.Option as option_type
use Rattle.protox_ast.specs.declared.ast.Package as package_type
use Rattle.protox_syntax.proofs.RightFiles.{and_statement}
use Rattle.protox_syntax.specs.inner.Statements.{add_statement, or_package, statement_seen, statements_of, statements_seen}

pub many-more : {A : Type 0} (f : A → Rows Place) (xs : List A) (x : A) → s.many f (xs ++ x ∷ []) ≡ s.many f xs ++ f x
many-more f [] x = append-nil (f x)
many-more f (y ∷ ys) x = ap (λ l. f y ++ l) (many-more f ys x) ∙ sym (append_assoc (f y) (s.many f ys) (f x))

pub spell-more : (f : tree.File Place) (x : tree.Statement Place) → s.spell (and_statement f x) ≡ s.spell f ++ s.statement x
spell-more f x = ap (λ l. s.maybe s.syntax f.syntax ++ l) (many-more s.statement f.statements x) ∙ sym (append_assoc (s.maybe s.syntax f.syntax) (s.many s.statement f.statements) (s.statement x))

first-more : (ps : List package_type.Package) (p : package_type.Package) → ast.first_of (ps ++ p ∷ []) ≡ or_package (ast.first_of ps) p
first-more [] p = refl
first-more (q ∷ ps) p = refl

module _ (ps : List package_type.Package) (is : List import_type.Import) (os : List option_type.Option) (es : List FileItem) where
  abbrev Adds : tree.Statement Place → Type 0
  Adds x = statements_of (ast.first_of (ps ++ filter_map ast.packaged (x ∷ []))) (is ++ filter_map ast.imported (x ∷ [])) (os ++ filter_map ast.file_option (x ∷ [])) (es ++ filter_map ast.file_element (x ∷ []))
      ≡ add_statement (statements_of (ast.first_of ps) is os es) (statement_seen x)

  adds-item : (i : FileItem) → statements_of (ast.first_of (ps ++ [])) (is ++ []) (os ++ []) (es ++ i ∷ []) ≡ statements_of (ast.first_of ps) is os (es ++ i ∷ [])
  adds-item i = λ j. statements_of (ast.first_of (append-nil ps j)) (append-nil is j) (append-nil os j) (es ++ i ∷ [])

  adds : (x : tree.Statement Place) → Adds x
  adds (tree.an_empty m) = λ j. statements_of (ast.first_of (append-nil ps j)) (append-nil is j) (append-nil os j) (append-nil es j)
  adds (tree.an_import x) = λ j. statements_of (ast.first_of (append-nil ps j)) (is ++ ast.«import» x ∷ []) (append-nil os j) (append-nil es j)
  adds (tree.a_package x) = λ j. statements_of (first-more ps (ast.«package» x) j) (append-nil is j) (append-nil os j) (append-nil es j)
  adds (tree.an_option x) = λ j. statements_of (ast.first_of (append-nil ps j)) (append-nil is j) (os ++ ast.option x ∷ []) (append-nil es j)
  adds (tree.an_extend x) = adds-item (item_of.Extend (ast.extend x))
  adds (tree.a_message x) = adds-item (item_of.Message (ast.message x))
  adds (tree.an_enum x) = adds-item (item_of.Enum (ast.enum x))
  adds (tree.a_service x) = adds-item (item_of.Service (ast.service x))

pub seen-more : (xs : List (tree.Statement Place)) (x : tree.Statement Place) → statements_seen (xs ++ x ∷ []) ≡ add_statement (statements_seen xs) (statement_seen x)
seen-more xs x =
    (λ j. statements_of (ast.first_of (filter_map-append ast.packaged xs (x ∷ []) j)) (filter_map-append ast.imported xs (x ∷ []) j) (filter_map-append ast.file_option xs (x ∷ []) j) (filter_map-append ast.file_element xs (x ∷ []) j))
    ∙ adds (filter_map ast.packaged xs) (filter_map ast.imported xs) (filter_map ast.file_option xs) (filter_map ast.file_element xs) x
