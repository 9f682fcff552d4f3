-- How the code reads and notes the statements of a file.
use Rattle.std.specs.Prelude.{◌≡◌, ℕ, List, [], ◌∷◌, ◌++◌, map, Option, Some, None, option_map, ◌⊎◌, codes}
use Rattle.std.specs.List.{filter_map}
use Rattle.std.proofs.Common.{refl, sym, ap, ◌∙◌, append-nil, append_assoc, inl, inr}
use Rattle.protox_fault.specs.Faults.{Span}
use Rattle.protox_lexeme.specs.Shapes.{Rows}
use Rattle.protox_ast.specs.Tree as tree
use Rattle.protox_ast.specs.Spelling as s
use Rattle.protox_ast.specs.Ast as ast
use Rattle.protox_ast.specs.CheckedNodes.{ASyntax, AnImport}
use Rattle.protox_ast.specs.Places.{Place}
use Rattle.protox_ast.specs.declared.ast.Comments.{Comments}
use Rattle.protox_ast.specs.declared.ast.FileItem as item_type
use Rattle.protox_ast.specs.declared.ast.FileItem.TheVariants as item
use Rattle.protox_ast.specs.declared.ast.Import as import_type
use Rattle.protox_ast.specs.declared.ast.ImportKind.TheVariants as import_kinds
use Rattle.protox_ast.specs.declared.ast.Option as option_type
use Rattle.protox_ast.specs.declared.ast.Package as package_type
use Rattle.protox_ast.specs.declared.ast.Syntax as syntax_type
use Rattle.protox_grammar.specs.Bodies as bodies
use Rattle.protox_grammar.specs.Class.{only, among, all, in_set}
use Rattle.protox_grammar.specs.Reader.{Reader, folded, gathered, star}
use Rattle.protox_grammar.specs.Rule as rule
use Rattle.protox_grammar.specs.Rules as r
use Rattle.protox_grammar.specs.Steps.{APackage}
use Rattle.protox_grammar.specs.Told as told
use Rattle.protox_grammar.specs.Token as token
use Rattle.protox_grammar.proofs.Lemmas as kept
use Rattle.protox_grammar.proofs.Lemmas.{KeepsFirst, Noting, Shows, Silent, Stated, both, choice}
use Rattle.protox_grammar.proofs.Lemmas.{import-lie, named, optional, or_first, package-lies}
use Rattle.protox_grammar.proofs.Lemmas.{packaged, renamed, right-shows, seen, shown_by, shows-by}
use Rattle.protox_grammar.proofs.Lemmas.{sign, star-shows, stated, stated_choice, stated_notes}
use Rattle.protox_grammar.proofs.Lemmas.{stated_renamed, syntax-lie, the, two}
use Rattle.protox_rows.specs.inner.Names.{fullident}
use Rattle.protox_rows.specs.inner.Strings.{checked_strings}
use Rattle.protox_declarations.specs.inner.Options.{here, option}
use Rattle.protox_declarations.specs.inner.Enums.{enum_}
use Rattle.protox_declarations.specs.inner.Services.{service}
use Rattle.protox_declarations.specs.inner.Bodies as messages
use Rattle.protox_syntax.specs.declared.statement_types.Statement as statement_type
use Rattle.protox_syntax.specs.declared.statement_types.Statement.TheVariants as statement_of

-- ---- the syntax statement

-- a syntax statement as the code keeps it: the syntax, and where it stands
abbrev pub syntax_seen : tree.Syntax Place → syntax_type.Syntax × (Span × Comments)
syntax_seen x = (ast.syntax_of (ast.strings_value x.value), ast.syntax_place x)

-- string+ , read as the name of a syntax
unfoldable pub syntax_value : Noting (r.noted_strings ASyntax) (λ x. ast.syntax_of (ast.strings_value x))
syntax_value = seen (λ x. ast.syntax_of x.0) (checked_strings ASyntax told.syntax_notes (λ x rest. refl) syntax-lie)

-- syntax = "syntax" "=" string+ ";"
unfoldable pub syntax : Noting r.syntax syntax_seen
unfolding r.syntax
syntax = named _ (λ (keyword, (_, (value, end))). (value, (ast.join keyword.span end.span, ast.comments keyword end))) (λ x. refl) (both (the (codes "syntax")) (both (sign s.equals) (both syntax_value (sign s.semicolon))))

-- syntax?
unfoldable pub syntax_if_any : Noting (rule.optional (only token.syntax) r.syntax) (option_map syntax_seen)
syntax_if_any = optional (only token.syntax) syntax

-- ---- imports and packages

-- "weak" | "public"
unfoldable pub import_kind : Silent r.import_kind ast.import_kind
unfolding r.import_kind
import_kind = renamed r.to_import_kind (two _ _ (λ x. refl) (λ x. refl))
    (choice (only token.weak) (seen (λ (p : Place). (import_kinds.Weak, p.span)) (the (codes "weak"))) (seen (λ (p : Place). (import_kinds.Public, p.span)) (the (codes "public"))))

-- ("weak" | "public")?
unfoldable pub import_kind_if_any : Silent (rule.optional (among (token.weak ∷ token.«public» ∷ [])) r.import_kind) (option_map ast.import_kind)
import_kind_if_any = optional (among (token.weak ∷ token.«public» ∷ [])) import_kind

-- a run of strings as a path, with its span
abbrev pub path_seen : tree.Strings Place → List ℕ × Span
path_seen x = (ast.text_of (ast.strings_value x), ast.strings_span x)

-- string+ , read as an import's path
unfoldable pub path : Noting (r.noted_strings AnImport) path_seen
path = seen (λ x. (ast.text_of x.0, x.1)) (checked_strings AnImport told.import_notes (λ x rest. refl) import-lie)

-- import = "import" ("weak" | "public")? string+ ";"
unfoldable pub import_ : Noting r.«import» ast.«import»
unfolding r.«import»
import_ = named _ (λ (keyword, (kind, ((value, value_span), end))). record { kind = kind; value = value; value_span = value_span; comments = ast.comments keyword end; span = ast.join keyword.span end.span }) (λ x. refl)
    (both (the (codes "import")) (both import_kind_if_any (both path (sign s.semicolon))))

-- package = "package" fullident ";"
unfoldable pub package_ : Silent r.«package» ast.«package»
unfolding r.«package»
package_ = named _ (λ x. record { name = x.1.0; comments = ast.comments x.0 x.1.1; span = ast.join x.0.span x.1.1.span }) (λ x. refl) (both (the (codes "package")) (both fullident (sign s.semicolon)))

-- ---- statements

-- a statement as the code keeps it
abbrev pub statement_seen : tree.Statement Place → statement_type.Statement
statement_seen (tree.an_empty m) = statement_of.Empty
statement_seen (tree.an_import x) = statement_of.Import (ast.«import» x)
statement_seen (tree.a_package x) = statement_of.Package (ast.«package» x)
statement_seen (tree.an_option x) = statement_of.Option (ast.option x)
statement_seen (tree.an_extend x) = statement_of.Item (item.Extend (ast.extend x))
statement_seen (tree.a_message x) = statement_of.Item (item.Message (ast.message x))
statement_seen (tree.an_enum x) = statement_of.Item (item.Enum (ast.enum x))
statement_seen (tree.a_service x) = statement_of.Item (item.Service (ast.service x))

-- the place of a package statement; 0 to 0 for any other statement
abbrev pub package_place : statement_type.Statement → Span
package_place (statement_of.Package x) = x.span
package_place _ = record { start = 0; end = 0 }

-- the place of the first package statement, once this statement is read
abbrev pub next_first : Option Span → statement_type.Statement → Option Span
next_first q (statement_of.Package x) = or_first q x.span
next_first q _ = q

-- the limit of levels of bodies
abbrev pub levels : ℕ
levels = 31

-- an `extend`, with bodies of at most 31 levels
abbrev pub extend_rule : rule.Rule Place (tree.Extend Place)
extend_rule = bodies.extend (bodies.mbody_at levels)

-- a message, with bodies of at most 31 levels
abbrev pub message_rule : rule.Rule Place (tree.Message Place)
message_rule = bodies.message (bodies.mbody_at levels)

-- an item as the code keeps it
abbrev pub item_seen : tree.Extend Place ⊎ (tree.Message Place ⊎ (tree.Enum Place ⊎ tree.Service Place)) → statement_type.Statement
item_seen (inl x) = statement_of.Item (item.Extend (ast.extend x))
item_seen (inr (inl x)) = statement_of.Item (item.Message (ast.message x))
item_seen (inr (inr (inl x))) = statement_of.Item (item.Enum (ast.enum x))
item_seen (inr (inr (inr x))) = statement_of.Item (item.Service (ast.service x))

-- The item is what the code keeps of it, for each kind.
pub item-is : (x : tree.Extend Place ⊎ (tree.Message Place ⊎ (tree.Enum Place ⊎ tree.Service Place)))
    → rule.on_sum (λ x. statement_of.Item (item.Extend (ast.extend x))) (rule.on_sum (λ x. statement_of.Item (item.Message (ast.message x))) (rule.on_sum (λ x. statement_of.Item (item.Enum (ast.enum x))) (λ x. statement_of.Item (item.Service (ast.service x))))) x
    ≡ item_seen x
item-is (inl x) = refl
item-is (inr (inl x)) = refl
item-is (inr (inr (inl x))) = refl
item-is (inr (inr (inr x))) = refl

-- extend | message | enum | service
abbrev pub item_rule : rule.Rule Place (tree.Extend Place ⊎ (tree.Message Place ⊎ (tree.Enum Place ⊎ tree.Service Place)))
item_rule = rule.choice (only token.extend) extend_rule (rule.choice (only token.message) message_rule (rule.choice (only token.enum) r.enum r.service))

-- extend | message | enum | service
unfoldable pub item_ : Noting item_rule item_seen
item_ = shown_by item-is (choice (only token.extend) (seen (λ x. statement_of.Item (item.Extend x)) (messages.extend levels (messages.mbody_at levels)))
    (choice (only token.message) (seen (λ x. statement_of.Item (item.Message x)) (messages.message levels (messages.mbody_at levels)))
    (choice (only token.enum) (seen (λ x. statement_of.Item (item.Enum x)) enum_) (seen (λ x. statement_of.Item (item.Service x)) service))))

-- Reading an item leaves the first package statement as it was.
pub item-first : KeepsFirst item_rule.read item_rule.trace
item-first = kept.choice-first (only token.extend) _ _ _ _ (kept.extend-first here) (kept.choice-first (only token.message) _ _ _ _ (kept.message-first here) (kept.choice-first (only token.enum) _ _ _ _ (kept.enum-first here) (kept.service-first here)))

-- a statement of any kind but an empty one, an import or a package
abbrev pub declared_seen : tree.OptionStatement Place ⊎ (tree.Extend Place ⊎ (tree.Message Place ⊎ (tree.Enum Place ⊎ tree.Service Place))) → statement_type.Statement
declared_seen (inl x) = statement_of.Option (ast.option x)
declared_seen (inr x) = item_seen x

-- option | extend | message | enum | service
unfoldable pub declared : Noting (rule.choice (only token.option) r.option item_rule) declared_seen
declared = shown_by (two _ _ (λ x. refl) (λ x. refl)) (choice (only token.option) (seen statement_of.Option option) item_)

-- Reading such a statement leaves the first package statement as it was.
pub declared-first : KeepsFirst (rule.choice (only token.option) r.option item_rule).read (rule.choice (only token.option) r.option item_rule).trace
declared-first = kept.choice-first (only token.option) _ _ _ _ (kept.option-first here) item-first

-- ";" | import | package | option | extend | message | enum | service
abbrev pub statement_rule : rule.Rule Place (tree.Statement Place)
statement_rule = bodies.statement (bodies.mbody_at levels)

-- An item leaves the place of the first package statement as it was.
pub next-is : (q : Option Span) (x : tree.Extend Place ⊎ (tree.Message Place ⊎ (tree.Enum Place ⊎ tree.Service Place))) → next_first q (item_seen x) ≡ q
next-is q (inl x) = refl
next-is q (inr (inl x)) = refl
next-is q (inr (inr (inl x))) = refl
next-is q (inr (inr (inr x))) = refl

-- Such a statement leaves the place of the first package statement as it was.
pub declared-next : (q : Option Span) (x : tree.OptionStatement Place ⊎ (tree.Extend Place ⊎ (tree.Message Place ⊎ (tree.Enum Place ⊎ tree.Service Place)))) → next_first q (declared_seen x) ≡ q
declared-next q (inl x) = refl
declared-next q (inr x) = next-is q x

-- a package statement, with the check that it is the first
unfoldable pub package_statement : Stated (rule.noting APackage r.«package»).read (rule.noting APackage r.«package»).trace (λ x. statement_of.Package (ast.«package» x)) next_first
package_statement = packaged next_first package_place (λ x. refl) (λ q x. refl) (λ low high xs y e h. package-lies here low high xs y e h) (seen statement_of.Package package_) (kept.package-first here)

-- The statement is what the code keeps of it, for each kind from packages on.
pub statement-is : (x : tree.Package Place ⊎ (tree.OptionStatement Place ⊎ (tree.Extend Place ⊎ (tree.Message Place ⊎ (tree.Enum Place ⊎ tree.Service Place)))))
    → rule.on_sum (λ x. statement_of.Package (ast.«package» x)) declared_seen x ≡ statement_seen (bodies.to_statement (inr (inr x)))
statement-is (inl x) = refl
statement-is (inr (inl x)) = refl
statement-is (inr (inr (inl x))) = refl
statement-is (inr (inr (inr (inl x)))) = refl
statement-is (inr (inr (inr (inr (inl x))))) = refl
statement-is (inr (inr (inr (inr (inr x))))) = refl

-- The statement is what the code keeps of it, for each kind.
pub form-is : (x : bodies.Form Place) → rule.on_sum (λ m. statement_of.Empty) (rule.on_sum (λ x. statement_of.Import (ast.«import» x)) (rule.on_sum (λ x. statement_of.Package (ast.«package» x)) declared_seen)) x ≡ statement_seen (bodies.to_statement x)
form-is (inl x) = refl
form-is (inr (inl x)) = refl
form-is (inr (inr x)) = statement-is x

-- ";" | import | package | option | extend | message | enum | service
unfoldable pub statement : Stated statement_rule.read statement_rule.trace statement_seen next_first
unfolding bodies.statement
statement = stated_renamed bodies.to_statement statement_seen form-is
    (stated_choice (only token.semicolon) (stated (seen (λ m. statement_of.Empty) (sign s.semicolon)) (kept.plain-first _) (λ q x. refl))
    (stated_choice (only token.«import») (stated (seen statement_of.Import import_) (kept.import-first here) (λ q x. refl))
    (stated_choice (only token.«package») package_statement (stated declared declared-first declared-next))))

-- ---- what statements add to a file

-- What the statements of a file declare. Only the first package is kept.
pub record Statements : Type 0 where
  pub first : Option package_type.Package
  pub imports : List import_type.Import
  pub options : List option_type.Option
  pub items : List item_type.FileItem

-- the first of two package statements
abbrev pub or_package : Option package_type.Package → package_type.Package → Option package_type.Package
or_package None x = Some x
or_package (Some first) x = Some first

-- A statement adds what it declares.
abbrev pub add_statement : Statements → statement_type.Statement → Statements
add_statement f statement_of.Empty = f
add_statement f (statement_of.Import x) = record f { imports = f.imports ++ x ∷ [] }
add_statement f (statement_of.Package x) = record f { first = or_package f.first x }
add_statement f (statement_of.Option x) = record f { options = f.options ++ x ∷ [] }
add_statement f (statement_of.Item x) = record f { items = f.items ++ x ∷ [] }

-- these lists as one value
abbrev pub statements_of : Option package_type.Package → List import_type.Import → List option_type.Option → List item_type.FileItem → Statements
statements_of a b c d = record { first = a; imports = b; options = c; items = d }

-- no statement yet
abbrev pub no_statements : Statements
no_statements = statements_of None [] [] []

-- the first package of the list, if none was there before
abbrev pub or_later : Option package_type.Package → List package_type.Package → Option package_type.Package
or_later None xs = ast.first_of xs
or_later (Some first) xs = Some first

-- All statements add what they declare.
abbrev pub then_statements : Statements → List (tree.Statement Place) → Statements
then_statements f xs = statements_of (or_later f.first (filter_map ast.packaged xs)) (f.imports ++ filter_map ast.imported xs) (f.options ++ filter_map ast.file_option xs) (f.items ++ filter_map ast.file_element xs)

later-none : (q : Option package_type.Package) → q ≡ or_later q []
later-none None = refl
later-none (Some x) = refl

later-more : (q : Option package_type.Package) (x : package_type.Package) (xs : List package_type.Package) → or_later (or_package q x) xs ≡ or_later q (x ∷ xs)
later-more None x xs = refl
later-more (Some y) x xs = refl

item-added : (f : Statements) (y : item_type.FileItem) (xs : List (tree.Statement Place)) (ys : List item_type.FileItem)
    → statements_of (or_later f.first (filter_map ast.packaged xs)) (f.imports ++ filter_map ast.imported xs) (f.options ++ filter_map ast.file_option xs) ((f.items ++ y ∷ []) ++ ys)
    ≡ statements_of (or_later f.first (filter_map ast.packaged xs)) (f.imports ++ filter_map ast.imported xs) (f.options ++ filter_map ast.file_option xs) (f.items ++ y ∷ ys)
item-added f y xs ys = ap (statements_of (or_later f.first (filter_map ast.packaged xs)) (f.imports ++ filter_map ast.imported xs) (f.options ++ filter_map ast.file_option xs)) (append_assoc f.items (y ∷ []) ys)

-- One more statement in front adds what it declares.
pub added : (f : Statements) (x : tree.Statement Place) (xs : List (tree.Statement Place)) → then_statements (add_statement f (statement_seen x)) xs ≡ then_statements f (x ∷ xs)
added f (tree.an_empty m) xs = refl
added f (tree.an_import x) xs = ap (λ v. statements_of (or_later f.first (filter_map ast.packaged xs)) v (f.options ++ filter_map ast.file_option xs) (f.items ++ filter_map ast.file_element xs)) (append_assoc f.imports (ast.«import» x ∷ []) (filter_map ast.imported xs))
added f (tree.a_package x) xs = ap (λ v. statements_of v (f.imports ++ filter_map ast.imported xs) (f.options ++ filter_map ast.file_option xs) (f.items ++ filter_map ast.file_element xs)) (later-more f.first (ast.«package» x) (filter_map ast.packaged xs))
added f (tree.an_option x) xs = ap (λ v. statements_of (or_later f.first (filter_map ast.packaged xs)) (f.imports ++ filter_map ast.imported xs) v (f.items ++ filter_map ast.file_element xs)) (append_assoc f.options (ast.option x ∷ []) (filter_map ast.file_option xs))
added f (tree.an_extend x) xs = item-added f (item.Extend (ast.extend x)) xs (filter_map ast.file_element xs)
added f (tree.a_message x) xs = item-added f (item.Message (ast.message x)) xs (filter_map ast.file_element xs)
added f (tree.an_enum x) xs = item-added f (item.Enum (ast.enum x)) xs (filter_map ast.file_element xs)
added f (tree.a_service x) xs = item-added f (item.Service (ast.service x)) xs (filter_map ast.file_element xs)

gathered-is : (f : Statements) (xs : List (tree.Statement Place)) → folded add_statement f (map statement_seen xs) ≡ then_statements f xs
gathered-is f [] =
    ap (λ v. statements_of v f.imports f.options f.items) (later-none f.first) ∙ ap (λ v. statements_of (or_later f.first []) v f.options f.items) (sym (append-nil f.imports))
    ∙ ap (λ v. statements_of (or_later f.first []) (f.imports ++ []) v f.items) (sym (append-nil f.options)) ∙ ap (statements_of (or_later f.first []) (f.imports ++ []) (f.options ++ [])) (sym (append-nil f.items))
gathered-is f (x ∷ xs) = gathered-is (add_statement f (statement_seen x)) xs ∙ added f x xs

-- what all statements declare
abbrev pub statements_seen : List (tree.Statement Place) → Statements
statements_seen xs = then_statements no_statements xs

-- statement* , up to the end or to one that is refused
unfoldable pub statements_at : Reader Place Statements
statements_at xs = gathered add_statement no_statements (star (in_set all) statement.code xs)

pub statements-shows : Shows statements_seen (star (in_set all) statement_rule.read) statements_at
unfolding statements_at
statements-shows = shows-by (gathered-is no_statements) (right-shows (folded add_statement no_statements) (star-shows (in_set all) (in_set all) (λ i. refl) statement.shows))

-- the place of the first package statement
abbrev pub first_place : Statements → Option Span
first_place f = option_map (λ (x : package_type.Package). x.span) f.first

-- the notes of these statements, where the first package statement before them has this place
abbrev pub notes_behind : Option Span → Rows Place → told.Notes
notes_behind q xs = stated_notes (in_set all) next_first statement.code statement.notes q xs
