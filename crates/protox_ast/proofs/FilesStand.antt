-- Where the declarations of a file stand, with all that is in them: in the source, one after
-- another.
use Rattle.std.proofs.Common.{◌≡◌, ◌⊎◌, ℕ, ◌≤◌, List, [], ◌∷◌, ◌++◌, length, map, Option, Some, None, subst, arith}
use Rattle.std.specs.Prelude.{option_map}
use Rattle.std.specs.List.{filter_map}
use Rattle.std.specs.Str.{IsUtf8}
use Rattle.protox_fault.specs.Faults.{Span, span_from}
use Rattle.protox_lexeme.specs.Lexemes.{cut}
use Rattle.protox_lexeme.specs.Shapes.{Rows}
use Rattle.protox_lexeme.specs.Table.{table_of}
use Rattle.protox_ast.specs.Keywords.{Each}
use Rattle.protox_ast.specs.Tree as t
use Rattle.protox_ast.specs.Spelling as s
use Rattle.protox_ast.specs.Places.{Place, placed}
use Rattle.protox_ast.specs.Ast as ast
use Rattle.protox_ast.specs.Siblings.{Siblings, SiblingsStand, siblings, ident_spans, place_if_any, option_siblings, import_siblings, package_span, package_siblings, syntax_span, file_node, FileStands}
use Rattle.protox_ast.proofs.Standing.{Stand, tokens-stand}
use Rattle.protox_ast.proofs.SpansStand.{each-append, Hold, IsNode, Lists, begin-first, end-last, end-back, none, nothing, one, past, both, before, after, leaf, whole, last-list, more-lists, lists-within, HoldAll, kinds-lists, all-none, all-past, all-before}
use Rattle.protox_ast.proofs.PartsStand.{fullident-hold, strings-node, option-node}
use Rattle.protox_ast.proofs.BlocksStand.{span_of_some, inside_some, chosen}
use Rattle.protox_ast.proofs.MessagesStand.{all-both, message-is, extend-is, enum-is, service-is}

-- ---- declarations

kind-hold : (x : Option (t.ImportKind Place)) → Hold (s.maybe s.import_kind x) (place_if_any (option_map ast.import_kind x)) []
kind-hold None = none
kind-hold (Some (t.weak m)) = one _
kind-hold (Some (t.«public» m)) = one _

pub import-node : (x : t.Import Place) → IsNode (s.«import» x) (ast.«import» x).span (import_siblings (ast.«import» x))
import-node x = whole (ast.«import» x).span (begin-first _ _) (end-back (_ ∷ []) _ (end-back (s.maybe s.import_kind x.kind) _ (end-back (s.strings x.value) _ (end-last _))))
    (past _ (both (s.maybe s.import_kind x.kind) _ (kind-hold x.kind) (after (s.strings x.value) _ (strings-node x.value).hold)))

pub package-node : (x : t.Package Place) → IsNode (s.«package» x) (ast.«package» x).span (siblings (ast.«package» x).span (ident_spans (ast.fullident x.name)) ∷ [])
package-node x = whole (ast.«package» x).span (begin-first _ _) (end-back (_ ∷ []) _ (end-back (s.fullident x.name) _ (end-last _))) (past _ (after (s.fullident x.name) _ (fullident-hold x.name)))

syntax-hold : (x : Option (t.Syntax Place)) → Hold (s.maybe s.syntax x) (syntax_span (option_map ast.syntax_place x)) []
syntax-hold None = none
syntax-hold (Some x) = (syntax-node x).hold
  where
    syntax-node : (x : t.Syntax Place) → IsNode (s.syntax x) (ast.join x.keyword.span x.end.span) []
    syntax-node x = leaf (ast.join x.keyword.span x.end.span) (begin-first _ _) (end-back (_ ∷ _ ∷ []) _ (end-back (s.strings x.value) _ (end-last _)))

-- ---- statements

imported-hold : (x : t.Statement Place) → Hold (s.statement x) (span_of_some (λ y. y.span) (ast.imported x)) (inside_some import_siblings (ast.imported x))
imported-hold (t.an_import x) = (import-node x).hold
imported-hold (t.an_empty m) = nothing _
imported-hold (t.a_package x) = nothing _
imported-hold (t.an_option x) = nothing _
imported-hold (t.an_extend x) = nothing _
imported-hold (t.a_message x) = nothing _
imported-hold (t.an_enum x) = nothing _
imported-hold (t.a_service x) = nothing _

options-hold : (x : t.Statement Place) → Hold (s.statement x) (span_of_some (λ y. y.span) (ast.file_option x)) (inside_some option_siblings (ast.file_option x))
options-hold (t.an_option x) = (option-node x).hold
options-hold (t.an_empty m) = nothing _
options-hold (t.an_import x) = nothing _
options-hold (t.a_package x) = nothing _
options-hold (t.an_extend x) = nothing _
options-hold (t.a_message x) = nothing _
options-hold (t.an_enum x) = nothing _
options-hold (t.a_service x) = nothing _

-- Of several package statements the first one.
packages-hold : (xs : List (t.Statement Place)) → Hold (s.many s.statement xs) (package_span (ast.first_of (filter_map ast.packaged xs))) (package_siblings (ast.first_of (filter_map ast.packaged xs)))
packages-hold [] = none
packages-hold (t.a_package x ∷ xs) = after (s.«package» x) (s.many s.statement xs) (package-node x).hold
packages-hold (t.an_empty m ∷ xs) = past _ (packages-hold xs)
packages-hold (t.an_import x ∷ xs) = before (s.«import» x) (s.many s.statement xs) (packages-hold xs)
packages-hold (t.an_option x ∷ xs) = before (s.option x) (s.many s.statement xs) (packages-hold xs)
packages-hold (t.an_extend x ∷ xs) = before (s.extend x) (s.many s.statement xs) (packages-hold xs)
packages-hold (t.a_message x ∷ xs) = before (s.message x) (s.many s.statement xs) (packages-hold xs)
packages-hold (t.an_enum x ∷ xs) = before (s.enum x) (s.many s.statement xs) (packages-hold xs)
packages-hold (t.a_service x ∷ xs) = before (s.service x) (s.many s.statement xs) (packages-hold xs)

items-hold : (xs : List (t.Statement Place)) → HoldAll (s.many s.statement xs) (map file_node (filter_map ast.file_element xs))
items-hold [] = all-none
items-hold (t.a_message x ∷ xs) = all-both (s.message x) (s.many s.statement xs) (message-is x) (items-hold xs)
items-hold (t.an_enum x ∷ xs) = all-both (s.enum x) (s.many s.statement xs) (enum-is x) (items-hold xs)
items-hold (t.an_extend x ∷ xs) = all-both (s.extend x) (s.many s.statement xs) (extend-is x) (items-hold xs)
items-hold (t.a_service x ∷ xs) = all-both (s.service x) (s.many s.statement xs) (service-is x) (items-hold xs)
items-hold (t.an_empty m ∷ xs) = all-past _ (items-hold xs)
items-hold (t.an_import x ∷ xs) = all-before (s.«import» x) (s.many s.statement xs) (items-hold xs)
items-hold (t.a_package x ∷ xs) = all-before (s.«package» x) (s.many s.statement xs) (items-hold xs)
items-hold (t.an_option x ∷ xs) = all-before (s.option x) (s.many s.statement xs) (items-hold xs)

-- ---- the law

lists-stand : (size : ℕ) {rows : Rows Place} {xss : List (List Span)} {i : List Siblings} → Lists rows xss i → Stand 0 size rows → Each (SiblingsStand 0 size) (map (siblings (span_from 0 size)) xss ++ i)
lists-stand size {rows} {xss} {i} f h =
    let n = f.stand 0 size h in
    each-append (SiblingsStand 0 size) (map (siblings (span_from 0 size)) xss) i (lists-within (span_from 0 size) 0 size xss (omega arith) (omega arith) n.0) n.1

-- If rows stand in a source and spell a tree, all of its syntax tree stands there.
pub file-stands : (size : ℕ) (x : t.File Place) → Stand 0 size (s.spell x) → FileStands size (ast.file size x)
file-stands size x h =
    let front = s.maybe s.syntax x.syntax in
    let statements = s.many s.statement x.statements in
    let items = all-before front statements (items-hold x.statements) in
    let lists =
    kinds-lists items
    (more-lists (after front statements (syntax-hold x.syntax))
    (more-lists (before front statements (packages-hold x.statements))
    (more-lists (before front statements (chosen s.statement ast.imported (λ y. y.span) import_siblings imported-hold x.statements))
    (more-lists (before front statements (chosen s.statement ast.file_option (λ y. y.span) option_siblings options-hold x.statements))
    (last-list items.hold)))))
    in
    lists-stand size lists h

-- The nodes of the tree that the tokens of a source spell stand in the source.
pub source-stands : (source : List ℕ) → IsUtf8 source → (x : t.File Place) → placed (table_of (cut 0 source)) ≡ s.spell x → FileStands (length source) (ast.file (length source) x)
source-stands source u x e = file-stands (length source) x (subst (Stand 0 (length source)) e (tokens-stand source u))
