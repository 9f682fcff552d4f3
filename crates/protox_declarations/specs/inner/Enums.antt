-- How the code reads and notes enums.
use Rattle.std.specs.Prelude.{◌≡◌, List, [], ◌∷◌, ◌++◌, map, ◌⊎◌, codes}
use Rattle.std.specs.List.{filter_map}
use Rattle.std.proofs.Common.{refl, sym, ap, ◌∙◌, append-nil, append_assoc, inl, inr}
use Rattle.protox_ast.specs.Tree as tree
use Rattle.protox_ast.specs.Spelling as s
use Rattle.protox_ast.specs.Ast as ast
use Rattle.protox_ast.specs.Places.{Place}
use Rattle.protox_ast.specs.declared.ast.Option as option_type
use Rattle.protox_ast.specs.declared.ast.Reserved as reserved_type
use Rattle.protox_ast.specs.declared.ast.EnumValue.{EnumValue}
use Rattle.protox_grammar.specs.Class.{only, but, among}
use Rattle.protox_grammar.specs.Reader.{folded}
use Rattle.protox_grammar.specs.Rule as rule
use Rattle.protox_grammar.specs.Rules as r
use Rattle.protox_grammar.specs.Token as token
use Rattle.protox_grammar.proofs.Lemmas as enums
use Rattle.protox_grammar.proofs.Lemmas.{Noting, both, choice, gather, named, named_from, renamed}
use Rattle.protox_grammar.proofs.Lemmas.{seen, sign, the}
use Rattle.protox_rows.specs.inner.Names.{ident, int}
use Rattle.protox_rows.specs.inner.Reads.{declared}
use Rattle.protox_declarations.specs.inner.Options.{here, list_if_any, option}
use Rattle.protox_declarations.specs.inner.Ranges.{reserved}
use Rattle.protox_declarations.specs.declared.enums.EnumElement as element_type
use Rattle.protox_declarations.specs.declared.enums.EnumElement.TheVariants as element_of
use Rattle.protox_declarations.specs.declared.enums.EnumParts.{EnumParts}

-- evalue = ident "=" int list? ";"
unfoldable pub evalue : Noting r.evalue ast.evalue
unfolding r.evalue
evalue = named_from _ r.evalue (enums.evalue-laws here).read (λ xs. refl)
    (λ xs (name, (_, (number, (options, end)))). record { name = name; number = number; options = options; comments = declared xs end; span = ast.join name.span end.span }) (λ x rest. refl)
    (both ident (both (sign s.equals) (both int (both list_if_any (sign s.semicolon)))))

-- an element of an enum as the code keeps it
abbrev pub element_seen : tree.EnumElement Place → element_type.EnumElement
element_seen (tree.enum_empty m) = element_of.Empty
element_seen (tree.enum_option x) = element_of.Option (ast.option x)
element_seen (tree.enum_reserved x) = element_of.Reserved (ast.reserved x)
element_seen (tree.enum_value x) = element_of.Value (ast.evalue x)

-- The element is what the code keeps of it, for each kind.
pub element-is : (x : Place ⊎ ((tree.OptionStatement Place ⊎ tree.Reserved Place) ⊎ tree.Evalue Place))
    → rule.on_sum (λ m. element_of.Empty) (rule.on_sum (rule.on_sum (λ y. element_of.Option (ast.option y)) (λ y. element_of.Reserved (ast.reserved y))) (λ y. element_of.Value (ast.evalue y))) x ≡ element_seen (r.to_enum_element x)
element-is (inl m) = refl
element-is (inr (inl (inl y))) = refl
element-is (inr (inl (inr y))) = refl
element-is (inr (inr y)) = refl

-- ";" | option | reserved | evalue
unfoldable pub enum_element : Noting r.enum_element element_seen
unfolding r.enum_element
enum_element = renamed r.to_enum_element element-is
    (choice (only token.semicolon) (seen (λ m. element_of.Empty) (sign s.semicolon))
    (choice (among (token.option ∷ token.reserved ∷ [])) (choice (only token.option) (seen element_of.Option option) (seen element_of.Reserved reserved)) (seen element_of.Value evalue)))

-- ---- the declarations in an enum

-- An element is added to the lists of its kind.
abbrev pub add : EnumParts → element_type.EnumElement → EnumParts
add p element_of.Empty = p
add p (element_of.Option x) = record p { options = p.options ++ x ∷ [] }
add p (element_of.Reserved x) = record p { reserved = p.reserved ++ x ∷ [] }
add p (element_of.Value x) = record p { values = p.values ++ x ∷ [] }

-- these lists as one value
abbrev pub parts_of : List option_type.Option → List EnumValue → List reserved_type.Reserved → EnumParts
parts_of a b c = record { options = a; values = b; reserved = c }

-- the lists of all elements
abbrev pub parts_seen : List (tree.EnumElement Place) → EnumParts
parts_seen xs = parts_of (filter_map ast.enum_option xs) (filter_map ast.enum_value xs) (filter_map ast.enum_reserved xs)

-- Adding one element after another gives the lists of all.
pub gathered : (a : List option_type.Option) (b : List EnumValue) (c : List reserved_type.Reserved) (xs : List (tree.EnumElement Place))
    → folded add (parts_of a b c) (map element_seen xs) ≡ parts_of (a ++ filter_map ast.enum_option xs) (b ++ filter_map ast.enum_value xs) (c ++ filter_map ast.enum_reserved xs)
gathered a b c [] = ap (λ v. parts_of v b c) (sym (append-nil a)) ∙ ap (λ v. parts_of (a ++ []) v c) (sym (append-nil b)) ∙ ap (λ v. parts_of (a ++ []) (b ++ []) v) (sym (append-nil c))
gathered a b c (tree.enum_empty m ∷ xs) = gathered a b c xs
gathered a b c (tree.enum_option x ∷ xs) = gathered (a ++ ast.option x ∷ []) b c xs ∙ ap (λ v. parts_of v (b ++ filter_map ast.enum_value xs) (c ++ filter_map ast.enum_reserved xs)) (append_assoc a (ast.option x ∷ []) (filter_map ast.enum_option xs))
gathered a b c (tree.enum_reserved x ∷ xs) = gathered a b (c ++ ast.reserved x ∷ []) xs ∙ ap (λ v. parts_of (a ++ filter_map ast.enum_option xs) (b ++ filter_map ast.enum_value xs) v) (append_assoc c (ast.reserved x ∷ []) (filter_map ast.enum_reserved xs))
gathered a b c (tree.enum_value x ∷ xs) = gathered a (b ++ ast.evalue x ∷ []) c xs ∙ ap (λ v. parts_of (a ++ filter_map ast.enum_option xs) v (c ++ filter_map ast.enum_reserved xs)) (append_assoc b (ast.evalue x ∷ []) (filter_map ast.enum_value xs))

-- the elements up to the `}`
unfoldable pub enum_elements : Noting (rule.times (but token.close_brace) r.enum_element) parts_seen
enum_elements = gather (but token.close_brace) add (parts_of [] [] []) (λ xs. gathered [] [] [] xs) enum_element

-- enum = "enum" ident "{" (";" | option | reserved | evalue)* "}"
unfoldable pub enum_ : Noting r.enum ast.enum
unfolding r.enum
enum_ = named _ (λ (keyword, (name, (open_at, (inside, close_at)))). record { name = name; options = inside.options; values = inside.values; reserved = inside.reserved; comments = ast.comments keyword open_at; span = ast.join keyword.span close_at.span }) (λ x. refl)
    (both (the (codes "enum")) (both ident (both (sign s.open_brace) (both enum_elements (sign s.close_brace)))))
