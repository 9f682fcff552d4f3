-- How the code reads and notes services and their methods.
use Rattle.std.specs.Prelude.{◌≡◌, List, [], ◌∷◌, ◌++◌, map, Option, Some, None, codes}
use Rattle.std.specs.List.{filter_map}
use Rattle.std.proofs.Common.{refl, sym, ap, ◌∙◌, append-nil, append_assoc}
use Rattle.protox_fault.specs.Faults.{Span}
use Rattle.protox_ast.specs.Tree as tree
use Rattle.protox_ast.specs.Spelling as s
use Rattle.protox_ast.specs.Ast as ast
use Rattle.protox_ast.specs.Places.{Place}
use Rattle.protox_ast.specs.declared.ast.TypeName.{TypeName}
use Rattle.protox_ast.specs.declared.ast.Option as option_type
use Rattle.protox_ast.specs.declared.ast.Method.{Method}
use Rattle.protox_grammar.specs.Class.{only, but, among}
use Rattle.protox_grammar.specs.Reader.{folded}
use Rattle.protox_grammar.specs.Rule as rule
use Rattle.protox_grammar.specs.Rules as r
use Rattle.protox_grammar.specs.Token as token
use Rattle.protox_grammar.proofs.Lemmas.{Noting, Silent, both, choice, gather, named, renamed, seen}
use Rattle.protox_grammar.proofs.Lemmas.{sign, the, three, two}
use Rattle.protox_rows.specs.inner.Names.{ident, typename}
use Rattle.protox_declarations.specs.inner.Options.{option}
use Rattle.protox_declarations.specs.declared.services.ServiceElement as element_type
use Rattle.protox_declarations.specs.declared.services.ServiceElement.TheVariants as element_of
use Rattle.protox_declarations.specs.declared.services.ServiceParts.{ServiceParts}

-- ---- methods

-- the place of `stream`, if it is there, and the name of the type
abbrev pub rpc_type_seen : tree.RpcType Place → Option Span × TypeName
rpc_type_seen x = (ast.span_if_any x.stream, ast.typename x.name)

-- "stream"? typename
unfoldable pub rpc_type : Silent r.rpc_type rpc_type_seen
unfolding r.rpc_type
rpc_type = renamed r.to_rpc_type (two _ _ (λ x. refl) (λ x. refl))
    (choice (among (token.stream ∷ [])) (seen (λ x. (Some x.0.span, x.1.0)) (both (the (codes "stream")) typename)) (seen (λ x. (None, x.0)) typename))

-- ";" | option
unfoldable pub rpc_element : Noting r.rpc_element ast.rpc_option
unfolding r.rpc_element
rpc_element = renamed r.to_rpc_element (two _ _ (λ x. refl) (λ x. refl)) (choice (only token.semicolon) (seen (λ m. None) (sign s.semicolon)) (seen Some option))

-- An option is added to the list.
abbrev pub add_option : List option_type.Option → Option option_type.Option → List option_type.Option
add_option xs None = xs
add_option xs (Some x) = xs ++ x ∷ []

-- Adding one option after another gives the list of all.
pub options-gathered : (a : List option_type.Option) (xs : List (tree.RpcElement Place)) → folded add_option a (map ast.rpc_option xs) ≡ a ++ filter_map ast.rpc_option xs
options-gathered a [] = sym (append-nil a)
options-gathered a (tree.rpc_empty m ∷ xs) = options-gathered a xs
options-gathered a (tree.rpc_option x ∷ xs) = options-gathered (a ++ ast.option x ∷ []) xs ∙ append_assoc a (ast.option x ∷ []) (filter_map ast.rpc_option xs)

-- the elements up to the `}`
unfoldable pub rpc_elements : Noting (rule.times (but token.close_brace) r.rpc_element) (filter_map ast.rpc_option)
rpc_elements = gather (but token.close_brace) add_option [] (λ xs. options-gathered [] xs) rpc_element

-- a method's options, and the place where it ends
abbrev pub rpc_end_seen : tree.RpcEnd Place → List option_type.Option × Place
rpc_end_seen x = (ast.rpc_options x, ast.rpc_last x)

-- ";" | "{" (";" | option)* "}"
unfoldable pub rpc_end : Noting r.rpc_end rpc_end_seen
unfolding r.rpc_end
rpc_end = renamed r.to_rpc_end (two _ _ (λ x. refl) (λ x. refl))
    (choice (only token.semicolon) (seen (λ m. ([], m)) (sign s.semicolon)) (seen (λ x. (x.1.0, x.1.1)) (both (sign s.open_brace) (both rpc_elements (sign s.close_brace)))))

-- the output type of a method, its options, and the place where it ends
abbrev pub Output : Type 0
Output = (Option Span × TypeName) × (List option_type.Option × Place)

-- the same, of the rows behind the input type
abbrev pub output_seen : Place × (Place × (tree.RpcType Place × (Place × tree.RpcEnd Place))) → Output
output_seen (_, (_, (type, (_, end)))) = (rpc_type_seen type, rpc_end_seen end)

-- "returns" "(" "stream"? typename ")" and the end
unfoldable pub output : Noting (rule.seq (r.the (codes "returns")) (rule.seq (r.sign s.open_paren) (rule.seq r.rpc_type (rule.seq (r.sign s.close_paren) r.rpc_end)))) output_seen
output = seen (λ (_, (_, (type, (_, end)))). (type, end)) (both (the (codes "returns")) (both (sign s.open_paren) (both rpc_type (both (sign s.close_paren) rpc_end))))

-- rpc = "rpc" ident "(" "stream"? typename ")" "returns" "(" "stream"? typename ")" and the end
unfoldable pub rpc : Noting r.rpc ast.rpc
unfolding r.rpc
rpc = named _ (λ (keyword, (name, (_, ((client_stream, input), (_, ((server_stream, output), (options, end))))))). record {
  name = name;
  input_ty = input;
  output_ty = output;
  options = options;
  client_streaming = client_stream;
  server_streaming = server_stream;
  comments = ast.comments keyword end;
  span = ast.join keyword.span end.span;
}) (λ x. refl)
    (both (the (codes "rpc")) (both ident (both (sign s.open_paren) (both rpc_type (both (sign s.close_paren) output)))))

-- ---- services

-- an element of a service as the code keeps it
abbrev pub element_seen : tree.ServiceElement Place → element_type.ServiceElement
element_seen (tree.service_empty m) = element_of.Empty
element_seen (tree.service_option x) = element_of.Option (ast.option x)
element_seen (tree.service_rpc x) = element_of.Rpc (ast.rpc x)

-- ";" | option | rpc
unfoldable pub service_element : Noting r.service_element element_seen
unfolding r.service_element
service_element = renamed r.to_service_element (three _ _ (λ x. refl) (λ x. refl) (λ x. refl))
    (choice (only token.semicolon) (seen (λ m. element_of.Empty) (sign s.semicolon)) (choice (only token.option) (seen element_of.Option option) (seen element_of.Rpc rpc)))

-- An element is added to the lists of its kind.
abbrev pub add : ServiceParts → element_type.ServiceElement → ServiceParts
add p element_of.Empty = p
add p (element_of.Option x) = record p { options = p.options ++ x ∷ [] }
add p (element_of.Rpc x) = record p { methods = p.methods ++ x ∷ [] }

-- these lists as one value
abbrev pub parts_of : List option_type.Option → List Method → ServiceParts
parts_of a b = record { options = a; methods = b }

-- the lists of all elements
abbrev pub parts_seen : List (tree.ServiceElement Place) → ServiceParts
parts_seen xs = parts_of (filter_map ast.service_option xs) (filter_map ast.service_rpc xs)

-- Adding one element after another gives the lists of all.
pub gathered : (a : List option_type.Option) (b : List Method) (xs : List (tree.ServiceElement Place)) → folded add (parts_of a b) (map element_seen xs) ≡ parts_of (a ++ filter_map ast.service_option xs) (b ++ filter_map ast.service_rpc xs)
gathered a b [] = ap (λ v. parts_of v b) (sym (append-nil a)) ∙ ap (λ v. parts_of (a ++ []) v) (sym (append-nil b))
gathered a b (tree.service_empty m ∷ xs) = gathered a b xs
gathered a b (tree.service_option x ∷ xs) = gathered (a ++ ast.option x ∷ []) b xs ∙ ap (λ v. parts_of v (b ++ filter_map ast.service_rpc xs)) (append_assoc a (ast.option x ∷ []) (filter_map ast.service_option xs))
gathered a b (tree.service_rpc x ∷ xs) = gathered a (b ++ ast.rpc x ∷ []) xs ∙ ap (λ v. parts_of (a ++ filter_map ast.service_option xs) v) (append_assoc b (ast.rpc x ∷ []) (filter_map ast.service_rpc xs))

-- the elements up to the `}`
unfoldable pub service_elements : Noting (rule.times (but token.close_brace) r.service_element) parts_seen
service_elements = gather (but token.close_brace) add (parts_of [] []) (λ xs. gathered [] [] xs) service_element

-- service = "service" ident "{" (";" | option | rpc)* "}"
unfoldable pub service : Noting r.service ast.service
unfolding r.service
service = named _ (λ (keyword, (name, (open_at, (inside, close_at)))). record { name = name; options = inside.options; methods = inside.methods; comments = ast.comments keyword open_at; span = ast.join keyword.span close_at.span }) (λ x. refl)
    (both (the (codes "service")) (both ident (both (sign s.open_brace) (both service_elements (sign s.close_brace)))))
