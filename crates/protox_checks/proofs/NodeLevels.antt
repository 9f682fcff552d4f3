-- The checked parts in one level of a tree, given the parts in the levels below.
use Rattle.std.proofs.Common.{◌≡◌, List, [], ◌∷◌, ◌++◌, map, flat_map, refl, ap, sym, ◌∙◌}
use Rattle.std.proofs.lemmas.Grind.{flat_map-append}
use Rattle.std.proofs.lemmas.List.Folds.{flat_map-map}
use Rattle.protox_fault.specs.Faults.{Span}
use Rattle.protox_ast.specs.Options.{OptionStatement, bodies_of, json_name_of, options_left}
use Rattle.protox_ast.specs.Ranges.{kind_ranges}
use Rattle.protox_ast.specs.Steps.{of_item, of_extend, of_field, of_kind, of_body, of_oneof}
use Rattle.protox_ast.specs.declared.ast.Extend.{Extend, out-Extend}
use Rattle.protox_ast.specs.declared.ast.Field.{Field, out-Field}
use Rattle.protox_ast.specs.declared.ast.Int.{Int}
use Rattle.protox_ast.specs.declared.ast.MessageBody.{MessageBody, out-MessageBody}
use Rattle.protox_ast.specs.declared.ast.Oneof.{Oneof, out-Oneof}
use Rattle.protox_ast.specs.declared.ast.OptionBody.{OptionBody}
use Rattle.protox_ast.specs.declared.ast.Reserved.{Reserved}
use Rattle.protox_ast.proofs.Lemmas.{body-gives, extend-gives, field-gives, oneof-gives}
use Rattle.protox_checks.specs.FieldFaults.{Scope, InOneof, InExtend}
use Rattle.protox_checks.specs.Nodes.{Node, AMessageNumber, AField, AnOption, empty_nodes, extensions_nodes, fields_nodes, json_name_nodes, node_steps, option_nodes, range_nodes, reserved_nodes}
use Rattle.protox_checks.specs.inner.Walk.{field_node}

-- ---- options and ranges

abbrev pub body_node : OptionBody → List Node
body_node body = AnOption body.value ∷ []

abbrev pub statement_node : OptionStatement → List Node
statement_node statement = AnOption statement.body.value ∷ []

pub bodies-flat : (xs : List OptionBody) → flat_map body_node xs ≡ option_nodes xs
bodies-flat [] = refl
bodies-flat (x ∷ xs) = ap (λ l. AnOption x.value ∷ l) (bodies-flat xs)

pub statements-flat : (xs : List OptionStatement) → flat_map statement_node xs ≡ option_nodes (bodies_of xs)
statements-flat [] = refl
statements-flat (x ∷ xs) = ap (λ l. AnOption x.body.value ∷ l) (statements-flat xs)

abbrev pub kind_nodes : (Int → Node) → Reserved → List Node
kind_nodes node statement = flat_map (range_nodes node) (kind_ranges statement.kind)

pub reserved-flat : (node : Int → Node) (xs : List Reserved) → flat_map (kind_nodes node) xs ≡ reserved_nodes node xs
reserved-flat node [] = refl
reserved-flat node (x ∷ xs) =
    ap (λ l. kind_nodes node x ++ l) (reserved-flat node xs)
    ∙ sym (flat_map-append (range_nodes node) (kind_ranges x.kind) (flat_map (λ (statement : Reserved). kind_ranges statement.kind) xs))

-- ---- fields in one place

abbrev pub field_in : Scope → Field → List Node
field_in scope field = of_field node_steps field scope

pub fields-flat : (scope : Scope) (xs : List Field) → flat_map (field_in scope) xs ≡ fields_nodes scope (map (of_field node_steps) xs)
fields-flat scope xs = sym (flat_map-map (λ (field : Scope → List Node). field scope) (of_field node_steps) xs)

empty-same : {A B : Type 0} (f : A → B) (xs : List A) (span : Span) → empty_nodes xs span ≡ empty_nodes (map f xs) span
empty-same f [] span = refl
empty-same f (x ∷ xs) span = refl

-- ---- levels

-- the parts of a body that are no items
abbrev pub aside : MessageBody → List Node
aside x = reserved_nodes AMessageNumber (out-MessageBody x).reserved ++ (flat_map extensions_nodes (out-MessageBody x).extensions ++ option_nodes (bodies_of (out-MessageBody x).options))

pub body-nodes : (x : MessageBody) → flat_map (of_item node_steps) (out-MessageBody x).items ++ aside x ≡ of_body node_steps x
body-nodes x =
    ap (λ l. l ++ aside x) (sym (flat_map-map (λ (nodes : List Node). nodes) (of_item node_steps) (out-MessageBody x).items)) ∙ sym (body-gives node_steps x)

pub oneof-nodes : (x : Oneof) → option_nodes (bodies_of (out-Oneof x).options) ++ (empty_nodes (out-Oneof x).fields (out-Oneof x).span ++ fields_nodes InOneof (map (of_field node_steps) (out-Oneof x).fields)) ≡ of_oneof node_steps x
oneof-nodes x =
    ap (λ l. option_nodes (bodies_of (out-Oneof x).options) ++ (l ++ fields_nodes InOneof (map (of_field node_steps) (out-Oneof x).fields))) (empty-same (of_field node_steps) (out-Oneof x).fields (out-Oneof x).span)
    ∙ sym (oneof-gives node_steps x)

pub extend-nodes : (x : Extend) → flat_map (field_in InExtend) (out-Extend x).fields ≡ of_extend node_steps x
extend-nodes x = fields-flat InExtend (out-Extend x).fields ∙ sym (extend-gives node_steps x)

abbrev pub inside : Field → List Node
inside x = (of_kind node_steps (out-Field x).kind).1

abbrev pub field_options : Field → List Node
field_options x = json_name_nodes (json_name_of (out-Field x).options) ++ option_nodes (options_left (out-Field x).options)

pub field-nodes : (x : Field) (scope : Scope) → AMessageNumber (out-Field x).number ∷ AField scope (field_node x) ∷ (inside x ++ field_options x) ≡ of_field node_steps x scope
field-nodes x scope = ap (λ f. f scope) (sym (field-gives node_steps x))
