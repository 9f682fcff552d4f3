-- What stands in each level of a tree, list by list.
use Rattle.std.proofs.Common.{ℕ, List, [], ◌∷◌, ◌++◌, map, flat_map, subst}
use Rattle.protox_fault.specs.Faults.{Span}
use Rattle.protox_ast.specs.declared.ast.Extend.{out-Extend}
use Rattle.protox_ast.specs.declared.ast.Field.{out-Field}
use Rattle.protox_ast.specs.declared.ast.File.{File}
use Rattle.protox_ast.specs.declared.ast.Message.{Message, out-Message}
use Rattle.protox_ast.specs.declared.ast.MessageBody.{MessageBody, out-MessageBody}
use Rattle.protox_ast.specs.declared.ast.Oneof.{out-Oneof}
use Rattle.protox_ast.specs.Keywords.{Each}
use Rattle.protox_ast.specs.Siblings.{SpansStand, SiblingsStand, place_if_any, type_name_spans, list_span, list_siblings, option_spans, option_siblings, extension_ranges, extensions_siblings, range_statement, reserved_ranges, name_statement, reserved_names, reserved_siblings, Siblings, inside_body, SiblingKind, AField, AMessage, AnEnum, AOneof, AnExtend, AnExtension, AService, Node, node_spans, inside_all, brought, nodes, syntax_span, package_span, package_siblings, import_siblings, file_node, FileStands}
use Rattle.protox_ast.specs.Steps.{of_kind, of_item, of_field, of_message, of_body}
use Rattle.protox_ast.proofs.Levels.{body-gives, message-gives}
use Rattle.protox_ast.proofs.SpansStand.{each-front, each-back}

abbrev pub body_items : MessageBody → List Node
body_items b = map (of_item nodes) (out-MessageBody b).items

-- In a message or group with this span.
pub record BodyStands (low high : ℕ) (whole : Span) (b : MessageBody) : Type 0 where
  pub like : (kind : SiblingKind) → SpansStand whole.start whole.end (brought kind (body_items b))
  pub items : SpansStand whole.start whole.end (node_spans (body_items b))
  pub options : SpansStand whole.start whole.end (option_spans (out-MessageBody b).options)
  pub extensions : SpansStand whole.start whole.end (map (λ x. x.span) (out-MessageBody b).extensions)
  pub extension_ranges : SpansStand whole.start whole.end (flat_map extension_ranges (out-MessageBody b).extensions)
  pub range_statements : SpansStand whole.start whole.end (flat_map range_statement (out-MessageBody b).reserved)
  pub reserved_ranges : SpansStand whole.start whole.end (flat_map reserved_ranges (out-MessageBody b).reserved)
  pub name_statements : SpansStand whole.start whole.end (flat_map name_statement (out-MessageBody b).reserved)
  pub reserved_names : SpansStand whole.start whole.end (flat_map reserved_names (out-MessageBody b).reserved)
  pub in_items : Each (SiblingsStand low high) (inside_all (body_items b))
  pub in_options : Each (SiblingsStand low high) (flat_map option_siblings (out-MessageBody b).options)
  pub in_extensions : Each (SiblingsStand low high) (flat_map extensions_siblings (out-MessageBody b).extensions)
  pub in_reserved : Each (SiblingsStand low high) (flat_map reserved_siblings (out-MessageBody b).reserved)

pub body-stands : (low high : ℕ) (whole : Span) (b : MessageBody) → Each (SiblingsStand low high) (of_body nodes b whole) → BodyStands low high whole b
body-stands low high whole b given =
    let y = out-MessageBody b in
    let h = subst (λ (f : Span → List Siblings). Each (SiblingsStand low high) (f whole)) (body-gives nodes b) given in
    let k = h.1.1.1.1.1.1.1 in
    let last = k.1.1.1.1.1.1.1.1.1 in
    let behind = each-back (SiblingsStand low high) (inside_all (body_items b)) _ last in
    let rest = each-back (SiblingsStand low high) (flat_map option_siblings y.options) _ behind in
    record {
      like = like h;
      items = k.0.parts;
      options = k.1.0.parts;
      extensions = k.1.1.0.parts;
      extension_ranges = k.1.1.1.0.parts;
      range_statements = k.1.1.1.1.0.parts;
      reserved_ranges = k.1.1.1.1.1.0.parts;
      name_statements = k.1.1.1.1.1.1.0.parts;
      reserved_names = k.1.1.1.1.1.1.1.0.parts;
      in_items = each-front (SiblingsStand low high) (inside_all (body_items b)) _ last;
      in_options = each-front (SiblingsStand low high) (flat_map option_siblings y.options) _ behind;
      in_extensions = each-front (SiblingsStand low high) (flat_map extensions_siblings y.extensions) _ rest;
      in_reserved = each-back (SiblingsStand low high) (flat_map extensions_siblings y.extensions) _ rest;
    }
  where
    like : Each (SiblingsStand low high) (inside_body (record { items = body_items b; extensions = (out-MessageBody b).extensions; options = (out-MessageBody b).options; reserved = (out-MessageBody b).reserved }) whole)
        → (kind : SiblingKind) → SpansStand whole.start whole.end (brought kind (body_items b))
    like h AField = h.0.parts
    like h AMessage = h.1.0.parts
    like h AnEnum = h.1.1.0.parts
    like h AOneof = h.1.1.1.0.parts
    like h AnExtend = h.1.1.1.1.0.parts
    like h AnExtension = h.1.1.1.1.1.0.parts
    like h AService = h.1.1.1.1.1.1.0.parts

pub record MessageStands (low high : ℕ) (x : Message) : Type 0 where
  pub name : SpansStand (out-Message x).span.start (out-Message x).span.end ((out-Message x).name.span ∷ [])
  pub body : BodyStands low high (out-Message x).span (out-Message x).body

pub message-stands : (low high : ℕ) (x : Message) → Each (SiblingsStand low high) (of_message nodes x).inside → MessageStands low high x
message-stands low high x given =
    let h = subst (λ (n : Node). Each (SiblingsStand low high) n.inside) (message-gives nodes x) given in
    record { name = h.0.parts; body = body-stands low high (out-Message x).span (out-Message x).body h.1 }

abbrev pub items_of_file : File → List Node
items_of_file x = map file_node x.items

-- In a source of `size` bytes.
pub record DeclarationsStand (size : ℕ) (x : File) : Type 0 where
  pub like : (kind : SiblingKind) → SpansStand 0 size (brought kind (items_of_file x))
  pub syntax : SpansStand 0 size (syntax_span x.syntax_span)
  pub «package» : SpansStand 0 size (package_span x.«package»)
  pub imports : SpansStand 0 size (map (λ i. i.span) x.imports)
  pub options : SpansStand 0 size (option_spans x.options)
  pub items : SpansStand 0 size (node_spans (items_of_file x))
  pub in_package : Each (SiblingsStand 0 size) (package_siblings x.«package»)
  pub in_imports : Each (SiblingsStand 0 size) (flat_map import_siblings x.imports)
  pub in_options : Each (SiblingsStand 0 size) (flat_map option_siblings x.options)
  pub in_items : Each (SiblingsStand 0 size) (inside_all (items_of_file x))

pub declarations-stand : (size : ℕ) (x : File) → FileStands size x → DeclarationsStand size x
declarations-stand size x h =
    let k = h.1.1.1.1.1.1.1 in
    let last = k.1.1.1.1.1 in
    let behind = each-back (SiblingsStand 0 size) (package_siblings x.«package») _ last in
    let rest = each-back (SiblingsStand 0 size) (flat_map import_siblings x.imports) _ behind in
    record {
      like = like h;
      syntax = k.0.parts;
      «package» = k.1.0.parts;
      imports = k.1.1.0.parts;
      options = k.1.1.1.0.parts;
      items = k.1.1.1.1.0.parts;
      in_package = each-front (SiblingsStand 0 size) (package_siblings x.«package») _ last;
      in_imports = each-front (SiblingsStand 0 size) (flat_map import_siblings x.imports) _ behind;
      in_options = each-front (SiblingsStand 0 size) (flat_map option_siblings x.options) _ rest;
      in_items = each-back (SiblingsStand 0 size) (flat_map option_siblings x.options) _ rest;
    }
  where
    like : FileStands size x → (kind : SiblingKind) → SpansStand 0 size (brought kind (items_of_file x))
    like h AField = h.0.parts
    like h AMessage = h.1.0.parts
    like h AnEnum = h.1.1.0.parts
    like h AOneof = h.1.1.1.0.parts
    like h AnExtend = h.1.1.1.1.0.parts
    like h AnExtension = h.1.1.1.1.1.0.parts
    like h AService = h.1.1.1.1.1.1.0.parts
