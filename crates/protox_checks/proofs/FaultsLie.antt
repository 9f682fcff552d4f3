-- The faults of a file lie in each source in which the file stands.
use Rattle.std.proofs.Common.{ℕ, Bool, true, false, not, List, [], ◌∷◌, map, flat_map, Option, Some, None, IfSome, codes, sym, subst, is_none}
use Rattle.std.specs.Prelude.{◌&&◌}
use Rattle.protox_fault.specs.Faults.{Span, SpanLiesIn, LiesIn}
use Rattle.protox_fault.specs.declared.error.ParseErrorKind.{ParseErrorKind}
use Rattle.protox_fault.specs.declared.error.ParseErrorKind.TheVariants as fault
use Rattle.protox_ast.specs.Checks.{is_text}
use Rattle.protox_ast.specs.FieldNumbers.{in_message_range}
use Rattle.protox_ast.specs.Keywords.{Each}
use Rattle.protox_ast.specs.Siblings.{FileStands}
use Rattle.protox_ast.specs.Spans.{body_span, value_span}
use Rattle.protox_ast.specs.Values.{is_in, any_64, signed_32, Wanted, a_float, an_integer, a_bool, a_text, some_bytes, anything, wanted, as_bool, as_float_text}
use Rattle.protox_ast.specs.declared.ast.FieldLabel.{FieldLabel}
use Rattle.protox_ast.specs.declared.ast.FieldLabel.TheVariants as label
use Rattle.protox_ast.specs.declared.ast.File.{File}
use Rattle.protox_ast.specs.declared.ast.OptionBody.{OptionBody}
use Rattle.protox_ast.specs.declared.ast.OptionValue.{OptionValue}
use Rattle.protox_ast.specs.declared.ast.OptionValue.TheVariants as value
use Rattle.protox_ast.specs.declared.ast.Syntax.{Syntax}
use Rattle.protox_ast.specs.declared.ast.Syntax.TheVariants.{Proto2, Proto3}
use Rattle.protox_checks.specs.Checks.{only_if, value_faults, option_faults, label_faults, map_faults, key_faults, kind_faults, is_proto3, place_faults, group_faults, default_value_faults, at_default, field_faults, node_faults, file_faults, AreListed}
use Rattle.protox_checks.specs.Faults.{placed, settled}
use Rattle.protox_checks.specs.FieldFaults.{Scope, InMessage, InOneof, InExtend, KindNode, Normal, Group, Map, FieldNode, may_be_key, is_map, is_group, is_repeated}
use Rattle.protox_checks.specs.Nodes.{Node, AMessageNumber, AnEnumNumber, AField, AJsonName, AnOption, AnEmptyOneof, file_nodes}
use Rattle.protox_checks.specs.ValueFaults.{invalid_type, out_of_range}
use Rattle.protox_checks.proofs.Membership.{each-both}
use Rattle.protox_checks.proofs.NodesLie.{OptionLies, LabelLies, KindLies, FieldLies, NodeLies, nodes-lie}

module _ (n : ℕ) where
  only-lies : (b : Bool) (one : ParseErrorKind) → LiesIn n one → Each (LiesIn n) (only_if b one)
  only-lies true one h = (h, tt)
  only-lies false one h = tt

  -- ---- values

  value-lies : (w : Wanted) (v : OptionValue) → SpanLiesIn n (value_span v) → Each (LiesIn n) (value_faults w v)
  value-lies a_float v h = only-lies (is_none (as_float_text v)) (invalid_type (codes "a floating-point number") v) h
  value-lies (an_integer interval) (value.Int int) h = only-lies (not (is_in interval int)) (out_of_range interval int) h
  value-lies (an_integer interval) v h = (h, tt)
  value-lies a_bool v h = only-lies (is_none (as_bool v)) (invalid_type (codes "either 'true' or 'false'") v) h
  value-lies a_text (value.String string) h = only-lies (not (is_text string.value)) (fault.InvalidUtf8String string.span) h
  value-lies a_text v h = (h, tt)
  value-lies some_bytes (value.String string) h = tt
  value-lies some_bytes v h = (h, tt)
  value-lies anything v h = tt

  option-lies : (v : OptionValue) → SpanLiesIn n (value_span v) → Each (LiesIn n) (option_faults v)
  option-lies (value.Ident negative ident span) h = only-lies negative (fault.NegativeIdentOutsideDefault span) h
  option-lies (value.Int int) h = only-lies (not (is_in any_64 int)) (out_of_range any_64 int) h
  option-lies v h = tt

  -- ---- fields

  label-lies : (syntax : Syntax) (scope : Scope) (kind : KindNode) (label : Option (FieldLabel × Span)) (span : Span) → IfSome label (LabelLies n) → SpanLiesIn n span → Each (LiesIn n) (label_faults syntax scope kind label span)
  label-lies syntax scope (Map key key_span) label span h s = tt
  label-lies syntax InExtend kind (Some (label.Required, at)) span h s = (h, tt)
  label-lies syntax InOneof kind (Some (label, at)) span h s = (h, tt)
  label-lies syntax InOneof kind None span h s = tt
  label-lies Proto2 scope kind None span h s = (s, tt)
  label-lies Proto3 scope kind (Some (label.Required, at)) span h s = (h, tt)
  label-lies syntax scope kind label span h s = tt

  map-lies : (scope : Scope) (label : Option (FieldLabel × Span)) (span : Span) → IfSome label (LabelLies n) → SpanLiesIn n span → Each (LiesIn n) (map_faults scope label span)
  map-lies InOneof label span h s = (s, tt)
  map-lies InExtend label span h s = (s, tt)
  map-lies InMessage (Some label) span h s = (h, tt)
  map-lies InMessage None span h s = tt

  kind-lies : (syntax : Syntax) (scope : Scope) (f : FieldNode) (kind : KindNode) → IfSome f.label (LabelLies n) → SpanLiesIn n f.span → KindLies n kind → Each (LiesIn n) (kind_faults syntax scope f kind)
  kind-lies syntax scope f (Normal type) h s k = tt
  kind-lies Proto2 scope f Group h s k = tt
  kind-lies Proto3 scope f Group h s k = (s, tt)
  kind-lies syntax scope f (Map key key_span) h s k =
      each-both (LiesIn n) (map_faults scope f.label f.span) (key_faults key key_span) (map-lies scope f.label f.span h s) (only-lies (not (may_be_key key)) (fault.InvalidMapFieldKeyType key_span) k)

  place-lies : (syntax : Syntax) (f : FieldNode) (span : Span) → SpanLiesIn n span → Each (LiesIn n) (place_faults syntax f span)
  place-lies syntax f span s =
      each-both (LiesIn n) _ _ (only-lies (is_map f.kind) (fault.InvalidDefault span (placed (codes "map"))) s)
      (each-both (LiesIn n) _ _ (only-lies (not (is_map f.kind) && is_repeated f.label) (fault.InvalidDefault span (placed (codes "repeated"))) s)
      (only-lies (is_proto3 syntax && (not (is_map f.kind) && not (is_repeated f.label))) (fault.Proto3DefaultValue span) s))

  default_value-lies : (kind : KindNode) (body : OptionBody) → SpanLiesIn n (value_span body.value) → Each (LiesIn n) (default_value_faults kind body)
  default_value-lies (Normal type) body h = value-lies (wanted type) body.value h
  default_value-lies Group body h = tt
  default_value-lies (Map key span) body h = tt

  at-lies : (faults : OptionBody → List ParseErrorKind) → ((body : OptionBody) → OptionLies n body → Each (LiesIn n) (faults body)) → (default : Option OptionBody) → IfSome default (OptionLies n) → Each (LiesIn n) (at_default faults default)
  at-lies faults h None k = tt
  at-lies faults h (Some body) k = h body k

  field-lies : (syntax : Syntax) (scope : Scope) (f : FieldNode) → FieldLies n f → Each (LiesIn n) (field_faults syntax scope f)
  field-lies syntax scope f h =
      each-both (LiesIn n) _ _ (at-lies (λ body. place_faults syntax f (body_span body)) (λ body k. place-lies syntax f (body_span body) k.0) f.default h.default)
      (each-both (LiesIn n) _ _ (label-lies syntax scope f.kind f.label f.span h.label h.span)
      (each-both (LiesIn n) _ _ (kind-lies syntax scope f f.kind h.label h.span h.kind)
      (each-both (LiesIn n) _ _
      (at-lies (λ body. group_faults f (body_span body)) (λ body k. only-lies (is_group f.kind) (fault.InvalidDefault (body_span body) (placed (codes "group"))) k.0) f.default h.default)
      (at-lies (λ body. default_value_faults f.kind body) (λ body k. default_value-lies f.kind body k.1) f.default h.default))))

  -- ---- a file

  node-lies : (syntax : Syntax) (node : Node) → NodeLies n node → Each (LiesIn n) (node_faults syntax node)
  node-lies syntax (AMessageNumber int) h = only-lies (not (in_message_range int)) (fault.InvalidMessageNumber int.span) h
  node-lies syntax (AnEnumNumber int) h = only-lies (not (is_in signed_32 int)) (fault.InvalidEnumNumber int.span) h
  node-lies syntax (AField scope field) h = field-lies syntax scope field h
  node-lies syntax (AJsonName v) h = value-lies a_text v h
  node-lies syntax (AnOption v) h = option-lies v h
  node-lies syntax (AnEmptyOneof span) h = (h, tt)

  all-lie : (syntax : Syntax) (nodes : List Node) → Each (NodeLies n) nodes → Each (LiesIn n) (flat_map (node_faults syntax) nodes)
  all-lie syntax [] h = tt
  all-lie syntax (node ∷ nodes) h = each-both (LiesIn n) (node_faults syntax node) (flat_map (node_faults syntax) nodes) (node-lies syntax node h.0) (all-lie syntax nodes h.1)

  -- The faults of a file lie in each source in which it stands.
  pub faults-lie : (file : File) → FileStands n file → Each (LiesIn n) (file_faults file)
  faults-lie file h = all-lie file.syntax (file_nodes file) (nodes-lie n file h)

  -- ---- found faults

  settled-lies : (wrong : ParseErrorKind) → LiesIn n (settled wrong) → LiesIn n wrong
  settled-lies (fault.InvalidDefault span kind) h = h
  settled-lies (fault.InvalidExtendFieldKind span kind) h = h
  settled-lies (fault.InvalidOneofFieldKind span kind) h = h
  settled-lies wrong h = h

  all-settled : (found : List ParseErrorKind) → Each (LiesIn n) (map settled found) → Each (LiesIn n) found
  all-settled [] h = tt
  all-settled (wrong ∷ found) h = (settled-lies wrong h.0, all-settled found h.1)

  -- The listed faults lie there.
  pub listed-lie : (file : File) (found : List ParseErrorKind) → FileStands n file → AreListed file found → Each (LiesIn n) found
  listed-lie file found h e = all-settled found (subst (Each (LiesIn n)) (sym e) (faults-lie file h))
