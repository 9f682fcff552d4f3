-- What may be wrong with a field: its label, its kind in this place, and its `default`.
use Rattle.std.specs.Prelude.{◌≡◌, ℕ, Bool, true, false, List, Option, Some, None, codes, ◌⊎◌}
use Rattle.std.specs.Borrow.{Bor}
use Rattle.protox_fault.specs.Faults.{Span}
use Rattle.protox_fault.specs.declared.error.ParseErrorKind.{ParseErrorKind}
use Rattle.protox_fault.specs.declared.error.ParseErrorKind.TheVariants as fault
use Rattle.protox_ast.specs.declared.ast.FieldLabel.{FieldLabel}
use Rattle.protox_ast.specs.declared.ast.FieldLabel.TheVariants as label
use Rattle.protox_ast.specs.declared.ast.OptionBody.{OptionBody}
use Rattle.protox_ast.specs.declared.ast.Syntax.{Syntax}
use Rattle.protox_ast.specs.declared.ast.Syntax.TheVariants.{Proto2, Proto3}
use Rattle.protox_ast.specs.declared.ast.Ty.{Ty}
use Rattle.protox_ast.specs.declared.ast.Ty.TheVariants as ty
use Rattle.protox_ast.specs.Spans.{body_span}
use Rattle.protox_checks.specs.ValueFaults.{WrongValue}
-- where a field stands: in a message, a oneof or an `extend`
pub use Rattle.protox_checks.specs.declared.scope.Scope.{Scope}
pub use Rattle.protox_checks.specs.declared.scope.Scope.TheVariants.{InMessage, InOneof, InExtend}
use Rattle.protox_ast.specs.Values.{wanted}

-- the kind of a field: of a type, a group, or a map with this type of keys at this span
pub data KindNode : Type 0 where
  Normal : Ty → KindNode
  Group : KindNode
  Map : Ty → Span → KindNode

-- a field without its name, its number and its body
pub record FieldNode : Type 0 where
  pub label : Option (FieldLabel × Span)
  pub kind : KindNode
  pub default : Option OptionBody
  pub span : Span

-- The fault is this one, with this word as its kind.
abbrev pub WithKind : List ℕ → (Bor (List ℕ) → ParseErrorKind) → ParseErrorKind → Type 0
WithKind word named wrong = (kind : Bor (List ℕ)) × (kind.now ≡ word) × (wrong ≡ named kind)

-- ---- labels

-- A field has at most one fault of its label: the first of these that holds. A map has none of
-- them.
abbrev pub WrongLabel : Syntax → Scope → KindNode → Option (FieldLabel × Span) → Span → ParseErrorKind → Type 0
WrongLabel syntax scope (Map key key_span) label span wrong = ⊥
WrongLabel syntax InExtend kind (Some (label.Required, at)) span wrong = wrong ≡ fault.RequiredExtendField at
WrongLabel syntax InOneof kind (Some (label, at)) span wrong = wrong ≡ fault.OneofFieldWithLabel at
WrongLabel syntax InOneof kind None span wrong = ⊥
WrongLabel Proto2 scope kind None span wrong = wrong ≡ fault.Proto2FieldMissingLabel span
WrongLabel Proto3 scope kind (Some (label.Required, at)) span wrong = wrong ≡ fault.Proto3RequiredField at
WrongLabel syntax scope kind label span wrong = ⊥

-- ---- kinds

-- A map is not allowed here, or it has a label.
abbrev pub WrongMap : Scope → Option (FieldLabel × Span) → Span → ParseErrorKind → Type 0
WrongMap InOneof label span wrong = WithKind (codes "map") (fault.InvalidOneofFieldKind span) wrong
WrongMap InExtend label span wrong = WithKind (codes "map") (fault.InvalidExtendFieldKind span) wrong
WrongMap InMessage (Some label) span wrong = wrong ≡ fault.MapFieldWithLabel label.1
WrongMap InMessage None span wrong = ⊥

-- Types of map keys: integers, `bool` and `string`.
abbrev pub may_be_key : Ty → Bool
may_be_key ty.Double = false
may_be_key ty.Float = false
may_be_key ty.Bytes = false
may_be_key (ty.Named name) = false
may_be_key _ = true

-- The type isn't allowed for the keys of a map.
abbrev pub WrongKey : Ty → Span → ParseErrorKind → Type 0
WrongKey key span wrong = (may_be_key key ≡ false) × (wrong ≡ fault.InvalidMapFieldKeyType span)

-- The fault is one of the field's kind.
abbrev pub WrongKind : Syntax → Scope → FieldNode → KindNode → ParseErrorKind → Type 0
WrongKind syntax scope f (Normal type) wrong = ⊥
WrongKind Proto2 scope f Group wrong = ⊥
WrongKind Proto3 scope f Group wrong = wrong ≡ fault.Proto3GroupField f.span
WrongKind syntax scope f (Map key key_span) wrong = WrongMap scope f.label f.span wrong ⊎ WrongKey key key_span wrong

-- ---- defaults

-- The field is a map.
abbrev pub is_map : KindNode → Bool
is_map (Map key span) = true
is_map _ = false

-- The field is a group.
abbrev pub is_group : KindNode → Bool
is_group Group = true
is_group _ = false

-- The field has the label `repeated`.
abbrev pub is_repeated : Option (FieldLabel × Span) → Bool
is_repeated (Some (label.Repeated, span)) = true
is_repeated _ = false

-- A `default` is not allowed here. At a repeated group there are two such faults.
pub data WrongDefault (syntax : Syntax) (f : FieldNode) (span : Span) (wrong : ParseErrorKind) : Type 0 where
  on_map : is_map f.kind ≡ true → WithKind (codes "map") (fault.InvalidDefault span) wrong → WrongDefault syntax f span wrong
  on_repeated : is_map f.kind ≡ false → is_repeated f.label ≡ true → WithKind (codes "repeated") (fault.InvalidDefault span) wrong → WrongDefault syntax f span wrong
  on_group : is_group f.kind ≡ true → WithKind (codes "group") (fault.InvalidDefault span) wrong → WrongDefault syntax f span wrong
  in_proto3 : syntax ≡ Proto3 → is_map f.kind ≡ false → is_repeated f.label ≡ false → wrong ≡ fault.Proto3DefaultValue span → WrongDefault syntax f span wrong

-- The `default` has a value that doesn't fit the field's type.
abbrev pub WrongDefaultValue : KindNode → OptionBody → ParseErrorKind → Type 0
WrongDefaultValue (Normal type) body wrong = WrongValue (wanted type) body.value wrong
WrongDefaultValue kind body wrong = ⊥

-- ---- a field

-- The fault is one of the field.
pub data WrongField (syntax : Syntax) (scope : Scope) (f : FieldNode) (wrong : ParseErrorKind) : Type 0 where
  of_label : WrongLabel syntax scope f.kind f.label f.span wrong → WrongField syntax scope f wrong
  of_kind : WrongKind syntax scope f f.kind wrong → WrongField syntax scope f wrong
  of_default : (body : OptionBody) → f.default ≡ Some body → WrongDefault syntax f (body_span body) wrong → WrongField syntax scope f wrong
  of_default_value : (body : OptionBody) → f.default ≡ Some body → WrongDefaultValue f.kind body wrong → WrongField syntax scope f wrong
