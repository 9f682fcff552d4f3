-- The locations of a field's parts, and of the message made for a group or a map entry. Paths begin
-- at the field's path.
use Rattle.std.specs.Prelude.{List, [], ◌∷◌, ◌++◌, Option, Some, None, ℤ}
use Rattle.protox_fault.specs.Faults.{Span}
use Rattle.protox_ast.specs.Names.{type_name_span}
use Rattle.protox_ast.specs.declared.ast.Comments.{Comments}
use Rattle.protox_ast.specs.declared.ast.FieldKind.TheOpen.{Field-F, FieldKind-F}
use Rattle.protox_ast.specs.declared.ast.FieldLabel.{FieldLabel}
use Rattle.protox_ast.specs.declared.ast.Ident.{Ident}
use Rattle.protox_ast.specs.declared.ast.Int.{Int}
use Rattle.protox_ast.specs.declared.ast.OptionBody.{OptionBody}
use Rattle.protox_ast.specs.declared.ast.OptionList.{OptionList}
use Rattle.protox_ast.specs.declared.ast.Ty.{Ty}
use Rattle.protox_ast.specs.declared.ast.Ty.TheVariants as ty
use Rattle.protox_ast.specs.declared.ast.TypeName.{TypeName}
use Rattle.protox_descriptor.specs.declared.descriptor.source_code_info.Location.{Location}
use Rattle.protox_descriptor.specs.declared.tag.field.TheConstants as field_tag
use Rattle.protox_descriptor.specs.declared.tag.message.TheConstants as message_tag
use Rattle.protox_locate.specs.LocationWords.{Path, Part, part, commented, bare, option_list}
use Rattle.protox_ast.specs.Options.{default_of, json_name_of, options_left}
use Rattle.protox_ast.specs.Spans.{body_span, value_span}

-- The locations of a field: its own, given the extended type if it is an extension; and those of
-- the message of a group or of a map entry.
pub record OfField : Type 0 where
  pub own : Option TypeName → Part
  pub messages : List Part

-- the kind of a field, with the place of its type
pub data OfKind : Type 0 where
  Normal : Ty → Span → OfKind
  Group : Span → Part → OfKind
  Map : Span → OfKind

-- the field number of the type: `type` for a scalar, `type_name` for a named type
abbrev pub type_tag_of : Ty → ℤ
type_tag_of (ty.Named name) = field_tag.TYPE_NAME
type_tag_of _ = field_tag.TYPE

module _ (numbers : Span → List ℤ) where
  -- The location of the whole field. A group has no comments there.
  abbrev pub itself : Path → Span → Comments → OfKind → Location
  itself path span comments (Group word body) = bare numbers path span
  itself path span comments _ = commented numbers path span comments

  -- the extended type, if the field is in an `extend`
  abbrev pub extended : Path → Option TypeName → List Location
  extended path None = []
  extended path (Some extendee) = bare numbers (part path field_tag.EXTENDEE) (type_name_span extendee) ∷ []

  -- the label, if there is one
  abbrev pub label_locations : Path → Option (FieldLabel × Span) → List Location
  label_locations path None = []
  label_locations path (Some label) = bare numbers (part path field_tag.LABEL) label.1 ∷ []

  -- the label, if there is one and the field isn't a map
  abbrev pub labelled : Path → Option (FieldLabel × Span) → OfKind → List Location
  labelled path label (Map span) = []
  labelled path label _ = label_locations path label

  -- The type: a scalar, or the name of a type; for a group its word and its name; for a map its
  -- type, as the name of the entry message.
  abbrev pub typed : Path → Ident → OfKind → List Location
  typed path name (Normal type span) = bare numbers (part path (type_tag_of type)) span ∷ []
  typed path name (Group word body) = bare numbers (part path field_tag.TYPE) word ∷ bare numbers (part path field_tag.TYPE_NAME) name.span ∷ []
  typed path name (Map span) = bare numbers (part path field_tag.TYPE_NAME) span ∷ []

  -- the value of the `default` option, if there is one
  abbrev pub defaulted : Path → Option OptionBody → List Location
  defaulted path None = []
  defaulted path (Some body) = bare numbers (part path field_tag.DEFAULT_VALUE) (value_span body.value) ∷ []

  -- the `json_name` option, if there is one, and then its value
  abbrev pub json_named : Path → Option OptionBody → List Location
  json_named path None = []
  json_named path (Some body) =
      bare numbers (part path field_tag.JSON_NAME) (body_span body) ∷ bare numbers (part path field_tag.JSON_NAME) (value_span body.value) ∷ []

  -- the message of a group
  abbrev pub group_locations : Ident → Comments → Span → Part → Part
  group_locations name comments span body path =
      commented numbers path span comments ∷ bare numbers (part path message_tag.NAME) name.span ∷ body path

  -- The message of a group; or a map's entry message, which no source writes and which has no
  -- locations.
  abbrev pub brought : Ident → Comments → Span → OfKind → List Part
  brought name comments span (Normal type place) = []
  brought name comments span (Group word body) = group_locations name comments span body ∷ []
  brought name comments span (Map place) = (λ path. []) ∷ []

  -- the kind of a field, without what needs no location
  abbrev pub kind_step : {I E F M O : Type 0} → FieldKind-F OfKind I E F M Part O → OfKind
  kind_step (FieldKind-F.Normal type span) = Normal type span
  kind_step (FieldKind-F.Group span body) = Group span body
  kind_step (FieldKind-F.Map span key key_span value value_span) = Map span

  -- the parts of a field from its number on
  abbrev pub from_number : Path → Int → Option (FieldLabel × Span) → Ident → OfKind → Option OptionList → List Location
  from_number path number label name kind options =
      bare numbers (part path field_tag.NUMBER) number.span
      ∷ (labelled path label kind
      ++ (typed path name kind
      ++ (defaulted path (default_of options)
      ++ (option_list numbers (part path field_tag.OPTIONS) options (options_left options)
      ++ json_named path (json_name_of options)))))

  -- the locations of a field, given its kind
  abbrev pub field_step : {I E F M O : Type 0} → Field-F OfKind I E F M Part O → OfField
  field_step f = record {
    own = λ extendee path.
        itself path f.span f.comments f.kind
        ∷ bare numbers (part path field_tag.NAME) f.name.span
        ∷ (extended path extendee ++ from_number path f.number f.label f.name f.kind f.options);
    messages = brought f.name f.comments f.span f.kind;
  }
