-- The words that the code says where it stops reading bodies of messages and groups, level by level.
use Rattle.std.specs.Prelude.{ℕ, zero, suc, [], ◌∷◌, Option, Some, None, codes}
use Rattle.protox_lexeme.specs.Shapes.{Ident, Mark}
use Rattle.protox_ast.specs.Spelling as s
use Rattle.protox_ast.specs.declared.ast.OptionList.{OptionList}
use Rattle.protox_ast.specs.declared.ast.Ty as type_of
use Rattle.protox_ast.specs.declared.ast.Ty.TheVariants as ty
use Rattle.protox_grammar.specs.Class.{only, but, among, in_set}
use Rattle.protox_grammar.specs.Reader.{fixed}
use Rattle.protox_grammar.specs.Token as token
use Rattle.protox_rows.specs.declared.expected.Expected.{Expected}
use Rattle.protox_rows.specs.declared.expected.Expected.TheVariants as expected
use Rattle.protox_rows.specs.inner.Names as names
use Rattle.protox_rows.specs.inner.Words.{Words, always, and_then, choose, times}
use Rattle.protox_rows.specs.inner.Words as rows
use Rattle.protox_declarations.specs.inner.Options as options_rule
use Rattle.protox_declarations.specs.inner.OptionWords as options
use Rattle.protox_declarations.specs.inner.BlockWords as blocks
use Rattle.protox_declarations.specs.inner.Fields as fields_rule
use Rattle.protox_declarations.specs.inner.Bodies as rule

-- ---- fields without bodies

-- What may follow a named type: a dot goes on with it.
abbrev pub after_type : type_of.Ty → Expected → Expected → Expected
after_type (ty.Named name) named scalar = named
after_type _ named scalar = scalar

-- ident "=" int list? ";"
unfoldable pub name_and_number : Expected → Words
name_and_number e = and_then (names.ident).code (always e) (λ name. and_then (fixed (Mark s.equals)) (always expected.Equals)
    (λ m. and_then (names.int).code rows.int (λ number. and_then (options_rule.list_if_any).code options.list (λ given. always (options.after_list given)))))

-- type ident "=" int list? ";"
unfoldable pub normal : Expected → Words
normal e = and_then (names.field_type).code (rows.field_type e) (λ type. name_and_number (after_type type.0 expected.DotOrIdent expected.Ident))

-- "map" "<" type "," type ">" ident "=" int list? ";"
unfoldable pub map_field : Words
map_field = and_then (fixed (Ident (codes "map"))) (always expected.Type) (λ m. and_then (fixed (Mark s.open_angle)) (always expected.LeftAngleBracket)
    (λ open_at. and_then (names.field_type).code (rows.field_type expected.Type) (λ key. and_then (fixed (Mark s.comma)) (always (after_type key.0 expected.DotOrComma expected.Comma))
    (λ comma. and_then (names.field_type).code (rows.field_type expected.Type) (λ value. and_then (fixed (Mark s.close_angle)) (always (after_type value.0 expected.DotOrRightAngleBracket expected.RightAngleBracket))
    (λ close_at. name_and_number expected.Ident))))))

-- option | reserved | extensions
unfoldable pub bodiless_element : Words
bodiless_element = choose (only token.option) (options.option expected.MessageBody) (choose (only token.reserved) (blocks.reserved expected.MessageBody) (blocks.extensions expected.MessageBody))

-- What may follow a group's number: its body or a list of options.
abbrev pub before_body : Option OptionList → Expected
before_body (Some given) = expected.LeftBrace
before_body None = expected.BraceOrOptions

-- ---- declarations with bodies of at most n levels, given the words of such a body

module _ (n : ℕ) (body : Expected → Words) where
  -- "=" int list? mbody
  unfoldable pub number_and_body : Words
  number_and_body = and_then (fixed (Mark s.equals)) (always expected.Equals) (λ m. and_then (names.int).code rows.int (λ number. and_then (options_rule.list_if_any).code options.list (λ given. body (before_body given))))

  -- "group" ident "=" int list? mbody
  unfoldable pub group : Words
  group = and_then (fixed (Ident (codes "group"))) (always expected.Type) (λ m. and_then (fields_rule.group_name).code (always expected.Ident) (λ name. number_and_body))

  -- map | group
  unfoldable pub map_or_group : Words
  map_or_group = choose (only token.map) map_field group

  -- map | group | normal
  unfoldable pub field_kind : Expected → Words
  field_kind e = choose (among (token.map ∷ token.group ∷ [])) (choose (only token.map) map_field group) (normal e)

  -- label? field_kind
  unfoldable pub labelled_kind : Expected → Words
  labelled_kind e = choose (among (token.optional ∷ token.required ∷ token.repeated ∷ [])) (and_then (names.label).code (always expected.MessageBody) (λ label. field_kind expected.Type)) (field_kind e)

  -- ";" | field
  unfoldable pub extend_element : Words
  extend_element = choose (only token.semicolon) (always expected.Semicolon) (labelled_kind expected.ExtendBody)

  -- the elements up to the `}`
  unfoldable pub extend_elements : Words
  extend_elements = times (in_set (but token.close_brace)) (rule.extend_element_at n) extend_element

  -- "extend" typename "{" extend_element* "}"
  unfoldable pub extend : Words
  extend = and_then (fixed (Ident (codes "extend"))) (always expected.Statement) (λ m. and_then (names.typename).code (rows.typename expected.TypeName) (λ name. and_then (fixed (Mark s.open_brace)) (always expected.DotOrLeftBrace)
      (λ open_at. and_then (rule.extend_elements_at n) extend_elements (λ x. always expected.ExtendBody))))

  -- ";" | option | field
  unfoldable pub oneof_element : Words
  oneof_element = choose (only token.semicolon) (always expected.Semicolon) (choose (among (token.option ∷ [])) (options.option expected.OneofBody) (labelled_kind expected.OneofBody))

  -- the elements up to the `}`
  unfoldable pub oneof_elements : Words
  oneof_elements = times (in_set (but token.close_brace)) (rule.oneof_element_at n) oneof_element

  -- "oneof" ident "{" oneof_element* "}"
  unfoldable pub oneof : Words
  oneof = and_then (fixed (Ident (codes "oneof"))) (always expected.MessageBody) (λ m. and_then (names.ident).code (always expected.Ident) (λ name. and_then (fixed (Mark s.open_brace)) (always expected.LeftBrace)
      (λ open_at. and_then (rule.oneof_elements_at n) oneof_elements (λ x. always expected.OneofBody))))

  -- "message" ident mbody
  unfoldable pub message : Words
  message = and_then (fixed (Ident (codes "message"))) (always expected.Statement) (λ m. and_then (names.ident).code (always expected.Ident) (λ name. body expected.LeftBrace))

  -- oneof | enum | message | extend | option | reserved | extensions
  unfoldable pub keyword_element : Words
  keyword_element = choose (only token.oneof) oneof (choose (only token.enum) (blocks.enum_ expected.MessageBody) (choose (only token.message) message (choose (only token.extend) extend bodiless_element)))

  -- ";" | keyword_element | field
  unfoldable pub element : Words
  element = choose (only token.semicolon) (always expected.Semicolon)
      (choose (among (token.oneof ∷ token.enum ∷ token.message ∷ token.extend ∷ token.option ∷ token.reserved ∷ token.extensions ∷ [])) keyword_element (labelled_kind expected.MessageBody))

  -- the elements up to the `}`
  unfoldable pub elements : Words
  elements = times (in_set (but token.close_brace)) (rule.element_at n) element

  -- "{" element* "}"
  unfoldable pub braces : Expected → Words
  braces e = and_then (fixed (Mark s.open_brace)) (always e) (λ open_at. and_then (rule.elements_at n) elements (λ x. always expected.MessageBody))

-- ---- levels

-- a body of at most n levels
unfoldable pub mbody_at : ℕ → Expected → Words
mbody_at zero e = always e
mbody_at (suc n) e = braces n (mbody_at n) e

-- ---- with n levels left

abbrev pub number_and_body_at : ℕ → Words
number_and_body_at n = number_and_body n (mbody_at n)

abbrev pub group_at : ℕ → Words
group_at n = group n (mbody_at n)

abbrev pub map_or_group_at : ℕ → Words
map_or_group_at n = map_or_group n (mbody_at n)

abbrev pub field_kind_at : ℕ → Expected → Words
field_kind_at n = field_kind n (mbody_at n)

abbrev pub labelled_kind_at : ℕ → Expected → Words
labelled_kind_at n = labelled_kind n (mbody_at n)

abbrev pub extend_element_at : ℕ → Words
extend_element_at n = extend_element n (mbody_at n)

abbrev pub extend_elements_at : ℕ → Words
extend_elements_at n = extend_elements n (mbody_at n)

abbrev pub extend_at : ℕ → Words
extend_at n = extend n (mbody_at n)

abbrev pub oneof_element_at : ℕ → Words
oneof_element_at n = oneof_element n (mbody_at n)

abbrev pub oneof_elements_at : ℕ → Words
oneof_elements_at n = oneof_elements n (mbody_at n)

abbrev pub oneof_at : ℕ → Words
oneof_at n = oneof n (mbody_at n)

abbrev pub message_at : ℕ → Words
message_at n = message n (mbody_at n)

abbrev pub keyword_element_at : ℕ → Words
keyword_element_at n = keyword_element n (mbody_at n)

abbrev pub element_at : ℕ → Words
element_at n = element n (mbody_at n)

abbrev pub elements_at : ℕ → Words
elements_at n = elements n (mbody_at n)

abbrev pub braces_at : ℕ → Expected → Words
braces_at n = braces n (mbody_at n)
