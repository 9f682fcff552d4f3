-- Which declarations have a descriptor that may be much longer than their text: it repeats a part
-- of the text many times.
use Rattle.std.specs.Prelude.{ℕ, ◌-◌, Bool, false, ◌||◌, ◌&&◌, nat_lt, List, length, Option, Some, None}
use Rattle.std.specs.List.{list_any}
use Rattle.protox_ast.specs.Names.{type_name_span}
use Rattle.protox_ast.specs.Steps.{Steps, of_extend, of_message}
use Rattle.protox_ast.specs.declared.ast.Extensions.{Extensions}
use Rattle.protox_ast.specs.declared.ast.FieldKind.TheOpen.{FieldKind-F, MessageItem-F}
use Rattle.protox_ast.specs.declared.ast.FileItem.{FileItem}
use Rattle.protox_ast.specs.declared.ast.FileItem.TheVariants as item
use Rattle.protox_ast.specs.declared.ast.OptionList.{OptionList}
use Rattle.protox_ast.specs.declared.ast.TypeName.{TypeName}
use Rattle.protox_fault.specs.Faults.{Span}

-- ---- what is repeated

-- The number of bytes of a place in the source.
abbrev pub span_len : Span → ℕ
span_len span = span.end - span.start

-- The number of bytes that options take, with their brackets.
abbrev pub list_len : Option OptionList → ℕ
list_len None = 0
list_len (Some list) = span_len list.span

-- An `extensions` statement has more than 8 ranges, and options of more than 64 bytes. The
-- descriptor has the options once for each range.
abbrev pub repeats_options : Extensions → Bool
repeats_options statement = nat_lt 8 (length statement.ranges) && nat_lt 64 (list_len statement.options)

-- More than 64 fields extend a message, and its name takes more than 64 bytes. The descriptor has
-- the name once for each field.
abbrev pub repeats_extendee : TypeName → ℕ → Bool
repeats_extendee extendee fields = nat_lt 64 fields && nat_lt 64 (span_len (type_name_span extendee))

-- ---- where it is repeated

-- Whether one of the parts repeats much.
abbrev pub some : List Bool → Bool
some parts = list_any (λ part. part) parts

-- A level of the tree, where each part in it is replaced by whether that part repeats much.
abbrev Layer : (Type 0 → Type 0 → Type 0 → Type 0 → Type 0 → Type 0 → Type 0 → Type 0) → Type 0
Layer F = F Bool Bool Bool Bool Bool Bool Bool → Bool

-- Of the kinds of fields only groups have parts.
abbrev pub kind_step : Layer FieldKind-F
kind_step (FieldKind-F.Normal type span) = false
kind_step (FieldKind-F.Group span body) = body
kind_step (FieldKind-F.Map span key key_span value value_span) = false

-- In an enum nothing is repeated.
abbrev pub item_step : Layer MessageItem-F
item_step (MessageItem-F.Field field) = field
item_step (MessageItem-F.Message message) = message
item_step (MessageItem-F.Oneof oneof) = oneof
item_step (MessageItem-F.Enum enum) = false
item_step (MessageItem-F.Extend extend) = extend

-- A message repeats much if an `extensions` statement of it does, or a part in it. An `extend`
-- block does if it repeats its extendee, or if a part in it repeats much.
abbrev pub repeat_steps : Steps Bool Bool Bool Bool Bool Bool Bool
repeat_steps = record {
  kind = kind_step;
  item = item_step;
  extend = λ e. repeats_extendee e.extendee (length e.fields) || some e.fields;
  field = λ f. f.kind;
  message = λ m. m.body;
  body = λ b. list_any repeats_options b.extensions || some b.items;
  oneof = λ o. some o.fields;
}

-- Whether anything in a declaration of a file repeats much, at any depth.
abbrev pub repeats_much : FileItem → Bool
repeats_much (item.Enum enum) = false
repeats_much (item.Message message) = of_message repeat_steps message
repeats_much (item.Extend extend) = of_extend repeat_steps extend
repeats_much (item.Service service) = false
