-- Options. A parser reads `default` and `json_name` of a field. It leaves all others uninterpreted.
use Rattle.std.specs.Prelude.{ℕ, Bool, true, false, if◌then◌else◌, List, [], ◌∷◌, map, Option, Some, None, option_and_then, ℤ, codes, bytes_eq, find}
use Rattle.protox_ast.specs.Names.{type_name_text}
use Rattle.protox_ast.specs.declared.ast.Option as statements
use Rattle.protox_ast.specs.declared.ast.OptionNamePart.{OptionNamePart}
use Rattle.protox_ast.specs.declared.ast.OptionNamePart.TheVariants as part
use Rattle.protox_ast.specs.declared.ast.OptionBody.{OptionBody}
use Rattle.protox_ast.specs.declared.ast.OptionList.{OptionList}
use Rattle.protox_ast.specs.declared.ast.OptionValue.{OptionValue}
use Rattle.protox_ast.specs.declared.ast.OptionValue.TheVariants as value
use Rattle.protox_descriptor.specs.declared.descriptor.options.UninterpretedOption.{UninterpretedOption}
use Rattle.protox_descriptor.specs.declared.descriptor.uninterpreted_option.NamePart.{NamePart}
use Rattle.protox_ast.specs.Values.{any_64, number_in, default_text, a_text}

-- An option statement.
abbrev pub OptionStatement : Type 0
OptionStatement = statements.Option

-- ---- uninterpreted options

-- A part of an option's name. The name of an extension has no parentheses.
abbrev pub name_part : OptionNamePart → NamePart
name_part (part.Ident ident) = record { name_part = ident.value; is_extension = false }
name_part (part.Extension name span) = record { name_part = type_name_text name; is_extension = true }

-- An uninterpreted option has exactly one of the values below, by its kind. First an identifier;
-- with a minus sign it gives no value.
abbrev pub identifier_value : OptionValue → Option (List ℕ)
identifier_value (value.Ident negative ident span) = if negative then None else Some ident.value
identifier_value _ = None

-- An integer without a minus sign.
abbrev pub positive_int_value : OptionValue → Option ℕ
positive_int_value (value.Int int) = if int.negative then None else Some int.value
positive_int_value _ = None

-- An integer with a minus sign, `-0` too. None if it is below -2 ^ 63.
abbrev pub negative_int_value : OptionValue → Option ℤ
negative_int_value (value.Int int) = if int.negative then number_in any_64 int else None
negative_int_value _ = None

-- The text of a float, with its sign.
abbrev pub double_value : OptionValue → Option (List ℕ)
double_value (value.Float float) = Some float.value
double_value _ = None

-- The bytes of a string.
abbrev pub string_value : OptionValue → Option (List ℕ)
string_value (value.String string) = Some string.value
string_value _ = None

-- The text of an aggregate.
abbrev pub aggregate_value : OptionValue → Option (List ℕ)
aggregate_value (value.Aggregate text span) = Some text
aggregate_value _ = None

-- The option with its name and its value, uninterpreted.
abbrev pub uninterpreted : OptionBody → UninterpretedOption
uninterpreted body = record {
  name = map name_part body.name;
  identifier_value = identifier_value body.value;
  positive_int_value = positive_int_value body.value;
  negative_int_value = negative_int_value body.value;
  double_value = double_value body.value;
  string_value = string_value body.value;
  aggregate_value = aggregate_value body.value;
}

-- ---- messages of options

-- A message of options. None if there is no option.
abbrev pub options_message : {A : Type 0} → (List UninterpretedOption → A) → List OptionBody → Option A
options_message message [] = None
options_message message (body ∷ bodies) = Some (message (map uninterpreted (body ∷ bodies)))

-- The bodies of option statements.
abbrev pub bodies_of : List OptionStatement → List OptionBody
bodies_of statements = map (λ statement. statement.body) statements

-- The options between brackets, if there are any.
abbrev pub listed : Option OptionList → List OptionBody
listed None = []
listed (Some list) = list.options

-- ---- the options of a field

-- Whether the option's name is this one identifier.
abbrev pub is_name : List ℕ → List OptionNamePart → Bool
is_name name (part.Ident ident ∷ []) = bytes_eq ident.value name
is_name name _ = false

-- Whether the option has this name.
abbrev pub has_name : List ℕ → OptionBody → Bool
has_name name body = is_name name body.name

-- The list without the first option of this name.
abbrev pub without_first : List ℕ → List OptionBody → List OptionBody
without_first name [] = []
without_first name (body ∷ bodies) = if has_name name body then bodies else body ∷ without_first name bodies

-- The first `default` of a list.
abbrev pub default_of : Option OptionList → Option OptionBody
default_of list = find (has_name (codes "default")) (listed list)

-- The first `json_name` of a list.
abbrev pub json_name_of : Option OptionList → Option OptionBody
json_name_of list = find (has_name (codes "json_name")) (listed list)

-- The other options. A second `default` or `json_name` stays among them.
abbrev pub options_left : Option OptionList → List OptionBody
options_left list = without_first (codes "json_name") (without_first (codes "default") (listed list))

-- The text of `json_name`, if its value is a string of valid UTF-8.
abbrev pub json_name : Option OptionBody → Option (List ℕ)
json_name body = option_and_then (λ (b : OptionBody). default_text a_text b.value) body
