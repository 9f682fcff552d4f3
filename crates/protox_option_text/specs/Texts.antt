-- The texts of what is wrong with statements, as protoc has them.
use Rattle.std.specs.Prelude.{ℕ, ◌+◌, ◌-◌, ◌==◌, List, [], ◌∷◌, ◌++◌, Option, Some, None, Result, Ok, Err, codes, length, slice_get, take, if◌then◌else◌}
use Rattle.protox_descriptor.specs.FieldDescriptorProto.{FieldDescriptorProto}
use Rattle.protox_descriptor.specs.Printed.{name_text as written}
use Rattle.protox_descriptor.specs.declared.descriptor.DescriptorProto.{DescriptorProto, out-DescriptorProto}
use Rattle.protox_descriptor.specs.declared.descriptor.options.UninterpretedOption.{UninterpretedOption}
use Rattle.protox_interpret.specs.Sites.{named, table}
use Rattle.protox_interpret.specs.declared.fault.StatementFaultKind.{StatementFaultKind}
use Rattle.protox_interpret.specs.declared.fault.StatementFaultKind.TheVariants as kind
use Rattle.protox_interpret.specs.declared.site.Site.{Site}
use Rattle.protox_name_tree.specs.Tree.{dotted, name_at}
use Rattle.protox_settings.specs.Fields.{field_numbered, message_numbered}
use Rattle.protox_settings.specs.Texts.{name_fault_text, not_in_braces_text}
use Rattle.protox_settings.specs.declared.fault.NameFault.{NameFault}
use Rattle.protox_settings.specs.declared.fault.NameFaultKind.{NameFaultKind}
use Rattle.protox_settings.specs.declared.fault.NameFaultKind.TheVariants as name
use Rattle.protox_settings.specs.declared.fault.SettingFault.{SettingFault}
use Rattle.protox_settings.specs.declared.fault.SettingFault.TheVariants as setting
use Rattle.protox_values.specs.Texts.{enum_fault_text, fault_text}
use Rattle.protox_walk.specs.Declarations.{text_of}

-- ---- names

-- a name without the dot in front
abbrev pub without_dot : List ℕ → List ℕ
without_dot [] = []
without_dot (byte ∷ more) = if byte == 46 then more else byte ∷ more

-- the full name with a number
abbrev pub full_name : Site → ℕ → List ℕ
full_name here n = without_dot (dotted (name_at (table here).names n))

abbrev pub message_name : Option DescriptorProto → List ℕ
message_name None = []
message_name (Some message) = text_of (out-DescriptorProto message).name

-- the own name of the message that a part of a name is looked for in, where the text tells it
abbrev pub other_message : Site → NameFaultKind → List ℕ
other_message here (name.OfOtherMessage n) = message_name (message_numbered here.files.now (table here) n)
other_message here _ = []

-- the last of the fields that a name goes through, if it leads to one
abbrev pub last_of : Result (List ℕ) NameFault → Option ℕ
last_of (Ok fields) = slice_get fields (length fields - 1)
last_of (Err fault) = None

abbrev pub last_field : Site → UninterpretedOption → Option ℕ
last_field here statement = last_of (named here statement.name)

-- ---- texts

-- The text shows the name up to the part that is wrong.
abbrev pub name_text : Site → UninterpretedOption → NameFault → List ℕ
name_text here statement fault = name_fault_text fault.kind (take (fault.part + 1) statement.name) (other_message here fault.kind)

-- of the value of a field with this full name
abbrev pub value_text : UninterpretedOption → FieldDescriptorProto → List ℕ → SettingFault → List ℕ
value_text statement field full (setting.WrongValue scalar fault) = fault_text fault scalar full (text_of field.name)
value_text statement field full (setting.WrongEnum fault) = enum_fault_text fault (without_dot (text_of field.type_name)) (text_of statement.identifier_value) full
value_text statement field full setting.NotInBraces = not_in_braces_text full (text_of field.name)
value_text statement field full setting.Untyped = codes "Option \"" ++ full ++ codes "\" has no type."

-- of what the statement gives a field with this number
abbrev pub field_text : Site → UninterpretedOption → ℕ → FieldDescriptorProto → StatementFaultKind → List ℕ
field_text here statement n field (kind.Value fault) = value_text statement field (full_name here n) fault
field_text here statement n field _ = codes "Error while parsing option value for \"" ++ text_of field.name ++ codes "\""

abbrev pub text_if_any : Site → UninterpretedOption → ℕ → Option FieldDescriptorProto → StatementFaultKind → List ℕ
text_if_any here statement n None wrong = []
text_if_any here statement n (Some field) wrong = field_text here statement n field wrong

abbrev pub given_text : Site → UninterpretedOption → Option ℕ → StatementFaultKind → List ℕ
given_text here statement None wrong = []
given_text here statement (Some n) wrong = text_if_any here statement n (field_numbered here.files.now (table here) n) wrong

-- What is wrong with a statement. A field that a fault is about is one that its name leads to.
abbrev pub statement_text : Site → UninterpretedOption → StatementFaultKind → List ℕ
statement_text here statement (kind.Name fault) = name_text here statement fault
statement_text here statement kind.AlreadySet = codes "Option \"" ++ written statement.name ++ codes "\" was already set."
statement_text here statement wrong = given_text here statement (last_field here statement) wrong
