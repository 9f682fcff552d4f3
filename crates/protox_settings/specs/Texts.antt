-- The texts of faults, as protoc has them.
use Rattle.std.specs.Prelude.{ℕ, List, ◌++◌, codes}
use Rattle.protox_descriptor.specs.Printed.{name_text}
use Rattle.protox_descriptor.specs.declared.descriptor.uninterpreted_option.NamePart.{NamePart}
use Rattle.protox_settings.specs.declared.fault.NameFaultKind.{NameFaultKind}
use Rattle.protox_settings.specs.declared.fault.NameFaultKind.TheVariants.{NoName, Reserved, Unknown, OfOtherMessage, NotAMessage, Repeated}

-- The name ends with the part that is wrong, and the message is the one that it is looked for in.
abbrev pub name_fault_text : NameFaultKind → List NamePart → List ℕ → List ℕ
name_fault_text NoName name message = codes "Option must have a name."
name_fault_text Reserved name message = codes "Option must not use reserved name \"uninterpreted_option\"."
name_fault_text Unknown name message = codes "Option \"" ++ name_text name ++ codes "\" unknown. Ensure that your proto definition file imports the proto which defines the option."
name_fault_text (OfOtherMessage n) name message = codes "Option field \"" ++ name_text name ++ codes "\" is not a field or extension of message \"" ++ message ++ codes "\"."
name_fault_text NotAMessage name message = codes "Option \"" ++ name_text name ++ codes "\" is an atomic type, not a message."
name_fault_text Repeated name message = codes "Option field \"" ++ name_text name ++ codes "\" is a repeated message. Repeated message options must be initialized using an aggregate value."

abbrev pub not_in_braces_text : List ℕ → List ℕ → List ℕ
not_in_braces_text full_name name =
    codes "Option \"" ++ full_name ++ codes "\" is a message. To set the entire message, use syntax like \"" ++ name
    ++ codes " = { <proto text format> }\". To set fields within it, use syntax like \"" ++ name ++ codes ".foo = value\"."
