use Rattle.std.proofs.Common.{◌≡◌, ◌≢◌, IfNone, IfSome, rules}
use Rattle.protox_descriptor.specs.FieldWords.{type_number}
use Rattle.protox_descriptor.specs.declared.descriptor.field_descriptor_proto.FieldType.{FieldType}
use Rattle.protox_settings.proofs.Types.{tells}
use Rattle.protox_settings.proofs.setting.type_numbered.Goals as goal

pub returns : goal.returns
returns c =
    let found : IfSome c.from_number.result (λ t. type_number t ≡ c.args.number) = search (rules, c.from_number.ensures.found) in
    let none : IfNone c.from_number.result ((t : FieldType) → type_number t ≢ c.args.number) = search (rules, c.from_number.ensures.none) in
    tells c.args.number c.from_number.result found none
