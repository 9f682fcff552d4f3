-- What a field becomes after its options were lent to be changed.
use Rattle.std.specs.Prelude.{Option, Some}
use Rattle.std.specs.Borrow.{LendsIf, Fml, MutBor}
use Rattle.protox_descriptor.specs.FieldDescriptorProto.{FieldDescriptorProto}
use Rattle.protox_descriptor.specs.declared.descriptor.options.FieldOptions.{FieldOptions}
use Rattle.protox_descriptor.specs.contracts.descriptor.field.FieldDescriptorProto as field
use Rattle.protox_descriptor.specs.contracts.descriptor.options.FieldOptions as options

-- The field after the loan. Its options have the last value behind the reference. Without a
-- reference the field stays as it was.
abbrev pub lends_options : MutBor FieldDescriptorProto → Option (MutBor FieldOptions) → Fml
lends_options whole lent = LendsIf field.the_row options.the_row whole lent (λ o. record whole.now { options = Some o }) whole.now
