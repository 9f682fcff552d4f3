use Rattle.std.proofs.Common.{List, subst}
use Rattle.protox_descriptor.specs.declared.descriptor.FileDescriptorProto.{FileDescriptorProto}
use Rattle.protox_imports.specs.Imports.{Imports}
use Rattle.protox_imports.specs.Order.{IsCycle}
use Rattle.protox_link.specs.Prepared.{IsPreparedFor}
use Rattle.protox_link.proofs.linking.link.Goals as goal

pub returns-in-Ok-Circle-clause-refused : goal.returns-in-Ok-Circle-clause-refused
returns-in-Ok-Circle-clause-refused c =
    c.refused_circle.ensures.refused c.args.files.items
    (subst (λ (files : List FileDescriptorProto). IsCycle (Imports files) c.in-Ok-Circle.circle.items) c.as_slice.ensures.value
    (subst (IsPreparedFor c.as_slice.result.now) c.in-Ok-Circle.field-0-is c.in-Ok-Circle.ensures))

pub returns-in-Ok-Circle-clause-stands : goal.returns-in-Ok-Circle-clause-stands
returns-in-Ok-Circle-clause-stands c =
    c.refused_circle.ensures.stands c.args.files.items
    (subst (λ (files : List FileDescriptorProto). IsCycle (Imports files) c.in-Ok-Circle.circle.items) c.as_slice.ensures.value
    (subst (IsPreparedFor c.as_slice.result.now) c.in-Ok-Circle.field-0-is c.in-Ok-Circle.ensures))

pub returns-in-Ok-Circle-clause-circles : goal.returns-in-Ok-Circle-clause-circles
returns-in-Ok-Circle-clause-circles c =
    c.refused_circle.ensures.circles c.args.files.items
    (subst (λ (files : List FileDescriptorProto). IsCycle (Imports files) c.in-Ok-Circle.circle.items) c.as_slice.ensures.value
    (subst (IsPreparedFor c.as_slice.result.now) c.in-Ok-Circle.field-0-is c.in-Ok-Circle.ensures))
