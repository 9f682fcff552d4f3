-- What is found out of a list of files before they are linked.
use Rattle.std.specs.Prelude.{List, length}
use Rattle.protox_descriptor.specs.declared.descriptor.FileDescriptorProto.{FileDescriptorProto}
use Rattle.protox_imports.specs.Imports.{Imports}
use Rattle.protox_imports.specs.Order.{IsCycle, IsInOrder}
use Rattle.protox_link.specs.Known.{IsKnownOf}
use Rattle.protox_link.specs.declared.prepare.Prepared.{Prepared}
use Rattle.protox_link.specs.declared.prepare.Prepared.TheVariants.{Circle, Ready}

abbrev pub IsPreparedFor : List FileDescriptorProto → Prepared → Type 0
IsPreparedFor files (Ready known order) = IsKnownOf files known × IsInOrder (Imports files) (length files) order.items
IsPreparedFor files (Circle circle) = IsCycle (Imports files) circle.items
