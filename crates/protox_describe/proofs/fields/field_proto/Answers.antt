use Rattle.std.proofs.Common.{rules}
use Rattle.protox_ast.proofs.Lemmas.{field-gives}
use Rattle.protox_describe.specs.Descriptor.{descriptor_steps}
use Rattle.protox_describe.proofs.fields.field_proto.Goals as goal

pub returns : goal.returns
returns c = rw (field-gives (descriptor_steps c.args.syntax) c.args.ast.now) (search rules)
