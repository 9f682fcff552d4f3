use Rattle.std.proofs.Common.{List, [], ◌∷◌, ◌++◌, sym, subst}
use Rattle.protox_descriptor.specs.declared.descriptor.FileDescriptorProto.{FileDescriptorProto}
use Rattle.protox_link_bytes.proofs.Sources.{faults-right, parsed-right}
use Rattle.protox_link_bytes.specs.Parsed.{AreParsed, IsParsedOf}
use Rattle.protox_link_bytes.proofs.parsing.with_file.Goals as goal

pub returns-in_ok-push-in-Files : goal.returns-in_ok-push-in-Files
returns-in_ok-push-in-Files c before source so_far is =
    subst (λ (files : List FileDescriptorProto). AreParsed (before ++ source ∷ []) files) (sym c.in_ok-push-in-Files.ensures.items)
    (parsed-right before c.in-Files.files.items source c.args.file (subst (IsParsedOf before) c.in-Files.is so_far) is c.requires)

pub returns-in-Refused : goal.returns-in-Refused
returns-in-Refused c before source so_far is = faults-right before c.in-Refused.told.items source c.args.file (subst (IsParsedOf before) c.in-Refused.is so_far) is
