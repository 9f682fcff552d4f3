use Rattle.std.proofs.Common.{◌<◌, ℕ, List, inr, length, sym, subst, ◌∙◌}
use Rattle.std.specs.Prelude.{All}
use Rattle.protox_descriptor.specs.declared.descriptor.FileDescriptorProto.{FileDescriptorProto}
use Rattle.protox_link_bytes.proofs.Sources.{one_list, same_texts, stand}
use Rattle.protox_link_bytes.specs.Given.{given}
use Rattle.protox_link_bytes.specs.Parsed.{IsParsedOf}
use Rattle.protox_link_fault.specs.declared.LinkFault.{LinkFault}
use Rattle.protox_link_records.proofs.Lemmas.{some_records}
use Rattle.protox_link_records.specs.LinkRecords as records
use Rattle.protox_link_records.specs.LinkRecords.{AreTold}
use Rattle.protox_link_bytes.proofs.linking.told.Goals as goal

pub link_records-requires-clause-there : goal.link_records-requires-clause-there
link_records-requires-clause-there c =
    let same = c.as_slice.ensures.value ∙ one_list (given c.args.sources.now) c.in-Ok-Files.files.items c.requires.0 (subst (IsParsedOf (given c.args.sources.now)) c.in-Ok-Files.field-0-is c.in-Ok-Files.ensures).translated c.requires.1 in
    subst (λ (files : List FileDescriptorProto). All (λ (fault : LinkFault). fault.file < length files) c.args.faults.now) (sym same)
    (stand c.requires.0 c.args.faults.now c.requires.3)

pub returns-in-Ok : goal.returns-in-Ok
returns-in-Ok c =
    let same = c.as_slice.ensures.value ∙ one_list (given c.args.sources.now) c.in-Ok-Files.files.items c.requires.0 (subst (IsParsedOf (given c.args.sources.now)) c.in-Ok-Files.field-0-is c.in-Ok-Files.ensures).translated c.requires.1 in
    let told : AreTold (records.texts c.args.sources.now) c.requires.0 c.args.faults.now c.in-Ok.records.items =
    subst (λ (files : List FileDescriptorProto). AreTold (records.texts c.args.sources.now) files c.args.faults.now c.in-Ok.records.items) same c.in-Ok.ensures in
    inr record {
      files = c.requires.0;
      translated = c.requires.1;
      faults = c.args.faults.now;
      wrong = c.requires.2;
      told = subst (λ (texts : List (List ℕ)). AreTold texts c.requires.0 c.args.faults.now c.in-Ok.records.items) (same_texts c.args.sources.now) told;
      some = some_records (records.texts c.args.sources.now) c.requires.0 c.args.faults.now c.in-Ok.records.items told c.requires.2;
    }
