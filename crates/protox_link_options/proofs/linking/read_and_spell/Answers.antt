use Rattle.std.proofs.Common.{List, ℕ, inr, subst, sym}
use Rattle.protox_descriptor.specs.declared.descriptor.FileDescriptorProto.{FileDescriptorProto}
use Rattle.protox_link_bytes.proofs.Lemmas.{same_texts}
use Rattle.protox_link_bytes.specs.Given.{given}
use Rattle.protox_link_bytes.specs.Outcomes.{IsWant}
use Rattle.protox_link_bytes.specs.declared.failure.LinkSourcesFailure.TheVariants.{Refused}
use Rattle.protox_link_options.specs.OptionSets.{AreRefusedWithOptions}
use Rattle.protox_link_options.specs.Options.{AreRight, IsOptionFailure}
use Rattle.protox_link_records.specs.LinkRecords as records
use Rattle.protox_link_options.proofs.linking.read_and_spell.Goals as goal

pub returns-in-Err-Refused-clause-without : goal.returns-in-Err-Refused-clause-without
returns-in-Err-Refused-clause-without c =
    let sources = c.args.sources.now in
    let told = c.in-Err-Refused.told in
    let wrong =
    subst (λ (texts : List (List ℕ)). IsOptionFailure texts c.args.set.files.items (Refused told)) (same_texts sources)
    (subst (λ (files : List FileDescriptorProto). IsOptionFailure (records.texts sources) files (Refused told)) c.as_slice.ensures.value
    (subst (IsOptionFailure (records.texts sources) c.as_slice.result.now) c.in-Err-Refused.field-0-is c.in-Err-Refused.ensures.wrong)) in
    subst (λ bytes. AreRefusedWithOptions (given sources) bytes.items) (sym c.in-Err-Refused.told-is)
    (inr record { set = c.args.set; linking = c.requires.linking; told = wrong })

pub returns-in-Err-Refused-clause-only : goal.returns-in-Err-Refused-clause-only
returns-in-Err-Refused-clause-only c answers right =
    subst IsWant c.in-Err-Refused.field-0-is (c.in-Err-Refused.ensures.only answers
    (subst (λ (files : List FileDescriptorProto). AreRight files answers) (sym c.as_slice.ensures.value) right))
