use Rattle.std.proofs.Common.{length, subst}
use Rattle.protox_checks.proofs.Lemmas.{listed-lie}
use Rattle.protox_checks.specs.Faults.{AreWrong}
use Rattle.protox_fault.specs.declared.error.SyntaxFailure.TheVariants.{Faults}
use Rattle.protox_generate.proofs.Lemmas.{file-stands}
use Rattle.protox_generate.specs.File.{AreListedAll}
use Rattle.protox_parse.proofs.Answering.{laws}
use Rattle.protox_parse.proofs.Translating.{has_listed}
use Rattle.protox_parse.proofs.Truths.{unmade}
use Rattle.protox_parse.proofs.translated.Goals as goal

pub refused-requires : goal.refused-requires
refused-requires c =
    let file = c.requires.0 in
    let read = c.requires.1 in
    let source = c.args.source.now in
    let stands = file-stands source file c.utf8.source read.of_source in
    let wrong = subst (AreWrong file) c.in-Err-Faults.field-0-is (c.in-Err-Faults.ensures.wrong source file read) in
    let listed = subst (AreListedAll file) c.in-Err-Faults.field-0-is (c.in-Err-Faults.ensures.in_order source file read) in
    (read.of_source.1.fits, wrong.0, listed-lie (length source) file c.in-Err-Faults.found.items stands listed)

pub returns-in-Ok-clause-found : goal.returns-in-Ok-clause-found
returns-in-Ok-clause-found c = λ file read. c.in-Ok.ensures.found c.args.source.now file read

pub returns-in-Err-Faults-clause-only : goal.returns-in-Err-Faults-clause-only
returns-in-Err-Faults-clause-only c = λ file read none. c.refused.ensures.none file (subst (AreWrong file) c.in-Err-Faults.field-0-is (c.in-Err-Faults.ensures.wrong c.args.source.now file read)) none

pub returns-in-Err-Faults-clause-failure : goal.returns-in-Err-Faults-clause-failure
returns-in-Err-Faults-clause-failure c =
    let file = c.requires.0 in
    let read = c.requires.1 in
    let wrong = subst (AreWrong file) c.in-Err-Faults.field-0-is (c.in-Err-Faults.ensures.wrong c.args.source.now file read) in
    unmade c.args.source.now c.args.name.now file read.of_source c.refused.result c.refused.ensures.of_source (c.refused.ensures.wrong file wrong)

pub returns-in-Err-Faults-clause-checked : goal.returns-in-Err-Faults-clause-checked
returns-in-Err-Faults-clause-checked c = λ file read.
    has_listed file (Faults c.in-Err-Faults.found) c.refused.result c.refused.ensures.same (subst (AreListedAll file) c.in-Err-Faults.field-0-is (c.in-Err-Faults.ensures.in_order c.args.source.now file read))

pub returns-in-Ok-clause-laws : goal.returns-in-Ok-clause-laws
returns-in-Ok-clause-laws c =
    let r = c.requires in
    let h = c.in-Ok.ensures.found c.args.source.now r.0 r.1 in
    laws c.args.name.now c.args.source.now c.utf8.source r.0 r.1.of_source c.in-Ok.descriptor h.1 h.0
