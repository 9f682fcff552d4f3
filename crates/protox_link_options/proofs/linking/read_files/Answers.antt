use Rattle.std.proofs.Common.{◌≡◌, ◌∙◌, [], subst, sym}
use Rattle.std.specs.Prelude.{MatchOption}
use Rattle.protox_link_options.specs.Options.{AreWrongUses}
use Rattle.protox_link_records.specs.LinkRecords.{texts}
use Rattle.protox_option_checks.specs.Checks.{check_faults}
use Rattle.protox_option_records.proofs.Lemmas.{interpreted_of, none_in}
use Rattle.protox_symbols.specs.Things.{table_of}
use Rattle.protox_link_options.proofs.Entries.{not_none}
use Rattle.protox_link_options.proofs.linking.read_files.Goals as goal

pub returns-in-Ok-None-clause-right : goal.returns-in-Ok-None-clause-right
returns-in-Ok-None-clause-right c =
    let files = c.args.files.now in
    let sources = texts c.args.sources.now in
    let read = c.in-Ok-read_options.field-0 in
    let promises = c.in-Ok-read_options.ensures in
    record {
      interpreted = interpreted_of sources files 0 files read.files.items read.records.items promises.read;
      none_wrong = promises.none (sym c.as_slice.ensures.value ∙ none_in c.as_slice.result.now (sym c.if-not-is_empty.false ∙ c.is_empty.ensures));
      reads_back = promises.reads_back;
      checked = subst (λ told. MatchOption told (check_faults (table_of files) files ≡ []) (λ bytes. AreWrongUses sources files bytes.items)) c.in-Ok-None.field-0-is c.in-Ok-None.ensures;
    }

pub returns-then-not-is_empty-clause-only : goal.returns-then-not-is_empty-clause-only
returns-then-not-is_empty-clause-only c answers right =
    let promises = c.in-Ok-read_options.ensures in
    not_none c.as_slice.result.now c.is_empty.result c.if-not-is_empty.true c.is_empty.ensures
    (c.as_slice.ensures.value ∙ promises.only answers right.interpreted right.none_wrong)

pub returns-in-Ok-Some-clause-only : goal.returns-in-Ok-Some-clause-only
returns-in-Ok-Some-clause-only c answers right =
    let files = c.args.files.now in
    let sources = texts c.args.sources.now in
    let wrong : AreWrongUses sources files c.in-Ok-Some.told.items =
    subst (λ told. MatchOption told (check_faults (table_of files) files ≡ []) (λ bytes. AreWrongUses sources files bytes.items)) c.in-Ok-Some.field-0-is c.in-Ok-Some.ensures in
    wrong.some right.checked
