use Rattle.std.proofs.Common.{◌≤◌, ◌∙◌, ◌++◌, List, ℕ, Option, ap, length, subst}
use Rattle.std.proofs.lemmas.Result.{on_ok_weaker}
use Rattle.std.specs.Prelude.{MatchOption}
use Rattle.protox_link.specs.Resolver.{IsOfFile}
use Rattle.protox_link.specs.declared.resolver.FileNames.{FileNames}
use Rattle.protox_link_records.specs.LinkRecords.{texts}
use Rattle.protox_option_records.proofs.Lists.{put_if_ok}
use Rattle.protox_option_records.specs.OptionRecords.{AreRecordsAt, IsFileRead}
use Rattle.protox_set_options.specs.Read.{IsViewOf}
use Rattle.protox_option_records.proofs.files.read_file.Goals as goal

pub returns : goal.returns
returns c known =
    let files = c.args.files.now in
    let number = c.args.number in
    let file = c.args.file.now in
    let view = c.view-view.result in
    let of_file : IsOfFile files number c.in-Some.names =
    subst (λ (found : Option FileNames). MatchOption found (length files ≤ number) (λ names. IsOfFile files number names)) c.in-Some.is
    (c.in_ok-names.ensures files known) in
    let seen : IsViewOf files number view = record {
      names = c.in-Some.names;
      of_file = of_file;
      table = c.view-view.ensures.table;
      sees = c.view-view.ensures.sees;
      packages = c.view-view.ensures.packages;
    } in
    let is = c.in_ok-answer.ensures.interpreted in
    let told =
    subst (λ (source : List ℕ). AreRecordsAt (record { number = number; source = source; file = file; view = view; files = files }) is.taken c.in_ok-told.told.items)
    c.source_at-source.ensures (c.in_ok-told.ensures is) in
    let read : IsFileRead (texts c.args.sources.now) files number file c.in_ok-answer.answer c.in_ok-told.told.items =
    record { view = view; of_file = seen; interpreted = is; told = told } in
    on_ok_weaker c.extend_from_slice.result
    (λ put. (c.in_ok-answer.answer, c.in_ok-told.told.items, read, c.in_ok-push.ensures.items, put ∙ ap (λ (l : List ℕ). c.args.to.now.records.items ++ l) c.as_slice.ensures.value))
    (put_if_ok c.extend_from_slice.result c.extend_from_slice.new.self.items c.args.to.now.records.items c.as_slice.result.now c.extend_from_slice.ensures.items)
