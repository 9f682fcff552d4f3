use Rattle.std.proofs.Common.{◌≤◌, Option, length, subst}
use Rattle.std.proofs.lemmas.Result.{IfOk-weaker}
use Rattle.std.specs.Prelude.{MatchOption}
use Rattle.protox_link.specs.Resolver.{IsOfFile}
use Rattle.protox_link.specs.declared.resolver.FileNames.{FileNames}
use Rattle.protox_set_options.specs.Read.{IsViewOf}
use Rattle.protox_set_options.proofs.set.interpret_numbered.Goals as goal

pub returns : goal.returns
returns c known =
    let files = c.args.files.now in
    let number = c.args.number in
    let of_file : IsOfFile files number c.in-Some.names =
    subst (λ (found : Option FileNames). MatchOption found (length files ≤ number) (λ names. IsOfFile files number names)) c.in-Some.is
    (c.in_ok-names.ensures files known) in
    let seen : IsViewOf files number c.view-view.result = record {
      names = c.in-Some.names;
      of_file = of_file;
      table = c.view-view.ensures.table;
      sees = c.view-view.ensures.sees;
      packages = c.view-view.ensures.packages;
    } in
    IfOk-weaker c.interpret_file.result _ _ (λ read is. (c.view-view.result, seen, is)) c.interpret_file.ensures.interpreted
