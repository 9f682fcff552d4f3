use Rattle.std.proofs.Common.{◌≡◌, ◌∙◌, refl, sym, Some, None}
use Rattle.std.proofs.lemmas.Result.{on_ok_weaker}
use Rattle.protox_file_options.specs.Outcomes.{AllSet, HasNoType, IsSite, OneWrong, names_of}
use Rattle.protox_file_options.specs.declared.answer.PlaceFault.TheVariants as fault
use Rattle.protox_file_options.proofs.One.{adds_fault, adds_set, place}
use Rattle.protox_interpret.specs.declared.site.Site.{Site}
use Rattle.protox_name_tree.specs.Tree.{number_of}
use Rattle.protox_file_options.proofs.interpreter.InterpreterTakePlaces.take.Goals as goal

pub returns-in_default : goal.returns-in_default
returns-in_default c =
    let self = c.args.self.now in
    let none : number_of (names_of self.view.now) c.args.options.now ≡ None = sym c.find.ensures ∙ c.in_default.is in
    on_ok_weaker c.note.result
    (λ noted. adds_fault self _ c.args.path.now c.args.scope.now c.args.options.now c.args.statements.now c.find-scope.result None fault.NoType
    refl refl refl refl c.find-scope.ensures (sym none) (HasNoType none) noted)
    c.note.ensures

pub returns-in-Ok : goal.returns-in-Ok
returns-in-Ok c =
    let self = c.args.self.now in
    let here : Site = record { view = self.view; files = self.files; scope = c.find-scope.result; message = c.in-Some.message } in
    let site : IsSite self.view.now self.files.now (place c.args.path.now c.args.scope.now c.args.options.now c.args.statements.now) here = record {
      view = refl;
      files = refl;
      scope = c.find-scope.ensures;
      message = sym c.in-Some.is ∙ c.find.ensures;
    } in
    on_ok_weaker c.keep.result
    (λ put. adds_set self _ c.args.path.now c.args.scope.now c.args.options.now c.args.statements.now c.in-Ok.set
    refl refl put.faults (AllSet here c.in-Ok.set site c.in-Ok.ensures.set) put.moves put.options)
    c.keep.ensures

pub returns-in-Err-Fault : goal.returns-in-Err-Fault
returns-in-Err-Fault c =
    let self = c.args.self.now in
    let here : Site = record { view = self.view; files = self.files; scope = c.find-scope.result; message = c.in-Some.message } in
    let message : Some c.in-Some.message ≡ number_of (names_of self.view.now) c.args.options.now = sym c.in-Some.is ∙ c.find.ensures in
    let site : IsSite self.view.now self.files.now (place c.args.path.now c.args.scope.now c.args.options.now c.args.statements.now) here = record {
      view = refl;
      files = refl;
      scope = c.find-scope.ensures;
      message = message;
    } in
    on_ok_weaker c.note-in-Err-Fault.result
    (λ noted. adds_fault self _ c.args.path.now c.args.scope.now c.args.options.now c.args.statements.now c.find-scope.result (Some c.in-Some.message)
    (fault.Statement c.in-Err-Fault.fault) refl refl refl refl c.find-scope.ensures message (OneWrong here c.in-Err-Fault.fault site (rw c.in-Err-Fault.field-0-is at c.in-Err-Fault.ensures.first)) noted)
    c.note-in-Err-Fault.ensures
