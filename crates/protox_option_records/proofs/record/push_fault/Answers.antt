use Rattle.std.proofs.Common.{◌∙◌, ◌++◌, [], ap, append-nil, length, refl, sym}
use Rattle.std.proofs.lemmas.Bool.{ltb-false, ltb-true}
use Rattle.std.proofs.lemmas.Option.{slice_get_past, slice_get_read}
use Rattle.std.proofs.lemmas.Result.{on_ok_weaker}
use Rattle.std.specs.Prelude.{codes}
use Rattle.protox_link_records.specs.LinkRecords.{record_with}
use Rattle.protox_link_records.specs.declared.places.Place.{Place}
use Rattle.protox_option_records.specs.OptionKinds.{no_type_kind}
use Rattle.protox_option_records.specs.OptionRecords.{FileAt, no_type_record, statement_record}
use Rattle.protox_option_records.specs.inner.Telling.{OfNoType, OfNothing, OfStatement}
use Rattle.protox_option_records.proofs.record.push_fault.Goals as goal

pub returns-in_default : goal.returns-in_default
returns-in_default c =
    let statements = c.args.statements.now in
    let wrong = c.in-Statement.wrong in
    let none = slice_get_past statements wrong.index (ltb-false wrong.index (length statements) (sym c.in_default.ensures.lookup.0)) in
    ([], OfNothing wrong c.in-Statement.is none, sym (append-nil c.args.out.now.items))

pub returns-in-NoType : goal.returns-in-NoType
returns-in-NoType c =
    let at = c.args.subject.now in
    let path = c.args.path.now in
    let old = c.args.out.now.items in
    let text = codes "no file declares what options there are here" in
    on_ok_weaker c.push_record.result
    (λ put. (
      no_type_record at path,
      OfNoType c.in-NoType.is,
      put ∙ ap (λ (p : Place). old ++ record_with c.subject.inside.number no_type_kind p text) c.place_in-place.ensures
          ∙ ap (λ (s : FileAt). old ++ no_type_record s path) c.subject.view_is,
    ))
    c.push_record.ensures

pub returns-in-Some : goal.returns-in-Some
returns-in-Some c =
    let at = c.args.subject.now in
    let path = c.args.path.now in
    let statements = c.args.statements.now in
    let wrong = c.in-Statement.wrong in
    let statement = c.in-Some.statement.now in
    let there = slice_get_read statements (length statements) wrong.index statement refl (ltb-true wrong.index (length statements) (sym c.in-Some.ensures.lookup.0)) c.in-Some.ensures.lookup.1 in
    on_ok_weaker c.push_statement.result
    (λ told. (statement_record at path wrong told.0, OfStatement wrong c.site_of-here.result statement told.0 c.in-Statement.is c.site_of-here.ensures there told.1, told.2))
    c.push_statement.ensures
