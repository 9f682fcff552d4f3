use Rattle.std.proofs.Common.{sym, ◌∙◌}
use Rattle.protox_syntax.proofs.Answering.{if-ok}
use Rattle.protox_syntax.proofs.LastPart.{first-row, rest-on, whole-part}
use Rattle.protox_syntax.proofs.Opening.{fresh-reached, none-is, some-is}
use Rattle.protox_syntax.proofs.last_part.last_rows.Goals as goal

pub read_front-requires-clause-table : goal.read_front-requires-clause-table
read_front-requires-clause-table c = whole-part c.args.source.now c.args.part.now c.args.progress.now c.requires.part c.requires.ends (none-is c.args.progress.now.last (sym c.requires.begins ∙ c.if-part.true))

pub returns-then-part-clause-on : goal.returns-then-part-clause-on
returns-then-part-clause-on c =
    if-ok
    (λ rows on gone between. on gone (fresh-reached c.args.source.now c.args.progress.now gone c.args.head.now between (none-is c.args.progress.now.last (sym c.requires.begins ∙ c.if-part.true))))
    c.read_front.result c.read_front.ensures.on

pub returns-in-Some-clause-on : goal.returns-in-Some-clause-on
returns-in-Some-clause-on c gone between =
    rest-on c.args.source.now c.args.part.now c.args.progress.now gone c.args.head.now between c.requires.part c.requires.ends (some-is c.args.progress.now.last (sym c.requires.begins ∙ c.if-part.false))
    c.in-Some.field-0-0 c.in-Some.rest (sym c.all.ensures ∙ c.in-Some.ensures)

pub returns-in-None-clause-on : goal.returns-in-None-clause-on
returns-in-None-clause-on c gone between =
    let row = first-row c.args.source.now c.args.part.now c.args.progress.now gone c.args.head.now between c.requires.part c.requires.ends (some-is c.args.progress.now.last (sym c.requires.begins ∙ c.if-part.false)) in
    let clash = sym row.1 ∙ sym c.all.ensures ∙ c.in-None.ensures in
    absurd cc
