use Rattle.std.proofs.Common.{get_or, sym, ap, ◌++◌, ◌∙◌, arith, length}
use Rattle.std.proofs.lemmas.List.{take_rest}
use Rattle.protoparse_words.specs.Names.{texts}
use Rattle.protoparse_words.proofs.Lists.{another, another_from_test, equal_from_test, no_text, one_more, rest_follows}
use Rattle.protoparse_words.proofs.paths.behind.Goals as goal

pub returns-then-ne-clause-none : goal.returns-then-ne-clause-none
returns-then-ne-clause-none c = λ rest.
    let i = c.loop-i.i in
    let x = get_or c.args.parts.now i no_text in
    let y = get_or c.args.above.now i no_text in
    another c.args.parts.now c.args.above.now i no_text no_text rest (omega arith) c.loop-i-test.true (another_from_test x.now y.now (sym c.if-ne.true ∙ c.ne.ensures))

pub loop-i-preserved : goal.loop-i-preserved
loop-i-preserved c =
    let i = c.loop-i.i in
    let x = get_or c.args.parts.now i no_text in
    let y = get_or c.args.above.now i no_text in
    one_more c.args.parts.now c.args.above.now i no_text no_text (omega arith) c.loop-i-test.true (equal_from_test x.now y.now (sym c.if-ne.false ∙ c.ne.ensures)) c.loop-i.invariant

pub returns-clause-found : goal.returns-clause-found
returns-clause-found c =
    let parts = c.args.parts.now in
    let above = c.args.above.now in
    rest_follows parts above c.loop-i.i (omega arith) c.loop-i.invariant ∙ ap (λ l. texts above ++ texts l) (sym (take_rest parts (length above)))
