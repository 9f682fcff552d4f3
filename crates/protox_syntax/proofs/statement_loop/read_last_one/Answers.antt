use Rattle.std.proofs.Common.{◌-◌, ◌++◌, true, length, sym, ap, subst, ◌∙◌, arith}
use Rattle.std.proofs.lemmas.Result.{on_ok_weaker}
use Rattle.protox_ast.specs.declared.ast.File.{File}
use Rattle.protox_rows.specs.inner.Notes.{AddsTo}
use Rattle.protox_syntax.proofs.Growing.{syntax-with}
use Rattle.protox_syntax.proofs.OnWay.{any-on, passed-on, read-on, refused-past}
use Rattle.protox_syntax.proofs.Recovering.{next-fewer}
use Rattle.protox_syntax.proofs.Refusing.{some-length}
use Rattle.protox_syntax.proofs.Turns.{statement-eats}
use Rattle.protox_syntax.specs.inner.OnWay.{IsOnWay}
use Rattle.protox_syntax.specs.inner.Parts.{with_statement}
use Rattle.protox_syntax.specs.inner.Statements as rule
use Rattle.protox_syntax.proofs.statement_loop.read_last_one.Goals as goal

pub returns-in-Ok-Empty-clause-fewer : goal.returns-in-Ok-Empty-clause-fewer
returns-in-Ok-Empty-clause-fewer c = statement-eats c.args.rows.now (c.in-Ok-Empty.field-0, c.statement.new.rows) c.in-Ok-Empty.ensures.read

pub returns-in-Ok-Empty-clause-on : goal.returns-in-Ok-Empty-clause-on
returns-in-Ok-Empty-clause-on c gone w =
    let notes = c.args.notes.now.items in
    let rows = c.args.rows.now in
    let head = c.args.head.now in
    let added = c.in-Ok-Empty.ensures.notes ∙ ap (λ q. notes ++ (rule.statement).notes q rows) c.first_place.ensures in
    any-on c.args.source.now c.args.part.now.table c.args.refused.now rows notes gone head w c.requires.some c.in-Ok-Empty.field-0 c.statement.new.rows c.statement.new.notes.items c.in-Ok-Empty.ensures.read added head (ap (with_statement head) (sym c.in-Ok-Empty.field-0-is))

pub returns-else-refused-clause-fewer : goal.returns-else-refused-clause-fewer
returns-else-refused-clause-fewer c = on_ok_weaker c.add_statement.result (λ is. statement-eats c.args.rows.now (c.in-Ok.statement, c.statement.new.rows) c.in-Ok.ensures.read) c.add_statement.ensures

pub returns-else-refused-clause-on : goal.returns-else-refused-clause-on
returns-else-refused-clause-on c =
    let notes = c.args.notes.now.items in
    let rows = c.args.rows.now in
    let part = c.args.part.now.table in
    let added = c.in-Ok.ensures.notes ∙ ap (λ q. notes ++ (rule.statement).notes q rows) c.first_place.ensures in
    on_ok_weaker c.add_statement.result
    (λ is gone w. read-on c.args.source.now part c.args.refused.now rows notes gone c.args.head.now w c.requires.some c.in-Ok.statement c.statement.new.rows c.statement.new.notes.items c.in-Ok.ensures.read added c.if-refused.false _ is)
    c.add_statement.ensures

pub returns-then-refused-clause-fewer : goal.returns-then-refused-clause-fewer
returns-then-refused-clause-fewer c = statement-eats c.args.rows.now (c.in-Ok.statement, c.statement.new.rows) c.in-Ok.ensures.read

pub returns-then-refused-clause-on : goal.returns-then-refused-clause-on
returns-then-refused-clause-on c gone w =
    let notes = c.args.notes.now.items in
    let rows = c.args.rows.now in
    let added = c.in-Ok.ensures.notes ∙ ap (λ q. notes ++ (rule.statement).notes q rows) c.first_place.ensures in
    passed-on c.args.source.now c.args.part.now.table c.args.refused.now rows notes gone c.args.head.now w c.requires.some c.in-Ok.statement c.statement.new.rows c.statement.new.notes.items c.in-Ok.ensures.read added c.if-refused.true _ c.keep_package.ensures.place

pub returns-in_ok-add_refused-in-Err-clause-fewer : goal.returns-in_ok-add_refused-in-Err-clause-fewer
returns-in_ok-add_refused-in-Err-clause-fewer c =
    omega (arith, ap length c.next_rows.ensures, next-fewer c.args.part.now.table c.in-Err.found (c.len-most.result - 1), c.len-most.ensures, some-length c.args.rows.now c.requires.some)

pub returns-in_ok-add_refused-in-Err-clause-on : goal.returns-in_ok-add_refused-in-Err-clause-on
returns-in_ok-add_refused-in-Err-clause-on c gone w =
    let b = c.in_ok-add_refused-in-Err.ensures in
    let notes = c.args.notes.now.items in
    let rows = c.args.rows.now in
    let part = c.args.part.now.table in
    subst (λ l. IsOnWay c.args.source.now part true l c.add_refused.new.notes.items gone c.args.head.now) (sym c.next_rows.ensures)
    (refused-past c.args.source.now part c.args.refused.now rows notes gone c.args.head.now w c.requires.some c.in-Err.found c.statement.new.notes.items c.add_refused.new.notes.items b.0 _ (ap (λ n. n - 1) c.len-most.ensures) c.in-Err.ensures.read
    (subst (λ q. AddsTo c.in-Err.found notes ((rule.statement).notes q rows) c.statement.new.notes.items) c.first_place.ensures c.in-Err.ensures.notes) b.2 b.1 c.in-Err.ensures.words)

pub returns-else-refused-clause-syntax : goal.returns-else-refused-clause-syntax
returns-else-refused-clause-syntax c = on_ok_weaker c.add_statement.result (λ is. ap (λ (h : File). h.syntax) is ∙ syntax-with c.args.head.now c.in-Ok.statement) c.add_statement.ensures
