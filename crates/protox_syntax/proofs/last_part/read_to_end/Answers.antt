use Rattle.std.proofs.Common.{◌+◌, false, length, refl, ap, sym, subst, arith}
use Rattle.protox_syntax.proofs.LastPart.{end-faulty, end-right}
use Rattle.protox_syntax.proofs.ParsedTable.{total-fits}
use Rattle.protox_syntax.proofs.Spans.{none-if-empty, some-if-not-empty}
use Rattle.protox_syntax.specs.inner.OnWay.{IsOnWay, table_in}
use Rattle.protox_syntax.proofs.last_part.read_to_end.Goals as goal

pub overflow_add-total : goal.overflow_add-total
overflow_add-total c =
    omega (arith, c.rows-total.ensures, c.requires.on.1.fewer, total-fits (table_in c.args.source.now) (length c.args.source.now) (c.args.source.now, c.utf8.source, refl, refl, c.requires.fits))

pub returns-then-is_empty-clause-read : goal.returns-then-is_empty-clause-read
returns-then-is_empty-clause-read c gone w =
    let source = c.args.source.now in
    let part = c.args.part.now.table in
    let notes = c.read_statements.new.notes.items in
    let head = c.read_statements.new.head in
    let read = c.in_ok-read_statements.ensures in
    let start = subst (λ n. IsOnWay source part false c.args.rest n gone c.args.head.now) (sym c.new-notes.ensures.items) w in
    let on = read.on c.requires.ends gone start in
    let end = subst (λ l. IsOnWay source part on.0 l notes gone head) (read.all c.requires.ends) on.1 in
    end-right source c.utf8.source c.requires.fits part on.0 notes gone head end _ c.in_ok-errors.errors.items (ap (λ n. n + 1) c.rows-total.ensures) c.in_ok-errors.ensures
    (none-if-empty c.in_ok-errors.errors.items c.in_ok-errors.errors.len c.in_ok-errors.errors.ok.0 c.if-is_empty.ensures)

pub returns-clause-refused : goal.returns-clause-refused
returns-clause-refused c =
    let source = c.args.source.now in
    let part = c.args.part.now.table in
    let notes = c.read_statements.new.notes.items in
    let head = c.read_statements.new.head in
    let gone = c.requires.on.0 in
    let read = c.in_ok-read_statements.ensures in
    let start = subst (λ n. IsOnWay source part false c.args.rest n gone c.args.head.now) (sym c.new-notes.ensures.items) c.requires.on.1 in
    let on = read.on c.requires.ends gone start in
    let end = subst (λ l. IsOnWay source part on.0 l notes gone head) (read.all c.requires.ends) on.1 in
    end-faulty source c.utf8.source c.requires.fits part on.0 notes gone head end _ c.in_ok-errors.errors.items (ap (λ n. n + 1) c.rows-total.ensures) c.in_ok-errors.ensures
    (some-if-not-empty c.in_ok-errors.errors.items c.in_ok-errors.errors.len c.in_ok-errors.errors.ok.0 c.if-is_empty.ensures) c.in_ok-errors.errors refl
