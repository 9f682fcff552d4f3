use Rattle.std.proofs.Common.{◌≡◌, ◌+◌, ◌-◌, suc, length, drop, sym, ap, ◌∙◌, arith}
use Rattle.protox_ast.specs.Places.{placed}
use Rattle.protox_syntax.specs.inner.Recovery.{from_statement}
use Rattle.protox_syntax.proofs.Skipping.{counted, ends-at, goes-on, in-table, stops-at}
use Rattle.protox_syntax.proofs.recovery.from_statement.Goals as goal

pub returns-then-begins_statement : goal.returns-then-begins_statement
returns-then-begins_statement c =
    let t = c.args.table.now in
    let k = c.rows.index in
    let there = sym c.in-Some.is ∙ c.class.ensures in
    let inside = in-table t k c.in-Some.class there in
    c.last.ensures ∙ ap (λ n. drop (length t.rows - (n - k)) (placed t)) c.rows-count.ensures ∙ counted t k (omega (arith, inside))
    ∙ stops-at t k c.in-Some.class there (sym c.if-begins_statement.true ∙ c.begins_statement.ensures) ∙ c.rows.invariant

pub overflow_add-index : goal.overflow_add-index
overflow_add-index c =
    let inside = in-table c.args.table.now c.rows.index c.in-Some.class (sym c.in-Some.is ∙ c.class.ensures) in
    omega (arith, inside, c.rows-count.ensures)

pub rows-smaller : goal.rows-smaller
rows-smaller c =
    let inside = in-table c.args.table.now c.rows.index c.in-Some.class (sym c.in-Some.is ∙ c.class.ensures) in
    omega (arith, inside)

pub rows-preserved : goal.rows-preserved
rows-preserved c =
    let t = c.args.table.now in
    let k = c.rows.index in
    let there = sym c.in-Some.is ∙ c.class.ensures in
    let next : k + 1 ≡ suc k = omega arith in
    ap (λ n. from_statement (drop n (placed t))) next ∙ sym (goes-on t k c.in-Some.class there (sym c.begins_statement.ensures ∙ c.if-begins_statement.false)) ∙ c.rows.invariant

pub returns : goal.returns
returns c = c.last-2.ensures ∙ ends-at c.args.table.now c.rows.index (sym c.class.ensures ∙ c.in_default.is) ∙ c.rows.invariant
