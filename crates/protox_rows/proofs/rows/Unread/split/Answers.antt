use Rattle.std.proofs.Common.{◌<◌, ◌≤◌, length, sym, ◌∙◌, arith}
use Rattle.protox_rows.proofs.PlacedRows.{within, left-some, left-none}
use Rattle.protox_rows.proofs.rows.Unread.split.Goals as goal

pub invariant_of-first : goal.invariant_of-first
invariant_of-first c =
    let u = c.self.inside in
    let below : u.index < length u.table.now.rows = omega (arith, c.if-self-rows.true, c.rows.ensures) in
    (omega arith, within u.table.now u.index below)

pub returns-then-self-rows : goal.returns-then-self-rows
returns-then-self-rows c =
    let u = c.self.inside in
    let below : u.index < length u.table.now.rows = omega (arith, c.if-self-rows.true, c.rows.ensures) in
    sym c.self.view_is ∙ left-some u.table.now u.index below

pub returns-else-self-rows : goal.returns-else-self-rows
returns-else-self-rows c =
    let u = c.self.inside in
    let above : length u.table.now.rows ≤ u.index = omega (arith, c.if-self-rows.false, c.rows.ensures) in
    sym c.self.view_is ∙ left-none u.table.now u.index above
