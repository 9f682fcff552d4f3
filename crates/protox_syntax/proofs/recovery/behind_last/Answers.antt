use Rattle.std.proofs.Common.{◌≡◌, ◌-◌, drop, length, ap, ◌∙◌}
use Rattle.protox_ast.specs.Places.{placed}
use Rattle.protox_syntax.specs.inner.Recovery.{behind_block, from_statement, last_rows}
use Rattle.protox_syntax.proofs.Skipping.{behind-counted}
use Rattle.protox_syntax.proofs.recovery.behind_last.Goals as goal

pub returns : goal.returns
returns c =
    let t = c.args.table.now in
    let left = behind_block 0 (last_rows t c.args.count) in
    let skipped : c.skip_block.new.rows ≡ left = c.skip_block.ensures ∙ ap (behind_block 0) c.last-rows.ensures in
    let many : c.saturating_sub.result ≡ length t.rows - length left =
    c.saturating_sub.ensures ∙ ap (λ n. n - c.len.result) c.rows.ensures ∙ ap (λ n. length t.rows - n) (c.len.ensures ∙ ap length skipped) in
    c.from_statement.ensures ∙ ap (λ n. from_statement (drop n (placed t))) many ∙ ap from_statement (behind-counted t c.args.count)
