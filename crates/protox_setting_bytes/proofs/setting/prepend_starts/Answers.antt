use Rattle.std.proofs.Common.{rules, ◌≡◌, ◌<◌, ◌+◌, ◌-◌, false, sym, ap, ◌∙◌, subst, arith, length}
use Rattle.protox_setting_bytes.specs.declared.step.Step.{Step}
use Rattle.protox_setting_bytes.proofs.Starts.{AreStarted, one_more}
use Rattle.protox_setting_bytes.proofs.setting.prepend_starts.Goals as goal

pub loop-i-preserved : goal.loop-i-preserved
loop-i-preserved c =
    let steps = c.args.steps.now in
    let i = c.loop-i.i - 1 in
    let no_step : Step = record { number = 0; is_group = false } in
    let some : 0 < c.loop-i.i = search rules in
    let same : c.loop-i.i ≡ i + 1 = omega (arith, some) in
    let below : i < length steps = omega (arith, some, c.loop-i.invariant.within) in
    let before = subst (λ k. AreStarted steps c.args.out.now c.args.behind k c.loop-i.out c.loop-i.behind) same c.loop-i.invariant in
    let inside = c.saturating_sub-inside.ensures ∙ ap (λ n. n - c.loop-i.behind) c.len.ensures in
    subst (λ behind. AreStarted steps c.args.out.now c.args.behind i c.prepend_start.new.out behind)
    (sym (c.saturating_sub-behind.ensures ∙ ap (λ n. c.loop-i.behind - n) c.end_len.ensures))
    (one_more steps c.args.out.now c.loop-i.out c.prepend_start.new.out c.args.behind i c.loop-i.behind c.saturating_sub-inside.result no_step below before inside c.in_ok-prepend_start.ensures)
