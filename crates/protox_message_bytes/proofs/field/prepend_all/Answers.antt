use Rattle.std.proofs.Common.{rules, ◌<◌, ◌-◌, ◌++◌, sym, ap, ◌∙◌}
use Rattle.protox_message_bytes.specs.Bytes.{Field}
use Rattle.protox_message_bytes.proofs.Runs.{begins_back, goes_on_back}
use Rattle.protox_message_bytes.proofs.field.prepend_all.Goals as goal

pub loop-i-preserved-then-begins_run : goal.loop-i-preserved-then-begins_run
loop-i-preserved-then-begins_run c =
    let some : 0 < c.loop-i.i = search rules in
    let put = c.in_ok-prepend.ensures.ok
    ∙ ap (λ bytes. bytes ++ c.loop-i.out) (c.as_slice.ensures.value ∙ ap (λ (f : Field). f.bytes) c.field.view_is) in
    let long = c.saturating_sub-long.ensures ∙ ap (λ n. n - c.loop-i.behind) c.len.ensures in
    begins_back c.args.fields.now c.args.out.now c.loop-i.i c.loop-i.out c.loop-i.behind c.index-fields-i.result
    some c.index-fields-i.is c.loop-i.invariant c.prepend.new.self put
    (sym c.begins_run.ensures ∙ c.if-begins_run.true)
    c.prepend_start.new.out c.saturating_sub-long.result c.len-behind-then-begins_run.result
    long c.in_ok-prepend_start.ensures c.len-behind-then-begins_run.ensures

pub loop-i-preserved : goal.loop-i-preserved
loop-i-preserved c =
    let some : 0 < c.loop-i.i = search rules in
    let put = c.in_ok-prepend.ensures.ok
    ∙ ap (λ bytes. bytes ++ c.loop-i.out) (c.as_slice.ensures.value ∙ ap (λ (f : Field). f.bytes) c.field.view_is) in
    goes_on_back c.args.fields.now c.args.out.now c.loop-i.i c.loop-i.out c.loop-i.behind c.index-fields-i.result
    some c.index-fields-i.is c.loop-i.invariant c.prepend.new.self put
    (sym c.begins_run.ensures ∙ c.if-begins_run.false)
