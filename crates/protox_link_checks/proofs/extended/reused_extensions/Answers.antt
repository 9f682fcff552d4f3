use Rattle.std.proofs.Common.{◌≡◌, ◌∙◌, IfOk, ap, map, subst}
use Rattle.protox_link_checks.specs.Ranges.{number_span}
use Rattle.protox_link_checks.proofs.Reusing.{reused}
use Rattle.protox_numbers.specs.Clashes.{with_earlier}
use Rattle.protox_spans.specs.Spans.{first_met_in}
use Rattle.protox_link_checks.proofs.extended.reused_extensions.Goals as goal

pub returns : goal.returns
returns c =
    let all = c.args.extensions.now in
    let spans = map number_span all in
    let read : c.as_slice-3.result.now ≡ map (first_met_in spans) spans =
    c.as_slice-3.ensures.value ∙ c.in_ok-met.ensures
    ∙ ap (λ table. map (first_met_in table) c.as_slice-2.result.now) (c.as_slice.ensures.value ∙ c.in_ok-spans.ensures.spans)
    ∙ ap (map (first_met_in spans)) (c.as_slice-2.ensures.value ∙ c.in_ok-spans.ensures.spans) in
    subst (λ clashes. IfOk c.with_earlier.result (λ made. made.items ≡ clashes)) (ap with_earlier read ∙ reused all c.in_ok-spans.ensures.small) c.with_earlier.ensures
