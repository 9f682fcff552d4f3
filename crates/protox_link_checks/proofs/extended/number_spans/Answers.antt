use Rattle.std.proofs.Common.{◌∙◌, ◌+◌, ◌++◌, ◌∷◌, [], All, ap, map, sym, subst, take}
use Rattle.std.proofs.lemmas.List.{map_more, take_more}
use Rattle.std.proofs.lemmas.List.Elements.{All-push}
use Rattle.protox_link_checks.specs.Ranges.{IsSmall, moved, number_span}
use Rattle.protox_link_checks.specs.declared.extensions.Extension.{Extension}
use Rattle.protox_numbers.specs.Numbers.{single}
use Rattle.protox_link_checks.proofs.extended.number_spans.Goals as goal

pub loop-extension-preserved : goal.loop-extension-preserved
loop-extension-preserved c =
    let all = c.args.extensions.now in
    let i = c.loop-extension.extension-index in
    let one = c.extension-item.result in
    let Small = λ (e : Extension). IsSmall (single e.number) in
    record {
      spans = c.in_ok-push.ensures.items
          ∙ ap (λ s. c.loop-extension.made.items ++ s ∷ []) (c.moved.ensures ∙ ap (moved one.message) c.single.ensures.is)
          ∙ ap (λ ss. ss ++ number_span one ∷ []) c.loop-extension.invariant.spans
          ∙ ap (λ e. map number_span (take i all) ++ number_span e ∷ []) c.extension-item.is
          ∙ sym (map_more number_span all i one c.loop-extension-test.true);
      small = subst (All Small) (ap (λ e. take i all ++ e ∷ []) c.extension-item.is ∙ sym (take_more all i one c.loop-extension-test.true))
          (All-push Small (take i all) one c.loop-extension.invariant.small (subst IsSmall c.single.ensures.is c.single.ensures.end));
    }
