use Rattle.std.proofs.Common.{◌≡◌, ◌∙◌, ◌+◌, ◌++◌, ◌∷◌, [], All, ap, append_assoc, map, sym, subst, take}
use Rattle.std.proofs.lemmas.List.{map_more, map-append}
use Rattle.std.proofs.lemmas.List.Elements.{All-push}
use Rattle.protox_link_checks.specs.Ranges.{IsSmall, moved}
use Rattle.protox_numbers.specs.Numbers.{of_extension_range}
use Rattle.protox_link_checks.proofs.ranges.push_ranges.Goals as goal

pub loop-range-preserved : goal.loop-range-preserved
loop-range-preserved c =
    let ranges = c.as_slice-ranges.result.now in
    let i = c.loop-range.range-index in
    let range = c.range-item.result in
    let n = c.args.number in
    let start = c.args.spans.now.items in
    let so_far = map of_extension_range (take i ranges) in
    let more : map of_extension_range (take (i + 1) ranges) ≡ so_far ++ of_extension_range range ∷ [] =
    map_more of_extension_range ranges i range c.loop-range-test.true ∙ ap (λ r. so_far ++ of_extension_range r ∷ []) (sym c.range-item.is) in
    record {
      added = c.in_ok-push.ensures.items
          ∙ ap (λ s. c.loop-range.spans.items ++ s ∷ []) (c.moved.ensures ∙ ap (moved n) c.of_extension_range.ensures.is)
          ∙ ap (λ xs. xs ++ moved n (of_extension_range range) ∷ []) c.loop-range.invariant.added
          ∙ append_assoc start (map (moved n) so_far) (moved n (of_extension_range range) ∷ [])
          ∙ ap (λ xs. start ++ xs) (sym (map-append (moved n) so_far (of_extension_range range ∷ [])))
          ∙ ap (λ xs. start ++ map (moved n) xs) (sym more);
      small = subst (All IsSmall) (sym more) (All-push IsSmall so_far (of_extension_range range) c.loop-range.invariant.small (subst IsSmall c.of_extension_range.ensures.is c.of_extension_range.ensures.end));
    }
