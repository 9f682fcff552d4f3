use Rattle.std.proofs.Common.{rules, ◌≡◌, ◌++◌, ◌∷◌, [], slice_index_or, arith, ap, refl, sym, ◌∙◌}
use Rattle.std.specs.Prelude.{pos}
use Rattle.protox_pool.proofs.Places.{tagged_are, untagged_are}
use Rattle.protox_pool.proofs.pool.add_numbers.Goals as goal

pub returns-then-is_empty : goal.returns-then-is_empty
returns-then-is_empty c =
    let path = c.args.path.now in
    let span = c.args.span.now in
    let items : c.extend_from_slice.new.self.items ≡ c.args.numbers.now.items
    ++ slice_index_or path 0 (pos 0) ∷ slice_index_or path 1 (pos 0) ∷ slice_index_or path 2 (pos 0)
    ∷ slice_index_or path 3 (pos 0) ∷ slice_index_or span 0 (pos 0) ∷ slice_index_or span 1 (pos 0)
    ∷ slice_index_or span 2 (pos 0) ∷ []
    = search rules in
    let is = c.if-not-is_usual.ensures in
    items ∙ ap (λ l. c.args.numbers.now.items ++ l) (sym (untagged_are path c.args.tags.now span (pos 0)
    (omega (arith, is.path refl)) (omega (arith, is.path refl)) (omega (arith, is.span refl))
    (omega (arith, is.span refl)) (search rules)))

pub returns-else-is_empty : goal.returns-else-is_empty
returns-else-is_empty c =
    let path = c.args.path.now in
    let span = c.args.span.now in
    let tags = c.args.tags.now in
    let items : c.extend_from_slice-else-is_empty.new.self.items ≡ c.args.numbers.now.items
    ++ slice_index_or path 0 (pos 0) ∷ slice_index_or path 1 (pos 0) ∷ slice_index_or path 2 (pos 0)
    ∷ slice_index_or path 3 (pos 0) ∷ slice_index_or tags 0 (pos 0) ∷ slice_index_or span 0 (pos 0)
    ∷ slice_index_or span 1 (pos 0) ∷ slice_index_or span 2 (pos 0) ∷ []
    = search rules in
    let is = c.if-not-is_usual.ensures in
    items ∙ ap (λ l. c.args.numbers.now.items ++ l) (sym (tagged_are path tags span (pos 0)
    (omega (arith, is.path refl)) (omega (arith, is.path refl)) (omega (arith, is.span refl))
    (omega (arith, is.span refl)) (search rules) (is.tags refl)))
