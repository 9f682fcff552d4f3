use Rattle.std.proofs.Common.{◌∷◌, get_or, ap, arith, ◌∙◌}
use Rattle.protox_lex.proofs.Splitting.{group_starts}
use Rattle.protox_lex.proofs.groups.Groups.get.Goals as goal

pub slice_bounds-result-count : goal.slice_bounds-result-count
slice_bounds-result-count g c =
    let ends = c.self.inside.ends.items in
    let k = c.args.index in
    let begins = c.start_of-start.ensures ∙ ap (λ es. get_or (0 ∷ es) k 0) c.deref.ensures.value in
    let low = group_starts _ ends k c.index-end.result.now c.self.invariant (omega arith) in
    omega arith
