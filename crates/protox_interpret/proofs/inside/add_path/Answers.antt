use Rattle.std.proofs.Common.{◌++◌, [], ◌∷◌, Some, take, get_or, sym, ap, ◌∙◌, arith}
use Rattle.std.specs.Prelude.{◌||◌}
use Rattle.std.proofs.lemmas.List.{take_more}
use Rattle.protox_interpret.proofs.Entering.{if_any, path_grows}
use Rattle.protox_set_paths.specs.Paths.{begins_with, is_set}
use Rattle.protox_interpret.proofs.inside.add_path.Goals as goal

pub loop-number-preserved : goal.loop-number-preserved
loop-number-preserved c =
    let path = c.args.path.now in
    let front = take c.loop-number.number-index path in
    let number = get_or path c.loop-number.number-index 0 in
    let more = take_more path c.loop-number.number-index 0 (omega arith) in
    record {
      at = c.in_ok-place.ensures.place front c.loop-number.invariant.at ∙ ap (λ p. Some p) (sym more);
      set = λ q.
          c.in_ok-place.ensures.set front c.loop-number.invariant.at q
          ∙ ap (λ b. begins_with q (front ++ number ∷ []) || b) (c.loop-number.invariant.set q)
          ∙ path_grows front number q (is_set c.args.set.now q)
          ∙ ap (λ p. is_set (if_any p) q || is_set c.args.set.now q) (sym more);
    }
