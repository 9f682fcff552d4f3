use Rattle.std.proofs.Common.{◌++◌, ◌∷◌, [], ap, ◌∙◌}
use Rattle.protox_describe.proofs.items.push_oneof.Goals as goal

pub returns : goal.returns
returns c = λ syntax. c.in_ok-push.ensures.ok ∙ ap (λ made. c.args.found.now ++ made ∷ []) (c.in_ok-made.ensures syntax)
