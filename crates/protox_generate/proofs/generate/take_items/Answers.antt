use Rattle.std.proofs.Common.{sym, ◌∙◌}
use Rattle.protox_generate.proofs.Items.{all_taken, one_more}
use Rattle.protox_generate.proofs.generate.take_items.Goals as goal

pub loop-item-preserved : goal.loop-item-preserved
loop-item-preserved c = λ source is.
    one_more source c.args.head.now.syntax c.args.items c.in-Some.item _ _ _ _ c.in-Some.ensures.steps.0 (c.loop-item.invariant source is) (c.in_ok-take.ensures.taken source)

pub returns : goal.returns
returns c = λ source is. all_taken source c.args.head.now.syntax c.args.items _ c.loop-item.draft (sym c.loop-item.item-iterator.rest.ok.0 ∙ c.in-None.ensures.steps.0) (c.loop-item.invariant source is)
