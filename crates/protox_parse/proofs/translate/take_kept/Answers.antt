use Rattle.std.proofs.Common.{◌≡◌, sym, ◌∙◌}
use Rattle.std.specs.Vec.Iter.{into_iter_items}
use Rattle.protox_generate.proofs.Lemmas.{all_taken, one_more}
use Rattle.protox_parse.proofs.Making.{reached_first}
use Rattle.protox_parse.proofs.translate.take_kept.Goals as goal

pub loop-item-init : goal.loop-item-init
loop-item-init c = λ source items hand.
    let gives : into_iter_items c.into_iter-item-iterator.result ≡ c.into_vec-item-items.result.items = c.into_iter-item-iterator.ensures.into_iter_gives.0 in
    reached_first source c.args.head.now.syntax items _ c.args.kept c.args.draft.now (gives ∙ c.into_vec-item-items.ensures) hand

pub loop-item-preserved : goal.loop-item-preserved
loop-item-preserved c = λ source items hand.
    one_more source c.args.head.now.syntax items c.in-Some.item _ _ _ _ c.in-Some.ensures.steps.0 (c.loop-item.invariant source items hand) (c.in_ok-take.ensures.taken source)

pub returns : goal.returns
returns c = λ source items hand. all_taken source c.args.head.now.syntax items _ c.loop-item.draft (sym c.loop-item.item-iterator.rest.ok.0 ∙ c.in-None.ensures.steps.0) (c.loop-item.invariant source items hand)
