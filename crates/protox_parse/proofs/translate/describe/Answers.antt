use Rattle.std.proofs.lemmas.Result.{on_ok_weaker}
use Rattle.protox_parse.proofs.Making.{empty_none, hand_taken}
use Rattle.protox_parse.proofs.translate.describe.Goals as goal

pub returns-then-not-repeats_much : goal.returns-then-not-repeats_much
returns-then-not-repeats_much c =
    let none = empty_none c.args.kept.now c.is_empty.result c.is_empty.ensures c.if-is_empty.true in
    on_ok_weaker c.take.result (λ takes source items. hand_taken source c.args.head.now.syntax items c.args.item c.args.draft.now c.take.new.self c.args.kept.now none takes) c.take.ensures.taken
