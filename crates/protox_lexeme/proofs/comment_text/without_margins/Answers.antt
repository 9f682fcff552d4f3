use Rattle.std.proofs.Common.{◌+◌, ◌∷◌, ◌++◌, length, drop, ap, sym, ◌∙◌, arith}
use Rattle.std.proofs.lemmas.Iterator.{YieldsList-from_chars}
use Rattle.std.proofs.lemmas.List.{at_drop_more, at_drop_all, length_push}
use Rattle.std.proofs.lemmas.Iterator.Consumers.{YieldsList-turn, YieldsList-end}
use Rattle.std.specs.Prelude.{encode_utf8_all, false}
use Rattle.std.specs.Str.{chars}
use Rattle.protox_lexeme.specs.BlockComments.{without_margins, without_returns, comment_text}
use Rattle.protox_lexeme.specs.inner.Kept.{finished}
use Rattle.protox_lexeme.proofs.comment_text.without_margins.Goals as goal

pub loop-c-init : goal.loop-c-init
unfolding comment_text
loop-c-init c =
    ap (λ t. t ++ encode_utf8_all (without_returns (without_margins false (chars c.args.content.now)))) c.new.ensures.bytes

pub loop-c-preserved : goal.loop-c-preserved
loop-c-preserved c =
    let cs = chars c.args.content.now in
    let n = length c.loop-c.yielded in
    let t = YieldsList-turn (YieldsList-from_chars c.args.content.now c.utf8.content cc) c.loop-c.yielded _ c.loop-c.yielded_by _ _ c.in-Some.c c.in-Some.is c.next.ensures.steps in
    let more = length_push c.loop-c.yielded c.in-Some.c in
    let here = at_drop_more (finished c.loop-c.kept) cs n c.in-Some.c t.0 in
    let turn = ap (λ x. finished c.loop-c.kept (x ∷ drop (n + 1) cs)) t.1 in
    ap (λ k. finished c.take.new.self (drop k cs)) more ∙ c.in_ok-take.ensures (drop (n + 1) cs) ∙ turn ∙ sym here ∙ c.loop-c.invariant

pub returns : goal.returns
returns c =
    let cs = chars c.args.content.now in
    let t = YieldsList-end (YieldsList-from_chars c.args.content.now c.utf8.content cc) c.loop-c.yielded _ c.loop-c.yielded_by _ _ c.in-None.is c.next.ensures.steps in
    let all = at_drop_all (finished c.loop-c.kept) cs (length c.loop-c.yielded) (omega (arith, t.1)) in
    let done = sym all ∙ c.loop-c.invariant in
    rw done at c.end.ensures
