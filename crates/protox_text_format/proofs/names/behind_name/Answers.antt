use Rattle.std.proofs.lemmas.Result.{IfErr-weaker}
use Rattle.protox_text_format.proofs.NameEnds.{named_bracket, named_word, unnamed, unnamed_bracket}
use Rattle.protox_text_format.proofs.Firsts.{IfOk-weaker}
use Rattle.protox_text_format.proofs.names.behind_name.Goals as goal

pub returns-in-Some-clause-ok : goal.returns-in-Some-clause-ok
returns-in-Some-clause-ok c = named_word c.args.pieces.now c.in-Some.more.now c.in-Some.ensures

pub returns-in-Some-behind-clause-ok : goal.returns-in-Some-behind-clause-ok
returns-in-Some-behind-clause-ok c =
    IfOk-weaker c.behind_bracket.result _ _
    (λ next named. named_bracket c.args.pieces.now c.in-Some-behind.more.now next.now c.in-Some-behind.ensures named)
    c.behind_bracket.ensures.ok

pub returns-in-Some-behind-clause-err : goal.returns-in-Some-behind-clause-err
returns-in-Some-behind-clause-err c =
    IfErr-weaker c.behind_bracket.result _ _
    (λ wrong broken. unnamed_bracket c.args.pieces.now c.in-Some-behind.more.now wrong.0.now wrong.1 c.in-Some-behind.ensures broken)
    c.behind_bracket.ensures.err

pub returns-in-None-clause-err : goal.returns-in-None-clause-err
returns-in-None-clause-err c = unnamed c.args.pieces.now c.in_default.ensures c.in-None.ensures
