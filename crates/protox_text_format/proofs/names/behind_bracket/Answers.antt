use Rattle.std.proofs.lemmas.Result.{IfErr-weaker}
use Rattle.protox_text_format.proofs.NameEnds.{closes_type, closes_words, named_type, named_words, unnamed_type, unnamed_words}
use Rattle.protox_text_format.proofs.Firsts.{IfOk-weaker}
use Rattle.protox_text_format.proofs.names.behind_bracket.Goals as goal

pub returns-in-Err-clause-err : goal.returns-in-Err-clause-err
returns-in-Err-clause-err c = unnamed_words c.args.pieces.now c.in-Err.wrong.now c.in-Err.ensures

pub returns-in_default-clause-ok : goal.returns-in_default-clause-ok
returns-in_default-clause-ok c =
    IfOk-weaker c.behind_closing.result _ _
    (λ more closed. named_words c.args.pieces.now c.in-Ok.more.now more.now c.in-Ok.ensures closed)
    c.behind_closing.ensures.ok

pub returns-in_default-clause-err : goal.returns-in_default-clause-err
returns-in_default-clause-err c =
    IfErr-weaker c.behind_closing.result _ _
    (λ wrong open_still. closes_words c.args.pieces.now c.in-Ok.more.now wrong.0.now wrong.1 c.in-Ok.ensures c.in_default.ensures open_still)
    c.behind_closing.ensures.err

pub returns-in-Ok-behind_words-clause-ok : goal.returns-in-Ok-behind_words-clause-ok
returns-in-Ok-behind_words-clause-ok c =
    IfOk-weaker c.behind_closing-in-Ok-behind_words.result _ _
    (λ more closed. named_type c.args.pieces.now c.in-Ok.more.now c.in-Some.name.now c.in-Ok-behind_words.more.now more.now
    c.in-Ok.ensures c.in-Some.ensures c.in-Ok-behind_words.ensures closed)
    c.behind_closing-in-Ok-behind_words.ensures.ok

pub returns-in-Ok-behind_words-clause-err : goal.returns-in-Ok-behind_words-clause-err
returns-in-Ok-behind_words-clause-err c =
    IfErr-weaker c.behind_closing-in-Ok-behind_words.result _ _
    (λ wrong open_still. closes_type c.args.pieces.now c.in-Ok.more.now c.in-Some.name.now c.in-Ok-behind_words.more.now wrong.0.now wrong.1
    c.in-Ok.ensures c.in-Some.ensures c.in-Ok-behind_words.ensures open_still)
    c.behind_closing-in-Ok-behind_words.ensures.err

pub returns-in-Err-behind_words-clause-err : goal.returns-in-Err-behind_words-clause-err
returns-in-Err-behind_words-clause-err c =
    unnamed_type c.args.pieces.now c.in-Ok.more.now c.in-Some.name.now c.in-Err-behind_words.wrong.now
    c.in-Ok.ensures c.in-Some.ensures c.in-Err-behind_words.ensures
