use Rattle.protox_text_format.proofs.ScalarEnds.{negative_then, none_at_front, none_behind_minus, plain_then, strings_then}
use Rattle.protox_text_format.proofs.scalars.behind_scalar.Goals as goal

pub returns-in-Some : goal.returns-in-Some
returns-in-Some c = plain_then c.args.pieces.now c.in-Some.more.now c.in-Some.ensures

pub returns-in-Some-behind-2 : goal.returns-in-Some-behind-2
returns-in-Some-behind-2 c =
    negative_then c.args.pieces.now c.in-Some-behind.number.now c.in-Some-behind-2.more.now
    c.in-Some-behind.ensures c.in-Some-behind-2.ensures

pub returns-in-None : goal.returns-in-None
returns-in-None c =
    none_behind_minus c.args.pieces.now c.in-Some-behind.number.now c.in-Some-behind.ensures c.in-None.ensures

pub returns-in-Some-behind-3 : goal.returns-in-Some-behind-3
returns-in-Some-behind-3 c =
    strings_then c.args.pieces.now c.in-Some-behind-3.more.now c.behind_strings.result.now
    c.in-Some-behind-3.ensures c.behind_strings.ensures

pub returns-in-None-behind : goal.returns-in-None-behind
returns-in-None-behind c =
    none_at_front c.args.pieces.now c.in_default.ensures c.in_default-behind.ensures c.in-None-behind.ensures
