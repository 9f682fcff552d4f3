use Rattle.protox_text_format.proofs.Steps.{go_field_comma, go_no_mark, go_semicolon}
use Rattle.protox_text_format.proofs.reading.read_mark.Goals as goal

pub returns-in-Some : goal.returns-in-Some
returns-in-Some c frames items = go_semicolon frames c.args.left.now c.in-Some.left.now items c.in-Some.ensures

pub returns-in-Some-behind : goal.returns-in-Some-behind
returns-in-Some-behind c frames items =
    go_field_comma frames c.args.left.now c.in-Some-behind.left.now items c.in-Some-behind.ensures

pub returns : goal.returns
returns c frames items = go_no_mark frames c.args.left.now items c.in_default.ensures c.in_default-behind.ensures
