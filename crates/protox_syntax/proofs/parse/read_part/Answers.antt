use Rattle.std.proofs.Common.{◌∙◌}
use Rattle.protox_syntax.proofs.Standing.{last-begins}
use Rattle.protox_syntax.proofs.parse.read_part.Goals as goal

pub cut_part-requires : goal.cut_part-requires
cut_part-requires c last is = last-begins c.args.source.now c.utf8.source c.args.progress.now c.requires.between.0 c.args.head.now c.requires.between.1 last is

pub cut_part-requires-2 : goal.cut_part-requires-2
cut_part-requires-2 c last is =
    let gone = c.requires.between.0 in
    last-begins c.args.source.now c.utf8.source c.read_some.new.progress gone c.read_some.new.head (c.in_ok-on.ensures.between gone c.requires.between.1) last is

pub returns-clause-turned : goal.returns-clause-turned
returns-clause-turned c gone b = c.in_ok-read_last-2.ensures.read gone (c.in_ok-on.ensures.between gone b)

pub returns-clause-syntax : goal.returns-clause-syntax
returns-clause-syntax c some = c.in_ok-read_last-2.ensures.syntax (c.in_ok-on.ensures.kept some) ∙ c.in_ok-on.ensures.syntax some
