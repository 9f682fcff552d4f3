use Rattle.std.proofs.Common.{◌∙◌}
use Rattle.protox_lexeme.specs.Pieces.{reading_of}
use Rattle.protox_lexeme.proofs.Literal.{finished_break}
use Rattle.protox_lexeme.proofs.string.break_off.Goals as goal

pub returns-clause-value : goal.returns-clause-value
returns-clause-value c start =
    c.found.ensures.value start
    ∙ finished_break start c.args.at (reading_of c.args.reader) c.push.new.self.items c.close.new.faults.items c.in_ok-close.ensures.ok c.in_ok-push.ensures.items
