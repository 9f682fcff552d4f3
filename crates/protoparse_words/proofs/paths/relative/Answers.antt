use Rattle.std.proofs.Common.{ap, ◌∙◌}
use Rattle.protoparse_words.specs.Names.{texts}
use Rattle.protoparse_words.proofs.Under.{unnamed_under}
use Rattle.protoparse_words.proofs.paths.relative.Goals as goal

pub returns-clause-none : goal.returns-clause-none
returns-clause-none c =
    unnamed_under c.args.path.now c.args.folder.now _ _
    (ap texts c.as_slice.ensures.value ∙ c.in_ok-parts.ensures)
    (ap texts c.as_slice-2.ensures.value ∙ c.in_ok-above.ensures)
    c.name_behind.result c.name_behind.ensures.none
