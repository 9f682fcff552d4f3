use Rattle.protox_parse.proofs.Making.{of_file}
use Rattle.protox_parse.proofs.translate.Translation.finish.Goals as goal

pub returns-clause-found : goal.returns-clause-found
returns-clause-found c = λ source file read.
    let taken = c.in_ok-draft.ensures.taken source file read in
    (taken.0, of_file c.args.name.now source file c.args.head.now c.args.self _ read (c.in_ok-finish.ensures source file.items taken.1))
