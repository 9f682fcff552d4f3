use Rattle.protoparse_words.proofs.Folders.{in_none, not_in_this}
use Rattle.protoparse_words.proofs.Lists.{no_text}
use Rattle.protoparse_words.proofs.paths.name_in.Goals as goal

pub loop-folder-preserved : goal.loop-folder-preserved
loop-folder-preserved c = not_in_this c.args.path.now c.args.folders.now c.loop-folder.folder-index no_text c.loop-folder-test.true c.loop-folder.invariant (rw c.in_default.is at c.in_ok-name.ensures.none)

pub returns-clause-none : goal.returns-clause-none
returns-clause-none c = in_none c.args.path.now c.args.folders.now c.loop-folder.folder-index c.loop-folder-test.false c.loop-folder.invariant
