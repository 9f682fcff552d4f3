use Rattle.protox_parse.proofs.Making.{none_so_far}
use Rattle.protox_parse.proofs.translate.Translation.new.Goals as goal

pub returns : goal.returns
returns c = λ syntax. none_so_far c.args.source.now syntax _ (c.new.ensures.taken syntax) c.new-2.ensures.items c.new-3.ensures
