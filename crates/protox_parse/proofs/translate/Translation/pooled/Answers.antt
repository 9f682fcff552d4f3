use Rattle.protox_parse.proofs.Making.{none_so_far}
use Rattle.protox_parse.proofs.translate.Translation.pooled.Goals as goal

pub returns : goal.returns
returns c = λ syntax. none_so_far c.args.source.now syntax _ (c.pooled.ensures.taken syntax) c.new.ensures.items c.new-2.ensures
