use Rattle.std.proofs.lemmas.Str.{IsCharBoundary-start}
use Rattle.callcases.proofs.calls.part_of.Goals as goal

pub part-requires-clause-boundary : goal.part-requires-clause-boundary
part-requires-clause-boundary c = IsCharBoundary-start c.args.source.now c.utf8.source
