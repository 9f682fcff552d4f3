use Rattle.std.proofs.lemmas.Str.{IsCharBoundary-start}
use Rattle.callcases.proofs.calls.part_or_rest.Goals as goal

pub part_or_rest-requires-clause-boundary : goal.part_or_rest-requires-clause-boundary
part_or_rest-requires-clause-boundary c = IsCharBoundary-start c.args.source.now c.utf8.source
