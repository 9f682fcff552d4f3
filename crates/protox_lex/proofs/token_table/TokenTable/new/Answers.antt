use Rattle.std.proofs.lemmas.Str.{IsCharBoundary-start}
use Rattle.protox_lex.proofs.Tables.{whole_part}
use Rattle.protox_lex.proofs.token_table.TokenTable.new.Goals as goal

pub part-requires-clause-boundary : goal.part-requires-clause-boundary
part-requires-clause-boundary c = IsCharBoundary-start c.args.source.now c.utf8.source

pub returns : goal.returns
returns c = whole_part c.args.source.now c.in_ok-table.table c.in_ok-table.field-0-1 c.in_ok-table.ensures.past c.in_ok-table.ensures.part
