use Rattle.protox_ast.specs.Places.{placed}
use Rattle.protox_syntax.proofs.AllFound.{never-deep}
use Rattle.protox_syntax.proofs.last_part.syntax_holds_no_body.Goals as goal

pub unreachable-requires : goal.unreachable-requires
unreachable-requires c = never-deep (placed c.args.table.now) c.args.left c.requires.read c.requires.notes
