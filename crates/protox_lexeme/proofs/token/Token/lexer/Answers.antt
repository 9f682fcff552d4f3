use Rattle.std.proofs.lemmas.Str.{IsCharBoundary-start}
use Rattle.protox_lexeme.proofs.token.Token.lexer.Goals as goal

pub invariant_of-result : goal.invariant_of-result
invariant_of-result c = IsCharBoundary-start c.args.source.now c.utf8.source
