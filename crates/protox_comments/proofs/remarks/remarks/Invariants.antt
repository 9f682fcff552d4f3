use Rattle.std.proofs.Common.{◌≡◌, ◌++◌, length, map}
use Rattle.protox_lexeme.specs.Lexemes.{cut}
use Rattle.protox_comments.specs.Remarks.{remarks_of, seen}
use Rattle.protox_comments.proofs.remarks.remarks.Given as goal

abbrev pub invariant-remarks : goal.invariant-remarks
invariant-remarks l = map seen l.found.items ++ remarks_of l.lexer.left ≡ remarks_of (cut 0 l.source)

abbrev pub decreases-remarks : goal.decreases-remarks
decreases-remarks l = length l.lexer.left
