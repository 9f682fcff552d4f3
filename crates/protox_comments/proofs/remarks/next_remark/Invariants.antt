use Rattle.std.proofs.Common.{◌≡◌, ◌≤◌, length}
use Rattle.protox_comments.specs.Remarks.{remarks_of}
use Rattle.protox_comments.proofs.remarks.next_remark.Given as goal

abbrev pub invariant-lexemes : goal.invariant-lexemes
invariant-lexemes l = (remarks_of l.lexer.left ≡ remarks_of l.fn.lexer.left) × (length l.lexer.left ≤ length l.fn.lexer.left)

abbrev pub decreases-lexemes : goal.decreases-lexemes
decreases-lexemes l = length l.lexer.left
