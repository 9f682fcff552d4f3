use Rattle.std.proofs.Common.{◌≡◌, List, true, false, length}
use Rattle.protox_ast.specs.declared.ast.FileItem.{FileItem}
use Rattle.protox_grammar.specs.Told.{AreValidTokens}
use Rattle.protox_syntax.specs.inner.OnWay.{IsOnWay}
use Rattle.protox_syntax.specs.inner.SomeRead.{AreRead}
use Rattle.protox_syntax.proofs.statement_loop.read_statements.Given as goal

abbrev pub invariant-statements : goal.invariant-statements
invariant-statements l = record {
  some : l.part.ends ≡ false → AreValidTokens l.fn.rows → AreRead l.fn.rows l.rows l.fn.head l.head;
  on : l.part.ends ≡ true → (gone : List FileItem) → IsOnWay l.source l.part.table false l.fn.rows l.fn.notes.items gone l.fn.head → IsOnWay l.source l.part.table l.refused l.rows l.notes.items gone l.head;
  syntax : l.head.syntax ≡ l.fn.head.syntax;
}

abbrev pub decreases-statements : goal.decreases-statements
decreases-statements l = length l.rows
