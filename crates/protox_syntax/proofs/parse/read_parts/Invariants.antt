use Rattle.std.proofs.Common.{◌-◌, List, length}
use Rattle.std.specs.List.{FoldsTo}
use Rattle.protox_ast.specs.declared.ast.FileItem.{FileItem}
use Rattle.protox_syntax.specs.inner.Parts.{IsBetween, last_end}
use Rattle.protox_syntax.proofs.parse.read_parts.Given as goal

abbrev pub invariant-parts : goal.invariant-parts
invariant-parts g l = record {
  gone : List FileItem;
  between : IsBetween l.source l.progress gone l.head;
  taken : FoldsTo (g.T.TakesItems.takes l.head.syntax) l.fn.to gone l.to;
}

abbrev pub decreases-parts : goal.decreases-parts
decreases-parts g l = length l.source - last_end l.progress.last
