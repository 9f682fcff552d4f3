use Rattle.std.proofs.Common.{◌++◌, take}
use Rattle.std.specs.List.{FoldsTo}
use Rattle.protox_parse.specs.inner.Made.{TakesNext}
use Rattle.protox_parse.proofs.Making.{keeping}
use Rattle.protox_parse.proofs.translate.Translation.check_all.Given as goal

abbrev pub invariant-loop-item : goal.invariant-loop-item
invariant-loop-item l =
    FoldsTo (TakesNext l.syntax) l.initial.self (take l.item-index l.items) (keeping l.self (l.initial.self.kept ++ take l.item-index l.items))
