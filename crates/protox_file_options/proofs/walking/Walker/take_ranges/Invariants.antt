use Rattle.std.proofs.Common.{drop}
use Rattle.std.specs.List.{FoldsTo}
use Rattle.protox_file_options.specs.Places.{ranges_from}
use Rattle.protox_file_options.proofs.walking.Walker.take_ranges.Given as goal

-- What takes the ranges that are left completes what takes all of them.
abbrev pub invariant-loop-index : goal.invariant-loop-index
invariant-loop-index g l =
    (end : g.row.P.Denot)
    → FoldsTo g.P.TakePlaces.takes l.self.to (ranges_from l.path l.scope l.index (drop l.index l.ranges)) end
    → FoldsTo g.P.TakePlaces.takes l.initial.self.to (ranges_from l.path l.scope 0 l.ranges) end
