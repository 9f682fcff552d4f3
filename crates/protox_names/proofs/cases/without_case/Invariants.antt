use Rattle.std.proofs.Common.{◌≡◌, ◌++◌, length, string_bytes}
use denote.Text.{Utf8}
use denote.Shadow.{shadow}
use Rattle.protox_names.proofs.Pieces.{kept}
use Rattle.protox_names.proofs.cases.without_case.Given as goal

-- what is made, and then what is kept of the rest, is what is kept of the name
abbrev pub invariant-loop-piece : goal.invariant-loop-piece
invariant-loop-piece l = record {
  text : shadow (Utf8 l.rest);
  made : string_bytes l.made ++ kept l.rest ≡ kept l.name;
}

abbrev pub decreases-loop-piece : goal.decreases-loop-piece
decreases-loop-piece l = length l.rest
