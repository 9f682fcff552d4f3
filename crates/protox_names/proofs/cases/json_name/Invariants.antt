use Rattle.std.proofs.Common.{◌≡◌, ◌++◌, length, string_bytes}
use denote.Text.{Utf8}
use denote.Shadow.{shadow}
use Rattle.protox_names.specs.Cases.{json_name}
use Rattle.protox_names.proofs.Pieces.{capitals}
use Rattle.protox_names.proofs.cases.json_name.Given as goal

-- what is made, and then the capitals of the rest, are the JSON name
abbrev pub invariant-loop-piece : goal.invariant-loop-piece
invariant-loop-piece l = record {
  text : shadow (Utf8 l.rest);
  made : string_bytes l.made ++ capitals l.rest ≡ json_name l.name;
}

abbrev pub decreases-loop-piece : goal.decreases-loop-piece
decreases-loop-piece l = length l.rest
