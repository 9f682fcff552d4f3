use Rattle.std.proofs.Common.{◌≡◌, ◌++◌, drop, option_map}
use Rattle.protox_text_values.specs.Scalars.{joined, shapes_of}
use Rattle.protox_text_values.proofs.scalars.joined.Given as goal

-- the bytes so far and those of the pieces that are left are those of all
abbrev pub invariant-loop-piece : goal.invariant-loop-piece
invariant-loop-piece l =
    option_map (λ rest. l.bytes ++ rest) (joined (shapes_of (drop l.piece-index l.pieces))) ≡ joined (shapes_of l.pieces)
