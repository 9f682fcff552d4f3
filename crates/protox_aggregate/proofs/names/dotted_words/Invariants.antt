use Rattle.std.proofs.Common.{◌≡◌, ◌++◌, drop, string_bytes}
use Rattle.protox_aggregate.specs.Names.{dotted_words}
use Rattle.protox_text_values.specs.Scalars.{shapes_of}
use Rattle.protox_aggregate.proofs.names.dotted_words.Given as goal

-- the words so far and those of the pieces that are left are those of all
abbrev pub invariant-loop-piece : goal.invariant-loop-piece
invariant-loop-piece l = string_bytes l.name ++ dotted_words (shapes_of (drop l.piece-index l.pieces)) ≡ dotted_words (shapes_of l.pieces)
