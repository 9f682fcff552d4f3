use Rattle.std.proofs.Common.{◌≡◌, ◌++◌, drop, string_bytes}
use Rattle.protox_aggregate.specs.Anys.{before_slash}
use Rattle.protox_aggregate.specs.Names.{dotted_words}
use Rattle.protox_text_values.specs.Scalars.{shapes_of}
use Rattle.protox_aggregate.proofs.anys.domain_of.Given as goal

-- the words so far and those of the pieces that are left, up to the slash, are those of all up to it
abbrev pub invariant-loop-piece : goal.invariant-loop-piece
invariant-loop-piece l =
    string_bytes l.domain ++ dotted_words (before_slash (shapes_of (drop l.piece-index l.pieces)))
    ≡ dotted_words (before_slash (shapes_of l.pieces))
