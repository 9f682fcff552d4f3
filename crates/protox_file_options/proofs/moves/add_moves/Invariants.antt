use Rattle.std.proofs.Common.{◌≡◌, ◌++◌, ℕ, List, drop, map, take}
use Rattle.protox_file_options.specs.Moves.{count_of, moves_behind, moves_of}
use Rattle.protox_file_options.specs.inner.Counts.{count_in}
use Rattle.protox_interpret.specs.Answers.{path_seen}
use Rattle.protox_file_options.proofs.moves.add_moves.Given as goal

abbrev pub invariant-loop-number : goal.invariant-loop-number
invariant-loop-number l =
    (l.moves.items ++ moves_behind l.options (map path_seen (take l.number l.sets)) (map path_seen (drop l.number l.sets))
    ≡ l.initial.moves.items ++ moves_of l.options (map path_seen l.sets))
    × ((q : List ℕ) → count_in l.counts q ≡ count_of (map path_seen (take l.number l.sets)) q)
