use Rattle.std.proofs.Common.{◌≡◌, ◌++◌, drop}
use Rattle.std.specs.Prelude.{string_bytes}
use Rattle.protox_brace_text.specs.Steps.{all_printed}
use Rattle.protox_brace_text.proofs.pieces.all_printed.Given as goal

abbrev pub invariant-loop-piece : goal.invariant-loop-piece
invariant-loop-piece l = string_bytes l.text ++ all_printed (drop l.piece-index l.pieces) ≡ all_printed l.pieces
