use Rattle.std.proofs.Common.{◌≡◌, ◌+◌, length, flat_map, ℕ}
use Rattle.std.specs.Fmt.{HasWritten, IsPlainFormatter}
use Rattle.protox_shown.specs.Shown.{shown_char}
use Rattle.protox_shown.proofs.shown.write_brief.Given as goal

-- What is written so far, and how many characters may still be.
pub record Inv (Written : Type 0) (left done : ℕ) : Type 0 where
  pub written : Written
  pub counted : left + done ≡ 200

abbrev pub invariant-loop-c : goal.invariant-loop-c
invariant-loop-c g l =
    Inv (IsPlainFormatter l.initial.f → HasWritten g.W.Write.write_str_gives l.initial.f (flat_map shown_char l.yielded) l.f) l.left (length l.yielded)
