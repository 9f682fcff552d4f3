-- What a call leaves with its caller.
use Rattle.std.specs.Prelude.{ℕ, ◌≡◌, ◌≤◌, ◌<◌, List, ◌++◌, drop, length}
use Rattle.protox_ffi.specs.declared.outcome.Reason.{Reason}
use Rattle.protox_ffi.specs.declared.outcome.Reason.TheVariants.{Accepted, Refused, OutOfMemory, NotUtf8, TooLarge, NotAFloat}

-- the number of each reason why there are no bytes
abbrev pub status_of : Reason → ℕ
status_of Accepted = 0
status_of Refused = 1
status_of OutOfMemory = 2
status_of NotUtf8 = 4
status_of TooLarge = 5
status_of NotAFloat = 6

-- A call finds bytes, or a reason why there are none. Bytes that fit stand at the front of the caller's buffer; behind them it is as it was, and the
-- status is `done`. For bytes that don't fit the status is 3. Either way `len` is how many there are. Where nothing is written the buffer is as it was.
pub data Answered (Found : List ℕ → Type 0) (Missing : Reason → Type 0) (done : ℕ) (old new : List ℕ) (len status : ℕ) : Type 0 where
  given : (bytes : List ℕ) → Found bytes → length bytes ≤ length old → len ≡ length bytes → new ≡ bytes ++ drop (length bytes) old
      → status ≡ done → Answered Found Missing done old new len status
  short : (bytes : List ℕ) → Found bytes → length old < length bytes → len ≡ length bytes → new ≡ old → status ≡ 3
      → Answered Found Missing done old new len status
  without : (reason : Reason) → Missing reason → len ≡ 0 → new ≡ old → status ≡ status_of reason
      → Answered Found Missing done old new len status

-- A call finds bytes of more than one kind, each with a status of its own, or a reason why there are none.
pub data AnsweredBy (Found : ℕ → List ℕ → Type 0) (Missing : Reason → Type 0) (old new : List ℕ) (len status : ℕ) : Type 0 where
  written : (bytes : List ℕ) → Found status bytes → length bytes ≤ length old → len ≡ length bytes → new ≡ bytes ++ drop (length bytes) old
      → AnsweredBy Found Missing old new len status
  too_short : (kind : ℕ) (bytes : List ℕ) → Found kind bytes → length old < length bytes → len ≡ length bytes → new ≡ old → status ≡ 3
      → AnsweredBy Found Missing old new len status
  nothing : (reason : Reason) → Missing reason → len ≡ 0 → new ≡ old → status ≡ status_of reason
      → AnsweredBy Found Missing old new len status

-- The status doesn't say that something is wrong with the files.
abbrev pub IsNotRefused : ℕ → Type 0
IsNotRefused status = status ≡ status_of Refused → ⊥
