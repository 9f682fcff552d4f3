-- What a refusal holds.
use Rattle.std.specs.Prelude.{ℕ, List}
use Rattle.protox_fault.specs.declared.error.ParseErrorKind.{ParseErrorKind}

-- the file's name, its source, and the faults in the order in which they were found
pub record Refusal : Type 0 where
  pub file : List ℕ
  pub source : List ℕ
  pub errors : List ParseErrorKind
