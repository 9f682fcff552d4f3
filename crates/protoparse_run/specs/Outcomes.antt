-- When what is said of a file is right, and what is counted.
use Rattle.std.specs.Prelude.{ℕ, ◌≡◌, List}
use Rattle.std.specs.declared.alloc.Global.{Global}
use Rattle.std.specs.declared.string.String.{String}
use Rattle.std.specs.String.{string_bytes}
use Rattle.protox_parse.specs.Files.{IsFile}
use Rattle.protoparse_run.specs.declared.tally.Outcome.{Outcome}
use Rattle.protoparse_run.specs.declared.tally.Tally.{Tally}
use Rattle.protoparse_words.specs.declared.Task.{Task}
use Rattle.protoparse_run.specs.declared.tally.Outcome.TheVariants.{Accepted, Refused, Failed}

-- A source is accepted only if it is a file, and refused only if it is none.
abbrev pub IsRightOf : List ℕ → Outcome → Type 0
IsRightOf source Accepted = IsFile source
IsRightOf source (Refused faults) = IsFile source → ⊥
IsRightOf source Failed = Unit {0}

-- So it is for one of these texts: one that was read.
abbrev pub IsRightAbout : (List ℕ → Type 0) → Outcome → Type 0
IsRightAbout Holds Accepted = (source : List ℕ) × Holds source × IsFile source
IsRightAbout Holds (Refused faults) = (source : List ℕ) × Holds source × (IsFile source → ⊥)
IsRightAbout Holds Failed = Unit {0}

-- A file is accepted: what was read under its name is a file.
abbrev pub IsAccepted : {H : Type 0} → (H → List ℕ → List ℕ → Type 0) → H → Task → Type 0
IsAccepted holds host task = (source : List ℕ) × holds host task.path.now source × IsFile source

-- What was read under the name that a word spells is a file.
abbrev pub IsFileNamed : {H : Type 0} → (H → List ℕ → List ℕ → Type 0) → H → String Global → Type 0
IsFileNamed holds host word = (source : List ℕ) × holds host (string_bytes word) source × IsFile source

-- The tally counts an outcome: a file that was refused or failed stays counted.
pub record Counts (old : Tally) (outcome : Outcome) (new : Tally) : Type 0 where
  pub refused : new.refused ≡ 0 → old.refused ≡ 0
  pub failed : new.failed ≡ 0 → old.failed ≡ 0
  pub accepted : new.refused ≡ 0 → new.failed ≡ 0 → outcome ≡ Accepted
