-- The marks of the ends of groups.
use Rattle.std.specs.Prelude.{ℕ, List, [], ◌∷◌, ◌++◌, if◌then◌else◌}
use Rattle.protox_encode.specs.Wire.{header}
use Rattle.protox_setting_bytes.specs.declared.step.Step.{Step}

-- the mark of the end of a group; of another field there is none
abbrev pub end_of : Step → List ℕ
end_of step = if step.is_group then header step.number 4 else []

-- those of fields within one another, the innermost first
abbrev pub ends_of : List Step → List ℕ
ends_of [] = []
ends_of (step ∷ more) = ends_of more ++ end_of step
