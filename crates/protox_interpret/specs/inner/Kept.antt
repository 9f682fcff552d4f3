-- What is kept of the settings so far.
use Rattle.std.specs.Prelude.{◌≡◌, ℕ, not, List, [], ◌∷◌, ◌++◌, ◌||◌, map, if◌then◌else◌}
use Rattle.std.specs.List.{filter, flat_map}
use Rattle.protox_interpret.specs.Answers.{path_seen, path_set}
use Rattle.protox_interpret.specs.Settings.{Setting, field_of, paths_of}
use Rattle.protox_interpret.specs.declared.work.Work.{Work}
use Rattle.protox_set_paths.specs.Paths.{is_set}

-- These settings are kept.
pub record AreKept (work : Work) (settings : List Setting) : Type 0 where
  pub set : (q : List ℕ) → is_set work.set q ≡ is_set (flat_map paths_of settings) q
  pub standard : work.standard.items ≡ map field_of (filter (λ s. s.standard) settings)
  pub custom : work.custom.items ≡ flat_map (λ s. s.bytes) (filter (λ s. not s.standard) settings)
  pub paths : map path_seen work.paths.items ≡ map path_set settings

-- A setting is added to what is kept.
pub record IsAdded (old : Work) (setting : Setting) (new : Work) : Type 0 where
  pub set : (q : List ℕ) → is_set new.set q ≡ (is_set (paths_of setting) q || is_set old.set q)
  pub standard : new.standard.items ≡ old.standard.items ++ (if setting.standard then field_of setting ∷ [] else [])
  pub custom : new.custom.items ≡ old.custom.items ++ (if setting.standard then [] else setting.bytes)
  pub paths : map path_seen new.paths.items ≡ map path_seen old.paths.items ++ path_set setting ∷ []
