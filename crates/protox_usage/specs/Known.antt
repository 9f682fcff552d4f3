-- What is known of a list of files, so that unused imports can be told.
use Rattle.std.specs.Prelude.{◌&&◌, ◌||◌, ℕ, Bool, false, not, List, None, Option, slice_index_or}
use Rattle.std.specs.Option.{option_map_or}
use Rattle.protox_descriptor.specs.declared.descriptor.FileDescriptorProto.{FileDescriptorProto}
use Rattle.protox_imports.specs.Rows.{rows_of}
use Rattle.protox_link.specs.Known.{IsKnownOf}
use Rattle.protox_link.specs.declared.known.Known.{Known}
use Rattle.protox_usage.specs.First.{AreFirst, IsOrderOf}
use Rattle.protox_usage.specs.Unused.{has_public, is_public}
use Rattle.protox_usage.specs.declared.searcher.Found.{Found}

pub record IsUsageOf (files : List FileDescriptorProto) (known : Known) (first : List (Option ℕ)) : Type 0 where
  pub known_of : IsKnownOf files known
  pub order : List ℕ
  pub in_order : IsOrderOf (rows_of files) order
  pub are_first : AreFirst files order first

-- An import with this index, which names this file, was not come upon.
abbrev pub is_not_met : List FileDescriptorProto → FileDescriptorProto → Found → ℕ → Option ℕ → Bool
is_not_met files file found index named =
    option_map_or (λ n. not (is_public file index || has_public files n) && not (found.guesses || slice_index_or found.used n false)) named false

-- An import with this index was not come upon, where `named` has the file that each import names.
abbrev pub is_not_found : List FileDescriptorProto → FileDescriptorProto → List (Option ℕ) → Found → ℕ → Bool
is_not_found files file named found index = is_not_met files file found index (slice_index_or named index None)
