-- What searches note: words for the functions that search.
use Rattle.std.specs.Prelude.{ℕ, Bool, true, false, List, fold, slice_index_or, slice_set, Option, Some, None}
use Rattle.protox_name_tree.specs.Tree.{kind_at}
use Rattle.protox_scopes.specs.declared.kind.Kind.{Kind}
use Rattle.protox_scopes.specs.declared.step.Step.{Step}
use Rattle.protox_scopes.specs.declared.step.Step.TheVariants.{Ends, GoesOn}
use Rattle.protox_usage.specs.First.{file_of}
use Rattle.protox_usage.specs.Lookups.{Lookup}
use Rattle.protox_usage.specs.Met.{met}
use Rattle.protox_usage.specs.declared.search.Sight.{Sight}
use Rattle.protox_views.specs.Views.{seen}

abbrev pub ends : Step ℕ → Bool
ends (Ends found) = true
ends GoesOn = false

-- with one more mark, if the file is known
abbrev pub with_mark : List Bool → Option ℕ → List Bool
with_mark marks None = marks
with_mark marks (Some file) = slice_set marks file true

module _ (sight : Sight) where
  abbrev pub kind_in : ℕ → Kind
  kind_in n = kind_at sight.view.now.symbols.now.names n

  abbrev pub seen_in : List ℕ → Option ℕ
  seen_in full_name = seen sight.view.now.symbols.now sight.view.now.sees.now sight.view.now.packages full_name

  abbrev pub met_by : Lookup → List ℕ
  met_by lookup = met kind_in seen_in lookup

  abbrev pub file_in : ℕ → Option ℕ
  file_in n = file_of sight.view.now.symbols.now (λ m. slice_index_or sight.first.now m None) n

  -- with a mark for the file of a number
  abbrev pub with_number : List Bool → ℕ → List Bool
  with_number marks n = with_mark marks (file_in n)

  -- with a mark for the file of each number
  abbrev pub noted : List Bool → List ℕ → List Bool
  noted marks numbers = fold with_number marks numbers
