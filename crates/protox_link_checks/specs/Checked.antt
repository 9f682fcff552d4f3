-- What a check of a name leaves behind.
use Rattle.std.specs.Prelude.{◌≡◌, ℕ, Bool, true, List, ◌++◌, Option, Some, None}
use Rattle.protox_link_fault.specs.declared.LinkFault.{LinkFault}
use Rattle.protox_link_checks.specs.Faults.{faults_named}
use Rattle.protox_names.specs.Names.{is_one_part}
use Rattle.protox_symbols.specs.Scopes.{scope_name}
use Rattle.protox_symbols.specs.Symbols.{Table}
use Rattle.protox_walk.specs.Declarations.{Path, full_name, text_of}

module _ (table : Table) (sees packages : List Bool) (file : ℕ) (path : Path) (scope : List ℕ) (name : Option (List ℕ)) (before after : List LinkFault) where
  -- The names that it uses may be looked at: they are used in this scope.
  pub record MayUse (number : Option ℕ) : Type 0 where
    pub named : scope_name table number ≡ scope
    pub one : is_one_part (text_of name) ≡ true
    pub behind : (uses : List LinkFault) → before ++ faults_named table sees packages file path (full_name scope name) (text_of name) uses ≡ after ++ uses

  -- Nothing is looked at, whatever it uses; or the names that it uses still are.
  abbrev pub IsChecked : Option (Option ℕ) → Type 0
  IsChecked None = (uses : List LinkFault) → after ≡ before ++ faults_named table sees packages file path (full_name scope name) (text_of name) uses
  IsChecked (Some number) = MayUse number
