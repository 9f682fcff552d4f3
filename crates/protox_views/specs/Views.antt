-- What a file sees of a table of declarations, and what names stand for there.
use Rattle.std.specs.Prelude.{ℕ, Bool, false, List, [], Option, Some, None, option_map, slice_get, slice_index_or, is_some, if◌then◌else◌}
use Rattle.std.specs.Option.{option_and_then, option_map_or}
use Rattle.protox_linked.specs.declared.target.Target.{Target}
use Rattle.protox_name_tree.specs.Tree.{dotted, kind_at, name_at, number_of}
use Rattle.protox_names.specs.Names.{within}
use Rattle.protox_scopes.specs.Scopes.{resolve}
use Rattle.protox_scopes.specs.declared.kind.Kind.{Kind}
use Rattle.protox_scopes.specs.declared.kind.Kind.TheVariants as kind
use Rattle.protox_scopes.specs.declared.kind.Wanted.{Wanted}
use Rattle.protox_symbols.specs.Symbols.{Table}

abbrev pub is_marked : List Bool → ℕ → Bool
is_marked marks n = slice_index_or marks n false

-- `sees` marks the files that are seen, and `packages` the packages that these are in.
module _ (table : Table) (sees packages : List Bool) where
  -- A package is seen if a file that is seen is in it; all else, if its file is seen.
  abbrev pub is_seen_as : Kind → ℕ → Bool
  is_seen_as kind.Package n = is_marked packages n
  is_seen_as kind.Message n = option_map_or (λ thing. is_marked sees thing.file) (slice_get table.things n) false
  is_seen_as kind.Enum n = option_map_or (λ thing. is_marked sees thing.file) (slice_get table.things n) false
  is_seen_as kind.Service n = option_map_or (λ thing. is_marked sees thing.file) (slice_get table.things n) false
  is_seen_as kind.Member n = option_map_or (λ thing. is_marked sees thing.file) (slice_get table.things n) false

  abbrev pub is_seen : ℕ → Bool
  is_seen n = is_seen_as (kind_at table.names n) n

  -- what has a full name, if it is seen
  abbrev pub seen : List ℕ → Option ℕ
  seen full_name = option_and_then (λ n. if is_seen n then Some n else None) (number_of table.names full_name)

  abbrev pub target : ℕ → Target
  target n = record { name = dotted (name_at table.names n); kind = kind_at table.names n }

  -- What a name stands for where something in a scope uses it. The name of the user itself plays no
  -- part, so it is left out here.
  abbrev pub meaning : Wanted → List ℕ → List ℕ → Option Target
  meaning wanted scope name = option_map target (resolve (kind_at table.names) seen wanted name (within scope []))

-- The full name has a number.
abbrev pub stands : Table → List ℕ → Bool
stands table full_name = is_some (number_of table.names full_name)
