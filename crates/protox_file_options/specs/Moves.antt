-- Where the locations of the statements of an options message go.
use Rattle.std.specs.Prelude.{ℕ, ℤ, Bool, List, [], ◌∷◌, ◌++◌, length, map, nat_eq, pos, if◌then◌else◌}
use Rattle.std.specs.Cmp.Lexicographic.{pointwise}
use Rattle.std.specs.List.{filter}
use Rattle.protox_descriptor.specs.declared.tag.TheConstants as tag
use Rattle.protox_moved.specs.declared.Move.{Move}

-- whether the numbers are those of the path
abbrev pub is_path : List ℕ → List ℕ → Bool
is_path numbers path = pointwise nat_eq numbers path

-- how many statements set the field at a path
abbrev pub count_of : List (List ℕ × Bool) → List ℕ → ℕ
count_of sets path = length (filter (λ (set : List ℕ × Bool). is_path set.0 path) sets)

-- The path of what a statement sets, from the options message on. A value of a repeated field has its
-- index among the values of the field.
abbrev pub path_below : ℕ → List ℕ × Bool → List ℤ
path_below index set = map pos set.0 ++ (if set.1 then pos index ∷ [] else [])

-- the move of a statement with this number, of the options message at a path
abbrev pub move_at : List ℤ → ℕ → List ℤ → Move
move_at options number below = record {
  from = options ++ tag.UNINTERPRETED_OPTION ∷ pos number ∷ [];
  to = options ++ below;
}

-- the moves of statements behind others that set these fields
abbrev pub moves_behind : List ℤ → List (List ℕ × Bool) → List (List ℕ × Bool) → List Move
moves_behind options before [] = []
moves_behind options before (set ∷ more) =
    move_at options (length before) (path_below (count_of before set.0) set)
    ∷ moves_behind options (before ++ set ∷ []) more

-- the moves of all statements of the options message at a path
abbrev pub moves_of : List ℤ → List (List ℕ × Bool) → List Move
moves_of options sets = moves_behind options [] sets
