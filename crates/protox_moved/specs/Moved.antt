-- What becomes of the locations of a file once the statements of its options are interpreted.
use Rattle.std.specs.Prelude.{◌≡◌, ℤ, Bool, true, false, List, [], ◌∷◌, Option, Some, None, map, not, ◌&&◌, if◌then◌else◌}
use Rattle.std.specs.Cmp.Lexicographic.{pointwise, slice_cmp}
use Rattle.std.specs.List.{filter, list_any}
use Rattle.std.specs.Option.{unwrap_or}
use Rattle.std.specs.Ordering.{int_cmp, int_eq, is_lt}
use Rattle.protox_ast.specs.Basics.{Each}
use Rattle.protox_descriptor.specs.declared.descriptor.source_code_info.Location.{Location}
use Rattle.protox_places.specs.Order.{AreByPath}
use Rattle.protox_moved.specs.declared.Move.{Move}

-- Whether a path begins with these numbers and is longer.
abbrev pub is_below : List ℤ → List ℤ → Bool
is_below front [] = false
is_below [] (n ∷ path) = true
is_below (m ∷ front) (n ∷ path) = int_eq m n && is_below front path

-- Whether the location is one of a part of a statement: its path begins with the start of a move,
-- and is longer.
abbrev pub is_part : List Move → Location → Bool
is_part moves location = list_any (λ (m : Move). is_below m.from location.path) moves

-- The path that the first move from this path leads to. None if no move begins there.
abbrev pub new_path : List Move → List ℤ → Option (List ℤ)
new_path [] path = None
new_path (m ∷ moves) path = if pointwise int_eq m.from path then Some m.to else new_path moves path

-- The location at its new path, if it has one. All else of it is as it was.
abbrev pub moved : List Move → Location → Location
moved moves location =
    record location { path = unwrap_or (new_path moves location.path) location.path }

-- A location among others that are sorted by path: behind those with smaller paths, before all others.
abbrev pub placed : Location → List Location → List Location
placed l [] = l ∷ []
placed l (m ∷ more) =
    if is_lt (slice_cmp int_cmp m.path l.path) then m ∷ placed l more else l ∷ m ∷ more

-- The locations sorted by path. Those of one path stay in the order in which they were.
abbrev pub sorted_by_path : List Location → List Location
sorted_by_path [] = []
sorted_by_path (l ∷ more) = placed l (sorted_by_path more)

-- What the locations become: those of the parts of statements go, those of statements get the paths
-- of the options that they set, all others stay, and the whole is sorted by path.
abbrev pub after_moves : List Move → List Location → List Location
after_moves moves locations =
    sorted_by_path (map (moved moves) (filter (λ (l : Location). not (is_part moves l)) locations))

-- Where no move begins at or above the path of a location, sorted locations stay as they are.
abbrev pub NothingMoves : Type 0
NothingMoves = (moves : List Move) (locations : List Location) → AreByPath locations
    → Each (λ (l : Location). (is_part moves l ≡ false) × (new_path moves l.path ≡ None)) locations
    → after_moves moves locations ≡ locations
