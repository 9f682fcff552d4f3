use Rattle.std.proofs.Common.{◌≡◌, ◌<◌, ◌==◌, ◌||◌, ◌&&◌, ℕ, length}
use Rattle.protox_name_tree.specs.Tree.{name_at}
use Rattle.protox_names.specs.Tree.{name_of_place}
use Rattle.protox_views.specs.FilesOf.{is_file_of}
use Rattle.protox_views.specs.Packages.{is_on_the_way}
use Rattle.protox_views.proofs.packages.note.Given as goal

abbrev pub invariant-loop-place : goal.invariant-loop-place
invariant-loop-place l =
    (n f : ℕ) → n < length l.initial.files
    → (is_file_of l.files n f || ((f == l.file) && is_on_the_way l.symbols.names n l.place))
    ≡ (is_file_of l.initial.files n f || ((f == l.file) && is_on_the_way l.symbols.names n l.fn.whole))

abbrev pub decreases-loop-place : goal.decreases-loop-place
decreases-loop-place l = length (name_of_place (name_at l.symbols.names) l.place)
