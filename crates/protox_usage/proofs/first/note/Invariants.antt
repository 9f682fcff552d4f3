use Rattle.std.proofs.Common.{◌≡◌, ◌<◌, ℕ, None, Some, cond, get_or, length}
use Rattle.std.specs.Option.{option_or}
use Rattle.protox_name_tree.specs.Tree.{name_at}
use Rattle.protox_names.specs.Tree.{name_of_place}
use Rattle.protox_views.specs.Packages.{is_on_the_way}
use Rattle.protox_usage.proofs.first.note.Given as goal

abbrev pub invariant-loop-place : goal.invariant-loop-place
invariant-loop-place l =
    (length l.first ≡ length l.initial.first)
    × ((n : ℕ) → n < length l.initial.first
    → option_or (get_or l.first n None) (cond (is_on_the_way l.symbols.names n l.place) (Some l.file) None)
    ≡ option_or (get_or l.initial.first n None) (cond (is_on_the_way l.symbols.names n l.fn.whole) (Some l.file) None))

abbrev pub decreases-loop-place : goal.decreases-loop-place
decreases-loop-place l = length (name_of_place (name_at l.symbols.names) l.place)
