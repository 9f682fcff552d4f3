use Rattle.std.proofs.Common.{◌≡◌, length, string_bytes}
use Rattle.protox_link_text.specs.Places.{holder_of, place_from, place_of}
use Rattle.protox_link_text.proofs.place.place_of.Given as goal

-- following what is left leads to the same place
abbrev pub invariant-loop-place : goal.invariant-loop-place
invariant-loop-place l = place_from (string_bytes l.place.scope) (holder_of l.place.inside) l.place.rest.now ≡ place_of l.file l.path

abbrev pub decreases-loop-place : goal.decreases-loop-place
decreases-loop-place l = length l.place.rest.now
