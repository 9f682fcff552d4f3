use Rattle.std.proofs.Common.{◌≡◌}
use Rattle.protox_link_text.specs.Search.{scopes_at, search_in}
use Rattle.protox_link_text.proofs.Searching.{way}
use Rattle.protox_link_text.proofs.search.search.Given as goal

-- the search in the scopes that are left comes upon the same
abbrev pub invariant-loop-place : goal.invariant-loop-place
invariant-loop-place l =
    search_in l.view.symbols.now l.view.sees.now l.view.packages l.wanted l.name l.found (scopes_at l.place)
    ≡ search_in l.view.symbols.now l.view.sees.now l.view.packages l.wanted l.name l.initial.found (scopes_at l.initial.place)

abbrev pub decreases-loop-place : goal.decreases-loop-place
decreases-loop-place l = way l.place
