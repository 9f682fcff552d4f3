-- Tokens with their places give the same notes as tokens with their numbers.
use Rattle.std.proofs.Common.{◌≡◌, ℕ, zero, suc, ◌+◌, Bool, true, false, List, [], ◌∷◌, map, length, None, refl, sym, ap, subst, ◌∙◌, arith}
use Rattle.std.specs.Prelude.{Any}
use Rattle.protox_fault.specs.Faults.{Span}
use Rattle.protox_lexeme.specs.Shapes.{Shape, Rows}
use Rattle.protox_lexeme.specs.Table.{rows_of, gaps_of}
use Rattle.protox_ast.specs.Checks.{WrongCheckedNode}
use Rattle.protox_ast.specs.Spells.{numbered, row_at, shapes}
use Rattle.protox_ast.specs.Places.{Place, placed_from, later_gaps}
use Rattle.protox_ast.specs.Truth.{token_span}
use Rattle.protox_grammar.specs.CheckLaws.{levels, noted_by, steps_by, tokens_of}
use Rattle.protox_grammar.specs.TagLaws.{map_tags, map_node, map_steps, no_place, place_at, placed_tokens, placed_steps_by, placed_nodes_by, PlacesAreLookedUp, PlacesHaveSpans, SpansAreLeft, NotedAlike, WrongAlike}
use Rattle.protox_grammar.specs.Noted.{noted_nodes, open_behind, trace}
use Rattle.protox_grammar.specs.Steps.{tokens, until, has_deep}
use Rattle.protox_grammar.proofs.Tags.{same-length}
use Rattle.protox_grammar.proofs.TagLaws.{any-map, deep-map, nodes-map, open-map, same_steps, tokens-map, until-map, wrong-map}
use Rattle.protox_grammar.proofs.NotedTrue.{all_is_noted}

-- ---- places

pub placed-shapes : (first : Bool) (rows : Rows Span) (gaps : List (List Shape)) → shapes (placed_from first rows gaps) ≡ shapes rows
placed-shapes first [] gaps = refl
placed-shapes first (r ∷ rs) gaps = ap (λ u. r.shape ∷ u) (placed-shapes false rs (later_gaps gaps))

placed-spans : (first : Bool) (rows : Rows Span) (gaps : List (List Shape)) (n : ℕ) → (row_at no_place (placed_from first rows gaps) n).at.span ≡ token_span rows n
placed-spans first [] gaps n = refl
placed-spans first (r ∷ rs) gaps zero = refl
placed-spans first (r ∷ rs) gaps (suc n) = placed-spans false rs (later_gaps gaps) n

placed-bare : (first : Bool) (rows : Rows Span) (gaps : List (List Shape)) → map_tags (λ place. place.span) (placed_from first rows gaps) ≡ rows
placed-bare first [] gaps = refl
placed-bare first (r ∷ rs) gaps = ap (λ u. r ∷ u) (placed-bare false rs (later_gaps gaps))

looked-up : {M : Type 0} (none : M) (ys : Rows M) (k : ℕ) (look : ℕ → M) → ((i j : ℕ) → i ≡ k + j → look i ≡ (row_at none ys j).at) → map_tags look (numbered k (shapes ys)) ≡ ys
looked-up none [] k look h = refl
looked-up none (y ∷ ys) k look h =
    λ i. record { shape = y.shape; at = h k 0 (omega arith) i } ∷ looked-up none ys (suc k) look (λ i j e. h i (suc j) (omega (arith, e))) i

pub places_are_looked_up : PlacesAreLookedUp
places_are_looked_up lexemes =
    ap (λ u. map_tags (place_at lexemes) (numbered 0 u)) (sym (placed-shapes true (rows_of lexemes) (gaps_of lexemes)))
    ∙ looked-up no_place (placed_tokens lexemes) 0 (place_at lexemes) (λ i j e. ap (place_at lexemes) (omega (arith, e)))

pub places_have_spans : PlacesHaveSpans
places_have_spans lexemes n = placed-spans true (rows_of lexemes) (gaps_of lexemes) n

pub spans_are_left : SpansAreLeft
spans_are_left lexemes = placed-bare true (rows_of lexemes) (gaps_of lexemes)

-- ---- what is noted

pub noted_alike : NotedAlike
noted_alike lexemes n =
    let place = place_at lexemes in
    let so_far = steps_by lexemes n in
    let steps : placed_steps_by lexemes n ≡ map_steps place so_far = ap (λ u. until n (trace levels u)) (sym (places_are_looked_up lexemes)) ∙ ap (until n) (same_steps place levels (tokens_of lexemes)) ∙ until-map place n (trace levels (tokens_of lexemes)) in
    let nodes : placed_nodes_by lexemes n ≡ map (map_node place) (noted_by lexemes n) = ap (λ u. noted_nodes None (place 0) u) steps ∙ nodes-map place None 0 so_far in
    record {
      steps = steps;
      taken = ap (λ u. length (tokens u)) steps ∙ ap length (tokens-map place so_far) ∙ same-length place (tokens so_far);
      too_deep = ap has_deep steps ∙ deep-map place so_far;
      is_open = λ before. ap (λ u. open_behind before u) steps ∙ open-map place before so_far;
      nodes = nodes;
      whole = λ h. steps ∙ ap (map_steps place) (all_is_noted lexemes n h) ∙ sym (same_steps place levels (tokens_of lexemes)) ∙ ap (trace levels) (places_are_looked_up lexemes);
      faults = λ wrong.
          let c = any-map place (λ (p : Place). p.span) (token_span (rows_of lexemes)) (places_have_spans lexemes) wrong (noted_by lexemes n) in (
            λ h. c.0 (subst (λ u. Any (λ node. WrongCheckedNode (λ (p : Place). p.span) node wrong) u) nodes h),
            λ h. subst (λ u. Any (λ node. WrongCheckedNode (λ (p : Place). p.span) node wrong) u) (sym nodes) (c.1 h),
          );
    }

pub wrong_alike : WrongAlike
wrong_alike lexemes node wrong =
    let e = wrong-map (place_at lexemes) (λ (p : Place). p.span) (token_span (rows_of lexemes)) (places_have_spans lexemes) node wrong in
    (λ h. subst (λ T. T) e h, λ h. subst (λ T. T) (sym e) h)
