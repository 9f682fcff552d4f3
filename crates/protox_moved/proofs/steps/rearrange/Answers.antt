use Rattle.std.proofs.Common.{rules, ◌≡◌, ap, false, sym, List, map, not, ◌∙◌, arith}
use Rattle.std.specs.Prelude.{ℤ}
use Rattle.std.specs.List.{filter, list_any}
use Rattle.std.proofs.lemmas.Result.{on_ok_weaker}
use Rattle.protox_descriptor.specs.declared.descriptor.source_code_info.Location.{Location}
use Rattle.protox_moved.specs.declared.Move.{Move}
use Rattle.protox_moved.specs.Moved.{is_below, is_part, moved, sorted_by_path}
use Rattle.protox_moved.proofs.SameMoves.{same_steps, unmoved, written_back}
use Rattle.protox_moved.proofs.steps.rearrange.Goals as goal

pub returns-then-count-eq0 : goal.returns-then-count-eq0
returns-then-count-eq0 c =
    on_ok_weaker c.sort_locations.result
    (λ e. e ∙ ap sorted_by_path (sym (unmoved c.args.moves.now.items (search rules) c.args.locations.now.items)))
    c.sort_locations.ensures

pub returns : goal.returns
returns c =
    let old = c.args.locations.now.items in
    let sorted = c.as_slice.ensures.value in
    let sorted-2 = c.as_slice-2.ensures.value in
    let staying = c.as_mut_slice.ensures.value ∙ c.drop_parts.ensures
    ∙ ap (λ ms. filter (λ (l : Location). not (is_part ms l)) old) sorted in
    let kept = c.keep_outermost.new.moves.items in
    let parts = λ (path : List ℤ). c.keep_outermost.ensures.parts path ∙ c.sort_moves.ensures.parts path in
    let paths = λ (path : List ℤ) (none : list_any (λ (m : Move). is_below m.from path) c.args.moves.now.items ≡ false).
    c.keep_outermost.ensures.paths path (c.sort_moves.ensures.parts path ∙ none) ∙ c.sort_moves.ensures.paths path in
    let given = c.in_ok-give_paths.ensures
    ∙ ap (λ ls. map (moved c.as_slice-2.result.now) ls) staying
    ∙ ap (λ ms. map (moved ms) (filter (λ (l : Location). not (is_part kept l)) old)) sorted-2
    ∙ same_steps c.args.moves.now.items kept paths parts old in
    let left = c.drop_parts.new.locations.items in
    let back = written_back c.drop_parts.new.locations.len c.give_paths.new.locations left (omega arith) (omega arith) in
    on_ok_weaker c.sort_locations-2.result (λ e. e ∙ ap sorted_by_path (back ∙ given)) c.sort_locations-2.ensures
