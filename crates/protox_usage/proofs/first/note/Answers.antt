use Rattle.std.proofs.Common.{◌≡◌, ◌∙◌, ◌<◌, ◌≤◌, ◌==◌, ℕ, Option, Some, None, ap, cond, get_or, length, arith, set, sym, subst}
use Rattle.std.specs.Option.{option_or}
use Rattle.std.proofs.lemmas.List.{get_or_default, length-set}
use Rattle.protox_name_tree.specs.Tree.{name_at}
use Rattle.protox_names.specs.Tree.{name_of_place}
use Rattle.protox_usage.proofs.Firsts.{first_left, first_outwards, one_first, or_none}
use Rattle.protox_views.proofs.Lemmas.{no_way, shorter_outwards, way_step}
use Rattle.protox_views.specs.Packages.{is_on_the_way}
use Rattle.protox_usage.proofs.first.note.Goals as goal

pub loop-place-smaller : goal.loop-place-smaller
loop-place-smaller c =
    let names = c.args.symbols.now.names in
    let known : c.in-Some.number < length names.full_names = omega arith in
    subst (λ (place : Option ℕ). length (name_of_place (name_at names) c.outer-place.result) < length (name_of_place (name_at names) place)) (sym c.in-Some.is)
    (shorter_outwards names c.in-Some.number c.outer-place.result c.len-count.ensures.tree known c.outer-place.ensures)

pub loop-place-preserved : goal.loop-place-preserved
loop-place-preserved c =
    let names = c.args.symbols.now.names in
    let file = c.args.file in
    let first = c.loop-place.first in
    let number = c.in-Some.number in
    let old = get_or first number None in (
      length-set first number c.or.result ∙ c.loop-place.invariant.0,
      λ n below.
          let all = option_or (get_or c.args.first.now n None) (cond (is_on_the_way names n c.args.whole) (Some file) None) in
          let here : n < length names.full_names = omega arith in
          first_outwards (get_or first n None) (get_or (set first number c.or.result) n None) file (n == number) (is_on_the_way names n c.outer-place.result) (is_on_the_way names n (Some number)) all
          (ap (λ (o : Option ℕ). get_or (set first number o) n None) c.or.ensures
          ∙ one_first first number file n old c.if-number-first.false (get_or_default first number old None c.if-number-first.false))
          (way_step names n number c.outer-place.result c.len-count.ensures.tree here c.outer-place.ensures)
          (subst (λ (place : Option ℕ). option_or (get_or first n None) (cond (is_on_the_way names n place) (Some file) None) ≡ all) c.in-Some.is (c.loop-place.invariant.1 n below)),
    )

pub returns-then-number-first-clause-noted : goal.returns-then-number-first-clause-noted
returns-then-number-first-clause-noted c n below =
    let names = c.args.symbols.now.names in
    let file = c.args.file in
    let number = c.in-Some.number in
    let all = option_or (get_or c.args.first.now n None) (cond (is_on_the_way names n c.args.whole) (Some file) None) in
    let here : n < length names.full_names = omega arith in
    let past : length names.full_names ≤ number = omega arith in
    first_left (get_or c.loop-place.first n None) file (is_on_the_way names n (Some number)) all (no_way names n number c.len-count.ensures.tree here past)
    (subst (λ (place : Option ℕ). option_or (get_or c.loop-place.first n None) (cond (is_on_the_way names n place) (Some file) None) ≡ all) c.in-Some.is (c.loop-place.invariant.1 n below))

pub returns-in_default-clause-noted : goal.returns-in_default-clause-noted
returns-in_default-clause-noted c n below =
    let names = c.args.symbols.now.names in
    let file = c.args.file in
    let all = option_or (get_or c.args.first.now n None) (cond (is_on_the_way names n c.args.whole) (Some file) None) in
    sym (or_none (get_or c.loop-place.first n None))
    ∙ subst (λ (place : Option ℕ). option_or (get_or c.loop-place.first n None) (cond (is_on_the_way names n place) (Some file) None) ≡ all) c.in_default.is (c.loop-place.invariant.1 n below)
