use Rattle.std.proofs.Common.{rules, ◌≡◌, ◌++◌, List, length, map, sym, subst, ◌∙◌}
use Rattle.std.specs.Prelude.{ℤ}
use Rattle.protox_pool.specs.declared.comments.LocationComments.{LocationComments}
use Rattle.protox_pool.specs.declared.ends.Ends.{Ends}
use Rattle.protox_pool.specs.inner.Ends.{AreEnds, locations_from, moved}
use Rattle.protox_pool.proofs.OneBehindOther.{front_are, front_ends}
use Rattle.protox_pool.proofs.pool.with_pool_in_front.Goals as goal

pub invariant_of-result : goal.invariant_of-result
invariant_of-result c =
    let front = c.front.inside in
    let back = c.pool.inside in
    let numbers : c.in_ok-numbers.numbers.items ≡ front.numbers.items ++ back.numbers.items = search rules in
    let comments : c.append.new.self.items ≡ back.comments.items ++ front.comments.items = search rules in
    let before : c.in_ok-numbers_before.numbers_before ≡ length front.numbers.items = search rules in
    let comments-before : c.in_ok-comments_before.comments_before ≡ length back.comments.items = search rules in
    let behind : c.in_ok-ends.ends.items ≡ map (moved 0 c.in_ok-comments_before.comments_before) front.ends.items ++ map (moved c.in_ok-numbers_before.numbers_before 0) back.ends.items = search rules in
    let ends : c.in_ok-ends.ends.items ≡ map (moved 0 (length back.comments.items)) front.ends.items ++ map (moved (length front.numbers.items) 0) back.ends.items = behind ∙ (λ i. map (moved 0 (comments-before i)) front.ends.items ++ map (moved (before i) 0) back.ends.items) in
    subst (λ (ns : List ℤ). AreEnds (length c.append.new.self.items) (length ns) 0 c.in_ok-ends.ends.items) (sym numbers)
    (subst (λ (cs : List LocationComments). AreEnds (length cs) (length (front.numbers.items ++ back.numbers.items)) 0 c.in_ok-ends.ends.items) (sym comments)
    (subst (λ (es : List Ends). AreEnds (length (back.comments.items ++ front.comments.items)) (length (front.numbers.items ++ back.numbers.items)) 0 es) (sym ends)
    (front_ends front.numbers.items back.numbers.items front.comments.items back.comments.items front.ends.items back.ends.items
    c.front.invariant c.pool.invariant)))

pub returns : goal.returns
returns c =
    let front = c.front.inside in
    let back = c.pool.inside in
    let numbers : c.in_ok-numbers.numbers.items ≡ front.numbers.items ++ back.numbers.items = search rules in
    let comments : c.append.new.self.items ≡ back.comments.items ++ front.comments.items = search rules in
    let before : c.in_ok-numbers_before.numbers_before ≡ length front.numbers.items = search rules in
    let comments-before : c.in_ok-comments_before.comments_before ≡ length back.comments.items = search rules in
    let behind : c.in_ok-ends.ends.items ≡ map (moved 0 c.in_ok-comments_before.comments_before) front.ends.items ++ map (moved c.in_ok-numbers_before.numbers_before 0) back.ends.items = search rules in
    let ends : c.in_ok-ends.ends.items ≡ map (moved 0 (length back.comments.items)) front.ends.items ++ map (moved (length front.numbers.items) 0) back.ends.items = behind ∙ (λ i. map (moved 0 (comments-before i)) front.ends.items ++ map (moved (before i) 0) back.ends.items) in
    (λ i. locations_from (numbers i) (comments i) 0 (ends i))
    ∙ front_are front.numbers.items back.numbers.items front.comments.items back.comments.items front.ends.items back.ends.items
    c.front.invariant c.pool.invariant
    ∙ (λ i. c.front.view_is i ++ c.pool.view_is i)
