use Rattle.std.proofs.Common.{rules, ◌≡◌, ◌++◌, List, length, map, sym, subst, ◌∙◌}
use Rattle.std.specs.Prelude.{ℤ}
use Rattle.protox_pool.specs.declared.comments.LocationComments.{LocationComments}
use Rattle.protox_pool.specs.declared.ends.Ends.{Ends}
use Rattle.protox_pool.specs.inner.Ends.{AreEnds, locations_from, moved}
use Rattle.protox_pool.proofs.OneBehindOther.{behind_are, behind_ends}
use Rattle.protox_pool.proofs.pool.with_pool_behind.Goals as goal

pub invariant_of-result : goal.invariant_of-result
invariant_of-result c =
    let front = c.pool.inside in
    let back = c.back.inside in
    let numbers : c.in_ok-numbers.numbers.items ≡ front.numbers.items ++ back.numbers.items = search rules in
    let comments : c.append.new.self.items ≡ front.comments.items ++ back.comments.items = search rules in
    let before : c.in_ok-numbers_before.numbers_before ≡ length front.numbers.items = search rules in
    let comments-before : c.in_ok-comments_before.comments_before ≡ length front.comments.items = search rules in
    let behind : c.in_ok-ends.ends.items ≡ front.ends.items ++ map (moved c.in_ok-numbers_before.numbers_before c.in_ok-comments_before.comments_before) back.ends.items = search rules in
    let ends : c.in_ok-ends.ends.items ≡ front.ends.items ++ map (moved (length front.numbers.items) (length front.comments.items)) back.ends.items = behind ∙ (λ i. front.ends.items ++ map (moved (before i) (comments-before i)) back.ends.items) in
    subst (λ (ns : List ℤ). AreEnds (length c.append.new.self.items) (length ns) 0 c.in_ok-ends.ends.items) (sym numbers)
    (subst (λ (cs : List LocationComments). AreEnds (length cs) (length (front.numbers.items ++ back.numbers.items)) 0 c.in_ok-ends.ends.items) (sym comments)
    (subst (λ (es : List Ends). AreEnds (length (front.comments.items ++ back.comments.items)) (length (front.numbers.items ++ back.numbers.items)) 0 es) (sym ends)
    (behind_ends front.numbers.items back.numbers.items front.comments.items back.comments.items front.ends.items back.ends.items
    c.pool.invariant c.back.invariant)))

pub returns : goal.returns
returns c =
    let front = c.pool.inside in
    let back = c.back.inside in
    let numbers : c.in_ok-numbers.numbers.items ≡ front.numbers.items ++ back.numbers.items = search rules in
    let comments : c.append.new.self.items ≡ front.comments.items ++ back.comments.items = search rules in
    let before : c.in_ok-numbers_before.numbers_before ≡ length front.numbers.items = search rules in
    let comments-before : c.in_ok-comments_before.comments_before ≡ length front.comments.items = search rules in
    let behind : c.in_ok-ends.ends.items ≡ front.ends.items ++ map (moved c.in_ok-numbers_before.numbers_before c.in_ok-comments_before.comments_before) back.ends.items = search rules in
    let ends : c.in_ok-ends.ends.items ≡ front.ends.items ++ map (moved (length front.numbers.items) (length front.comments.items)) back.ends.items = behind ∙ (λ i. front.ends.items ++ map (moved (before i) (comments-before i)) back.ends.items) in
    (λ i. locations_from (numbers i) (comments i) 0 (ends i))
    ∙ behind_are front.numbers.items back.numbers.items front.comments.items back.comments.items front.ends.items back.ends.items
    c.pool.invariant c.back.invariant
    ∙ (λ i. c.pool.view_is i ++ c.back.view_is i)
