use Rattle.std.proofs.Common.{◌≡◌, ◌≤◌, ◌∙◌, ◌-◌, ◌*◌, ◌^◌, arith, length, sym, subst, rules}
use Rattle.protox_spans.proofs.Pieces.{level_counts, level_sorted}
use Rattle.protox_spans.proofs.Searching.{empty_meets_none, begins, first_half, found, halves_within, level_at, none_met, second_half}
use Rattle.protox_spans.proofs.search.Table.first_met.Goals as goal

pub returns-then-span : goal.returns-then-span
returns-then-span c = empty_meets_none c.args.span c.args.self.now.spans.now c.if-span.true

pub met-requires-clause-sorted : goal.met-requires-clause-sorted
met-requires-clause-sorted c =
    level_sorted c.index.result.now (2 ^ (c.len-level.result - 1)) c.args.self.now.spans.now
    (level_at c.args.self.now.levels.items c.args.self.now.spans.now (c.len-level.result - 1)
    c.index.result.now c.requires (omega arith) c.index.ensures)

pub met-requires-in-loop-level-clause-sorted : goal.met-requires-in-loop-level-clause-sorted
met-requires-in-loop-level-clause-sorted c =
    level_sorted c.index-in-loop-level.result.now (2 ^ (c.loop-level.level - 1)) c.args.self.now.spans.now
    (level_at c.args.self.now.levels.items c.args.self.now.spans.now (c.loop-level.level - 1)
    c.index-in-loop-level.result.now c.requires (omega arith) c.index-in-loop-level.ensures)

pub returns-then-met-eq0 : goal.returns-then-met-eq0
returns-then-met-eq0 c =
    let counts = level_counts c.index.result.now (2 ^ (c.len-level.result - 1)) c.args.self.now.spans.now c.args.span
    c.if-span.false
    (level_at c.args.self.now.levels.items c.args.self.now.spans.now (c.len-level.result - 1)
    c.index.result.now c.requires (omega arith) c.index.ensures) 0 in
    let top : length c.args.self.now.levels.items - 1 ≡ c.len-level.result - 1 = omega arith in
    none_met c.args.span c.args.self.now.spans.now (2 ^ (c.len-level.result - 1)) _ counts (sym c.met.ensures ∙ c.if-met-eq0.true)
    (subst (λ k. length c.args.self.now.spans.now ≤ 2 ^ k) top c.requires.last)

pub loop-level-init : goal.loop-level-init
loop-level-init c =
    let counts = level_counts c.index.result.now (2 ^ (c.len-level.result - 1)) c.args.self.now.spans.now c.args.span
    c.if-span.false
    (level_at c.args.self.now.levels.items c.args.self.now.spans.now (c.len-level.result - 1)
    c.index.result.now c.requires (omega arith) c.index.ensures) 0 in
    let start = begins c.args.span c.args.self.now.spans.now (2 ^ (c.len-level.result - 1)) _ counts
    (λ e. c.if-met-eq0.false (c.met.ensures ∙ e)) in
    record { below = omega arith; none = start.0; some = start.1 }

pub overflow_mul-at : goal.overflow_mul-at
overflow_mul-at c =
    let h = halves_within c.args.span c.args.self.now.spans.now c.loop-level.at c.loop-level.level
    (c.loop-level.level - 1) (omega arith) c.loop-level.invariant.none c.loop-level.invariant.some in
    search (rules, h)

pub overflow_add-at : goal.overflow_add-at
overflow_add-at c =
    let h = halves_within c.args.span c.args.self.now.spans.now c.loop-level.at c.loop-level.level
    (c.loop-level.level - 1) (omega arith) c.loop-level.invariant.none c.loop-level.invariant.some in
    search (rules, h)

pub prove-unreachable-requires : goal.prove-unreachable-requires
prove-unreachable-requires c =
    let h = halves_within c.args.span c.args.self.now.spans.now c.loop-level.at c.loop-level.level
    (c.loop-level.level - 1) (omega arith) c.loop-level.invariant.none c.loop-level.invariant.some in
    omega (arith, h)

pub loop-level-preserved-then-met-eq0-2 : goal.loop-level-preserved-then-met-eq0-2
loop-level-preserved-then-met-eq0-2 c =
    let counts = level_counts c.index-in-loop-level.result.now (2 ^ (c.loop-level.level - 1)) c.args.self.now.spans.now
    c.args.span c.if-span.false
    (level_at c.args.self.now.levels.items c.args.self.now.spans.now (c.loop-level.level - 1)
    c.index-in-loop-level.result.now c.requires (omega arith) c.index-in-loop-level.ensures) (c.loop-level.at * 2) in
    let half = second_half c.args.span c.args.self.now.spans.now c.loop-level.at c.loop-level.level
    (c.loop-level.level - 1) (omega arith) c.loop-level.invariant.none c.loop-level.invariant.some _ counts (sym c.met-in-loop-level.ensures ∙ c.if-met-eq0-2.true) in
    record { below = omega arith; none = half.0; some = half.1 }

pub loop-level-preserved : goal.loop-level-preserved
loop-level-preserved c =
    let counts = level_counts c.index-in-loop-level.result.now (2 ^ (c.loop-level.level - 1)) c.args.self.now.spans.now
    c.args.span c.if-span.false
    (level_at c.args.self.now.levels.items c.args.self.now.spans.now (c.loop-level.level - 1)
    c.index-in-loop-level.result.now c.requires (omega arith) c.index-in-loop-level.ensures) (c.loop-level.at * 2) in
    let half = first_half c.args.span c.args.self.now.spans.now c.loop-level.at c.loop-level.level
    (c.loop-level.level - 1) (omega arith) c.loop-level.invariant.none c.loop-level.invariant.some _ counts
    (λ e. c.if-met-eq0-2.false (c.met-in-loop-level.ensures ∙ e)) in
    record { below = omega arith; none = half.0; some = half.1 }

pub returns : goal.returns
returns c =
    found c.args.span c.args.self.now.spans.now c.loop-level.at c.loop-level.level c.loop-level-test.false
    c.loop-level.invariant.none c.loop-level.invariant.some
