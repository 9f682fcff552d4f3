use Rattle.std.proofs.Common.{◌<◌, arith, ap, sym, ◌∙◌}
use Rattle.protox_moved.specs.inner.Sorting.{is_start}
use Rattle.protox_moved.proofs.Outermost.{last-decides, none-before}
use Rattle.protox_moved.proofs.lookups.is_below_any.Goals as goal

pub returns-then-at-eq0 : goal.returns-then-at-eq0
returns-then-at-eq0 c =
    let count = c.count_before-at in
    sym (none-before c.args.moves.now c.args.path.now count.result c.requires.sorted c.requires.apart
    count.ensures.before count.ensures.from c.if-at-eq0.true)

pub returns : goal.returns
returns c =
    let count = c.count_before-at in
    let some : 0 < count.result = omega (arith, c.if-at-eq0.false) in
    let start = c.as_slice.ensures ∙ ap (λ m. m.from) (sym c.index-moves-at.is) in
    c.begins_with.ensures ∙ ap (λ p. is_start p c.args.path.now) start
    ∙ last-decides c.args.moves.now c.args.path.now count.result c.requires.sorted c.requires.apart
    count.ensures.before count.ensures.from c.index-moves-at.result some count.ensures.bound
    c.index-moves-at.is
