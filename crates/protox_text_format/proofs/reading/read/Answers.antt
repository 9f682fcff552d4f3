use Rattle.std.proofs.Common.{length, map, reverse, refl, sym, ◌∙◌, ap, arith, slice_range}
use Rattle.protox_text_format.specs.Spelling.{seen}
use Rattle.protox_text_format.specs.inner.Reading.{spot}
use Rattle.protox_text_format.proofs.Firsts.{range_all}
use Rattle.protox_text_format.proofs.Stops.{is_first, is_only, is_spelled, moves_on, starts, turns_less}
use Rattle.protox_text_format.proofs.reading.read.Goals as goal

pub steps-init : goal.steps-init
steps-init c = record {
  within = omega arith;
  goes = starts c.args.pieces.now (slice_range c.args.pieces.now 0 (length c.args.pieces.now)) (reverse c.new-frames.result.items)
      c.new-items.result.items (ap reverse c.new-frames.ensures.items) c.new-items.ensures.items (range_all c.args.pieces.now);
}

pub steps-preserved : goal.steps-preserved
steps-preserved c = record {
  within = omega arith;
  goes = moves_on c.args.pieces.now
      (spot c.steps.turn c.steps.frames.items (slice_range c.args.pieces.now c.steps.at (length c.args.pieces.now)) c.steps.items.items)
      c.in-Ok.next.turn (reverse c.step.new.frames.items) c.in-Ok.next.left.now c.step.new.items.items
      c.steps.invariant.goes c.in-Ok.ensures.ok.goes;
}

pub steps-smaller : goal.steps-smaller
steps-smaller c =
    turns_less c.args.pieces.now
    (spot c.steps.turn c.steps.frames.items (slice_range c.args.pieces.now c.steps.at (length c.args.pieces.now)) c.steps.items.items)
    c.in-Ok.next.turn (reverse c.step.new.frames.items) c.in-Ok.next.left.now c.step.new.items.items
    c.steps.invariant.goes c.in-Ok.ensures.ok

pub returns-in-Err-Wrong-clause-first : goal.returns-in-Err-Wrong-clause-first
returns-in-Err-Wrong-clause-first c =
    is_first c.args.pieces.now c.in-Err-Wrong.wrong.now
    (spot c.steps.turn c.steps.frames.items (slice_range c.args.pieces.now c.steps.at (length c.args.pieces.now)) c.steps.items.items)
    c.in-Err-Wrong.kind _ c.steps.invariant.goes (rw c.in-Err-Wrong.field-0-is at c.in-Err-Wrong.ensures.err) refl

pub returns-clause-spelled : goal.returns-clause-spelled
returns-clause-spelled c =
    let over = c.is_over.ensures.0 c.steps-test.false in
    is_spelled c.args.pieces.now
    (spot c.steps.turn c.steps.frames.items (slice_range c.args.pieces.now c.steps.at (length c.args.pieces.now)) c.steps.items.items)
    c.steps.invariant.goes over.between (ap reverse (sym c.deref.ensures.value) ∙ over.closed) over.end

pub returns-clause-only : goal.returns-clause-only
returns-clause-only c = is_only c.args.pieces.now (map seen c.steps.items.items) (returns-clause-spelled c)
