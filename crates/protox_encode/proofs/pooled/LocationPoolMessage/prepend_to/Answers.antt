use Rattle.std.proofs.Common.{◌-◌, ◌++◌, slice_get, arith, ap, ◌∙◌}
use Rattle.protox_encode.specs.Messages.{location}
use Rattle.protox_encode.specs.Payloads.{nested}
use Rattle.protox_encode.specs.Wire.{part}
use Rattle.protox_encode.proofs.PooledLocations.{next_in_front}
use Rattle.protox_encode.proofs.pooled.LocationPoolMessage.prepend_to.Goals as goal

pub loop-i-preserved : goal.loop-i-preserved
loop-i-preserved c = record {
  within = omega (arith, c.loop-i.invariant.within);
  behind =
      c.in_ok-prepend_nested.ensures
      ∙ ap (λ found. part 1 (nested location found) ++ c.loop-i.out) (c.as_ref.ensures.value ∙ c.get-location.ensures)
      ∙ ap (λ bytes. part 1 (nested location (slice_get c.args.self.now (c.loop-i.i - 1))) ++ bytes) c.loop-i.invariant.behind
      ∙ next_in_front c.args.self.now c.loop-i.i c.args.out.now c.loop-i-test.true c.loop-i.invariant.within;
}
