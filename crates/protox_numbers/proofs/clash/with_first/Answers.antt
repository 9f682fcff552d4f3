use Rattle.std.proofs.Common.{◌∙◌, ap, sym, arith, None, true}
use Rattle.protox_numbers.proofs.Telling.{append_none, told}
use Rattle.protox_numbers.proofs.clash.with_first.Goals as goal
use Rattle.protox_numbers.proofs.clash.with_first.Goals.{in-Some+in_ok-push, in_default}

pub loop-part-preserved : goal.loop-part-preserved
loop-part-preserved c = elim c.match-with.branch [
  | in-Some+in_ok-push w ↦
      told (λ part other. true) c.loop-part.made.items c.match-with.made.items c.args.met.now c.loop-part.part
      _ (omega arith) w.in-Some.is c.loop-part.invariant (ap (λ m. m.items) w.made-is ∙ w.in_ok-push.ensures.items)
  | in_default w ↦
      told (λ part other. true) c.loop-part.made.items c.match-with.made.items c.args.met.now c.loop-part.part
      None (omega arith) w.in_default.is c.loop-part.invariant
      (ap (λ m. m.items) w.made-is ∙ sym (append_none (λ part other. true) c.loop-part.made.items))
]
