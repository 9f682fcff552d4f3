use Rattle.std.proofs.Common.{◌∙◌, ap, sym, arith, nat_lt, None}
use Rattle.protox_numbers.proofs.Telling.{append_none, told, told_earlier, told_later}
use Rattle.protox_numbers.proofs.clash.with_earlier.Goals as goal
use Rattle.protox_numbers.proofs.clash.with_earlier.Goals.{in-Some+then-with-part+in_ok-push, in-Some+else-with-part, in_default}

pub loop-part-preserved : goal.loop-part-preserved
loop-part-preserved c = elim c.match-with.branch [
  | in-Some+then-with-part+in_ok-push w ↦
      told_earlier c.loop-part.made.items c.match-with.made.items c.args.met.now c.loop-part.part
      _ (omega arith) w.in-Some.is c.loop-part.invariant w.if-with-part.true
      (ap (λ m. m.items) w.made-is ∙ w.in_ok-push.ensures.items)
  | in-Some+else-with-part w ↦
      told_later c.loop-part.made.items c.match-with.made.items c.args.met.now c.loop-part.part
      _ (omega arith) w.in-Some.is c.loop-part.invariant w.if-with-part.false (ap (λ m. m.items) w.made-is)
  | in_default w ↦
      told (λ part other. nat_lt other part) c.loop-part.made.items c.match-with.made.items c.args.met.now
      c.loop-part.part None (omega arith) w.in_default.is c.loop-part.invariant
      (ap (λ m. m.items) w.made-is ∙ sym (append_none (λ part other. nat_lt other part) c.loop-part.made.items))
]
