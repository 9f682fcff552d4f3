use Rattle.std.proofs.Common.{◌≢◌, inl, inr, true, not, ap, sym, ◌∙◌, arith}
use Rattle.std.proofs.lemmas.Bool.{false≢true}
use Rattle.std.proofs.lemmas.Bool.Decides.{eqb_tells}
use Rattle.std.specs.Int.Bits.{bit_and}
use Rattle.protox_marks.proofs.Words.{bit_shared, shared_bit}
use Rattle.protox_marks.proofs.marks.share.Goals as goal

pub returns-clause-some : goal.returns-clause-some
returns-clause-some c differ = elim (eqb_tells (bit_and c.args.word c.args.other) 0) [
  | inl (is, _) ↦ absurd (false≢true (sym (ap not is) ∙ differ))
  | inr (_, some) ↦ shared_bit c.args.word c.args.other (omega (arith, c.ranges.word.fits)) some
]

pub returns-clause-none : goal.returns-clause-none
returns-clause-none c same shared = elim (eqb_tells (bit_and c.args.word c.args.other) 0) [
  | inl (_, none) ↦ bit_shared c.args.word c.args.other shared.0 shared.2 shared.3 none
  | inr (is, _) ↦ false≢true (sym same ∙ ap not is)
]
