use Rattle.std.proofs.Common.{◌<◌, ◌+◌, inl, inr, ℕ, List, Option, ap, subst, arith, sym, ◌∙◌}
use Rattle.std.proofs.lemmas.Bool.{false≢true}
use Rattle.std.proofs.lemmas.Bool.Decides.{leb_tells}
use Rattle.protox_name_tree.specs.Slots.{IsFree}
use Rattle.protox_name_tree.proofs.slots.Slots.free.Goals as goal

-- one more slot is taken
one_more : (slots : List (Option ℕ)) (start count : ℕ) → ((step : ℕ) → step < count → IsFree slots (start + step) → ⊥) → (IsFree slots (start + count) → ⊥) → (step : ℕ) → step < count + 1 → IsFree slots (start + step) → ⊥
one_more slots start count before here step below free = elim (leb_tells count step) [
  | inl last ↦ here (subst (λ k. IsFree slots (start + k)) (omega (arith, below, last.1)) free)
  | inr earlier ↦ before step earlier.1 free
]

pub loop-step-init : goal.loop-step-init
loop-step-init c = λ step before free. omega (arith, before)

pub returns-then-is_free-clause-near : goal.returns-then-is_free-clause-near
returns-then-is_free-clause-near c = (c.loop-step.step, c.loop-step-test.true, ap (λ start. start + c.loop-step.step) c.window-start.ensures.start, c.loop-step.invariant)

pub loop-step-preserved : goal.loop-step-preserved
loop-step-preserved c =
    one_more c.args.self.now _ c.loop-step.step c.loop-step.invariant
    (λ free. false≢true (sym c.if-is_free.false ∙ c.is_free.ensures.no (subst (λ start. IsFree c.args.self.now (start + c.loop-step.step)) (sym c.window-start.ensures.start) free)))
