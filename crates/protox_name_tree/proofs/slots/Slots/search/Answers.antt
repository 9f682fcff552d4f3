use Rattle.std.proofs.Common.{◌≡◌, ◌<◌, ◌+◌, inl, inr, ℕ, List, Option, Some, sym, ap, subst, ◌∙◌, arith}
use Rattle.std.proofs.lemmas.Bool.{false≢true}
use Rattle.std.proofs.lemmas.Bool.Decides.{leb_tells}
use Rattle.std.proofs.lemmas.Option.{same_Some}
use Rattle.protox_name_tree.specs.Slots.{held}
use Rattle.protox_name_tree.proofs.slots.Slots.search.Goals as goal

-- one more slot does not hold it
one_more : (is_at : ℕ → Type 0) (slots : List (Option ℕ)) (start upto : ℕ) → ((step n : ℕ) → step < upto → held slots (start + step) ≡ Some n → is_at n → ⊥) → ((n : ℕ) → held slots (start + upto) ≡ Some n → is_at n → ⊥) → (step n : ℕ) → step < upto + 1 → held slots (start + step) ≡ Some n → is_at n → ⊥
one_more is_at slots start upto before here step n below at is = elim (leb_tells upto step) [
  | inl last ↦ here n (ap (λ k. held slots (start + k)) (omega (arith, below, last.1)) ∙ at) is
  | inr earlier ↦ before step n earlier.1 at is
]

pub loop-step-init : goal.loop-step-init
loop-step-init g c = λ step n before at is. omega (arith, before)

pub loop-step-preserved : goal.loop-step-preserved
loop-step-preserved g c =
    one_more (g.S.Sought.is_at c.args.sought.now) c.args.self.now _ c.loop-step.step c.loop-step.invariant
    (λ n at is.
    let got = c.get.ensures ∙ ap (λ start. held c.args.self.now (start + c.loop-step.step)) c.window-start.ensures.start ∙ at in
    let same = same_Some n c.in-Some.number (sym got ∙ c.in-Some.is) in
    false≢true (sym c.if-is_at.false ∙ c.is_at.ensures.no (subst (g.S.Sought.is_at c.args.sought.now) same is)))

pub returns-clause-none : goal.returns-clause-none
returns-clause-none g c = λ n at is. c.loop-step.invariant at.step n (omega (arith, at.near, c.loop-step-test.false)) at.holds is
