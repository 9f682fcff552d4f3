-- What is said of lent bytes is said of what is found.
use Rattle.std.proofs.Common.{ℕ, ◌≡◌, List, sym, subst, ◌∙◌}
use Rattle.protox_ffi.specs.Answers.{Answered, given, short, without}
use Rattle.protox_ffi.specs.declared.outcome.Reason.{Reason}

pub answered : (Found : List ℕ → Type 0) (Missing : Reason → Type 0) (done : ℕ) (old new : List ℕ) (len status : ℕ) (bytes lent : List ℕ) → Found bytes → lent ≡ bytes
    → Answered (λ written. written ≡ lent) (λ reason. ⊥) done old new len status → Answered Found Missing done old new len status
answered Found Missing done old new len status bytes lent found is (given b e fits l n s) = given b (subst Found (sym (e ∙ is)) found) fits l n s
answered Found Missing done old new len status bytes lent found is (short b e fits l n s) = short b (subst Found (sym (e ∙ is)) found) fits l n s
answered Found Missing done old new len status bytes lent found is (without reason none l n s) = absurd none
