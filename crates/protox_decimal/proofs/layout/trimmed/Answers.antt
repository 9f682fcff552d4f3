use Rattle.std.proofs.Common.{◌≡◌, ◌≢◌, ℕ, ◌<◌, ◌≤◌, ◌-◌, List, length, get_or, subst, ◌∙◌, arith}
use Rattle.protox_decimal.proofs.Trimmed.{front, trimmed_is}
use Rattle.protox_decimal.proofs.layout.trimmed.Goals as goal
use Rattle.protox_decimal.proofs.layout.trimmed.Goals.{then-loop-end-test+else-bytes-end-eq48, else-loop-end-test}

pub returns : goal.returns
returns c =
    let xs = c.args.digits.now in
    let n = c.loop-end.end in
    let read = c.as_bytes-bytes.ensures.value in
    let invariant = c.loop-end.invariant in
    let Within : List ℕ → Type 0 = λ ys. n ≤ length ys in
    let Zeros : List ℕ → Type 0 = λ ys. (k : ℕ) → n ≤ k → k < length ys → get_or ys k 0 ≡ 48 in
    let Last : List ℕ → Type 0 = λ ys. get_or ys (n - 1) 0 ≢ 48 in
    let last : 0 < n → get_or xs (n - 1) 0 ≢ 48 = λ p. subst Last read (elim c.loop-end-test.branch [ then-loop-end-test+else-bytes-end-eq48 w ↦ w.if-bytes-end-eq48.false | else-loop-end-test w ↦ absurd (omega (arith, w.loop-end-test.false)) ]) in
    c.range.ensures.value ∙ front xs n ∙ trimmed_is xs n (subst Within read invariant.0) (subst Zeros read invariant.1) last
