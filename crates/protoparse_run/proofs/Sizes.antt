-- The source that a refusal holds is within the limit.
use Rattle.std.proofs.Common.{ℕ, ◌≤◌, List, length, ap, arith, inl, inr}
use Rattle.protox_parse.specs.Failures.{IsOfSource}
use Rattle.protox_parse.specs.Refusal.{Refusal}

pub size_of_source : (source : List ℕ) (e : Refusal) → IsOfSource source e → length e.source ≤ 2147483647
size_of_source source e (inl h) = omega (arith, ap length h.1)
size_of_source source e (inr h) = omega (arith, ap length h.1)
