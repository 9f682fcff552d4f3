-- Bytes that are added one behind the other.
use Rattle.std.proofs.Common.{ℕ, ◌≡◌, List, ◌++◌}
use Rattle.std.proofs.lemmas.List.{append_assoc}

-- The first two are added at once.
pub front4 : {s1 s2 s3 s4 : List ℕ} (o x0 x1 x2 x3 x4 : List ℕ) → s1 ≡ o ++ (x0 ++ x1) → s2 ≡ s1 ++ x2 → s3 ≡ s2 ++ x3 → s4 ≡ s3 ++ x4
    → s4 ≡ o ++ (x0 ++ (x1 ++ (x2 ++ (x3 ++ x4))))
front4 o x0 x1 x2 x3 x4 e1 e2 e3 e4 = rw (e4, e3, e2, e1) (simp append_assoc)
