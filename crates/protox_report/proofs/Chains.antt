-- Texts that are added one after another.
use Rattle.std.proofs.Common.{ℕ, ◌≡◌, List, ◌++◌}
use Rattle.std.proofs.lemmas.List.{append_assoc}

pub chain2 : {s1 s2 : List ℕ} (o x1 x2 : List ℕ) → s1 ≡ o ++ x1 → s2 ≡ s1 ++ x2 → s2 ≡ o ++ (x1 ++ x2)
chain2 o x1 x2 e1 e2 = rw (e2, e1) (simp append_assoc)

pub chain4 : {s1 s2 s3 s4 : List ℕ} (o x1 x2 x3 x4 : List ℕ) → s1 ≡ o ++ x1 → s2 ≡ s1 ++ x2 → s3 ≡ s2 ++ x3 → s4 ≡ s3 ++ x4 → s4 ≡ o ++ (x1 ++ (x2 ++ (x3 ++ x4)))
chain4 o x1 x2 x3 x4 e1 e2 e3 e4 = rw (e4, e3, e2, e1) (simp append_assoc)

pub chain7 : {s1 s2 s3 s4 s5 s6 s7 : List ℕ} (o x1 x2 x3 x4 x5 x6 x7 : List ℕ) → s1 ≡ o ++ x1 → s2 ≡ s1 ++ x2 → s3 ≡ s2 ++ x3 → s4 ≡ s3 ++ x4 → s5 ≡ s4 ++ x5 → s6 ≡ s5 ++ x6 → s7 ≡ s6 ++ x7 → s7 ≡ o ++ (x1 ++ (x2 ++ (x3 ++ (x4 ++ (x5 ++ (x6 ++ x7))))))
chain7 o x1 x2 x3 x4 x5 x6 x7 e1 e2 e3 e4 e5 e6 e7 = rw (e7, e6, e5, e4, e3, e2, e1) (simp append_assoc)

pub chain8 : {s1 s2 s3 s4 s5 s6 s7 s8 : List ℕ} (o x1 x2 x3 x4 x5 x6 x7 x8 : List ℕ) → s1 ≡ o ++ x1 → s2 ≡ s1 ++ x2 → s3 ≡ s2 ++ x3 → s4 ≡ s3 ++ x4 → s5 ≡ s4 ++ x5 → s6 ≡ s5 ++ x6 → s7 ≡ s6 ++ x7 → s8 ≡ s7 ++ x8 → s8 ≡ o ++ (x1 ++ (x2 ++ (x3 ++ (x4 ++ (x5 ++ (x6 ++ (x7 ++ x8)))))))
chain8 o x1 x2 x3 x4 x5 x6 x7 x8 e1 e2 e3 e4 e5 e6 e7 e8 = rw (e8, e7, e6, e5, e4, e3, e2, e1) (simp append_assoc)

pub chain9 : {s1 s2 s3 s4 s5 s6 s7 s8 s9 : List ℕ} (o x1 x2 x3 x4 x5 x6 x7 x8 x9 : List ℕ) → s1 ≡ o ++ x1 → s2 ≡ s1 ++ x2 → s3 ≡ s2 ++ x3 → s4 ≡ s3 ++ x4 → s5 ≡ s4 ++ x5 → s6 ≡ s5 ++ x6 → s7 ≡ s6 ++ x7 → s8 ≡ s7 ++ x8 → s9 ≡ s8 ++ x9 → s9 ≡ o ++ (x1 ++ (x2 ++ (x3 ++ (x4 ++ (x5 ++ (x6 ++ (x7 ++ (x8 ++ x9))))))))
chain9 o x1 x2 x3 x4 x5 x6 x7 x8 x9 e1 e2 e3 e4 e5 e6 e7 e8 e9 = rw (e9, e8, e7, e6, e5, e4, e3, e2, e1) (simp append_assoc)
