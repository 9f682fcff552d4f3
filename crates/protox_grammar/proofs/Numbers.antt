-- Tokens that are tagged with their numbers.
use Rattle.std.proofs.Common.{◌≡◌, ◌≤◌, ℕ, zero, suc, ◌+◌, List, [], ◌∷◌, ◌++◌, length, take, drop, refl, ap, ◌∙◌, arith}
use Rattle.protox_fault.specs.Faults.{Span}
use Rattle.protox_lexeme.specs.Shapes.{Shape, Row, Rows}
use Rattle.protox_ast.specs.Fronts.{numbered, shapes}
use Rattle.protox_ast.specs.Truth.{source_row}
use Rattle.protox_grammar.specs.Reader.{head_in, is_string}
use Rattle.protox_grammar.proofs.Laws.{head-same}

pub numbered-append : (n : ℕ) (a b : List Shape) → numbered n (a ++ b) ≡ numbered n a ++ numbered (n + length a) b
numbered-append n [] b = ap (λ k. numbered k b) (omega arith)
numbered-append n (s ∷ a) b =
    ap (λ u. record { shape = s; at = n } ∷ u) (numbered-append (suc n) a b ∙ ap (λ k. numbered (suc n) a ++ numbered k b) (omega arith))

pub numbered-length : (n : ℕ) (a : List Shape) → length (numbered n a) ≡ length a
numbered-length n [] = refl
numbered-length n (s ∷ a) = ap suc (numbered-length (suc n) a)

pub numbered-at : (n : ℕ) (a : List Shape) (ys : Rows ℕ) (r : Row ℕ) (zs : Rows ℕ) → numbered n a ≡ ys ++ (r ∷ zs) → r.at ≡ n + length ys
numbered-at n [] [] r zs e = absurd cc
numbered-at n [] (y ∷ ys) r zs e = absurd cc
numbered-at n (s ∷ a) [] r zs e =
    let h = head-same (record { shape = s; at = n }) r (numbered (suc n) a) zs e in
    let same : n ≡ r.at = ap (λ (u : Row ℕ). u.at) h.0 in
    omega (arith, same)
numbered-at n (s ∷ a) (y ∷ ys) r zs e =
    let h = head-same (record { shape = s; at = n }) y (numbered (suc n) a) (ys ++ (r ∷ zs)) e in
    omega (arith, numbered-at (suc n) a ys r zs h.1)

pub take-drop : {A : Type 0} (n : ℕ) (xs : List A) → take n xs ++ drop n xs ≡ xs
take-drop zero [] = refl
take-drop zero (x ∷ xs) = refl
take-drop (suc n) [] = refl
take-drop (suc n) (x ∷ xs) = ap (λ u. x ∷ u) (take-drop n xs)

pub take-length : {A : Type 0} (n : ℕ) (xs : List A) → n ≤ length xs → length (take n xs) ≡ n
take-length zero [] h = refl
take-length zero (x ∷ xs) h = refl
take-length (suc n) [] h = absurd (omega (arith, h))
take-length (suc n) (x ∷ xs) h = ap suc (take-length n xs (omega (arith, h)))

pub shapes-length : {M : Type 0} (rows : Rows M) → length (shapes rows) ≡ length rows
shapes-length [] = refl
shapes-length (r ∷ rs) = ap suc (shapes-length rs)

-- whether token n is a string
pub string-at : (rows : Rows Span) (n k : ℕ) → is_string (source_row rows n).shape ≡ head_in is_string (numbered k (drop n (shapes rows)))
string-at [] zero k = refl
string-at [] (suc n) k = refl
string-at (r ∷ rs) zero k = refl
string-at (r ∷ rs) (suc n) k = string-at rs n k

pub numbered-front : (n : ℕ) (a : List Shape) (ys zs : Rows ℕ) → numbered n a ≡ ys ++ zs → numbered n (shapes ys) ≡ ys
numbered-front n a [] zs e = refl
numbered-front n [] (y ∷ ys) zs e = absurd cc
numbered-front n (s ∷ a) (y ∷ ys) zs e =
    let h = head-same (record { shape = s; at = n }) y (numbered (suc n) a) (ys ++ zs) e in
    let same : n ≡ y.at = ap (λ (u : Row ℕ). u.at) h.0 in
    λ i. record { shape = y.shape; at = same i } ∷ numbered-front (suc n) a ys zs h.1 i

pub shapes-append : {M : Type 0} (a b : Rows M) → shapes (a ++ b) ≡ shapes a ++ shapes b
shapes-append [] b = refl
shapes-append (r ∷ a) b = ap (λ u. r.shape ∷ u) (shapes-append a b)

pub shapes-numbered : (n : ℕ) (a : List Shape) → shapes (numbered n a) ≡ a
shapes-numbered n [] = refl
shapes-numbered n (s ∷ a) = ap (λ u. s ∷ u) (shapes-numbered (suc n) a)

pub drop-front : {A : Type 0} (n : ℕ) (ys zs : List A) → n ≡ length ys → drop n (ys ++ zs) ≡ zs
drop-front zero [] zs h = drop-none zs
  where
    drop-none : {A : Type 0} (zs : List A) → drop 0 zs ≡ zs
    drop-none [] = refl
    drop-none (z ∷ zs) = refl
drop-front zero (y ∷ ys) zs h = absurd (omega (arith, h))
drop-front (suc n) [] zs h = absurd (omega (arith, h))
drop-front (suc n) (y ∷ ys) zs h = drop-front n ys zs (omega (arith, h))
