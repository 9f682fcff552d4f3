-- Braces match exactly when a count of the open ones says so.
use Rattle.std.proofs.Common.{◌≡◌, ◌↔◌, ◌≤◌, ℕ, zero, suc, ◌+◌, ◌-◌, Bool, true, false, cond, eqb, [], ◌∷◌, take, refl, sym, ap, ◌∙◌, arith}
use Rattle.std.proofs.lemmas.Bool.{eqb-true, eq-eqb}
use Rattle.std.specs.Prelude.{if◌then◌else◌, ◌==◌}
use Rattle.protox_lexeme.specs.Shapes.{Shape, Mark, Row, Rows}
use Rattle.protox_ast.specs.Keywords.{is_open_brace, is_close_brace, how_many, BracesMatch}
use Rattle.protox_ast.specs.Spelling.{open_brace, close_brace}

-- Braces match, if this many were open before.
abbrev pub balances : {M : Type 0} → ℕ → Rows M → Bool
balances unclosed [] = unclosed == 0
balances unclosed (r ∷ rs) =
    if is_open_brace r.shape then balances (suc unclosed) rs
    else (if is_close_brace r.shape
    then (if unclosed == 0 then false else balances (unclosed - 1) rs)
    else balances unclosed rs)

-- The braces of the rows match behind so many open ones, said by all beginnings of the rows.
abbrev MatchBehind : {M : Type 0} → ℕ → Rows M → Type 0
MatchBehind unclosed rows =
    ((n : ℕ) → how_many is_close_brace (take n rows) ≤ unclosed + how_many is_open_brace (take n rows)) × (unclosed + how_many is_open_brace rows ≡ how_many is_close_brace rows)

not-both : (s : Shape) → is_open_brace s ≡ true → is_close_brace s ≡ true → ⊥
not-both (Mark byte) p q = omega (arith, eqb-true byte open_brace p, eqb-true byte close_brace q)
not-both _ p q = absurd cc

front-none : (M : Type 0) (test : Shape → Bool) (n : ℕ) → how_many {M = M} test (take n []) ≡ 0
front-none M test zero = refl
front-none M test (suc n) = refl

count-is : {M : Type 0} (test : Shape → Bool) (r : Row M) (b : Bool) → test r.shape ≡ b → (rs : Rows M) → how_many test (r ∷ rs) ≡ cond b 1 0 + how_many test rs
count-is test r true e rs = ap (λ b. cond b (suc (how_many test rs)) (how_many test rs)) e ∙ omega arith
count-is test r false e rs = ap (λ b. cond b (suc (how_many test rs)) (how_many test rs)) e ∙ omega arith

-- After a row that changes how many braces are open.
module _ {M : Type 0} (d d' : ℕ) (r : Row M) (rs : Rows M) (a b : Bool) (p : is_open_brace r.shape ≡ a) (q : is_close_brace r.shape ≡ b) (e : d + cond a 1 0 ≡ d' + cond b 1 0) where
  forth-at : MatchBehind d' rs → (n : ℕ) → how_many is_close_brace (take n (r ∷ rs)) ≤ d + how_many is_open_brace (take n (r ∷ rs))
  forth-at h zero = omega arith
  forth-at h (suc n) = omega (arith, e, h.0 n, count-is is_open_brace r a p (take n rs), count-is is_close_brace r b q (take n rs))

  forth : MatchBehind d' rs → MatchBehind d (r ∷ rs)
  forth h = (forth-at h, omega (arith, e, h.1, count-is is_open_brace r a p rs, count-is is_close_brace r b q rs))

  back : MatchBehind d (r ∷ rs) → MatchBehind d' rs
  back h = (
    λ n. let k : how_many is_close_brace (r ∷ take n rs) ≤ d + how_many is_open_brace (r ∷ take n rs) = h.0 (suc n) in
        omega (arith, e, k, count-is is_open_brace r a p (take n rs), count-is is_close_brace r b q (take n rs)),
    omega (arith, e, h.1, count-is is_open_brace r a p rs, count-is is_close_brace r b q rs),
  )

abbrev Counts : {M : Type 0} → ℕ → Rows M → Type 0
Counts d rows = (balances d rows ≡ true) ↔ MatchBehind d rows

-- one row, by what it is
counts-by : {M : Type 0} (d : ℕ) (r : Row M) (rs : Rows M) (a b c : Bool) → is_open_brace r.shape ≡ a → is_close_brace r.shape ≡ b → eqb d 0 ≡ c → ((d' : ℕ) → Counts d' rs) → Counts d (r ∷ rs)
counts-by d r rs true true c p q z next = absurd (not-both r.shape p q)
counts-by d r rs true false c p q z next =
    let same : balances d (r ∷ rs) ≡ balances (suc d) rs = rw p refl in
    let e : d + 1 ≡ suc d + 0 = omega arith in
    ((λ h. forth d (suc d) r rs true false p q e ((next (suc d)).0 (sym same ∙ h))), (λ h. same ∙ (next (suc d)).1 (back d (suc d) r rs true false p q e h)))
counts-by d r rs false true true p q z next = (
  λ h. let same : balances d (r ∷ rs) ≡ false = rw (p, q, z) refl in absurd cc,
  λ h. let k : how_many is_close_brace (r ∷ take 0 rs) ≤ d + how_many is_open_brace (r ∷ take 0 rs) = h.0 1 in
      absurd (omega (arith, eqb-true d 0 z, k, count-is is_open_brace r false p (take 0 rs), count-is is_close_brace r true q (take 0 rs), front-zero is_open_brace rs)),
)
  where
    front-zero : {M : Type 0} (test : Shape → Bool) (rs : Rows M) → how_many test (take 0 rs) ≡ 0
    front-zero test [] = refl
    front-zero test (r ∷ rs) = refl
counts-by d r rs false true false p q z next =
    let same : balances d (r ∷ rs) ≡ balances (d - 1) rs = rw (p, q, z) refl in
    let some : d ≡ 0 → ⊥ = λ h. let yes = eq-eqb d 0 h in absurd cc in
    let e : d + 0 ≡ (d - 1) + 1 = omega (arith, some) in
    ((λ h. forth d (d - 1) r rs false true p q e ((next (d - 1)).0 (sym same ∙ h))), (λ h. same ∙ (next (d - 1)).1 (back d (d - 1) r rs false true p q e h)))
counts-by d r rs false false c p q z next =
    let same : balances d (r ∷ rs) ≡ balances d rs = rw (p, q) refl in
    ((λ h. forth d d r rs false false p q refl ((next d).0 (sym same ∙ h))), (λ h. same ∙ (next d).1 (back d d r rs false false p q refl h)))

counts : {M : Type 0} (d : ℕ) (rows : Rows M) → Counts d rows
counts {M = M} d [] = ((λ h. ((λ n. omega (arith, front-none M is_close_brace n)), omega (arith, eqb-true d 0 h))), (λ h. eq-eqb d 0 (omega (arith, h.1))))
counts {M = M} d (r ∷ rs) = counts-by d r rs (is_open_brace r.shape) (is_close_brace r.shape) (eqb d 0) refl refl refl (λ d'. counts d' rs)

pub counted : {M : Type 0} (rows : Rows M) → BracesMatch rows ↔ (balances 0 rows ≡ true)
counted rows = (
  λ h. (counts 0 rows).1 ((λ n. omega (arith, h.0 n)), omega (arith, h.1)),
  λ h. let k = (counts 0 rows).0 h in ((λ n. omega (arith, k.0 n)), omega (arith, k.1)),
)
