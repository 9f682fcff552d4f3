-- The laws of what stands between braces.
use Rattle.std.proofs.Common.{◌≡◌, ℕ, zero, suc, ◌-◌, ◌≤◌, Bool, true, false, eqb, List, [], ◌∷◌, ◌++◌, length, Result, Ok, Err, refl, sym, ap, subst, ◌∙◌, append_assoc, arith, inl, inr}
use Rattle.std.proofs.lemmas.Bool.{eqb-true, ne_eqb}
use Rattle.std.proofs.lemmas.List.{length-append}
use Rattle.protox_lexeme.specs.Shapes.{Shape, Mark, Row, Rows}
use Rattle.protox_grammar.specs.Class.{none, all}
use Rattle.protox_grammar.specs.Reader as reader
use Rattle.protox_grammar.specs.Reader.{Refusal, Unexpected, Deep, ◌>>=◌}
use Rattle.protox_grammar.specs.Rule.{Starts, row}
use Rattle.protox_ast.specs.Spelling.{close_brace}
use Rattle.protox_ast.specs.KeywordWalk as k
use Rattle.protox_grammar.specs.Rules.{balanced_at, closed}
use Rattle.protox_grammar.proofs.Balance.{balances, counted}
use Rattle.protox_grammar.proofs.Takes.{bind_ok, ok_is}
use Rattle.protox_grammar.proofs.Laws.{IsSpelled, head-same}
use Rattle.protox_grammar.proofs.Reading.{IsRead, Took, Begins, left_of, bind_err, ok-err, err-ok, err-left, unexpected-deep, true-false}

-- Tokens whose braces match, if this many were open before.
record Matches {M : Type 0} (d : ℕ) (t : Rows M) : Type 0 where
  braces : balances d t ≡ true
  tokens : k.Each k.IsSignificant t

abbrev after : {M : Type 0} → Row M → Rows M × Rows M → Result (Rows M × Rows M) Refusal
after r x = Ok (r ∷ x.0, x.1)

-- What one row does: it leaves this many braces open, or closes the aggregate, or is no token.
data Step {M : Type 0} (d : ℕ) (r : Row M) : Type 0 where
  goes : (d' : ℕ) → ((t : Rows M) → Matches d (r ∷ t) → Matches d' t) → ((t : Rows M) → Matches d' t → Matches d (r ∷ t))
      → ((xs : Rows M) → balanced_at d (r ∷ xs) ≡ (balanced_at d' xs >>= after r)) → Step d r
  ends : d ≡ 0 → k.is_close_brace r.shape ≡ true → ((t : Rows M) → Matches d (r ∷ t) → ⊥) → ((xs : Rows M) → balanced_at d (r ∷ xs) ≡ Ok ([], r ∷ xs)) → Step d r
  bars : k.is_close_brace r.shape ≡ false → ((t : Rows M) → Matches d (r ∷ t) → ⊥) → ((xs : Rows M) → balanced_at d (r ∷ xs) ≡ reader.refuse (r ∷ xs)) → Step d r

eqb-zero : (d : ℕ) → eqb d 0 ≡ true → d ≡ 0
eqb-zero d e = eqb-true d 0 e

-- a brace is a token
open-token : (s : Shape) → k.is_open_brace s ≡ true → k.is_significant s ≡ true
open-token (Mark b) h = refl
open-token _ h = absurd cc

close-token : (s : Shape) → k.is_close_brace s ≡ true → k.is_significant s ≡ true
close-token (Mark b) h = refl
close-token _ h = absurd cc

-- If the rows after it count the same, and this one is a token.
goes-on : {M : Type 0} (d d' : ℕ) (r : Row M) → k.is_significant r.shape ≡ true → ((t : Rows M) → balances d (r ∷ t) ≡ balances d' t)
    → ((xs : Rows M) → balanced_at d (r ∷ xs) ≡ (balanced_at d' xs >>= after r)) → Step d r
goes-on d d' r s f g = goes d' (λ t h. record { braces = sym (f t) ∙ h.braces; tokens = h.tokens.1 }) (λ t h. record { braces = f t ∙ h.braces; tokens = (s, h.tokens) }) g

step-by : {M : Type 0} (d : ℕ) (r : Row M) (a b c e : Bool) → k.is_open_brace r.shape ≡ a → k.is_close_brace r.shape ≡ b → eqb d 0 ≡ c → k.is_significant r.shape ≡ e → Step d r
unfolding balanced_at
step-by d r true b c e p q z s = goes-on d (suc d) r (open-token r.shape p) (λ t. rw p refl) (λ xs. rw p refl)
step-by d r false true true e p q z s = ends (eqb-zero d z) q (λ t h. true-false _ h.braces (rw (p, q, z) refl)) (λ xs. rw (p, q, z) refl)
step-by d r false true false e p q z s = goes-on d (d - 1) r (close-token r.shape q) (λ t. rw (p, q, z) refl) (λ xs. rw (p, q, z) refl)
step-by d r false false c true p q z s = goes-on d d r s (λ t. rw (p, q) refl) (λ xs. rw (p, q, s) refl)
step-by d r false false c false p q z s = bars q (λ t h. true-false _ h.tokens.0 s) (λ xs. rw (p, q, s) refl)

step : {M : Type 0} (d : ℕ) (r : Row M) → Step d r
step d r = step-by d r _ _ _ _ refl refl refl refl

-- ---- how it is spelled

abbrev shut : {M : Type 0} → M → Row M
shut m = row (Mark close_brace) m

-- Matching tokens don't begin with the closing brace, if none is open.
shut-ends : {M : Type 0} (m : M) (d : ℕ) → d ≡ 0 → (u : Rows M) → Matches d (shut m ∷ u) → ⊥
shut-ends m zero z u h = let b = h.braces in absurd cc
shut-ends m (suc d) z u h = omega (arith, z)

row-is : {M : Type 0} (m : M) (x : Row M) → x ≡ shut m → (d : ℕ) → d ≡ 0 → (u : Rows M) → Matches d (x ∷ u) → ⊥
row-is m x e d z u h = shut-ends m d z u (subst (λ (v : Row _). Matches d (v ∷ u)) e h)

all-closed : {M : Type 0} (d : ℕ) → Matches {M = M} d [] → d ≡ 0
all-closed d h = eqb-zero d h.braces

same : {M : Type 0} (d : ℕ) (t u : Rows M) (m n : M) (y z : Rows M) → Matches d t → Matches d u → t ++ (shut m ∷ y) ≡ u ++ (shut n ∷ z) → (t ≡ u) × (m ≡ n) × (y ≡ z)
same d [] [] m n y z p q e = let h = head-same (shut m) (shut n) y z e in (refl, ap (λ r. r.at) h.0, h.1)
same d [] (x ∷ u) m n y z p q e = absurd (row-is m x (sym (head-same (shut m) x y (u ++ (shut n ∷ z)) e).0) d (all-closed d p) u q)
same d (x ∷ t) [] m n y z p q e = absurd (row-is n x (head-same x (shut n) (t ++ (shut m ∷ y)) z e).0 d (all-closed d q) t p)
same d (x ∷ t) (w ∷ u) m n y z p q e =
    let h = head-same x w (t ++ (shut m ∷ y)) (u ++ (shut n ∷ z)) e in
    elim (step d x) [
      | goes d' f b g ↦
          let i = same d' t u m n y z (f t p) (f u (subst (λ (v : Row _). Matches d (v ∷ u)) (sym h.0) q)) h.1 in
          (cons-same x w t u h.0 i.0, i.1, i.2)
      | ends a b f g ↦ absurd (f t p)
      | bars b f g ↦ absurd (f t p)
    ]
  where
    cons-same : {B : Type 0} (a b : B) (cs bs : List B) → a ≡ b → cs ≡ bs → a ∷ cs ≡ b ∷ bs
    cons-same a b cs bs p q = cc

pub some-start : {M : Type 0} (t : Rows M) (r : Row M) → Starts false all (t ++ (r ∷ []))
some-start [] r = refl
some-start (x ∷ t) r = refl

matches : {M : Type 0} (t : Rows M) → k.BracesMatch t × k.Each k.IsSignificant t → Matches 0 t
matches t h = record { braces = (counted t).0 h.0; tokens = h.1 }

pub closed-spelled : {M : Type 0} → IsSpelled {M = M} closed false all none
closed-spelled {M = M} = record {
  starts = λ t z e. some-start t.0 (shut t.1);
  follow = λ t z m s. m;
  ahead = λ t s y z e. e;
  once = λ t u y z p q e.
      let h = same 0 t.0 u.0 t.1 u.1 y z (matches t.0 p) (matches u.0 q) (sym (append_assoc t.0 (shut t.1 ∷ []) y) ∙ e ∙ append_assoc u.0 (shut u.1 ∷ []) z) in
      (λ i. (h.0 i, h.1 i), h.2);
}

-- ---- how it is read

record Found {M : Type 0} (d : ℕ) (xs : Rows M) (x : Rows M × Rows M) : Type 0 where
  parts : xs ≡ x.0 ++ x.1
  balanced : Matches d x.0
  last : Row M
  rest : Rows M
  next : x.1 ≡ last ∷ rest
  shuts : k.is_close_brace last.shape ≡ true

none-open : {M : Type 0} (d : ℕ) → d ≡ 0 → Matches {M = M} d []
none-open {M = M} d e = record { braces = subst (λ n. balances {M = M} n [] ≡ true) (sym e) refl; tokens = tt }

found : {M : Type 0} (d : ℕ) (xs : Rows M) (x : Rows M × Rows M) → balanced_at d xs ≡ Ok x → Found d xs x
unfolding balanced_at
found {M = M} d [] x e = absurd (err-ok x _ e)
found {M = M} d (r ∷ xs) x e = elim (step d r) [
  | goes d' f b g ↦
      let p = bind_ok (balanced_at d' xs) (after r) x (sym (g xs) ∙ e) in
      let i = found d' xs p.0 p.1 in
      subst (Found d (r ∷ xs)) (ok_is (r ∷ p.0.0, p.0.1) x p.2) (record { parts = ap (λ v. r ∷ v) i.parts; balanced = b p.0.0 i.balanced; last = i.last; rest = i.rest; next = i.next; shuts = i.shuts })
  | ends a b f g ↦ subst (Found d (r ∷ xs)) (ok_is ([], r ∷ xs) x (sym (g xs) ∙ e)) (record { parts = refl; balanced = none-open d a; last = r; rest = xs; next = refl; shuts = b })
  | bars b f g ↦ absurd (err-ok x _ (sym (g xs) ∙ e))
]

again : {M : Type 0} (d : ℕ) (t : Rows M) (m : M) (z : Rows M) → Matches d t → balanced_at d (t ++ (shut m ∷ z)) ≡ Ok (t, shut m ∷ z)
unfolding balanced_at
again zero [] m z h = refl
again (suc d) [] m z h = absurd (omega (arith, all-closed (suc d) h))
again d (r ∷ t) m z h = elim (step d r) [
  | goes d' f b g ↦ g (t ++ (shut m ∷ z)) ∙ ap (λ v. v >>= after r) (again d' t m z (f t h))
  | ends a b f g ↦ absurd (f t h)
  | bars b f g ↦ absurd (f t h)
]

closers : {M : Type 0} → M → ℕ → Rows M
closers m zero = []
closers m (suc d) = shut m ∷ closers m d

closers-balance : {M : Type 0} (m : M) (d : ℕ) → balances d (closers m d) ≡ true
unfolding closers
closers-balance m zero = refl
closers-balance m (suc d) = let e : suc d - 1 ≡ d = omega arith in let n : eqb (suc d) 0 ≡ false = ne_eqb _ _ (λ h. omega arith) in rw (n, e) (closers-balance m d)

closers-tokens : {M : Type 0} (m : M) (d : ℕ) → k.Each k.IsSignificant (closers m d)
unfolding closers
closers-tokens m zero = tt
closers-tokens m (suc d) = (refl, closers-tokens m d)

closers-match : {M : Type 0} (m : M) (d : ℕ) → Matches d (closers m d)
closers-match m d = record { braces = closers-balance m d; tokens = closers-tokens m d }

-- If reading stops, some matching tokens begin with the rows before.
record Stuck {M : Type 0} (d : ℕ) (xs : Rows M) (left : ℕ) : Type 0 where
  front : Rows M
  rest : Rows M
  parts : xs ≡ front ++ rest
  left_is : left ≡ length rest
  more : Rows M
  goes_on : Matches d (front ++ more)

unfinished : {M : Type 0} (m : M) (d : ℕ) (xs : Rows M) (e : Refusal) → balanced_at d xs ≡ Err e → Stuck d xs (left_of e)
unfolding balanced_at
unfinished {M = M} m d [] e h = record { front = []; rest = []; parts = refl; left_is = err-left {A = Rows M × Rows M} 0 e h; more = closers m d; goes_on = closers-match m d }
unfinished {M = M} m d (r ∷ xs) e h = elim (step d r) [
  | goes d' f b g ↦ elim (bind_err (balanced_at d' xs) (after r) e (sym (g xs) ∙ h)) [
    | inl n ↦ let i = unfinished m d' xs e n in record { front = r ∷ i.front; rest = i.rest; parts = ap (λ v. r ∷ v) i.parts; left_is = i.left_is; more = i.more; goes_on = b (i.front ++ i.more) i.goes_on }
    | inr n ↦ absurd (ok-err _ e n.2)
  ]
  | ends a b f g ↦ absurd (ok-err _ e (sym (g xs) ∙ h))
  | bars b f g ↦ record { front = []; rest = r ∷ xs; parts = refl; left_is = err-left {A = Rows M × Rows M} (length (r ∷ xs)) e (sym (g xs) ∙ h); more = closers m d; goes_on = closers-match m d }
]

left-within : {M : Type 0} (m : M) (d : ℕ) (xs : Rows M) (e : Refusal) → balanced_at d xs ≡ Err e → left_of e ≤ length xs
left-within m d xs e h = let i = unfinished m d xs e h in omega (arith, i.left_is, ap length i.parts, length-append i.front i.rest)

not-shut : {M : Type 0} (m : M) (r : Row M) → k.is_close_brace r.shape ≡ false → r ≡ shut m → ⊥
not-shut m r h e = true-false (k.is_close_brace r.shape) (ap (λ (v : Row _). k.is_close_brace v.shape) e) h

-- No matching tokens, with the closing brace, begin with a row that is no token.
never-begin : {M : Type 0} (d : ℕ) (r : Row M) → k.is_close_brace r.shape ≡ false → ((t : Rows M) → Matches d (r ∷ t) → ⊥)
    → (t z more : Rows M) (m : M) → Matches d t → t ++ (shut m ∷ z) ≡ r ∷ more → ⊥
never-begin d r b f [] z more m h e = not-shut m r b (sym (head-same (shut m) r z more e).0)
never-begin d r b f (x ∷ t) z more m h e = f t (subst (λ (v : Row _). Matches d (v ∷ t)) (head-same x r (t ++ (shut m ∷ z)) more e).0 h)

-- After a row that leaves this many braces open.
past : {M : Type 0} (d d' : ℕ) (x : Row M) → ((u : Rows M) → Matches d (x ∷ u) → Matches d' u) → ((u : Rows M) → Matches d' u → Matches d (x ∷ u))
    → (front : Rows M) (s : Row M) (z more : Rows M) (m : M) → ((u : Rows M) → Matches d' u → u ++ (shut m ∷ z) ≡ front ++ (s ∷ more) → ⊥)
    → (t : Rows M) → Matches d t → t ++ (shut m ∷ z) ≡ x ∷ (front ++ (s ∷ more)) → ⊥
past d d' x f b front s z more m next [] a e = row-is m x (sym (head-same (shut m) x z (front ++ (s ∷ more)) e).0) d (all-closed d a) (closers m d') (b (closers m d') (closers-match m d'))
past d d' x f b front s z more m next (y ∷ t) a e =
    let p = head-same y x (t ++ (shut m ∷ z)) (front ++ (s ∷ more)) e in
    next t (f t (subst (λ (v : Row _). Matches d (v ∷ t)) p.0 a)) p.1

-- Reading never stops at something too deep.
never-deep : {M : Type 0} (d n : ℕ) (xs : Rows M) → balanced_at d xs ≡ Err (Deep n) → ⊥
unfolding balanced_at
never-deep {M = M} d n [] h = unexpected-deep {A = Rows M × Rows M} 0 n h
never-deep {M = M} d n (r ∷ xs) h = elim (step d r) [
  | goes d' f b g ↦ elim (bind_err (balanced_at d' xs) (after r) (Deep n) (sym (g xs) ∙ h)) [
    | inl k ↦ never-deep d' n xs k
    | inr k ↦ ok-err _ _ k.2
  ]
  | ends a b f g ↦ ok-err _ _ (sym (g xs) ∙ h)
  | bars b f g ↦ unexpected-deep {A = Rows M × Rows M} (length (r ∷ xs)) n (sym (g xs) ∙ h)
]

-- If reading stops at a row, no matching tokens go on with it.
tight : {M : Type 0} (d : ℕ) (w : Refusal) (front : Rows M) (s : Row M) (rest : Rows M) → left_of w ≡ suc (length rest) → balanced_at d (front ++ (s ∷ rest)) ≡ Err w
    → (t z more : Rows M) (m : M) → Matches d t → t ++ (shut m ∷ z) ≡ front ++ (s ∷ more) → ⊥
tight {M = M} d w [] s rest l h t z more m a e = elim (step d s) [
  | goes d' f b g ↦ elim (bind_err (balanced_at d' rest) (after s) _ (sym (g rest) ∙ h)) [
    | inl n ↦ omega (arith, l, left-within m d' rest w n)
    | inr n ↦ ok-err _ _ n.2
  ]
  | ends c b f g ↦ ok-err _ _ (sym (g rest) ∙ h)
  | bars b f g ↦ never-begin d s b f t z more m a e
]
tight {M = M} d w (x ∷ front) s rest l h t z more m a e = elim (step d x) [
  | goes d' f b g ↦ elim (bind_err (balanced_at d' (front ++ (s ∷ rest))) (after x) _ (sym (g (front ++ (s ∷ rest))) ∙ h)) [
    | inl n ↦ past d d' x f b front s z more m (λ u c i. tight d' w front s rest l n u z more m c i) t a e
    | inr n ↦ ok-err _ _ n.2
  ]
  | ends c b f g ↦ ok-err _ _ (sym (g (front ++ (s ∷ rest))) ∙ h)
  | bars b f g ↦
      let n = err-left {A = Rows M × Rows M} (length (x ∷ (front ++ (s ∷ rest)))) w (sym (g (front ++ (s ∷ rest))) ∙ h) in
      omega (arith, l, n, length-append front (s ∷ rest))
]

close-is : (s : Shape) → k.is_close_brace s ≡ true → s ≡ Mark close_brace
close-is (Mark b) h = ap Mark (eqb-true b close_brace h)
close-is _ h = absurd cc

shut-is : {M : Type 0} (r : Row M) → k.is_close_brace r.shape ≡ true → r ≡ shut r.at
shut-is r h = ap (λ s. row s r.at) (close-is r.shape h)

closes : {M : Type 0} (r : Row M) (rs : Rows M) → k.is_close_brace r.shape ≡ true → reader.fixed (Mark close_brace) (r ∷ rs) ≡ Ok (r.at, rs)
unfolding reader.fixed
closes r rs h = rw (close-is r.shape h) refl

abbrev close : {M : Type 0} → Rows M × Rows M → Result ((Rows M × M) × Rows M) Refusal
close v = reader.fixed (Mark close_brace) v.1 >>= λ y. Ok ((v.0, y.0), y.1)

never : {M : Type 0} (xs : Rows M) (v : Rows M × Rows M) (e : Refusal) → balanced_at 0 xs ≡ Ok v → reader.fixed (Mark close_brace) v.1 ≡ Err e → ⊥
never xs v e n h = let f = found 0 xs v n in ok-err (f.last.at, f.rest) e (sym (closes f.last f.rest f.shuts) ∙ ap (reader.fixed (Mark close_brace)) (sym f.next) ∙ h)

-- Reading fails only between the braces.
inside : {M : Type 0} (xs : Rows M) (e : Refusal) → reader.seq (balanced_at 0) (reader.fixed (Mark close_brace)) xs ≡ Err e → balanced_at 0 xs ≡ Err e
inside xs e h = elim (bind_err (balanced_at 0 xs) close e h) [
  | inl n ↦ n
  | inr v ↦ elim (bind_err (reader.fixed (Mark close_brace) v.0.1) (λ y. Ok ((v.0.0, y.0), y.1)) e v.2) [
    | inl n ↦ absurd (never xs v.0 e v.1 n)
    | inr n ↦ absurd (ok-err _ e n.2)
  ]
]

pub closed-deep : {M : Type 0} (n : ℕ) (xs : Rows M) → reader.seq (balanced_at 0) (reader.fixed (Mark close_brace)) xs ≡ Err (Deep n) → ⊥
closed-deep n xs h = never-deep 0 n xs (inside xs (Deep n) h)

pub closed-read : {M : Type 0} → M → IsRead {M = M} closed
closed-read {M = M} m = record {
  some = ([], m);
  some_may = ((counted []).1 refl, tt);
  within = λ t h. h;
  takes = took;
  again = λ t z h n. rw (append_assoc t.0 (shut t.1 ∷ []) z, again 0 t.0 t.1 z (matches t.0 h), closes (shut t.1) z refl) refl;
  viable = viable;
  tight = λ d front s rest l h t z more c n e. stuck d front s rest l h t z more n e;
  short = λ xs h t z n e. complete xs h t z n e;
}
  where
    took : (xs : Rows M) (x : (Rows M × M) × Rows M) → reader.seq (balanced_at 0) (reader.fixed (Mark close_brace)) xs ≡ Ok x → Took closed xs x
    took xs x e =
        let p = bind_ok (balanced_at 0 xs) close x e in
        let q = bind_ok (reader.fixed (Mark close_brace) p.0.1) (λ y. Ok ((p.0.0, y.0), y.1)) x p.2 in
        let f = found 0 xs p.0 p.1 in
        let at : (f.last.at, f.rest) ≡ q.0 = ok_is (f.last.at, f.rest) q.0 (sym (closes f.last f.rest f.shuts) ∙ ap (reader.fixed (Mark close_brace)) (sym f.next) ∙ q.1) in
        let made : (Rows M × M) × Rows M = ((p.0.0, f.last.at), f.rest) in
        let is : made ≡ x = ap (λ (y : M × Rows M). ((p.0.0, y.0), y.1)) at ∙ ok_is ((p.0.0, q.0.0), q.0.1) x q.2 in
        let fits : k.BracesMatch p.0.0 × k.Each k.IsSignificant p.0.0 = ((counted p.0.0).1 f.balanced.braces, f.balanced.tokens) in
        subst (Took closed xs) is (record {
          parts = f.parts ∙ ap (λ v. p.0.0 ++ v) (f.next ∙ ap (λ r. r ∷ f.rest) (shut-is f.last f.shuts)) ∙ sym (append_assoc p.0.0 (shut f.last.at ∷ []) f.rest);
          fits = fits;
          ends = fits;
        })

    viable : (xs : Rows M) (e : Refusal) → reader.seq (balanced_at 0) (reader.fixed (Mark close_brace)) xs ≡ Err e → Begins closed xs (left_of e)
    viable xs e h =
        let u = unfinished m 0 xs e (inside xs e h) in
        record { front = u.front; rest = u.rest; parts = u.parts; left_is = u.left_is; tree = (u.front ++ u.more, m); tree_may = ((counted (u.front ++ u.more)).1 u.goes_on.braces, u.goes_on.tokens); more = u.more ++ (shut m ∷ []); goes_on = append_assoc u.front u.more (shut m ∷ []) }

    stuck : (d : Refusal) (front : Rows M) (s : Row M) (rest : Rows M) → left_of d ≡ suc (length rest) → reader.seq (balanced_at 0) (reader.fixed (Mark close_brace)) (front ++ (s ∷ rest)) ≡ Err d
        → (t : Rows M × M) (z more : Rows M) → k.BracesMatch t.0 × k.Each k.IsSignificant t.0 → (t.0 ++ (shut t.1 ∷ [])) ++ z ≡ front ++ (s ∷ more) → ⊥
    stuck d front s rest l h t z more n e = tight 0 d front s rest l (inside (front ++ (s ∷ rest)) d h) t.0 z more t.1 (matches t.0 n) (sym (append_assoc t.0 (shut t.1 ∷ []) z) ∙ e)

    complete : (xs : Rows M) → reader.seq (balanced_at 0) (reader.fixed (Mark close_brace)) xs ≡ Err (Unexpected 0) → (t : Rows M × M) (z : Rows M) → k.BracesMatch t.0 × k.Each k.IsSignificant t.0 → (t.0 ++ (shut t.1 ∷ [])) ++ z ≡ xs → ⊥
    complete xs h t z b e =
        let is : xs ≡ t.0 ++ (shut t.1 ∷ z) = sym e ∙ append_assoc t.0 (shut t.1 ∷ []) z in
        let read : balanced_at 0 xs ≡ Ok (t.0, shut t.1 ∷ z) = ap (balanced_at 0) is ∙ again 0 t.0 t.1 z (matches t.0 b) in
        ok-err _ _ (sym read ∙ inside xs _ h)
