-- What stands between the braces of an aggregate is read exactly: each token, up to its `}`.
use Rattle.std.proofs.Common.{◌≡◌, ◌+◌, ◌-◌, ◌≤◌, ℕ, suc, Bool, true, false, eqb, not, ◌||◌, [], ◌∷◌, ◌++◌, length, Result, Ok, Err, refl, sym, ap, subst, ◌∙◌, arith}
use Rattle.std.proofs.lemmas.Bool.{eqb-true, ne_eqb}
use Rattle.std.proofs.lemmas.List.{length-append}
use Rattle.protox_ast.specs.KeywordWalk as k
use Rattle.protox_ast.specs.Places.{Place}
use Rattle.protox_ast.specs.Spelling as s
use Rattle.protox_lexeme.specs.Shapes.{Shape, Ident, Mark, Row, Rows}
use Rattle.protox_grammar.specs.Class.{Set, byte_place, class, keywords, marks, none, only, place}
use Rattle.protox_grammar.specs.Reader as reader
use Rattle.protox_grammar.specs.Reader.{Reader, Refusal, Unexpected, Deep, ◌>>=◌, fixed, seq}
use Rattle.protox_grammar.specs.Rules as r
use Rattle.protox_grammar.specs.Token as token
use Rattle.protox_grammar.proofs.Lemmas.{byte_place-le, err-ok, ok-err, ok_is, place-le}
use Rattle.protox_rows.specs.Expected.{allowed}
use Rattle.protox_rows.specs.declared.expected.Expected.TheVariants as expected
use Rattle.protox_rows.specs.inner.Words.{always}
use Rattle.protox_rows.proofs.Lemmas.{Exact, Took}

-- The rows of an aggregate with its `}`, where this many braces are open.
abbrev pub closed_at : ℕ → Reader Place (Rows Place × Place)
closed_at d = seq (r.balanced_at d) (fixed (Mark s.close_brace))

abbrev cons : Row Place → (Rows Place × Place) × Rows Place → Result ((Rows Place × Place) × Rows Place) Refusal
cons row x = Ok ((row ∷ x.0.0, x.0.1), x.1)

abbrev last : Rows Place × Rows Place → Result ((Rows Place × Place) × Rows Place) Refusal
last x = fixed (Mark s.close_brace) x.1 >>= λ y. Ok ((x.0, y.0), y.1)

-- What one row does: reading goes on with as many open braces, or the aggregate ends, or the row is
-- no token.
data Turn (d : ℕ) (row : Row Place) : Type 0 where
  on : (n : ℕ) → ((xs : Rows Place) → closed_at d (row ∷ xs) ≡ (closed_at n xs >>= cons row)) → Turn d row
  end : ((xs : Rows Place) → closed_at d (row ∷ xs) ≡ Ok (([], row.at), xs)) → Turn d row
  bar : ((xs : Rows Place) → closed_at d (row ∷ xs) ≡ Err (Unexpected (suc (length xs)))) → (k.is_significant row.shape ≡ false) → Turn d row

after-cons : (row : Row Place) (x : Rows Place × Rows Place) (v : Result (Place × Rows Place) Refusal) → (v >>= λ y. Ok ((row ∷ x.0, y.0), y.1)) ≡ ((v >>= λ y. Ok ((x.0, y.0), y.1)) >>= cons row)
after-cons row x (Ok y) = refl
after-cons row x (Err e) = refl

later : (row : Row Place) (v : Result (Rows Place × Rows Place) Refusal) → ((v >>= λ x. Ok (row ∷ x.0, x.1)) >>= last) ≡ ((v >>= last) >>= cons row)
later row (Ok x) = after-cons row x (fixed (Mark s.close_brace) x.1)
later row (Err e) = refl

close-is : (shape : Shape) → k.is_close_brace shape ≡ true → reader.is_token (Mark s.close_brace) shape ≡ true
close-is (Mark b) h = h
close-is _ h = absurd cc

turn-by : (d : ℕ) (row : Row Place) (a b c e : Bool) → k.is_open_brace row.shape ≡ a → k.is_close_brace row.shape ≡ b → eqb d 0 ≡ c → k.is_significant row.shape ≡ e → Turn d row
unfolding r.balanced_at fixed
turn-by d row true b c e p q z g = on (suc d) (λ xs. rw p (later row (r.balanced_at (suc d) xs)))
turn-by d row false true true e p q z g = end (λ xs. rw (p, q, z) (rw (close-is row.shape q) refl))
turn-by d row false true false e p q z g = on (d - 1) (λ xs. rw (p, q, z) (later row (r.balanced_at (d - 1) xs)))
turn-by d row false false c true p q z g = on d (λ xs. rw (p, q, g) (later row (r.balanced_at d xs)))
turn-by d row false false c false p q z g = bar (λ xs. rw (p, q, g) refl) g

turn : (d : ℕ) (row : Row Place) → Turn d row
turn d row = turn-by d row _ _ _ _ refl refl refl refl

ended : (d : ℕ) → closed_at d [] ≡ Err (Unexpected 0)
unfolding r.balanced_at
ended d = refl

-- ---- what is taken

took-cons : (n : ℕ) (row : Row Place) (v : Result ((Rows Place × Place) × Rows Place) Refusal) → Took n v → Took n (v >>= cons row)
took-cons n row (Ok x) t = t
took-cons n row (Err (Unexpected m)) t = t
took-cons n row (Err (Deep m)) t = t

took-more : (n m : ℕ) (v : Result ((Rows Place × Place) × Rows Place) Refusal) → n ≤ m → Took n v → Took m v
took-more n m (Ok x) l h = omega (arith, l, h)
took-more n m (Err (Unexpected k)) l h = omega (arith, l, h)
took-more n m (Err (Deep k)) l h = (h.0, omega (arith, l, h.1))

took : (d : ℕ) (xs : Rows Place) → Took (length xs) (closed_at d xs)
took d [] = subst (Took 0) (sym (ended d)) (omega arith)
took d (row ∷ xs) = elim (turn d row) [
  | on n e ↦ subst (Took (suc (length xs))) (sym (e xs)) (took-more (length xs) (suc (length xs)) (closed_at n xs >>= cons row) (omega arith) (took-cons (length xs) row (closed_at n xs) (took n xs)))
  | end e ↦ subst (Took (suc (length xs))) (sym (e xs)) (omega arith)
  | bar e g ↦ subst (Took (suc (length xs))) (sym (e xs)) (omega arith)
]

-- A token is taken.
token-taken : (d : ℕ) (row : Row Place) (zs : Rows Place) → k.is_significant row.shape ≡ true → Took (length zs) (closed_at d (row ∷ zs))
token-taken d row zs g = elim (turn d row) [
  | on n e ↦ subst (Took (length zs)) (sym (e zs)) (took-cons (length zs) row (closed_at n zs) (took n zs))
  | end e ↦ subst (Took (length zs)) (sym (e zs)) (omega arith)
  | bar e h ↦ let no : true ≡ false = sym g ∙ h in absurd cc
]

barred : (d : ℕ) (row : Row Place) (zs : Rows Place) → k.is_significant row.shape ≡ false → closed_at d (row ∷ zs) ≡ Err (Unexpected (suc (length zs)))
unfolding r.balanced_at
barred d row zs g = bar-by (k.is_open_brace row.shape) (k.is_close_brace row.shape) refl refl
  where
    bar-by : (a b : Bool) → k.is_open_brace row.shape ≡ a → k.is_close_brace row.shape ≡ b → closed_at d (row ∷ zs) ≡ Err (Unexpected (suc (length zs)))
    bar-by true b p q = absurd (no-mark row.shape p g)
      where
        no-mark : (shape : Shape) → k.is_open_brace shape ≡ true → k.is_significant shape ≡ false → ⊥
        no-mark (Mark b) p g = absurd cc
        no-mark _ p g = absurd cc
    bar-by false true p q = absurd (no-mark row.shape q g)
      where
        no-mark : (shape : Shape) → k.is_close_brace shape ≡ true → k.is_significant shape ≡ false → ⊥
        no-mark (Mark b) p g = absurd cc
        no-mark _ p g = absurd cc
    bar-by false false p q = rw (p, q, g) refl

-- ---- where it is refused

uncons-err : (row : Row Place) (v : Result ((Rows Place × Place) × Rows Place) Refusal) (n : ℕ) → (v >>= cons row) ≡ Err (Unexpected n) → v ≡ Err (Unexpected n)
uncons-err row (Ok x) n q = absurd (ok-err _ _ q)
uncons-err row (Err d) n q = q

abbrev failed : ℕ → Result ((Rows Place × Place) × Rows Place) Refusal
failed n = Err (Unexpected n)

longer : (ys t : Rows Place) → failed (suc (length (ys ++ t))) ≡ failed (length t) → ⊥
longer ys t q = let same : suc (length (ys ++ t)) ≡ length t = cc in omega (arith, same, length-append ys t)

inside : (ys : Rows Place) (d : ℕ) (t : Rows Place) → closed_at d (ys ++ t) ≡ Err (Unexpected (length t)) → (row : Row Place) (zs : Rows Place) → k.is_significant row.shape ≡ true → Took (length zs) (closed_at d (ys ++ (row ∷ zs)))
inside [] d t q row zs g = token-taken d row zs g
inside (y ∷ ys) d t q row zs g = elim (turn d y) [
  | on n e ↦ subst (Took (length zs)) (sym (e (ys ++ (row ∷ zs)))) (took-cons (length zs) y (closed_at n (ys ++ (row ∷ zs))) (inside ys n t (uncons-err y (closed_at n (ys ++ t)) (length t) (sym (e (ys ++ t)) ∙ q)) row zs g))
  | end e ↦ absurd (ok-err _ _ (sym (e (ys ++ t)) ∙ q))
  | bar e h ↦ absurd (longer ys t (sym (e (ys ++ t)) ∙ q))
]

-- ---- where it ends

uncons-ok : (row : Row Place) (v : Result ((Rows Place × Place) × Rows Place) Refusal) (x : (Rows Place × Place) × Rows Place) → (v >>= cons row) ≡ Ok x → (y : (Rows Place × Place) × Rows Place) × (v ≡ Ok y) × (((row ∷ y.0.0, y.0.1), y.1) ≡ x)
uncons-ok row (Ok y) x q = (y, refl, ok_is ((row ∷ y.0.0, y.0.1), y.1) x q)
uncons-ok row (Err d) x q = absurd (err-ok _ _ q)

rest : (d : ℕ) (xs : Rows Place) (x : (Rows Place × Place) × Rows Place) → closed_at d xs ≡ Ok x → (y : Row Place) × (ys : Rows Place) × (xs ≡ y ∷ (ys ++ x.1))
rest d [] x q = absurd (err-ok _ _ (sym (ended d) ∙ q))
rest d (row ∷ xs) x q = elim (turn d row) [
  | on n e ↦
      let u = uncons-ok row (closed_at n xs) x (sym (e xs) ∙ q) in
      let s = rest n xs u.0 u.1 in
      (row, s.0 ∷ s.1, ap (λ w. row ∷ w) s.2 ∙ ap (λ (w : (Rows Place × Place) × Rows Place). row ∷ (s.0 ∷ (s.1 ++ w.1))) u.2)
  | end e ↦ let is = ok_is (([], row.at), xs) x (sym (e xs) ∙ q) in (row, [], ap (λ (w : (Rows Place × Place) × Rows Place). row ∷ w.1) is)
  | bar e h ↦ absurd (err-ok _ _ (sym (e xs) ∙ q))
]

-- The rows behind the aggregate don't matter.
again : (ys : Rows Place) (d : ℕ) (t u : Rows Place) (x : Rows Place × Place) → closed_at d (ys ++ t) ≡ Ok (x, t) → closed_at d (ys ++ u) ≡ Ok (x, u)
again [] d t u x q = let s = rest d t (x, t) q in absurd (omega (arith, ap length s.2, length-append s.1 t))
again (y ∷ ys) d t u x q = elim (turn d y) [
  | on n e ↦
      let v = uncons-ok y (closed_at n (ys ++ t)) (x, t) (sym (e (ys ++ t)) ∙ q) in
      let w = again ys n t u v.0.0 (v.1 ∙ ap (λ (z : (Rows Place × Place) × Rows Place). Ok (v.0.0, z.1)) v.2) in
      e (ys ++ u) ∙ ap (λ z. z >>= cons y) w ∙ ap (λ (z : (Rows Place × Place) × Rows Place). Ok (z.0, u)) v.2
  | end e ↦
      let is = ok_is (([], y.at), ys ++ t) (x, t) (sym (e (ys ++ t)) ∙ q) in
      let none_left : ys ≡ [] = no_rows ys (omega (arith, ap (λ (z : (Rows Place × Place) × Rows Place). length z.1) is, length-append ys t)) in
      e (ys ++ u) ∙ ap (λ (z : (Rows Place × Place) × Rows Place). Ok (z.0, ys ++ u)) is ∙ ap (λ z. Ok (x, z ++ u)) none_left
  | bar e h ↦ absurd (err-ok _ _ (sym (e (ys ++ t)) ∙ q))
]
  where
    no_rows : (xs : Rows Place) → length xs ≡ 0 → xs ≡ []
    no_rows [] l = refl
    no_rows (x ∷ xs) l = absurd (omega (arith, l))

bound : (d : ℕ) (xs : Rows Place) (n : ℕ) → closed_at d xs ≡ Err (Unexpected n) → n ≤ length xs
bound d xs n q = subst (Took (length xs)) q (took d xs)

-- The tokens: what has a class of its own.
abbrev pub tokens : Set
tokens k = not (eqb k token.no_token)

significant-by : (shape : Shape) → k.is_significant shape ≡ tokens (class shape)
significant-by (Ident t) = sym (ap not (ne_eqb (place keywords t) 59 (λ h. omega (arith, h, place-le keywords t))))
significant-by (Mark b) = sym (ap not (ne_eqb (42 + byte_place marks b) 59 (λ h. omega (arith, h, byte_place-le marks b))))
significant-by _ = refl

close-significant : (shape : Shape) → only token.close_brace (class shape) ≡ true → k.is_significant shape ≡ true
close-significant shape h = significant-by shape ∙ ap not (ne_eqb (class shape) 59 (λ n. omega (arith, n, eqb-true (class shape) 48 h)))

pub closed_at-exact : (d : ℕ) → Exact (closed_at d) (always expected.RightBrace) expected.RightBrace tokens (λ x. none)
closed_at-exact d = record {
  begins = λ row zs h. token-taken d row zs (significant-by row.shape ∙ h);
  barred = λ row zs h. barred d row zs (significant-by row.shape ∙ h);
  empty = ended d;
  says = λ t q. refl;
  inside = λ y ys t q row zs. record { taken = λ h. inside (y ∷ ys) d t q row zs (close-significant row.shape h); refused = λ h. absurd (never (class row.shape) h) };
  ends = λ ys t x q row zs m. again ys d t (row ∷ zs) x q;
  goes_on = λ ys t x q row zs m. absurd cc;
  stays = λ ys v vs t u x q. again ys d (v ∷ (vs ++ t)) (v ∷ (vs ++ u)) x q;
  rest = rest d;
  bound = bound d;
  all = took d;
}
  where
    never : (n : ℕ) → allowed expected.RightBrace n ≡ false → ⊥
    never n h = by (only token.close_brace n) h
      where
        by : (b : Bool) → b || true ≡ false → ⊥
        by true h = absurd cc
        by false h = absurd cc
