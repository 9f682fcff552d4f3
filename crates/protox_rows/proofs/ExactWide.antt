-- Elements up to a token: a reader that tries each other token as an element refuses those with
-- which none begins. So it is exact, too.
use Rattle.std.proofs.Common.{◌≡◌, ◌≤◌, ℕ, zero, suc, Bool, true, false, cond, ◌||◌, List, [], ◌∷◌, ◌++◌, length, Result, Ok, Err, refl, sym, ap, subst, ◌∙◌, arith}
use Rattle.std.proofs.lemmas.List.{length-append}
use Rattle.protox_ast.specs.Places.{Place}
use Rattle.protox_lexeme.specs.Shapes.{Row, Rows}
use Rattle.protox_grammar.specs.Class.{Set, apart, class, in_set, none, union, within}
use Rattle.protox_grammar.specs.Reader as reader
use Rattle.protox_grammar.specs.Reader.{Reader, Refusal, ◌>>=◌, head_in, star}
use Rattle.protox_grammar.proofs.Lemmas.{apart-at, bind_ok, ok_is, star-turn, within-at}
use Rattle.protox_rows.specs.Expected.{named, allowed}
use Rattle.protox_rows.specs.declared.expected.Expected.{Expected}
use Rattle.protox_rows.specs.inner.Words.{Words, and_then, behind, times}
use Rattle.protox_rows.proofs.Exact.{Exact, Took}
use Rattle.protox_rows.proofs.ExactBefore.{closed-exact}
use Rattle.protox_rows.proofs.ExactLists.{eats, goes_on-all, last_more, taken}
use Rattle.protox_rows.proofs.ExactSequences.{reread, reworded}
use Rattle.protox_rows.proofs.Turns.{words-turn, words-done}

module _ {B : Type 0} {b : Reader Place B} {wb : Words} {e : Expected} {fb : Set} {mb : B → Set} (hb : Exact b wb e fb mb) (P : Set) (wide : within fb P ≡ true) where
  abbrev narrow : Reader Place (List B)
  narrow = star (in_set fb) b

  abbrev broad : Reader Place (List B)
  broad = star (in_set P) b

  -- A further element would be read here, but none begins so.
  abbrev pub cut : List B × Rows Place → Result (List B × Rows Place) Refusal
  cut x = cond (head_in (in_set P) x.1) (reader.refuse x.1) (Ok x)

  abbrev cons : B → List B × Rows Place → Result (List B × Rows Place) Refusal
  cons x y = Ok (x ∷ y.0, y.1)

  cut-cons : (x : B) (l : List B) (xs : Rows Place) (c : Bool) → ((cond c (reader.refuse xs) (Ok (l, xs))) >>= cons x) ≡ cond c (reader.refuse xs) (Ok (x ∷ l, xs))
  cut-cons x l xs true = refl
  cut-cons x l xs false = refl

  swap : (x : B) (r : Result (List B × Rows Place) Refusal) → ((r >>= cut) >>= cons x) ≡ ((r >>= cons x) >>= cut)
  swap x (Ok y) = cut-cons x y.0 y.1 (head_in (in_set P) y.1)
  swap x (Err d) = refl

  turns : (r : Result (B × Rows Place) Refusal) → ((x : B × Rows Place) → r ≡ Ok x → broad x.1 ≡ (narrow x.1 >>= cut)) → (r >>= λ x. broad x.1 >>= cons x.0) ≡ ((r >>= λ x. narrow x.1 >>= cons x.0) >>= cut)
  turns (Ok x) h = ap (λ v. v >>= cons x.0) (h x refl) ∙ swap x.0 (narrow x.1)
  turns (Err d) h = refl

  narrow-goes : (r : Row Place) (zs : Rows Place) → fb (class r.shape) ≡ true → narrow (r ∷ zs) ≡ (b (r ∷ zs) >>= λ x. narrow x.1 >>= cons x.0)
  narrow-goes r zs p = star-turn (in_set fb) b (eats hb) (r ∷ zs) ∙ ap (λ v. cond v (b (r ∷ zs) >>= λ x. narrow x.1 >>= cons x.0) (Ok ([], r ∷ zs))) p

  narrow-stops : (r : Row Place) (zs : Rows Place) → fb (class r.shape) ≡ false → narrow (r ∷ zs) ≡ Ok ([], r ∷ zs)
  narrow-stops r zs p = star-turn (in_set fb) b (eats hb) (r ∷ zs) ∙ ap (λ v. cond v (b (r ∷ zs) >>= λ x. narrow x.1 >>= cons x.0) (Ok ([], r ∷ zs))) p

  broad-goes : (r : Row Place) (zs : Rows Place) → P (class r.shape) ≡ true → broad (r ∷ zs) ≡ (b (r ∷ zs) >>= λ x. broad x.1 >>= cons x.0)
  broad-goes r zs p = star-turn (in_set P) b (eats hb) (r ∷ zs) ∙ ap (λ v. cond v (b (r ∷ zs) >>= λ x. broad x.1 >>= cons x.0) (Ok ([], r ∷ zs))) p

  broad-stops : (r : Row Place) (zs : Rows Place) → P (class r.shape) ≡ false → broad (r ∷ zs) ≡ Ok ([], r ∷ zs)
  broad-stops r zs p = star-turn (in_set P) b (eats hb) (r ∷ zs) ∙ ap (λ v. cond v (b (r ∷ zs) >>= λ x. broad x.1 >>= cons x.0) (Ok ([], r ∷ zs))) p

  -- None begins here.
  barred-at : (r : Row Place) (zs : Rows Place) (c : Bool) → P (class r.shape) ≡ c → fb (class r.shape) ≡ false → broad (r ∷ zs) ≡ cond c (reader.refuse (r ∷ zs)) (Ok ([], r ∷ zs))
  barred-at r zs true p q = broad-goes r zs p ∙ ap (λ v. v >>= λ x. broad x.1 >>= cons x.0) (hb.barred r zs q)
  barred-at r zs false p q = broad-stops r zs p

  is-cut-turn : (r : Row Place) (zs : Rows Place) (c : Bool) → fb (class r.shape) ≡ c → ((x : B × Rows Place) → b (r ∷ zs) ≡ Ok x → broad x.1 ≡ (narrow x.1 >>= cut)) → broad (r ∷ zs) ≡ (narrow (r ∷ zs) >>= cut)
  is-cut-turn r zs true p h = broad-goes r zs (within-at fb P wide r.shape p) ∙ turns (b (r ∷ zs)) h ∙ ap (λ v. v >>= cut) (sym (narrow-goes r zs p))
  is-cut-turn r zs false p h = barred-at r zs (P (class r.shape)) refl p ∙ ap (λ v. v >>= cut) (sym (narrow-stops r zs p))

  is-cut-by : (n : ℕ) (xs : Rows Place) → length xs ≤ n → broad xs ≡ (narrow xs >>= cut)
  is-cut-by n [] k = star-turn (in_set P) b (eats hb) [] ∙ ap (λ v. v >>= cut) (sym (star-turn (in_set fb) b (eats hb) []))
  is-cut-by zero (r ∷ zs) k = absurd (omega (arith, k))
  is-cut-by (suc n) (r ∷ zs) k = is-cut-turn r zs (fb (class r.shape)) refl (λ x q. let s = hb.rest (r ∷ zs) x q in is-cut-by n x.1 (omega (arith, k, ap length s.2, length-append s.1 x.1)))

  pub is-cut : (xs : Rows Place) → broad xs ≡ (narrow xs >>= cut)
  is-cut xs = is-cut-by (length xs) xs (omega arith)

  -- ---- the words are the same

  behind-same : (x : Expected) (f g : B → Words) (r : Result (B × Rows Place) Refusal) → ((v : B × Rows Place) → r ≡ Ok v → f v.0 v.1 ≡ g v.0 v.1) → behind x f r ≡ behind x g r
  behind-same x f g (Ok v) h = h v refl
  behind-same x f g (Err d) h = refl

  abbrev narrow_words : Words
  narrow_words = times (in_set fb) b wb

  abbrev broad_words : Words
  broad_words = times (in_set P) b wb

  barred-words : (r : Row Place) (zs : Rows Place) (c : Bool) → P (class r.shape) ≡ c → fb (class r.shape) ≡ false → broad_words (r ∷ zs) ≡ wb (r ∷ zs)
  barred-words r zs true p q = words-turn (in_set P) b wb (eats hb) (r ∷ zs) p ∙ ap (behind (wb (r ∷ zs)) (λ x. broad_words)) (hb.barred r zs q)
  barred-words r zs false p q = words-done (in_set P) b wb (eats hb) (r ∷ zs) p

  same-turn : (r : Row Place) (zs : Rows Place) (c : Bool) → fb (class r.shape) ≡ c → ((x : B × Rows Place) → b (r ∷ zs) ≡ Ok x → broad_words x.1 ≡ narrow_words x.1) → broad_words (r ∷ zs) ≡ narrow_words (r ∷ zs)
  same-turn r zs true p h =
      words-turn (in_set P) b wb (eats hb) (r ∷ zs) (within-at fb P wide r.shape p) ∙ behind-same (wb (r ∷ zs)) (λ x. broad_words) (λ x. narrow_words) (b (r ∷ zs)) h
      ∙ sym (words-turn (in_set fb) b wb (eats hb) (r ∷ zs) p)
  same-turn r zs false p h = barred-words r zs (P (class r.shape)) refl p ∙ sym (words-done (in_set fb) b wb (eats hb) (r ∷ zs) p)

  same-by : (n : ℕ) (xs : Rows Place) → length xs ≤ n → broad_words xs ≡ narrow_words xs
  same-by n [] k = words-done (in_set P) b wb (eats hb) [] refl ∙ sym (words-done (in_set fb) b wb (eats hb) [] refl)
  same-by zero (r ∷ zs) k = absurd (omega (arith, k))
  same-by (suc n) (r ∷ zs) k = same-turn r zs (fb (class r.shape)) refl (λ x q. let s = hb.rest (r ∷ zs) x q in same-by n x.1 (omega (arith, k, ap length s.2, length-append s.1 x.1)))

  pub same-words : (xs : Rows Place) → broad_words xs ≡ narrow_words xs
  same-words xs = same-by (length xs) xs (omega arith)

  -- Where the list ends, the words are those of one more element.
  at_end-turn : (r : Row Place) (zs : Rows Place) (x : List B × Rows Place) (c : Bool) → fb (class r.shape) ≡ c → ((v : B × Rows Place) → b (r ∷ zs) ≡ Ok v → (y : List B × Rows Place) → narrow v.1 ≡ Ok y → narrow_words v.1 ≡ wb y.1)
      → narrow (r ∷ zs) ≡ Ok x → narrow_words (r ∷ zs) ≡ wb x.1
  at_end-turn r zs x true p h q =
      let v = bind_ok (b (r ∷ zs)) (λ x. narrow x.1 >>= cons x.0) x (sym (narrow-goes r zs p) ∙ q) in
      let u = bind_ok (narrow v.0.1) (cons v.0.0) x v.2 in
      words-turn (in_set fb) b wb (eats hb) (r ∷ zs) p ∙ ap (behind (wb (r ∷ zs)) (λ x. narrow_words)) v.1 ∙ h v.0 v.1 u.0 u.1 ∙ ap (λ (w : List B × Rows Place). wb w.1) (ok_is (v.0.0 ∷ u.0.0, u.0.1) x u.2)
  at_end-turn r zs x false p h q = words-done (in_set fb) b wb (eats hb) (r ∷ zs) p ∙ ap (λ (w : List B × Rows Place). wb w.1) (ok_is ([], r ∷ zs) x (sym (narrow-stops r zs p) ∙ q))

  at_end-by : (n : ℕ) (xs : Rows Place) → length xs ≤ n → (x : List B × Rows Place) → narrow xs ≡ Ok x → narrow_words xs ≡ wb x.1
  at_end-by n [] k x q = words-done (in_set fb) b wb (eats hb) [] refl ∙ ap (λ (w : List B × Rows Place). wb w.1) (ok_is ([], []) x (sym (star-turn (in_set fb) b (eats hb) []) ∙ q))
  at_end-by zero (r ∷ zs) k x q = absurd (omega (arith, k))
  at_end-by (suc n) (r ∷ zs) k x q = at_end-turn r zs x (fb (class r.shape)) refl (λ v i y j. let s = hb.rest (r ∷ zs) v i in at_end-by n v.1 (omega (arith, k, ap length s.2, length-append s.1 v.1)) y j) q

  pub at_end-words : (xs : Rows Place) (x : List B × Rows Place) → narrow xs ≡ Ok x → narrow_words xs ≡ wb x.1
  at_end-words xs x q = at_end-by (length xs) xs (omega arith) x q

  -- The list doesn't end before a token with which an element begins.
  stopped-by : (n : ℕ) (xs : Rows Place) → length xs ≤ n → (l : List B) (r : Row Place) (zs : Rows Place) → narrow xs ≡ Ok (l, r ∷ zs) → fb (class r.shape) ≡ true → ⊥
  stopped-by n xs k l r zs q p = begun-after (taken hb xs (l, r ∷ zs) q).front (taken hb xs (l, r ∷ zs) q).rows_are
    where
      begun-after : (front : Rows Place) → xs ≡ front ++ (r ∷ zs) → ⊥
      begun-after front is =
          let one : narrow (front ++ (r ∷ zs)) ≡ Ok (l, r ∷ zs) = subst (λ w. narrow w ≡ Ok (l, r ∷ zs)) is q in
          let t = goes_on-all hb front (r ∷ zs) l one r zs (or-true (last_more mb l (class r.shape)) (fb (class r.shape)) p) in
          omega (arith, subst (Took (length zs)) one t)
        where
          or-true : (a b : Bool) → b ≡ true → a || b ≡ true
          or-true true b q = refl
          or-true false b q = q

  pub stopped : (xs : Rows Place) (l : List B) (r : Row Place) (zs : Rows Place) → narrow xs ≡ Ok (l, r ∷ zs) → fb (class r.shape) ≡ false
  stopped xs l r zs q = by (fb (class r.shape)) refl
    where
      by : (c : Bool) → fb (class r.shape) ≡ c → fb (class r.shape) ≡ false
      by true p = absurd (stopped-by (length xs) xs (omega arith) l r zs q p)
      by false p = p

-- Elements up to a token that closes them, where each other token is tried as an element.
module _ {B C : Type 0} {b : Reader Place B} {c : Reader Place C} {wb wc : Words} {e : Expected} {fb fc : Set} {mc : C → Set} (hb : Exact b wb e fb (λ y. none)) (hc : Exact c wc e fc mc)
    (low : within (named e) (union fb fc) ≡ true) (high : within (union fb fc) (allowed e) ≡ true) (P : Set) (wide : within fb P ≡ true) (closes : apart P fc ≡ true) where
  abbrev after : List B × Rows Place → Result ((List B × C) × Rows Place) Refusal
  after x = c x.1 >>= λ y. Ok ((x.0, y.0), y.1)

  cut-after : (l : List B) (xs : Rows Place) (d : Bool) → head_in (in_set P) xs ≡ d → (cond d (reader.refuse xs) (Ok (l, xs)) >>= after) ≡ after (l, xs)
  cut-after l [] true p = absurd cc
  cut-after l (r ∷ zs) true p = ap (λ v. v >>= λ y. Ok ((l, y.0), y.1)) (sym (hc.barred r zs (apart-at P fc closes r.shape p)))
  cut-after l xs false p = refl

  same : (r : Result (List B × Rows Place) Refusal) → ((r >>= cut hb P wide) >>= after) ≡ (r >>= after)
  same (Ok x) = cut-after x.0 x.1 (head_in (in_set P) x.1) refl
  same (Err d) = refl

  pub wide-exact : Exact (reader.seq (star (in_set P) b) c) (and_then (star (in_set P) b) (times (in_set P) b wb) (λ l. wc)) e (union fb fc) (λ x. mc x.1)
  wide-exact =
      reread (reader.seq (star (in_set P) b) c) (λ xs. sym (ap (λ v. v >>= after) (is-cut hb P wide xs) ∙ same (star (in_set fb) b xs)))
      (reworded (and_then (star (in_set P) b) (times (in_set P) b wb) (λ l. wc)) said (closed-exact hb hc low high))
    where
      said-cut : (xs : Rows Place) (l : List B) (ys : Rows Place) (d : Bool) → star (in_set fb) b xs ≡ Ok (l, ys) → head_in (in_set P) ys ≡ d → wc ys ≡ behind (times (in_set P) b wb xs) (λ l. wc) (cond d (reader.refuse ys) (Ok (l, ys)))
      said-cut xs l [] true q p = absurd cc
      said-cut xs l (r ∷ zs) true q p =
          hc.says (r ∷ zs) (hc.barred r zs (apart-at P fc closes r.shape p)) ∙ sym (hb.says (r ∷ zs) (hb.barred r zs (stopped hb P wide xs l r zs q)))
          ∙ sym (at_end-words hb P wide xs (l, r ∷ zs) q) ∙ sym (same-words hb P wide xs)
      said-cut xs l ys false q p = refl

      said-by : (xs : Rows Place) (r : Result (List B × Rows Place) Refusal) → star (in_set fb) b xs ≡ r → behind (times (in_set fb) b wb xs) (λ l. wc) r ≡ behind (times (in_set P) b wb xs) (λ l. wc) (r >>= cut hb P wide)
      said-by xs (Ok x) q = said-cut xs x.0 x.1 (head_in (in_set P) x.1) q refl
      said-by xs (Err d) q = sym (same-words hb P wide xs)

      said : (xs : Rows Place) → and_then (star (in_set fb) b) (times (in_set fb) b wb) (λ l. wc) xs ≡ and_then (star (in_set P) b) (times (in_set P) b wb) (λ l. wc) xs
      said xs = said-by xs (star (in_set fb) b xs) refl ∙ ap (behind (times (in_set P) b wb xs) (λ l. wc)) (sym (is-cut hb P wide xs))
