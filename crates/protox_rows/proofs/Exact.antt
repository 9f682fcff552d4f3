-- What a reader takes where it stops, compared with the words that are said there. A reader is
-- exact if the words name only tokens that it takes there, and it refuses all that they don't allow.
use Rattle.std.proofs.Common.{◌≡◌, ◌+◌, ◌≤◌, ◌<◌, ℕ, suc, Bool, true, false, ◌||◌, [], ◌∷◌, ◌++◌, length, Result, Ok, Err, refl, sym, ap, subst, ◌∙◌, append_assoc, arith, inl, inr}
use Rattle.std.proofs.lemmas.List.{length-append}
use Rattle.protox_ast.specs.Places.{Place}
use Rattle.protox_lexeme.specs.Shapes.{Row, Rows}
use Rattle.protox_grammar.specs.Class.{Set, class, none, union, within}
use Rattle.protox_grammar.specs.Reader as reader
use Rattle.protox_grammar.specs.Reader.{Reader, Refusal, Unexpected, Deep, ◌>>=◌}
use Rattle.protox_grammar.proofs.Lemmas.{bind_err, bind_ok, cut-same, err-ok, head-same, ok-err}
use Rattle.protox_grammar.proofs.Lemmas.{ok_is, or_false, within-at}
use Rattle.protox_rows.specs.Expected.{named, allowed}
use Rattle.protox_rows.specs.declared.expected.Expected.{Expected}
use Rattle.protox_rows.specs.inner.Words.{Words, always, and_then, behind}

-- At most n rows are left, where reading stops or ends.
abbrev pub Took : {X : Type 0} → ℕ → Result (X × Rows Place) Refusal → Type 0
Took n (Ok x) = length x.1 ≤ n
Took n (Err (Unexpected m)) = m ≤ n
Took n (Err (Deep m)) = (1 ≤ m) × (m ≤ suc n)

-- The words are exact of a row with n rows behind it: if they name it, it is taken; if they don't
-- allow it, it is refused.
pub record Fits {X : Type 0} (e : Expected) (r : Row Place) (n : ℕ) (read : Result (X × Rows Place) Refusal) : Type 0 where
  pub taken : named e (class r.shape) ≡ true → Took n read
  pub refused : allowed e (class r.shape) ≡ false → read ≡ Err (Unexpected (suc n))

-- The reader takes a row at least. `first` are the tokens that it begins with, `e` the words that
-- are said where another one stands, `more x` the tokens with which it would go on behind x.
pub record Exact {A : Type 0} (a : Reader Place A) (w : Words) (e : Expected) (first : Set) (more : A → Set) : Type 0 where
  pub begins : (r : Row Place) (zs : Rows Place) → first (class r.shape) ≡ true → Took (length zs) (a (r ∷ zs))
  pub barred : (r : Row Place) (zs : Rows Place) → first (class r.shape) ≡ false → a (r ∷ zs) ≡ Err (Unexpected (suc (length zs)))
  pub empty : a [] ≡ Err (Unexpected 0)
  pub says : (t : Rows Place) → a t ≡ Err (Unexpected (length t)) → w t ≡ e
  pub inside : (y : Row Place) (ys t : Rows Place) → a (y ∷ (ys ++ t)) ≡ Err (Unexpected (length t)) → (r : Row Place) (zs : Rows Place) → Fits (w (y ∷ (ys ++ t))) r (length zs) (a (y ∷ (ys ++ (r ∷ zs))))
  pub ends : (ys t : Rows Place) (x : A) → a (ys ++ t) ≡ Ok (x, t) → (r : Row Place) (zs : Rows Place) → more x (class r.shape) ≡ false → a (ys ++ (r ∷ zs)) ≡ Ok (x, r ∷ zs)
  pub goes_on : (ys t : Rows Place) (x : A) → a (ys ++ t) ≡ Ok (x, t) → (r : Row Place) (zs : Rows Place) → more x (class r.shape) ≡ true → Took (length zs) (a (ys ++ (r ∷ zs)))
  pub stays : (ys : Rows Place) (v : Row Place) (vs t u : Rows Place) (x : A) → a (ys ++ (v ∷ (vs ++ t))) ≡ Ok (x, v ∷ (vs ++ t)) → a (ys ++ (v ∷ (vs ++ u))) ≡ Ok (x, v ∷ (vs ++ u))
  pub rest : (xs : Rows Place) (x : A × Rows Place) → a xs ≡ Ok x → (y : Row Place) × (ys : Rows Place) × (xs ≡ y ∷ (ys ++ x.1))
  pub bound : (xs : Rows Place) (n : ℕ) → a xs ≡ Err (Unexpected n) → n ≤ length xs
  pub all : (xs : Rows Place) → Took (length xs) (a xs)

-- ---- rows in two parts

-- A tail that isn't longer than the rest is a tail of the rest.
pub record Parted (xs t us rest : Rows Place) : Type 0 where
  pub part : Rows Place
  pub rest_is : rest ≡ part ++ t
  pub front_is : xs ≡ us ++ part

pub parted : (xs t us rest : Rows Place) → xs ++ t ≡ us ++ rest → length t ≤ length rest → Parted xs t us rest
parted xs t [] rest e l = record { part = xs; rest_is = sym e; front_is = refl }
parted [] t (u ∷ us) rest e l = absurd (omega (arith, ap length e, length-append us rest, l))
parted (x ∷ xs) t (u ∷ us) rest e l =
    let h = head-same x u (xs ++ t) (us ++ rest) e in
    let p = parted xs t us rest h.1 l in
    record { part = p.part; rest_is = p.rest_is; front_is = ap (λ v. v ∷ xs) h.0 ∙ ap (λ v. u ∷ v) p.front_is }

pub longer : (y : Row Place) (ys t : Rows Place) → length t < length (y ∷ (ys ++ t))
longer y ys t = omega (arith, length-append ys t)

nil-of : (ys : Rows Place) → length ys ≡ 0 → ys ≡ []
nil-of [] l = refl
nil-of (y ∷ ys) l = absurd (omega (arith, l))

-- ---- refusals

abbrev failed : {X : Type 0} → Refusal → Result X Refusal
failed e = Err e

unexpected_is : {X : Type 0} (n m : ℕ) → failed {X = X} (Unexpected n) ≡ failed (Unexpected m) → n ≡ m
unexpected_is n m q = cc

-- ---- what was taken

pub took_more : {X : Type 0} (n m : ℕ) (read : Result (X × Rows Place) Refusal) → n ≤ m → Took n read → Took m read
took_more n m (Ok x) l h = omega (arith, l, h)
took_more n m (Err (Unexpected k)) l h = omega (arith, l, h)
took_more n m (Err (Deep k)) l h = (h.0, omega (arith, l, h.1))

module _ {A : Type 0} {a : Reader Place A} {w : Words} {e : Expected} {first : Set} {more : A → Set} (h : Exact a w e first more) where
  took_of : (xs : Rows Place) (read : Result (A × Rows Place) Refusal) → a xs ≡ read → Took (length xs) read
  took_of xs (Ok x) q = let p = h.rest xs x q in omega (arith, ap length p.2, length-append p.1 x.1)
  took_of xs (Err (Unexpected n)) q = h.bound xs n q
  took_of xs (Err (Deep n)) q = subst (Took (length xs)) q (h.all xs)

  -- What is read is taken from the rows.
  pub took : (xs : Rows Place) → Took (length xs) (a xs)
  took xs = took_of xs (a xs) refl

-- ---- one after another

module _ {A B : Type 0} {a : Reader Place A} {b : Reader Place B} {wa : Words} {wb : A → Words} {ea : Expected} {eb : A → Expected} {fa fb : Set} {ma : A → Set} {mb : B → Set}
    (ha : Exact a wa ea fa ma) (hb : (x : A) → Exact b (wb x) (eb x) fb mb)
    (low : (x : A) → within (named (eb x)) (union (ma x) fb) ≡ true) (high : (x : A) → within (union (ma x) fb) (allowed (eb x)) ≡ true) where
  abbrev after : A × Rows Place → Result ((A × B) × Rows Place) Refusal
  after x = b x.1 >>= λ y. Ok ((x.0, y.0), y.1)

  took_behind : (n : ℕ) (x : A × Rows Place) (read : Result (B × Rows Place) Refusal) → Took n read → Took {X = A × B} n (read >>= λ y. Ok ((x.0, y.0), y.1))
  took_behind n x (Ok y) t = t
  took_behind n x (Err (Unexpected m)) t = t
  took_behind n x (Err (Deep m)) t = t

  took_then : (n : ℕ) (read : Result (A × Rows Place) Refusal) → Took n read → Took n (read >>= after)
  took_then n (Ok x) t = took_behind n x (b x.1) (took_more (length x.1) n (b x.1) t (took (hb x.0) x.1))
  took_then n (Err (Unexpected m)) t = t
  took_then n (Err (Deep m)) t = t

  seq-begins : (r : Row Place) (zs : Rows Place) → fa (class r.shape) ≡ true → Took (length zs) (reader.seq a b (r ∷ zs))
  seq-begins r zs f = took_then (length zs) (a (r ∷ zs)) (ha.begins r zs f)

  seq-barred : (r : Row Place) (zs : Rows Place) → fa (class r.shape) ≡ false → reader.seq a b (r ∷ zs) ≡ Err (Unexpected (suc (length zs)))
  seq-barred r zs f = ap (λ v. v >>= after) (ha.barred r zs f)

  -- The first part ends where reading is refused: that is later than its own beginning.
  later : (t : Rows Place) (x : A × Rows Place) → a t ≡ Ok x → b x.1 ≡ Err (Unexpected (length t)) → ⊥
  later t x p q =
      let l = (hb x.0).bound x.1 (length t) q in
      let s = ha.rest t x p in
      omega (arith, l, ap length s.2, length-append s.1 x.1)

  seq-says : (t : Rows Place) → reader.seq a b t ≡ Err (Unexpected (length t)) → and_then a wa wb t ≡ ea
  seq-says t h = elim (bind_err (a t) after (Unexpected (length t)) h) [
    | inl p ↦ ap (behind (wa t) wb) p ∙ ha.says t p
    | inr p ↦ elim (bind_err (b p.0.1) (λ y. Ok ((p.0.0, y.0), y.1)) (Unexpected (length t)) p.2) [
      | inl q ↦ absurd (later t p.0 p.1 q)
      | inr q ↦ absurd (ok-err _ _ q.2)
    ]
  ]

  -- The second part is refused at its beginning.
  at_start : (x : A) (w : Expected) (r : Row Place) (ys t zs : Rows Place) → a (ys ++ t) ≡ Ok (x, t) → w ≡ eb x → Fits w r (length zs) (reader.seq a b (ys ++ (r ∷ zs)))
  at_start x w r ys t zs p e = record {
    taken = λ n. start-taken (ma x (class r.shape)) (fb (class r.shape)) refl refl (within-at (named (eb x)) (union (ma x) fb) (low x) r.shape (subst (λ v. named v (class r.shape) ≡ true) e n));
    refused = λ n.
        let out = not_at (within-at (union (ma x) fb) (allowed (eb x)) (high x) r.shape) (subst (λ v. allowed v (class r.shape) ≡ false) e n) in
        let no = or_false _ _ out in
        ap (λ v. v >>= after) (ha.ends ys t x p r zs no.0) ∙ ap (λ v. v >>= λ y. Ok ((x, y.0), y.1)) ((hb x).barred r zs no.1);
  }
    where
      not_at : {p q : Bool} → (p ≡ true → q ≡ true) → q ≡ false → p ≡ false
      not_at {p = true} i h = let s = sym h ∙ i refl in absurd cc
      not_at {p = false} i h = refl

      start-taken : (m f : Bool) → ma x (class r.shape) ≡ m → fb (class r.shape) ≡ f → m || f ≡ true → Took (length zs) (reader.seq a b (ys ++ (r ∷ zs)))
      start-taken true f i j o = took_then (length zs) (a (ys ++ (r ∷ zs))) (ha.goes_on ys t x p r zs i)
      start-taken false true i j o = subst (λ v. Took (length zs) (v >>= after)) (sym (ha.ends ys t x p r zs i)) (took_behind (length zs) (x, r ∷ zs) (b (r ∷ zs)) ((hb x).begins r zs j))
      start-taken false false i j o = absurd cc

  -- Or further on.
  further : (x : A) (r : Row Place) (ys : Rows Place) (v : Row Place) (vs t zs : Rows Place) → a (ys ++ (v ∷ (vs ++ t))) ≡ Ok (x, v ∷ (vs ++ t)) → b (v ∷ (vs ++ t)) ≡ Err (Unexpected (length t))
      → Fits (wb x (v ∷ (vs ++ t))) r (length zs) (reader.seq a b (ys ++ (v ∷ (vs ++ (r ∷ zs)))))
  further x r ys v vs t zs p q =
      let f = (hb x).inside v vs t q r zs in
      let s = ha.stays ys v vs t (r ∷ zs) x p in
      record {
        taken = λ n. subst (λ u. Took (length zs) (u >>= after)) (sym s) (took_behind (length zs) (x, v ∷ (vs ++ (r ∷ zs))) (b (v ∷ (vs ++ (r ∷ zs)))) (f.taken n));
        refused = λ n. ap (λ u. u >>= after) s ∙ ap (λ u. u >>= λ y. Ok ((x, y.0), y.1)) (f.refused n);
      }

  second : (x : A) (rest : Rows Place) (r : Row Place) (ys t zs : Rows Place) (part : Rows Place) → rest ≡ part ++ t → a (ys ++ rest) ≡ Ok (x, rest) → b rest ≡ Err (Unexpected (length t))
      → Fits (wb x rest) r (length zs) (reader.seq a b (ys ++ (part ++ (r ∷ zs))))
  second x rest r ys t zs [] e p q = at_start x (wb x rest) r ys t zs (subst (λ u. a (ys ++ u) ≡ Ok (x, u)) e p) (ap (wb x) e ∙ (hb x).says t (subst (λ u. b u ≡ Err (Unexpected (length t))) e q))
  second x rest r ys t zs (v ∷ vs) e p q =
      subst (λ u. Fits (wb x u) r (length zs) (reader.seq a b (ys ++ (v ∷ (vs ++ (r ∷ zs)))))) (sym e)
      (further x r ys v vs t zs (subst (λ u. a (ys ++ u) ≡ Ok (x, u)) e p) (subst (λ u. b u ≡ Err (Unexpected (length t))) e q))

  first-fits : (y : Row Place) (ys t : Rows Place) → a (y ∷ (ys ++ t)) ≡ Err (Unexpected (length t)) → (r : Row Place) (zs : Rows Place) → Fits (and_then a wa wb (y ∷ (ys ++ t))) r (length zs) (reader.seq a b (y ∷ (ys ++ (r ∷ zs))))
  first-fits y ys t p r zs =
      let f = ha.inside y ys t p r zs in
      subst (λ e. Fits e r (length zs) (reader.seq a b (y ∷ (ys ++ (r ∷ zs))))) (sym (ap (behind (wa (y ∷ (ys ++ t))) wb) p)) (record {
        taken = λ n. took_then (length zs) (a (y ∷ (ys ++ (r ∷ zs)))) (f.taken n);
        refused = λ n. ap (λ u. u >>= after) (f.refused n);
      })

  second-fits : (y : Row Place) (ys t : Rows Place) (x : A × Rows Place) → a (y ∷ (ys ++ t)) ≡ Ok x → b x.1 ≡ Err (Unexpected (length t)) → (r : Row Place) (zs : Rows Place) → Fits (and_then a wa wb (y ∷ (ys ++ t))) r (length zs) (reader.seq a b (y ∷ (ys ++ (r ∷ zs))))
  second-fits y ys t x p q r zs =
      let s = ha.rest (y ∷ (ys ++ t)) x p in
      let l = (hb x.0).bound x.1 (length t) q in
      let c = parted (y ∷ ys) t (s.0 ∷ s.1) x.1 s.2 l in
      let split : y ∷ (ys ++ t) ≡ (s.0 ∷ s.1) ++ x.1 = s.2 in
      let front : y ∷ (ys ++ (r ∷ zs)) ≡ (s.0 ∷ s.1) ++ (c.part ++ (r ∷ zs)) = ap (λ u. u ++ (r ∷ zs)) c.front_is ∙ append_assoc (s.0 ∷ s.1) c.part (r ∷ zs) in
      subst (λ e. Fits e r (length zs) (reader.seq a b (y ∷ (ys ++ (r ∷ zs))))) (sym (ap (behind (wa (y ∷ (ys ++ t))) wb) p))
      (subst (λ u. Fits (wb x.0 x.1) r (length zs) (reader.seq a b u)) (sym front)
      (second x.0 x.1 r (s.0 ∷ s.1) t zs c.part c.rest_is (subst (λ u. a u ≡ Ok x) split p) q))

  seq-inside : (y : Row Place) (ys t : Rows Place) → reader.seq a b (y ∷ (ys ++ t)) ≡ Err (Unexpected (length t)) → (r : Row Place) (zs : Rows Place) → Fits (and_then a wa wb (y ∷ (ys ++ t))) r (length zs) (reader.seq a b (y ∷ (ys ++ (r ∷ zs))))
  seq-inside y ys t h r zs = elim (bind_err (a (y ∷ (ys ++ t))) after (Unexpected (length t)) h) [
    | inl p ↦ first-fits y ys t p r zs
    | inr p ↦ elim (bind_err (b p.0.1) (λ y. Ok ((p.0.0, y.0), y.1)) (Unexpected (length t)) p.2) [
      | inl q ↦ second-fits y ys t p.0 p.1 q r zs
      | inr q ↦ absurd (ok-err _ _ q.2)
    ]
  ]

  -- Both were read: the rows of each.
  record Both (xs : Rows Place) (x : (A × B) × Rows Place) : Type 0 where
    front : Rows Place
    v : Row Place
    vs : Rows Place
    y : Row Place
    ys : Rows Place
    front_is : front ≡ y ∷ ys
    rows_are : xs ≡ front ++ (v ∷ (vs ++ x.1))
    one : a (front ++ (v ∷ (vs ++ x.1))) ≡ Ok (x.0.0, v ∷ (vs ++ x.1))
    two : b (v ∷ (vs ++ x.1)) ≡ Ok (x.0.1, x.1)

  both_of : (xs : Rows Place) (x : (A × B) × Rows Place) → reader.seq a b xs ≡ Ok x → Both xs x
  both_of xs x h =
      let p = bind_ok (a xs) after x h in
      let q = bind_ok (b p.0.1) (λ y. Ok ((p.0.0, y.0), y.1)) x p.2 in
      let s = ha.rest xs p.0 p.1 in
      let u = (hb p.0.0).rest p.0.1 q.0 q.1 in
      let is = ok_is ((p.0.0, q.0.0), q.0.1) x q.2 in
      subst (Both xs) is (record {
        front = s.0 ∷ s.1;
        v = u.0;
        vs = u.1;
        y = s.0;
        ys = s.1;
        front_is = refl;
        rows_are = s.2 ∙ ap (λ w. (s.0 ∷ s.1) ++ w) u.2;
        one = subst (λ w. a ((s.0 ∷ s.1) ++ w) ≡ Ok (p.0.0, w)) u.2 (subst (λ w. a w ≡ Ok p.0) s.2 p.1);
        two = subst (λ w. b w ≡ Ok q.0) u.2 q.1;
      })

  seq-rest : (xs : Rows Place) (x : (A × B) × Rows Place) → reader.seq a b xs ≡ Ok x → (y : Row Place) × (ys : Rows Place) × (xs ≡ y ∷ (ys ++ x.1))
  seq-rest xs x h =
      let k = both_of xs x h in
      (k.y, k.ys ++ (k.v ∷ k.vs), k.rows_are ∙ ap (λ w. w ++ (k.v ∷ (k.vs ++ x.1))) k.front_is ∙ ap (λ w. k.y ∷ w) (sym (append_assoc k.ys (k.v ∷ k.vs) x.1)))

  seq-bound : (xs : Rows Place) (n : ℕ) → reader.seq a b xs ≡ Err (Unexpected n) → n ≤ length xs
  seq-bound xs n h = elim (bind_err (a xs) after (Unexpected n) h) [
    | inl p ↦ ha.bound xs n p
    | inr p ↦ elim (bind_err (b p.0.1) (λ y. Ok ((p.0.0, y.0), y.1)) (Unexpected n) p.2) [
      | inl q ↦ let s = ha.rest xs p.0 p.1 in omega (arith, (hb p.0.0).bound p.0.1 n q, ap length s.2, length-append s.1 p.0.1)
      | inr q ↦ absurd (ok-err _ _ q.2)
    ]
  ]

  -- What stands behind both may be replaced.
  replaced : (ys t u : Rows Place) (x : A × B) → (k : Both (ys ++ t) (x, t)) → (z : Result (B × Rows Place) Refusal) → b (k.v ∷ (k.vs ++ u)) ≡ z → reader.seq a b (ys ++ u) ≡ (z >>= λ y. Ok ((x.0, y.0), y.1))
  replaced ys t u x k z e =
      let same : (ys ≡ k.front ++ (k.v ∷ k.vs)) × (t ≡ t) = cut-same ys (k.front ++ (k.v ∷ k.vs)) t t (k.rows_are ∙ sym (append_assoc k.front (k.v ∷ k.vs) t)) refl in
      ap (λ w. reader.seq a b (w ++ u)) same.0 ∙ ap (λ w. reader.seq a b w) (append_assoc k.front (k.v ∷ k.vs) u)
      ∙ ap (λ w. w >>= after) (ha.stays k.front k.v k.vs t u x.0 k.one) ∙ ap (λ w. w >>= λ y. Ok ((x.0, y.0), y.1)) e

  seq-ends : (ys t : Rows Place) (x : A × B) → reader.seq a b (ys ++ t) ≡ Ok (x, t) → (r : Row Place) (zs : Rows Place) → mb x.1 (class r.shape) ≡ false → reader.seq a b (ys ++ (r ∷ zs)) ≡ Ok (x, r ∷ zs)
  seq-ends ys t x h r zs m = let k = both_of (ys ++ t) (x, t) h in replaced ys t (r ∷ zs) x k (Ok (x.1, r ∷ zs)) ((hb x.0).ends (k.v ∷ k.vs) t x.1 k.two r zs m)

  seq-goes_on : (ys t : Rows Place) (x : A × B) → reader.seq a b (ys ++ t) ≡ Ok (x, t) → (r : Row Place) (zs : Rows Place) → mb x.1 (class r.shape) ≡ true → Took (length zs) (reader.seq a b (ys ++ (r ∷ zs)))
  seq-goes_on ys t x h r zs m =
      let k = both_of (ys ++ t) (x, t) h in
      subst (Took (length zs)) (sym (replaced ys t (r ∷ zs) x k (b (k.v ∷ (k.vs ++ (r ∷ zs)))) refl))
      (took_behind (length zs) (x.0, k.v ∷ (k.vs ++ (r ∷ zs))) (b (k.v ∷ (k.vs ++ (r ∷ zs)))) ((hb x.0).goes_on (k.v ∷ k.vs) t x.1 k.two r zs m))

  -- The second part may end before the tail that is replaced.
  seq-stays : (ys : Rows Place) (v : Row Place) (vs t u : Rows Place) (x : A × B) → reader.seq a b (ys ++ (v ∷ (vs ++ t))) ≡ Ok (x, v ∷ (vs ++ t)) → reader.seq a b (ys ++ (v ∷ (vs ++ u))) ≡ Ok (x, v ∷ (vs ++ u))
  seq-stays ys v vs t u x h =
      let k = both_of (ys ++ (v ∷ (vs ++ t))) (x, v ∷ (vs ++ t)) h in
      let same : (ys ≡ k.front ++ (k.v ∷ k.vs)) × (v ∷ (vs ++ t) ≡ v ∷ (vs ++ t)) =
      cut-same ys (k.front ++ (k.v ∷ k.vs)) (v ∷ (vs ++ t)) (v ∷ (vs ++ t)) (k.rows_are ∙ sym (append_assoc k.front (k.v ∷ k.vs) (v ∷ (vs ++ t)))) refl in
      let assoc : (w : Rows Place) → k.v ∷ (k.vs ++ (v ∷ (vs ++ w))) ≡ k.v ∷ ((k.vs ++ (v ∷ vs)) ++ w) = λ w. ap (λ z. k.v ∷ z) (sym (append_assoc k.vs (v ∷ vs) w)) in
      let one : a (k.front ++ (k.v ∷ ((k.vs ++ (v ∷ vs)) ++ t))) ≡ Ok (x.0, k.v ∷ ((k.vs ++ (v ∷ vs)) ++ t)) = subst (λ w. a (k.front ++ w) ≡ Ok (x.0, w)) (assoc t) k.one in
      let first : a (k.front ++ (k.v ∷ (k.vs ++ (v ∷ (vs ++ u))))) ≡ Ok (x.0, k.v ∷ (k.vs ++ (v ∷ (vs ++ u)))) = subst (λ w. a (k.front ++ w) ≡ Ok (x.0, w)) (sym (assoc u)) (ha.stays k.front k.v (k.vs ++ (v ∷ vs)) t u x.0 one) in
      let two : b ((k.v ∷ k.vs) ++ (v ∷ (vs ++ u))) ≡ Ok (x.1, v ∷ (vs ++ u)) = (hb x.0).stays (k.v ∷ k.vs) v vs t u x.1 k.two in
      ap (λ w. reader.seq a b (w ++ (v ∷ (vs ++ u)))) same.0 ∙ ap (λ w. reader.seq a b w) (append_assoc k.front (k.v ∷ k.vs) (v ∷ (vs ++ u)))
      ∙ ap (λ w. w >>= after) first ∙ ap (λ w. w >>= λ y. Ok ((x.0, y.0), y.1)) two

  -- Two readers one after another are exact, if the words at the second's beginning are.
  pub seq-exact : Exact (reader.seq a b) (and_then a wa wb) ea fa (λ x. mb x.1)
  seq-exact = record {
    begins = seq-begins;
    barred = seq-barred;
    empty = ap (λ v. v >>= after) ha.empty;
    says = seq-says;
    inside = seq-inside;
    ends = seq-ends;
    goes_on = seq-goes_on;
    stays = seq-stays;
    rest = seq-rest;
    bound = seq-bound;
    all = λ xs. took_then (length xs) (a xs) (ha.all xs);
  }

-- ---- under another name

abbrev pub under : {A B : Type 0} → (A → B) → A × Rows Place → Result (B × Rows Place) Refusal
under f x = Ok (f x.0, x.1)

module _ {A B : Type 0} {a : Reader Place A} {w : Words} {e : Expected} {first : Set} {more : A → Set} (next : B → Set) (f : A → B) (same : (x : A) → more x ≡ next (f x)) (h : Exact a w e first more) where
  took_renamed : (n : ℕ) (read : Result (A × Rows Place) Refusal) → Took n read → Took n (read >>= under f)
  took_renamed n (Ok x) t = t
  took_renamed n (Err (Unexpected m)) t = t
  took_renamed n (Err (Deep m)) t = t

  refused_before : (n : ℕ) (read : Result (A × Rows Place) Refusal) → (read >>= under f) ≡ Err (Unexpected n) → read ≡ Err (Unexpected n)
  refused_before n (Ok x) q = absurd (ok-err _ _ q)
  refused_before n (Err d) q = refused-again d (Unexpected n) q
    where
      refused-again : (c d : Refusal) → failed {X = B × Rows Place} c ≡ failed d → failed {X = A × Rows Place} c ≡ failed d
      refused-again c d q = cc

  read_before : (read : Result (A × Rows Place) Refusal) (x : B × Rows Place) → (read >>= under f) ≡ Ok x → (v : A) × (read ≡ Ok (v, x.1)) × (x.0 ≡ f v)
  read_before (Ok v) x q = let s = ok_is (f v.0, v.1) x q in (v.0, ap (λ (u : B × Rows Place). Ok (v.0, u.1)) s, ap (λ (u : B × Rows Place). u.0) (sym s))
  read_before (Err d) x q = absurd (err-ok _ _ q)

  pub mapped-exact : Exact (reader.mapped f a) w e first next
  mapped-exact = record {
    begins = λ r zs k. took_renamed (length zs) (a (r ∷ zs)) (h.begins r zs k);
    barred = λ r zs k. ap (λ v. v >>= under f) (h.barred r zs k);
    empty = ap (λ v. v >>= under f) h.empty;
    says = λ t q. h.says t (refused_before (length t) (a t) q);
    inside = λ y ys t q r zs.
        let k = h.inside y ys t (refused_before (length t) (a (y ∷ (ys ++ t))) q) r zs in
        record { taken = λ n. took_renamed (length zs) (a (y ∷ (ys ++ (r ∷ zs)))) (k.taken n); refused = λ n. ap (λ v. v >>= under f) (k.refused n) };
    ends = λ ys t x q r zs m.
        let v = read_before (a (ys ++ t)) (x, t) q in
        ap (λ u. u >>= under f) (h.ends ys t v.0 v.1 r zs (ap (λ (s : Set). s (class r.shape)) (same v.0 ∙ ap next (sym v.2)) ∙ m)) ∙ ap (λ u. Ok (u, r ∷ zs)) (sym v.2);
    goes_on = λ ys t x q r zs m.
        let v = read_before (a (ys ++ t)) (x, t) q in
        took_renamed (length zs) (a (ys ++ (r ∷ zs))) (h.goes_on ys t v.0 v.1 r zs (ap (λ (s : Set). s (class r.shape)) (same v.0 ∙ ap next (sym v.2)) ∙ m));
    stays = λ ys y vs t u x q.
        let v = read_before (a (ys ++ (y ∷ (vs ++ t)))) (x, y ∷ (vs ++ t)) q in
        ap (λ u. u >>= under f) (h.stays ys y vs t u v.0 v.1) ∙ ap (λ s. Ok (s, y ∷ (vs ++ u))) (sym v.2);
    rest = λ xs x q. let v = read_before (a xs) x q in h.rest xs (v.0, x.1) v.1;
    bound = λ xs n q. h.bound xs n (refused_before n (a xs) q);
    all = λ xs. took_renamed (length xs) (a xs) (h.all xs);
  }

-- ---- single rows

-- A reader of one row, by the set of the tokens that it takes.
module _ {A : Type 0} (a : Reader Place A) (e : Expected) (first : Set) (empty : a [] ≡ Err (Unexpected 0)) (takes : (r : Row Place) (zs : Rows Place) → first (class r.shape) ≡ true → (x : A) × ((zs : Rows Place) → a (r ∷ zs) ≡ Ok (x, zs)))
    (bars : (r : Row Place) (zs : Rows Place) → first (class r.shape) ≡ false → a (r ∷ zs) ≡ Err (Unexpected (suc (length zs)))) where
  abbrev taken_of : Row Place → Bool → Type 0
  taken_of r true = (x : A) × ((zs : Rows Place) → a (r ∷ zs) ≡ Ok (x, zs))
  taken_of r false = (zs : Rows Place) → a (r ∷ zs) ≡ Err (Unexpected (suc (length zs)))

  row_is : (r : Row Place) (b : Bool) → first (class r.shape) ≡ b → taken_of r b
  row_is r true q = takes r [] q
  row_is r false q = λ zs. bars r zs q

  -- what a row gives, without its tail
  read_one : (r : Row Place) (b : Bool) → taken_of r b → (zs : Rows Place) (x : A × Rows Place) → a (r ∷ zs) ≡ Ok x → (x.1 ≡ zs) × ((us : Rows Place) → a (r ∷ us) ≡ Ok (x.0, us))
  read_one r true k zs x q = let s = ok_is (k.0, zs) x (sym (k.1 zs) ∙ q) in (ap (λ (u : A × Rows Place). u.1) (sym s), λ us. k.1 us ∙ ap (λ (u : A × Rows Place). Ok (u.0, us)) s)
  read_one r false k zs x q = absurd (err-ok _ _ (sym (k zs) ∙ q))

  one : (r : Row Place) (zs : Rows Place) (x : A × Rows Place) → a (r ∷ zs) ≡ Ok x → (x.1 ≡ zs) × ((us : Rows Place) → a (r ∷ us) ≡ Ok (x.0, us))
  one r zs x q = read_one r (first (class r.shape)) (row_is r (first (class r.shape)) refl) zs x q

  never : (x : A) (t : Rows Place) → a [] ≡ Ok (x, t) → ⊥
  never x t q = err-ok _ _ (sym empty ∙ q)

  refused_one : (r : Row Place) (b : Bool) → taken_of r b → (zs : Rows Place) (n : ℕ) → a (r ∷ zs) ≡ Err (Unexpected n) → n ≡ suc (length zs)
  refused_one r true k zs n q = absurd (ok-err _ _ (sym (k.1 zs) ∙ q))
  refused_one r false k zs n q = is_same (suc (length zs)) n (sym (k zs) ∙ q)
    where
      is_same : (n m : ℕ) → failed {X = A × Rows Place} (Unexpected n) ≡ failed (Unexpected m) → m ≡ n
      is_same n m q = sym (unexpected_is n m q)

  refused_at : (r : Row Place) (zs : Rows Place) (n : ℕ) → a (r ∷ zs) ≡ Err (Unexpected n) → n ≡ suc (length zs)
  refused_at r zs n q = refused_one r (first (class r.shape)) (row_is r (first (class r.shape)) refl) zs n q

  none_behind : (r : Row Place) (ys t : Rows Place) (x : A) → a (r ∷ (ys ++ t)) ≡ Ok (x, t) → (us : Rows Place) → (ys ≡ []) × (a (r ∷ us) ≡ Ok (x, us))
  none_behind r ys t x q us =
      let k = one r (ys ++ t) (x, t) q in
      let l : length t ≡ length ys + length t = ap length k.0 ∙ length-append ys t in
      (nil-of ys (omega (arith, l)), k.1 us)

  ends_one : (ys t : Rows Place) (x : A) → a (ys ++ t) ≡ Ok (x, t) → (us : Rows Place) → a (ys ++ us) ≡ Ok (x, us)
  ends_one [] t x q us = absurd (none_first t x q)
    where
      none_first : (t : Rows Place) (x : A) → a t ≡ Ok (x, t) → ⊥
      none_first [] x q = never x [] q
      none_first (r ∷ rs) x q = omega (arith, ap length (one r rs (x, r ∷ rs) q).0)
  ends_one (r ∷ ys) t x q us = let k = none_behind r ys t x q us in subst (λ v. a (r ∷ (v ++ us)) ≡ Ok (x, us)) (sym k.0) k.1

  rest_one : (xs : Rows Place) (x : A × Rows Place) → a xs ≡ Ok x → (y : Row Place) × (ys : Rows Place) × (xs ≡ y ∷ (ys ++ x.1))
  rest_one [] x q = absurd (never x.0 x.1 q)
  rest_one (r ∷ rs) x q = (r, [], ap (λ v. r ∷ v) (sym (one r rs x q).0))

  bound_one : (xs : Rows Place) (n : ℕ) → a xs ≡ Err (Unexpected n) → n ≤ length xs
  bound_one [] n q = let s = unexpected_is 0 n (sym empty ∙ q) in omega (arith, s)
  bound_one (r ∷ rs) n q = omega (arith, refused_at r rs n q)

  all_row : (r : Row Place) (zs : Rows Place) (b : Bool) → taken_of r b → Took (length (r ∷ zs)) (a (r ∷ zs))
  all_row r zs true k = subst (Took (length (r ∷ zs))) (sym (k.1 zs)) (omega arith)
  all_row r zs false k = subst (Took (length (r ∷ zs))) (sym (k zs)) (omega arith)

  all_one : (xs : Rows Place) → Took (length xs) (a xs)
  all_one [] = subst (Took 0) (sym empty) (omega arith)
  all_one (r ∷ zs) = all_row r zs (first (class r.shape)) (row_is r (first (class r.shape)) refl)

  pub row-exact : Exact a (always e) e first (λ x. none)
  row-exact = record {
    begins = λ r zs k. let v = takes r zs k in subst (Took (length zs)) (sym (v.1 zs)) (omega arith);
    barred = bars;
    empty = empty;
    says = λ t q. refl;
    inside = λ y ys t q r zs. absurd (omega (arith, refused_at y (ys ++ t) (length t) q, length-append ys t));
    ends = λ ys t x q r zs m. ends_one ys t x q (r ∷ zs);
    goes_on = λ ys t x q r zs m. absurd cc;
    stays = λ ys v vs t u x q. stay ys (v ∷ (vs ++ t)) (v ∷ (vs ++ u)) x q;
    rest = rest_one;
    bound = bound_one;
    all = all_one;
  }
    where
      stay : (ys t u : Rows Place) (x : A) → a (ys ++ t) ≡ Ok (x, t) → a (ys ++ u) ≡ Ok (x, u)
      stay ys t u x q = ends_one ys t x q u
