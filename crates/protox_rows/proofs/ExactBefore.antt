-- Elements up to the token that closes them: exact if the elements are.
use Rattle.std.proofs.Common.{◌≡◌, ◌≤◌, ℕ, suc, Bool, true, false, ◌||◌, List, [], ◌∷◌, ◌++◌, length, Result, Ok, Err, refl, sym, ap, subst, ◌∙◌, append_assoc, arith, inl, inr}
use Rattle.std.proofs.lemmas.List.{length-append}
use Rattle.protox_ast.specs.Places.{Place}
use Rattle.protox_lexeme.specs.Shapes.{Row, Rows}
use Rattle.protox_grammar.specs.Class.{Set, class, in_set, none, union, within}
use Rattle.protox_grammar.specs.Reader as reader
use Rattle.protox_grammar.specs.Reader.{Reader, Refusal, Unexpected, Deep, ◌>>=◌, star}
use Rattle.protox_grammar.proofs.Lemmas.{bind_err, bind_ok, cut-same, ok-err, ok_is, or_false}
use Rattle.protox_grammar.proofs.Lemmas.{star-turn, within-at}
use Rattle.protox_rows.specs.Expected.{named, allowed}
use Rattle.protox_rows.specs.declared.expected.Expected.{Expected}
use Rattle.protox_rows.specs.inner.Words.{Words, and_then, behind, times}
use Rattle.protox_rows.proofs.Exact.{Exact, Fits, Took, parted, took, took_more}
use Rattle.protox_rows.proofs.ExactLists.{begun, bound, eats, ends-all, goes_on-all, inside-all, last_more, stays-all, taken, took-all}

no_rows : (xs : Rows Place) → length xs ≡ 0 → xs ≡ []
no_rows [] l = refl
no_rows (x ∷ xs) l = absurd (omega (arith, l))

-- No part goes on behind its end.
pub none-last : {B : Type 0} (l : List B) (k : ℕ) → last_more (λ (y : B). none) l k ≡ false
none-last [] k = refl
none-last (y ∷ []) k = refl
none-last (y ∷ z ∷ zs) k = none-last (z ∷ zs) k

module _ {B C : Type 0} {b : Reader Place B} {c : Reader Place C} {wb wc : Words} {e : Expected} {fb fc : Set} {mc : C → Set} (hb : Exact b wb e fb (λ y. none)) (hc : Exact c wc e fc mc)
    (low : within (named e) (union fb fc) ≡ true) (high : within (union fb fc) (allowed e) ≡ true) where
  abbrev all : Reader Place (List B)
  all = star (in_set fb) b

  abbrev words : Words
  words = and_then all (times (in_set fb) b wb) (λ l. wc)

  abbrev after : List B × Rows Place → Result ((List B × C) × Rows Place) Refusal
  after x = c x.1 >>= λ y. Ok ((x.0, y.0), y.1)

  abbrev closed : Reader Place (List B × C)
  closed = reader.seq all c

  took_behind : (n : ℕ) (x : List B) (read : Result (C × Rows Place) Refusal) → Took n read → Took {X = List B × C} n (read >>= λ y. Ok ((x, y.0), y.1))
  took_behind n x (Ok y) t = t
  took_behind n x (Err (Unexpected m)) t = t
  took_behind n x (Err (Deep m)) t = t

  took_then : (n : ℕ) (read : Result (List B × Rows Place) Refusal) → Took n read → Took n (read >>= after)
  took_then n (Ok x) t = took_behind n x.0 (c x.1) (took_more (length x.1) n (c x.1) t (took hc x.1))
  took_then n (Err (Unexpected m)) t = t
  took_then n (Err (Deep m)) t = t

  none_first : (t : Rows Place) → all t ≡ Ok ([], t) → (r : Row Place) (zs : Rows Place) → fb (class r.shape) ≡ false → all (r ∷ zs) ≡ Ok ([], r ∷ zs)
  none_first t q r zs p = ends-all hb [] t [] q r zs p refl

  at_end : all [] ≡ Ok ([], [])
  at_end = star-turn (in_set fb) b (eats hb) []

  begins-by : (r : Row Place) (zs : Rows Place) (m : Bool) → fb (class r.shape) ≡ m → m || fc (class r.shape) ≡ true → Took (length zs) (closed (r ∷ zs))
  begins-by r zs true p k = took_then (length zs) (all (r ∷ zs)) (goes_on-all hb [] [] [] at_end r zs p)
  begins-by r zs false p k = subst (λ w. Took (length zs) (w >>= after)) (sym (none_first [] at_end r zs p)) (took_behind (length zs) [] (c (r ∷ zs)) (hc.begins r zs k))

  barred : (r : Row Place) (zs : Rows Place) → union fb fc (class r.shape) ≡ false → closed (r ∷ zs) ≡ Err (Unexpected (suc (length zs)))
  barred r zs k = let no = or_false (fb (class r.shape)) (fc (class r.shape)) k in ap (λ w. w >>= after) (none_first [] at_end r zs no.0) ∙ ap (λ w. w >>= λ y. Ok (([], y.0), y.1)) (hc.barred r zs no.1)

  -- What follows an empty list begins where the list does.
  says : (t : Rows Place) → closed t ≡ Err (Unexpected (length t)) → words t ≡ e
  says t h = elim (bind_err (all t) after (Unexpected (length t)) h) [
    | inl p ↦ absurd (begun hb t p)
    | inr p ↦ elim (bind_err (c p.0.1) (λ y. Ok ((p.0.0, y.0), y.1)) (Unexpected (length t)) p.2) [
      | inl q ↦
          let k = taken hb t p.0 p.1 in
          let none_taken : k.front ≡ [] = no_rows k.front (omega (arith, ap length k.rows_are, length-append k.front p.0.1, hc.bound p.0.1 (length t) q)) in
          let same : t ≡ p.0.1 = k.rows_are ∙ ap (λ w. w ++ p.0.1) none_taken in
          ap (behind (times (in_set fb) b wb t) (λ l. wc)) p.1 ∙ hc.says p.0.1 (q ∙ ap (λ w. Err (Unexpected (length w))) same)
      | inr q ↦ absurd (ok-err _ _ q.2)
    ]
  ]

  -- The closing part is refused at its beginning, behind elements.
  at_close : (ys t : Rows Place) (l : List B) → all (ys ++ t) ≡ Ok (l, t) → (w : Expected) → w ≡ e → (r : Row Place) (zs : Rows Place) → Fits w r (length zs) (closed (ys ++ (r ∷ zs)))
  at_close ys t l q w is r zs = record {
    taken = λ n. close-taken (fb (class r.shape)) (fc (class r.shape)) refl refl (within-at (named e) (union fb fc) low r.shape (subst (λ v. named v (class r.shape) ≡ true) is n));
    refused = λ n.
        let no = or_false (fb (class r.shape)) (fc (class r.shape)) (not_at (within-at (union fb fc) (allowed e) high r.shape) (subst (λ v. allowed v (class r.shape) ≡ false) is n)) in
        ap (λ v. v >>= after) (ends-all hb ys t l q r zs no.0 (none-last l (class r.shape))) ∙ ap (λ v. v >>= λ y. Ok ((l, y.0), y.1)) (hc.barred r zs no.1);
  }
    where
      not_at : {p q : Bool} → (p ≡ true → q ≡ true) → q ≡ false → p ≡ false
      not_at {p = true} i h = let s = sym h ∙ i refl in absurd cc
      not_at {p = false} i h = refl

      close-taken : (m f : Bool) → fb (class r.shape) ≡ m → fc (class r.shape) ≡ f → m || f ≡ true → Took (length zs) (closed (ys ++ (r ∷ zs)))
      close-taken true f i j o = took_then (length zs) (all (ys ++ (r ∷ zs))) (goes_on-all hb ys t l q r zs (ap (λ v. v || fb (class r.shape)) (none-last l (class r.shape)) ∙ i))
      close-taken false true i j o = subst (λ v. Took (length zs) (v >>= after)) (sym (ends-all hb ys t l q r zs i (none-last l (class r.shape)))) (took_behind (length zs) l (c (r ∷ zs)) (hc.begins r zs j))
      close-taken false false i j o = absurd cc

  second : (part us t rest : Rows Place) (l : List B) → rest ≡ part ++ t → all (us ++ rest) ≡ Ok (l, rest) → c rest ≡ Err (Unexpected (length t)) → (r : Row Place) (zs : Rows Place) → Fits (wc rest) r (length zs) (closed (us ++ (part ++ (r ∷ zs))))
  second [] us t rest l is one q r zs =
      at_close us t l (subst (λ w. all (us ++ w) ≡ Ok (l, w)) is one) (wc rest) (ap wc is ∙ hc.says t (subst (λ w. c w ≡ Err (Unexpected (length t))) is q)) r zs
  second (v ∷ vs) us t rest l is one q r zs =
      let stay = stays-all hb us v vs t (r ∷ zs) l (subst (λ w. all (us ++ w) ≡ Ok (l, w)) is one) in
      let f = hc.inside v vs t (subst (λ w. c w ≡ Err (Unexpected (length t))) is q) r zs in
      subst (λ w. Fits (wc w) r (length zs) (closed (us ++ (v ∷ (vs ++ (r ∷ zs)))))) (sym is)
      (record {
        taken = λ h. subst (λ w. Took (length zs) (w >>= after)) (sym stay) (took_behind (length zs) l (c (v ∷ (vs ++ (r ∷ zs)))) (f.taken h));
        refused = λ h. ap (λ w. w >>= after) stay ∙ ap (λ w. w >>= λ y. Ok ((l, y.0), y.1)) (f.refused h);
      })

  inside : (y : Row Place) (ys t : Rows Place) → closed (y ∷ (ys ++ t)) ≡ Err (Unexpected (length t)) → (r : Row Place) (zs : Rows Place) → Fits (words (y ∷ (ys ++ t))) r (length zs) (closed (y ∷ (ys ++ (r ∷ zs))))
  inside y ys t h r zs = elim (bind_err (all (y ∷ (ys ++ t))) after (Unexpected (length t)) h) [
    | inl p ↦
        let f = inside-all hb (y ∷ ys) t p r zs in
        subst (λ v. Fits v r (length zs) (closed (y ∷ (ys ++ (r ∷ zs))))) (sym (ap (behind (times (in_set fb) b wb (y ∷ (ys ++ t))) (λ l. wc)) p))
        (record { taken = λ n. took_then (length zs) (all (y ∷ (ys ++ (r ∷ zs)))) (f.taken n); refused = λ n. ap (λ u. u >>= after) (f.refused n) })
    | inr p ↦ elim (bind_err (c p.0.1) (λ y. Ok ((p.0.0, y.0), y.1)) (Unexpected (length t)) p.2) [
      | inl q ↦
          let k = taken hb (y ∷ (ys ++ t)) p.0 p.1 in
          let d = parted (y ∷ ys) t k.front p.0.1 k.rows_are (hc.bound p.0.1 (length t) q) in
          let front : y ∷ (ys ++ (r ∷ zs)) ≡ k.front ++ (d.part ++ (r ∷ zs)) = ap (λ u. u ++ (r ∷ zs)) d.front_is ∙ append_assoc k.front d.part (r ∷ zs) in
          subst (λ v. Fits v r (length zs) (closed (y ∷ (ys ++ (r ∷ zs))))) (sym (ap (behind (times (in_set fb) b wb (y ∷ (ys ++ t))) (λ l. wc)) p.1))
          (subst (λ u. Fits (wc p.0.1) r (length zs) (closed u)) (sym front) (second d.part k.front t p.0.1 p.0.0 d.rest_is (subst (λ u. all u ≡ Ok p.0) k.rows_are p.1) q r zs))
      | inr q ↦ absurd (ok-err _ _ q.2)
    ]
  ]

  -- The elements and what closes them were read.
  record Closed (xs : Rows Place) (x : (List B × C) × Rows Place) : Type 0 where
    front : Rows Place
    v : Row Place
    vs : Rows Place
    rows_are : xs ≡ front ++ (v ∷ (vs ++ x.1))
    one : all (front ++ (v ∷ (vs ++ x.1))) ≡ Ok (x.0.0, v ∷ (vs ++ x.1))
    two : c (v ∷ (vs ++ x.1)) ≡ Ok (x.0.1, x.1)

  closed_of : (xs : Rows Place) (x : (List B × C) × Rows Place) → closed xs ≡ Ok x → Closed xs x
  closed_of xs x h =
      let p = bind_ok (all xs) after x h in
      let q = bind_ok (c p.0.1) (λ y. Ok ((p.0.0, y.0), y.1)) x p.2 in
      let k = taken hb xs p.0 p.1 in
      let u = hc.rest p.0.1 q.0 q.1 in
      subst (Closed xs) (ok_is ((p.0.0, q.0.0), q.0.1) x q.2) (record {
        front = k.front;
        v = u.0;
        vs = u.1;
        rows_are = k.rows_are ∙ ap (λ w. k.front ++ w) u.2;
        one = subst (λ w. all (k.front ++ w) ≡ Ok (p.0.0, w)) u.2 (subst (λ w. all w ≡ Ok p.0) k.rows_are p.1);
        two = subst (λ w. c w ≡ Ok q.0) u.2 q.1;
      })

  replaced : (ys t u : Rows Place) (x : List B × C) (k : Closed (ys ++ t) (x, t)) (z : Result (C × Rows Place) Refusal) → c (k.v ∷ (k.vs ++ u)) ≡ z → closed (ys ++ u) ≡ (z >>= λ y. Ok ((x.0, y.0), y.1))
  replaced ys t u x k z e =
      let same : (ys ≡ k.front ++ (k.v ∷ k.vs)) × (t ≡ t) = cut-same ys (k.front ++ (k.v ∷ k.vs)) t t (k.rows_are ∙ sym (append_assoc k.front (k.v ∷ k.vs) t)) refl in
      ap (λ w. closed (w ++ u)) same.0 ∙ ap closed (append_assoc k.front (k.v ∷ k.vs) u) ∙ ap (λ w. w >>= after) (stays-all hb k.front k.v k.vs t u x.0 k.one) ∙ ap (λ w. w >>= λ y. Ok ((x.0, y.0), y.1)) e

  stays : (ys : Rows Place) (v : Row Place) (vs t u : Rows Place) (x : List B × C) → closed (ys ++ (v ∷ (vs ++ t))) ≡ Ok (x, v ∷ (vs ++ t)) → closed (ys ++ (v ∷ (vs ++ u))) ≡ Ok (x, v ∷ (vs ++ u))
  stays ys v vs t u x h =
      let k = closed_of (ys ++ (v ∷ (vs ++ t))) (x, v ∷ (vs ++ t)) h in
      let same : (ys ≡ k.front ++ (k.v ∷ k.vs)) × (v ∷ (vs ++ t) ≡ v ∷ (vs ++ t)) =
      cut-same ys (k.front ++ (k.v ∷ k.vs)) (v ∷ (vs ++ t)) (v ∷ (vs ++ t)) (k.rows_are ∙ sym (append_assoc k.front (k.v ∷ k.vs) (v ∷ (vs ++ t)))) refl in
      let assoc : (w : Rows Place) → k.v ∷ (k.vs ++ (v ∷ (vs ++ w))) ≡ k.v ∷ ((k.vs ++ (v ∷ vs)) ++ w) = λ w. ap (λ z. k.v ∷ z) (sym (append_assoc k.vs (v ∷ vs) w)) in
      let one : all (k.front ++ (k.v ∷ ((k.vs ++ (v ∷ vs)) ++ t))) ≡ Ok (x.0, k.v ∷ ((k.vs ++ (v ∷ vs)) ++ t)) = subst (λ w. all (k.front ++ w) ≡ Ok (x.0, w)) (assoc t) k.one in
      let first : all (k.front ++ (k.v ∷ (k.vs ++ (v ∷ (vs ++ u))))) ≡ Ok (x.0, k.v ∷ (k.vs ++ (v ∷ (vs ++ u)))) = subst (λ w. all (k.front ++ w) ≡ Ok (x.0, w)) (sym (assoc u)) (stays-all hb k.front k.v (k.vs ++ (v ∷ vs)) t u x.0 one) in
      let two : c ((k.v ∷ k.vs) ++ (v ∷ (vs ++ u))) ≡ Ok (x.1, v ∷ (vs ++ u)) = hc.stays (k.v ∷ k.vs) v vs t u x.1 k.two in
      ap (λ w. closed (w ++ (v ∷ (vs ++ u)))) same.0 ∙ ap closed (append_assoc k.front (k.v ∷ k.vs) (v ∷ (vs ++ u))) ∙ ap (λ w. w >>= after) first ∙ ap (λ w. w >>= λ y. Ok ((x.0, y.0), y.1)) two

  rest : (xs : Rows Place) (x : (List B × C) × Rows Place) → closed xs ≡ Ok x → (y : Row Place) × (ys : Rows Place) × (xs ≡ y ∷ (ys ++ x.1))
  rest xs x h = let k = closed_of xs x h in rest-by k.front k.v k.vs x.1 xs k.rows_are
    where
      rest-by : (front : Rows Place) (v : Row Place) (vs t xs : Rows Place) → xs ≡ front ++ (v ∷ (vs ++ t)) → (y : Row Place) × (ys : Rows Place) × (xs ≡ y ∷ (ys ++ t))
      rest-by [] v vs t xs e = (v, vs, e)
      rest-by (y ∷ ys) v vs t xs e = (y, ys ++ (v ∷ vs), e ∙ ap (λ w. y ∷ w) (sym (append_assoc ys (v ∷ vs) t)))

  bound-closed : (xs : Rows Place) (n : ℕ) → closed xs ≡ Err (Unexpected n) → n ≤ length xs
  bound-closed xs n h = elim (bind_err (all xs) after (Unexpected n) h) [
    | inl p ↦ bound hb xs n p
    | inr p ↦ elim (bind_err (c p.0.1) (λ y. Ok ((p.0.0, y.0), y.1)) (Unexpected n) p.2) [
      | inl q ↦ let k = taken hb xs p.0 p.1 in omega (arith, hc.bound p.0.1 n q, ap length k.rows_are, length-append k.front p.0.1)
      | inr q ↦ absurd (ok-err _ _ q.2)
    ]
  ]

  -- Elements by the tokens with which they begin, and what closes them.
  pub closed-exact : Exact (reader.seq (star (in_set fb) b) c) (and_then (star (in_set fb) b) (times (in_set fb) b wb) (λ l. wc)) e (union fb fc) (λ x. mc x.1)
  closed-exact = record {
    begins = λ r zs k. begins-by r zs (fb (class r.shape)) refl k;
    barred = barred;
    empty = ap (λ w. w >>= after) at_end ∙ ap (λ w. w >>= λ y. Ok (([], y.0), y.1)) hc.empty;
    says = says;
    inside = inside;
    ends = λ ys t x h r zs m. let k = closed_of (ys ++ t) (x, t) h in replaced ys t (r ∷ zs) x k (Ok (x.1, r ∷ zs)) (hc.ends (k.v ∷ k.vs) t x.1 k.two r zs m);
    goes_on = λ ys t x h r zs m.
        let k = closed_of (ys ++ t) (x, t) h in
        subst (Took (length zs)) (sym (replaced ys t (r ∷ zs) x k (c (k.v ∷ (k.vs ++ (r ∷ zs)))) refl)) (took_behind (length zs) x.0 (c (k.v ∷ (k.vs ++ (r ∷ zs)))) (hc.goes_on (k.v ∷ k.vs) t x.1 k.two r zs m));
    stays = stays;
    rest = rest;
    bound = bound-closed;
    all = λ xs. took_then (length xs) (all xs) (took-all hb xs);
  }
