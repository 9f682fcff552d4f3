-- Lists, what may be absent, and what stands between braces: exact if their parts are.
use Rattle.std.proofs.Common.{◌≡◌, ◌≤◌, ℕ, Bool, true, false, cond, ◌||◌, List, [], ◌∷◌, ◌++◌, length, Option, Some, None, Result, Ok, Err, refl, sym, ap, subst, ◌∙◌, append_assoc, arith, inl, inr}
use Rattle.std.proofs.lemmas.List.{length-append}
use Rattle.protox_ast.specs.Places.{Place}
use Rattle.protox_lexeme.specs.Shapes.{Row, Rows}
use Rattle.protox_grammar.specs.Class.{Set, class, in_set, union, within}
use Rattle.protox_grammar.specs.Reader as reader
use Rattle.protox_grammar.specs.Reader.{Reader, Refusal, Unexpected, Deep, ◌>>=◌, head_in, star}
use Rattle.protox_grammar.proofs.Lemmas.{bind_err, bind_ok, err-ok, ok-err, ok_is, or_false}
use Rattle.protox_rows.specs.Expected.{named, allowed}
use Rattle.protox_rows.specs.declared.expected.Expected.{Expected}
use Rattle.protox_rows.specs.inner.Words.{Words, and_then, behind, times}
use Rattle.protox_rows.proofs.Exact.{Exact, Fits, Took, mapped-exact, parted, seq-exact, took_more, under}
use Rattle.protox_rows.proofs.ExactForms.{choice-exact}
use Rattle.protox_rows.proofs.ExactLists.{last_more, begun, bound, ends-all, goes_on-all, inside-all, stays-all, taken, took-all}

-- ---- the same reader, and the same words, in other terms

pub reread : {A : Type 0} {a : Reader Place A} (b : Reader Place A) {w : Words} {e : Expected} {first : Set} {more : A → Set} → ((xs : Rows Place) → a xs ≡ b xs) → Exact a w e first more → Exact b w e first more
reread b {w} {e} {first} {more} h x = subst (λ r. Exact r w e first more) (λ i xs. h xs i) x

pub reworded : {A : Type 0} {a : Reader Place A} {w : Words} (v : Words) {e : Expected} {first : Set} {more : A → Set} → ((xs : Rows Place) → w xs ≡ v xs) → Exact a w e first more → Exact a v e first more
reworded {a = a} v {e} {first} {more} h x = subst (λ r. Exact a r e first more) (λ i xs. h xs i) x

pub begun_with : {A : Type 0} {a : Reader Place A} {w : Words} {e : Expected} {first : Set} (f : Set) {more : A → Set} → ((k : ℕ) → first k ≡ f k) → Exact a w e first more → Exact a w e f more
begun_with {a = a} {w = w} {e = e} f {more} h x = subst (λ s. Exact a w e s more) (λ i k. h k i) x

-- The first part under another name.
pub front-exact : {A B C : Type 0} (f : A → B) (a : Reader Place A) (c : Reader Place C) (w : Words) (k : B → Words) (e : Expected) (first : Set) (more : C → Set)
    → Exact (reader.seq a c) (and_then a w (λ x. k (f x))) e first (λ x. more x.1) → Exact (reader.seq (reader.mapped f a) c) (and_then (reader.mapped f a) w k) e first (λ x. more x.1)
front-exact {A} {B} {C} f a c w k e first more h =
    reread (reader.seq (reader.mapped f a) c) (λ xs. same (a xs)) (reworded (and_then (reader.mapped f a) w k) (λ xs. said xs (a xs)) (mapped-exact (λ x. more x.1) (λ (x : A × C). (f x.0, x.1)) (λ x. refl) h))
  where
    inner : (x : A) (r : Result (C × Rows Place) Refusal) → ((r >>= λ y. Ok ((x, y.0), y.1)) >>= under {B = B × C} (λ (x : A × C). (f x.0, x.1))) ≡ (r >>= λ y. Ok ((f x, y.0), y.1))
    inner x (Ok y) = refl
    inner x (Err d) = refl

    same : (r : Result (A × Rows Place) Refusal) → ((r >>= λ x. c x.1 >>= λ y. Ok ((x.0, y.0), y.1)) >>= under {B = B × C} (λ (x : A × C). (f x.0, x.1))) ≡ ((r >>= under f) >>= λ x. c x.1 >>= λ y. Ok ((x.0, y.0), y.1))
    same (Ok x) = inner x.0 (c x.1)
    same (Err d) = refl

    said : (xs : Rows Place) (r : Result (A × Rows Place) Refusal) → behind (w xs) (λ x. k (f x)) r ≡ behind (w xs) k (r >>= under f)
    said xs (Ok x) = refl
    said xs (Err d) = refl

-- ---- what may be absent

module _ {A C : Type 0} {a : Reader Place A} {c : Reader Place C} {wa : Words} {wc : Option A → Words} {ea : Expected} {ec : Option A → Expected} {P fc : Set} {ma : A → Set} {mc : C → Set}
    (ha : Exact a wa ea P ma) (hc : (o : Option A) → Exact c (wc o) (ec o) fc mc)
    (low : (x : A) → within (named (ec (Some x))) (union (ma x) fc) ≡ true) (high : (x : A) → within (union (ma x) fc) (allowed (ec (Some x))) ≡ true) where
  abbrev given : A × C → Option A × C
  given x = (Some x.0, x.1)

  abbrev absent : C → Option A × C
  absent y = (None, y)

  -- The part and what follows it are exact if they are so where the part is there, and where it is absent.
  pub option-exact : Exact (reader.seq (reader.optional (in_set P) a) c) (and_then (reader.optional (in_set P) a) wa wc) (ec None) (union P fc) (λ x. mc x.1)
  option-exact =
      reread (reader.seq (reader.optional (in_set P) a) c) (λ xs. same xs (head_in (in_set P) xs) (a xs)) (reworded (and_then (reader.optional (in_set P) a) wa wc) (λ xs. said xs (head_in (in_set P) xs) (a xs))
      (choice-exact (mapped-exact (λ x. mc x.1) given (λ x. refl) (seq-exact ha (λ x. hc (Some x)) low high)) (mapped-exact (λ x. mc x.1) absent (λ x. refl) (hc None)) (λ x. refl)))
    where
      inner : (x : A) (r : Result (C × Rows Place) Refusal) → ((r >>= λ y. Ok ((x, y.0), y.1)) >>= under given) ≡ (r >>= λ y. Ok ((Some x, y.0), y.1))
      inner x (Ok y) = refl
      inner x (Err d) = refl

      one : (r : Result (A × Rows Place) Refusal) → ((r >>= λ x. c x.1 >>= λ y. Ok ((x.0, y.0), y.1)) >>= under given) ≡ ((r >>= under Some) >>= λ x. c x.1 >>= λ y. Ok ((x.0, y.0), y.1))
      one (Ok x) = inner x.0 (c x.1)
      one (Err d) = refl

      same : (xs : Rows Place) (b : Bool) (r : Result (A × Rows Place) Refusal)
          → cond b ((r >>= λ x. c x.1 >>= λ y. Ok ((x.0, y.0), y.1)) >>= under given) (c xs >>= under absent) ≡ (cond b (r >>= under Some) (Ok (None, xs)) >>= λ x. c x.1 >>= λ y. Ok ((x.0, y.0), y.1))
      same xs true r = one r
      same xs false r = refl

      said : (xs : Rows Place) (b : Bool) (r : Result (A × Rows Place) Refusal) → cond b (behind (wa xs) (λ x. wc (Some x)) r) (wc None xs) ≡ behind (wa xs) wc (cond b (r >>= under Some) (Ok (None, xs)))
      said xs true (Ok x) = refl
      said xs true (Err d) = refl
      said xs false r = refl

-- ---- one, and more of them

-- The tokens with which a list would go on: those of its last part, and those that begin one more.
abbrev pub list_more : {A B : Type 0} → (A → Set) → (B → Set) → Set → A × List B → Set
list_more ma mb P (x, []) = union (ma x) P
list_more ma mb P (x, y ∷ ys) = union (last_more mb (y ∷ ys)) P

no_rows : (xs : Rows Place) → length xs ≡ 0 → xs ≡ []
no_rows [] l = refl
no_rows (x ∷ xs) l = absurd (omega (arith, l))

module _ {A B : Type 0} {a : Reader Place A} {b : Reader Place B} {wa wb : Words} {ea eb : Expected} {fa P : Set} {ma : A → Set} {mb : B → Set} (ha : Exact a wa ea fa ma) (hb : Exact b wb eb P mb) where
  abbrev all : Reader Place (List B)
  all = star (in_set P) b

  abbrev list : Reader Place (A × List B)
  list = reader.seq a all

  abbrev after : A × Rows Place → Result ((A × List B) × Rows Place) Refusal
  after x = all x.1 >>= λ y. Ok ((x.0, y.0), y.1)

  abbrev words : Words
  words = and_then a wa (λ x. times (in_set P) b wb)

  took_behind : (n : ℕ) (x : A) (read : Result (List B × Rows Place) Refusal) → Took n read → Took {X = A × List B} n (read >>= λ y. Ok ((x, y.0), y.1))
  took_behind n x (Ok y) t = t
  took_behind n x (Err (Unexpected m)) t = t
  took_behind n x (Err (Deep m)) t = t

  took_then : (n : ℕ) (read : Result (A × Rows Place) Refusal) → Took n read → Took n (read >>= after)
  took_then n (Ok x) t = took_behind n x.0 (all x.1) (took_more (length x.1) n (all x.1) t (took-all hb x.1))
  took_then n (Err (Unexpected m)) t = t
  took_then n (Err (Deep m)) t = t

  list-says : (t : Rows Place) → list t ≡ Err (Unexpected (length t)) → words t ≡ ea
  list-says t h = elim (bind_err (a t) after (Unexpected (length t)) h) [
    | inl p ↦ ap (behind (wa t) (λ x. times (in_set P) b wb)) p ∙ ha.says t p
    | inr p ↦ elim (bind_err (all p.0.1) (λ y. Ok ((p.0.0, y.0), y.1)) (Unexpected (length t)) p.2) [
      | inl q ↦ let s = ha.rest t p.0 p.1 in absurd (omega (arith, bound hb p.0.1 (length t) q, ap length s.2, length-append s.1 p.0.1))
      | inr q ↦ absurd (ok-err _ _ q.2)
    ]
  ]

  inside-others : (part us t rest : Rows Place) (x : A) → rest ≡ part ++ t → a (us ++ rest) ≡ Ok (x, rest) → all rest ≡ Err (Unexpected (length t)) → (r : Row Place) (zs : Rows Place)
      → Fits (times (in_set P) b wb rest) r (length zs) (a (us ++ (part ++ (r ∷ zs))) >>= after)
  inside-others [] us t rest x e one q r zs = absurd (begun hb t (subst (λ u. all u ≡ Err (Unexpected (length t))) e q))
  inside-others (v ∷ vs) us t rest x e one q r zs =
      let stay = ha.stays us v vs t (r ∷ zs) x (subst (λ u. a (us ++ u) ≡ Ok (x, u)) e one) in
      let f = inside-all hb (v ∷ vs) t (subst (λ u. all u ≡ Err (Unexpected (length t))) e q) r zs in
      subst (λ u. Fits (times (in_set P) b wb u) r (length zs) (a (us ++ (v ∷ (vs ++ (r ∷ zs)))) >>= after)) (sym e)
      (subst (λ w. Fits (times (in_set P) b wb (v ∷ (vs ++ t))) r (length zs) (w >>= after)) (sym stay)
      (record { taken = λ h. took_behind (length zs) x (all (v ∷ (vs ++ (r ∷ zs)))) (f.taken h); refused = λ h. ap (λ w. w >>= λ y. Ok ((x, y.0), y.1)) (f.refused h) }))

  list-inside : (y : Row Place) (ys t : Rows Place) → list (y ∷ (ys ++ t)) ≡ Err (Unexpected (length t)) → (r : Row Place) (zs : Rows Place) → Fits (words (y ∷ (ys ++ t))) r (length zs) (list (y ∷ (ys ++ (r ∷ zs))))
  list-inside y ys t h r zs = elim (bind_err (a (y ∷ (ys ++ t))) after (Unexpected (length t)) h) [
    | inl p ↦
        let f = ha.inside y ys t p r zs in
        subst (λ e. Fits e r (length zs) (list (y ∷ (ys ++ (r ∷ zs))))) (sym (ap (behind (wa (y ∷ (ys ++ t))) (λ x. times (in_set P) b wb)) p))
        (record { taken = λ n. took_then (length zs) (a (y ∷ (ys ++ (r ∷ zs)))) (f.taken n); refused = λ n. ap (λ u. u >>= after) (f.refused n) })
    | inr p ↦ elim (bind_err (all p.0.1) (λ y. Ok ((p.0.0, y.0), y.1)) (Unexpected (length t)) p.2) [
      | inl q ↦
          let s = ha.rest (y ∷ (ys ++ t)) p.0 p.1 in
          let c = parted (y ∷ ys) t (s.0 ∷ s.1) p.0.1 s.2 (bound hb p.0.1 (length t) q) in
          let front : y ∷ (ys ++ (r ∷ zs)) ≡ (s.0 ∷ s.1) ++ (c.part ++ (r ∷ zs)) = ap (λ u. u ++ (r ∷ zs)) c.front_is ∙ append_assoc (s.0 ∷ s.1) c.part (r ∷ zs) in
          subst (λ e. Fits e r (length zs) (list (y ∷ (ys ++ (r ∷ zs))))) (sym (ap (behind (wa (y ∷ (ys ++ t))) (λ x. times (in_set P) b wb)) p.1))
          (subst (λ u. Fits (times (in_set P) b wb p.0.1) r (length zs) (a u >>= after)) (sym front)
          (inside-others c.part (s.0 ∷ s.1) t p.0.1 p.0.0 c.rest_is (subst (λ u. a u ≡ Ok p.0) s.2 p.1) q r zs))
      | inr q ↦ absurd (ok-err _ _ q.2)
    ]
  ]

  -- The first and the others were read.
  record Listed (ys t : Rows Place) (x : A × List B) : Type 0 where
    u : Row Place
    us : Rows Place
    part : Rows Place
    front_is : ys ≡ (u ∷ us) ++ part
    one : a ((u ∷ us) ++ (part ++ t)) ≡ Ok (x.0, part ++ t)
    others : all (part ++ t) ≡ Ok (x.1, t)

  listed : (ys t : Rows Place) (x : A × List B) → list (ys ++ t) ≡ Ok (x, t) → Listed ys t x
  listed ys t x h =
      let p = bind_ok (a (ys ++ t)) after (x, t) h in
      let q = bind_ok (all p.0.1) (λ y. Ok ((p.0.0, y.0), y.1)) (x, t) p.2 in
      let is = ok_is ((p.0.0, q.0.0), q.0.1) (x, t) q.2 in
      let s = ha.rest (ys ++ t) p.0 p.1 in
      let k = taken hb p.0.1 q.0 q.1 in
      let tail : length t ≡ length q.0.1 = ap (λ (w : (A × List B) × Rows Place). length w.1) (sym is) in
      let c = parted ys t (s.0 ∷ s.1) p.0.1 s.2 (omega (arith, tail, ap length k.rows_are, length-append k.front q.0.1)) in
      record {
        u = s.0;
        us = s.1;
        part = c.part;
        front_is = c.front_is;
        one = subst (λ w. a ((s.0 ∷ s.1) ++ w) ≡ Ok (x.0, w)) c.rest_is (subst (λ w. a w ≡ Ok (x.0, p.0.1)) s.2 (p.1 ∙ ap (λ (w : (A × List B) × Rows Place). Ok (w.0.0, p.0.1)) is));
        others = subst (λ w. all w ≡ Ok (x.1, t)) c.rest_is (q.1 ∙ ap (λ (w : (A × List B) × Rows Place). Ok (w.0.1, w.1)) is);
      }

  again : (ys t w : Rows Place) (x : A × List B) (k : Listed ys t x) → list (ys ++ w) ≡ (a ((k.u ∷ k.us) ++ (k.part ++ w)) >>= after)
  again ys t w x k = ap (λ z. list (z ++ w)) k.front_is ∙ ap list (append_assoc (k.u ∷ k.us) k.part w)

  -- An empty list took nothing, any other something.
  none_more : (x : A) (l : List B) (t : Rows Place) → all t ≡ Ok (l, t) → l ≡ []
  none_more x l t q = let k = taken hb t (l, t) q in k.empty.1 (no_rows k.front (omega (arith, ap length k.rows_are, length-append k.front t)))

  more_is : (x : A) (l : List B) (k : ℕ) (v : Row Place) (vs t : Rows Place) → all (v ∷ (vs ++ t)) ≡ Ok (l, t) → list_more ma mb P (x, l) k ≡ last_more mb l k || P k
  more_is x [] k v vs t q = let h = taken hb (v ∷ (vs ++ t)) ([], t) q in absurd (omega (arith, ap length h.rows_are, length-append h.front t, length-append vs t, ap length (h.empty.0 refl)))
  more_is x (y ∷ ys) k v vs t q = refl

  ends-part : (part us t : Rows Place) (x : A) (l : List B) → a (us ++ (part ++ t)) ≡ Ok (x, part ++ t) → all (part ++ t) ≡ Ok (l, t) → (r : Row Place) (zs : Rows Place) → list_more ma mb P (x, l) (class r.shape) ≡ false → (a (us ++ (part ++ (r ∷ zs))) >>= after) ≡ Ok ((x, l), r ∷ zs)
  ends-part [] us t x l one q r zs m =
      let e = none_more x l t q in
      let no = or_false (ma x (class r.shape)) (P (class r.shape)) (subst (λ w. list_more ma mb P (x, w) (class r.shape) ≡ false) e m) in
      ap (λ w. w >>= after) (ha.ends us t x one r zs no.0) ∙ ap (λ w. w >>= λ y. Ok ((x, y.0), y.1)) (ends-all hb [] t [] (q ∙ ap (λ w. Ok (w, t)) e) r zs no.1 refl) ∙ ap (λ w. Ok ((x, w), r ∷ zs)) (sym e)
  ends-part (v ∷ vs) us t x l one q r zs m =
      let no = or_false (last_more mb l (class r.shape)) (P (class r.shape)) (sym (more_is x l (class r.shape) v vs t q) ∙ m) in
      ap (λ w. w >>= after) (ha.stays us v vs t (r ∷ zs) x one) ∙ ap (λ w. w >>= λ y. Ok ((x, y.0), y.1)) (ends-all hb (v ∷ vs) t l q r zs no.1 no.0)

  goes_on-first : (us t : Rows Place) (x : A) → a (us ++ t) ≡ Ok (x, t) → all t ≡ Ok ([], t) → (r : Row Place) (zs : Rows Place) (c : Bool) → ma x (class r.shape) ≡ c → c || P (class r.shape) ≡ true → Took (length zs) (a (us ++ (r ∷ zs)) >>= after)
  goes_on-first us t x one q r zs true e m = took_then (length zs) (a (us ++ (r ∷ zs))) (ha.goes_on us t x one r zs e)
  goes_on-first us t x one q r zs false e m = subst (λ w. Took (length zs) (w >>= after)) (sym (ha.ends us t x one r zs e)) (took_behind (length zs) x (all (r ∷ zs)) (goes_on-all hb [] t [] q r zs m))

  goes_on-part : (part us t : Rows Place) (x : A) (l : List B) → a (us ++ (part ++ t)) ≡ Ok (x, part ++ t) → all (part ++ t) ≡ Ok (l, t) → (r : Row Place) (zs : Rows Place) → list_more ma mb P (x, l) (class r.shape) ≡ true → Took (length zs) (a (us ++ (part ++ (r ∷ zs))) >>= after)
  goes_on-part [] us t x l one q r zs m =
      let e = none_more x l t q in
      goes_on-first us t x one (q ∙ ap (λ w. Ok (w, t)) e) r zs (ma x (class r.shape)) refl (subst (λ w. list_more ma mb P (x, w) (class r.shape) ≡ true) e m)
  goes_on-part (v ∷ vs) us t x l one q r zs m =
      subst (λ w. Took (length zs) (w >>= after)) (sym (ha.stays us v vs t (r ∷ zs) x one)) (took_behind (length zs) x (all (v ∷ (vs ++ (r ∷ zs)))) (goes_on-all hb (v ∷ vs) t l q r zs (sym (more_is x l (class r.shape) v vs t q) ∙ m)))

  stays_one : (us part : Rows Place) (v : Row Place) (vs t u : Rows Place) (x : A) → a (us ++ (part ++ (v ∷ (vs ++ t)))) ≡ Ok (x, part ++ (v ∷ (vs ++ t))) → a (us ++ (part ++ (v ∷ (vs ++ u)))) ≡ Ok (x, part ++ (v ∷ (vs ++ u)))
  stays_one us [] v vs t u x q = ha.stays us v vs t u x q
  stays_one us (w ∷ ws) v vs t u x q =
      let assoc : (z : Rows Place) → w ∷ (ws ++ (v ∷ (vs ++ z))) ≡ w ∷ ((ws ++ (v ∷ vs)) ++ z) = λ z. ap (λ a. w ∷ a) (sym (append_assoc ws (v ∷ vs) z)) in
      subst (λ z. a (us ++ z) ≡ Ok (x, z)) (sym (assoc u)) (ha.stays us w (ws ++ (v ∷ vs)) t u x (subst (λ z. a (us ++ z) ≡ Ok (x, z)) (assoc t) q))

  list-stays : (ys : Rows Place) (v : Row Place) (vs t u : Rows Place) (x : A × List B) → list (ys ++ (v ∷ (vs ++ t))) ≡ Ok (x, v ∷ (vs ++ t)) → list (ys ++ (v ∷ (vs ++ u))) ≡ Ok (x, v ∷ (vs ++ u))
  list-stays ys v vs t u x q =
      let k = listed ys (v ∷ (vs ++ t)) x q in
      again ys (v ∷ (vs ++ t)) (v ∷ (vs ++ u)) x k ∙ ap (λ w. w >>= after) (stays_one (k.u ∷ k.us) k.part v vs t u x.0 k.one)
      ∙ ap (λ w. w >>= λ y. Ok ((x.0, y.0), y.1)) (stays-all hb k.part v vs t u x.1 k.others)

  list-rest : (xs : Rows Place) (x : (A × List B) × Rows Place) → list xs ≡ Ok x → (y : Row Place) × (ys : Rows Place) × (xs ≡ y ∷ (ys ++ x.1))
  list-rest xs x h =
      let p = bind_ok (a xs) after x h in
      let q = bind_ok (all p.0.1) (λ y. Ok ((p.0.0, y.0), y.1)) x p.2 in
      let is = ok_is ((p.0.0, q.0.0), q.0.1) x q.2 in
      let s = ha.rest xs p.0 p.1 in
      let k = taken hb p.0.1 q.0 q.1 in
      (s.0, s.1 ++ k.front, s.2 ∙ ap (λ w. s.0 ∷ (s.1 ++ w)) k.rows_are ∙ ap (λ w. s.0 ∷ w) (sym (append_assoc s.1 k.front q.0.1)) ∙ ap (λ (w : (A × List B) × Rows Place). s.0 ∷ ((s.1 ++ k.front) ++ w.1)) is)

  list-bound : (xs : Rows Place) (n : ℕ) → list xs ≡ Err (Unexpected n) → n ≤ length xs
  list-bound xs n h = elim (bind_err (a xs) after (Unexpected n) h) [
    | inl p ↦ ha.bound xs n p
    | inr p ↦ elim (bind_err (all p.0.1) (λ y. Ok ((p.0.0, y.0), y.1)) (Unexpected n) p.2) [
      | inl q ↦ let s = ha.rest xs p.0 p.1 in omega (arith, bound hb p.0.1 n q, ap length s.2, length-append s.1 p.0.1)
      | inr q ↦ absurd (ok-err _ _ q.2)
    ]
  ]

  -- One, and more of them by the tokens that begin one more, are exact.
  pub list-exact : Exact (reader.seq a (star (in_set P) b)) (and_then a wa (λ x. times (in_set P) b wb)) ea fa (list_more ma mb P)
  list-exact = record {
    begins = λ r zs k. took_then (length zs) (a (r ∷ zs)) (ha.begins r zs k);
    barred = λ r zs k. ap (λ v. v >>= after) (ha.barred r zs k);
    empty = ap (λ v. v >>= after) ha.empty;
    says = list-says;
    inside = list-inside;
    ends = λ ys t x h r zs m. let k = listed ys t x h in again ys t (r ∷ zs) x k ∙ ends-part k.part (k.u ∷ k.us) t x.0 x.1 k.one k.others r zs m;
    goes_on = λ ys t x h r zs m. let k = listed ys t x h in subst (Took (length zs)) (sym (again ys t (r ∷ zs) x k)) (goes_on-part k.part (k.u ∷ k.us) t x.0 x.1 k.one k.others r zs m);
    stays = list-stays;
    rest = list-rest;
    bound = list-bound;
    all = λ xs. took_then (length xs) (a xs) (ha.all xs);
  }

-- ---- a value that depends on the first row

-- A value that is made of the first row, too.
module _ {A B : Type 0} {a : Reader Place A} {w : Words} {e : Expected} {first : Set} {more : A → Set} (next : B → Set) (f : Rows Place → A → B) (only_first : (y : Row Place) (ys zs : Rows Place) (x : A) → f (y ∷ ys) x ≡ f (y ∷ zs) x)
    (same : (xs : Rows Place) (x : A) → more x ≡ next (f xs x)) (h : Exact a w e first more) where
  abbrev from : Rows Place → A × Rows Place → Result (B × Rows Place) Refusal
  from xs x = Ok (f xs x.0, x.1)

  abbrev reads : Reader Place B
  reads xs = a xs >>= from xs

  took_from : (n : ℕ) (xs : Rows Place) (read : Result (A × Rows Place) Refusal) → Took n read → Took n (read >>= from xs)
  took_from n xs (Ok x) t = t
  took_from n xs (Err (Unexpected m)) t = t
  took_from n xs (Err (Deep m)) t = t

  refused_first : (n : ℕ) (xs : Rows Place) (read : Result (A × Rows Place) Refusal) → (read >>= from xs) ≡ Err (Unexpected n) → read ≡ Err (Unexpected n)
  refused_first n xs (Ok x) q = absurd (ok-err _ _ q)
  refused_first n xs (Err d) q = again d (Unexpected n) q
    where
      failed : {X : Type 0} → Refusal → Result X Refusal
      failed e = Err e

      again : (c d : Refusal) → failed {X = B × Rows Place} c ≡ failed d → failed {X = A × Rows Place} c ≡ failed d
      again c d q = cc

  read_first : (xs : Rows Place) (read : Result (A × Rows Place) Refusal) (x : B × Rows Place) → (read >>= from xs) ≡ Ok x → (v : A) × (read ≡ Ok (v, x.1)) × (x.0 ≡ f xs v)
  read_first xs (Ok v) x q = let s = ok_is (f xs v.0, v.1) x q in (v.0, ap (λ (u : B × Rows Place). Ok (v.0, u.1)) s, ap (λ (u : B × Rows Place). u.0) (sym s))
  read_first xs (Err d) x q = absurd (err-ok _ _ q)

  none-read : (t : Rows Place) (x : B) → reads t ≡ Ok (x, t) → ⊥
  none-read t x q = let v = read_first t (a t) (x, t) q in let s = h.rest t (v.0, t) v.1 in omega (arith, ap length s.2, length-append s.1 t)

  ends-from : (ys t : Rows Place) (x : B) → reads (ys ++ t) ≡ Ok (x, t) → (r : Row Place) (zs : Rows Place) → next x (class r.shape) ≡ false → reads (ys ++ (r ∷ zs)) ≡ Ok (x, r ∷ zs)
  ends-from [] t x q r zs m = absurd (none-read t x q)
  ends-from (y ∷ ys) t x q r zs m =
      let v = read_first (y ∷ (ys ++ t)) (a (y ∷ (ys ++ t))) (x, t) q in
      ap (λ u. u >>= from (y ∷ (ys ++ (r ∷ zs)))) (h.ends (y ∷ ys) t v.0 v.1 r zs (ap (λ (s : Set). s (class r.shape)) (same (y ∷ (ys ++ t)) v.0 ∙ ap next (sym v.2)) ∙ m))
      ∙ ap (λ u. Ok (u, r ∷ zs)) (only_first y (ys ++ (r ∷ zs)) (ys ++ t) v.0 ∙ sym v.2)

  goes_on-from : (ys t : Rows Place) (x : B) → reads (ys ++ t) ≡ Ok (x, t) → (r : Row Place) (zs : Rows Place) → next x (class r.shape) ≡ true → Took (length zs) (reads (ys ++ (r ∷ zs)))
  goes_on-from ys t x q r zs m =
      let v = read_first (ys ++ t) (a (ys ++ t)) (x, t) q in
      took_from (length zs) (ys ++ (r ∷ zs)) (a (ys ++ (r ∷ zs))) (h.goes_on ys t v.0 v.1 r zs (ap (λ (s : Set). s (class r.shape)) (same (ys ++ t) v.0 ∙ ap next (sym v.2)) ∙ m))

  stays-from : (ys : Rows Place) (v : Row Place) (vs t u : Rows Place) (x : B) → reads (ys ++ (v ∷ (vs ++ t))) ≡ Ok (x, v ∷ (vs ++ t)) → reads (ys ++ (v ∷ (vs ++ u))) ≡ Ok (x, v ∷ (vs ++ u))
  stays-from [] v vs t u x q = absurd (none-read (v ∷ (vs ++ t)) x q)
  stays-from (y ∷ ys) v vs t u x q =
      let k = read_first (y ∷ (ys ++ (v ∷ (vs ++ t)))) (a (y ∷ (ys ++ (v ∷ (vs ++ t))))) (x, v ∷ (vs ++ t)) q in
      ap (λ w. w >>= from (y ∷ (ys ++ (v ∷ (vs ++ u))))) (h.stays (y ∷ ys) v vs t u k.0 k.1) ∙ ap (λ w. Ok (w, v ∷ (vs ++ u))) (only_first y (ys ++ (v ∷ (vs ++ u))) (ys ++ (v ∷ (vs ++ t))) k.0 ∙ sym k.2)

  pub from-exact : Exact (λ xs. a xs >>= λ x. Ok (f xs x.0, x.1)) w e first next
  from-exact = record {
    begins = λ r zs k. took_from (length zs) (r ∷ zs) (a (r ∷ zs)) (h.begins r zs k);
    barred = λ r zs k. ap (λ v. v >>= from (r ∷ zs)) (h.barred r zs k);
    empty = ap (λ v. v >>= from []) h.empty;
    says = λ t q. h.says t (refused_first (length t) t (a t) q);
    inside = λ y ys t q r zs.
        let k = h.inside y ys t (refused_first (length t) (y ∷ (ys ++ t)) (a (y ∷ (ys ++ t))) q) r zs in
        record { taken = λ n. took_from (length zs) (y ∷ (ys ++ (r ∷ zs))) (a (y ∷ (ys ++ (r ∷ zs)))) (k.taken n); refused = λ n. ap (λ v. v >>= from (y ∷ (ys ++ (r ∷ zs)))) (k.refused n) };
    ends = ends-from;
    goes_on = goes_on-from;
    stays = stays-from;
    rest = λ xs x q. let v = read_first xs (a xs) x q in h.rest xs (v.0, x.1) v.1;
    bound = λ xs n q. h.bound xs n (refused_first n xs (a xs) q);
    all = λ xs. took_from (length xs) xs (a xs) (h.all xs);
  }
