-- A part behind which another may stand: exact if both are.
use Rattle.std.proofs.Common.{◌≡◌, ◌≤◌, ℕ, Bool, true, false, cond, ◌||◌, [], ◌∷◌, ◌++◌, length, Option, Some, None, Result, Ok, Err, refl, sym, ap, subst, ◌∙◌, append_assoc, arith, inl, inr}
use Rattle.std.proofs.lemmas.List.{length-append}
use Rattle.protox_ast.specs.Places.{Place}
use Rattle.protox_lexeme.specs.Shapes.{Row, Rows}
use Rattle.protox_grammar.specs.Class.{Set, class, in_set, union}
use Rattle.protox_grammar.specs.Reader as reader
use Rattle.protox_grammar.specs.Reader.{Reader, Refusal, Unexpected, Deep, ◌>>=◌}
use Rattle.protox_grammar.proofs.Lemmas.{bind_err, bind_ok, cut-same, err-ok, ok-err, ok_is}
use Rattle.protox_rows.specs.declared.expected.Expected.{Expected}
use Rattle.protox_rows.specs.inner.Words.{Words, and_then, behind}
use Rattle.protox_rows.proofs.Exact.{Exact, Fits, Took, parted, took, took_more, under}

-- The tokens with which both would go on: those of the second part; or without it, those of the
-- first and those that begin the second.
abbrev pub tail_more : {A B : Type 0} → (A → Set) → (B → Set) → Set → A × Option B → Set
tail_more ma mb P (x, None) = union (ma x) P
tail_more ma mb P (x, Some y) = mb y

module _ {A B : Type 0} {a : Reader Place A} {b : Reader Place B} {wa wb : Words} {ea eb : Expected} {fa P : Set} {ma : A → Set} {mb : B → Set} (ha : Exact a wa ea fa ma) (hb : Exact b wb eb P mb) where
  abbrev tail : Reader Place (Option B)
  tail = reader.optional (in_set P) b

  abbrev whole : Reader Place (A × Option B)
  whole = reader.seq a tail

  abbrev after : A × Rows Place → Result ((A × Option B) × Rows Place) Refusal
  after x = tail x.1 >>= λ y. Ok ((x.0, y.0), y.1)

  abbrev words : Words
  words = and_then a wa (λ x. wb)

  there : (r : Row Place) (zs : Rows Place) → P (class r.shape) ≡ true → tail (r ∷ zs) ≡ (b (r ∷ zs) >>= under Some)
  there r zs p = ap (λ c. cond c (b (r ∷ zs) >>= under Some) (Ok (None, r ∷ zs))) p

  absent : (r : Row Place) (zs : Rows Place) → P (class r.shape) ≡ false → tail (r ∷ zs) ≡ Ok (None, r ∷ zs)
  absent r zs p = ap (λ c. cond c (b (r ∷ zs) >>= under Some) (Ok (None, r ∷ zs))) p

  took_some : (n : ℕ) (read : Result (B × Rows Place) Refusal) → Took n read → Took n (read >>= under Some)
  took_some n (Ok x) t = t
  took_some n (Err (Unexpected m)) t = t
  took_some n (Err (Deep m)) t = t

  took_by : (r : Row Place) (zs : Rows Place) (c : Bool) → P (class r.shape) ≡ c → Took (length (r ∷ zs)) (tail (r ∷ zs))
  took_by r zs true p = subst (Took (length (r ∷ zs))) (sym (there r zs p)) (took_some (length (r ∷ zs)) (b (r ∷ zs)) (took hb (r ∷ zs)))
  took_by r zs false p = subst (Took (length (r ∷ zs))) (sym (absent r zs p)) (omega arith)

  took-tail : (xs : Rows Place) → Took (length xs) (tail xs)
  took-tail [] = omega arith
  took-tail (r ∷ zs) = took_by r zs (P (class r.shape)) refl

  begins-tail : (r : Row Place) (zs : Rows Place) → P (class r.shape) ≡ true → Took (length zs) (tail (r ∷ zs))
  begins-tail r zs p = subst (Took (length zs)) (sym (there r zs p)) (took_some (length zs) (b (r ∷ zs)) (hb.begins r zs p))

  took_behind : (n : ℕ) (x : A) (read : Result (Option B × Rows Place) Refusal) → Took n read → Took {X = A × Option B} n (read >>= λ y. Ok ((x, y.0), y.1))
  took_behind n x (Ok y) t = t
  took_behind n x (Err (Unexpected m)) t = t
  took_behind n x (Err (Deep m)) t = t

  took_then : (n : ℕ) (read : Result (A × Rows Place) Refusal) → Took n read → Took n (read >>= after)
  took_then n (Ok x) t = took_behind n x.0 (tail x.1) (took_more (length x.1) n (tail x.1) t (took-tail x.1))
  took_then n (Err (Unexpected m)) t = t
  took_then n (Err (Deep m)) t = t

  bound-tail : (xs : Rows Place) (n : ℕ) → tail xs ≡ Err (Unexpected n) → n ≤ length xs
  bound-tail xs n q = subst (Took (length xs)) q (took-tail xs)

  -- The second part isn't refused at its beginning.
  begun-tail : (t : Rows Place) → tail t ≡ Err (Unexpected (length t)) → ⊥
  begun-tail [] q = ok-err _ _ q
  begun-tail (r ∷ zs) q = by (P (class r.shape)) refl
    where
      by : (c : Bool) → P (class r.shape) ≡ c → ⊥
      by true p = omega (arith, subst (Took (length zs)) q (begins-tail r zs p))
      by false p = ok-err _ _ (sym (absent r zs p) ∙ q)

  unsome-err : (read : Result (B × Rows Place) Refusal) (n : ℕ) → (read >>= under Some) ≡ Err (Unexpected n) → read ≡ Err (Unexpected n)
  unsome-err (Ok x) n q = absurd (ok-err _ _ q)
  unsome-err (Err d) n q = again d (Unexpected n) q
    where
      failed : {X : Type 0} → Refusal → Result X Refusal
      failed e = Err e

      again : (c d : Refusal) → (Err c >>= under {A = B} Some) ≡ Err d → failed {X = B × Rows Place} c ≡ failed d
      again c d q = cc

  inside-tail : (v : Row Place) (vs t : Rows Place) → tail (v ∷ (vs ++ t)) ≡ Err (Unexpected (length t)) → (r : Row Place) (zs : Rows Place) → Fits (wb (v ∷ (vs ++ t))) r (length zs) (tail (v ∷ (vs ++ (r ∷ zs))))
  inside-tail v vs t q r zs = by (P (class v.shape)) refl
    where
      by : (c : Bool) → P (class v.shape) ≡ c → Fits (wb (v ∷ (vs ++ t))) r (length zs) (tail (v ∷ (vs ++ (r ∷ zs))))
      by true p =
          let f = hb.inside v vs t (unsome-err (b (v ∷ (vs ++ t))) (length t) (sym (there v (vs ++ t) p) ∙ q)) r zs in
          subst (λ w. Fits (wb (v ∷ (vs ++ t))) r (length zs) w) (sym (there v (vs ++ (r ∷ zs)) p))
          (record { taken = λ h. took_some (length zs) (b (v ∷ (vs ++ (r ∷ zs)))) (f.taken h); refused = λ h. ap (λ w. w >>= under Some) (f.refused h) })
      by false p = absurd (ok-err _ _ (sym (absent v (vs ++ t) p) ∙ q))

  whole-says : (t : Rows Place) → whole t ≡ Err (Unexpected (length t)) → words t ≡ ea
  whole-says t h = elim (bind_err (a t) after (Unexpected (length t)) h) [
    | inl p ↦ ap (behind (wa t) (λ x. wb)) p ∙ ha.says t p
    | inr p ↦ elim (bind_err (tail p.0.1) (λ y. Ok ((p.0.0, y.0), y.1)) (Unexpected (length t)) p.2) [
      | inl q ↦ let s = ha.rest t p.0 p.1 in absurd (omega (arith, bound-tail p.0.1 (length t) q, ap length s.2, length-append s.1 p.0.1))
      | inr q ↦ absurd (ok-err _ _ q.2)
    ]
  ]

  inside-part : (part us t rest : Rows Place) (x : A) → rest ≡ part ++ t → a (us ++ rest) ≡ Ok (x, rest) → tail rest ≡ Err (Unexpected (length t)) → (r : Row Place) (zs : Rows Place) → Fits (wb rest) r (length zs) (a (us ++ (part ++ (r ∷ zs))) >>= after)
  inside-part [] us t rest x e one q r zs = absurd (begun-tail t (subst (λ u. tail u ≡ Err (Unexpected (length t))) e q))
  inside-part (v ∷ vs) us t rest x e one q r zs =
      let stay = ha.stays us v vs t (r ∷ zs) x (subst (λ u. a (us ++ u) ≡ Ok (x, u)) e one) in
      let f = inside-tail v vs t (subst (λ u. tail u ≡ Err (Unexpected (length t))) e q) r zs in
      subst (λ u. Fits (wb u) r (length zs) (a (us ++ (v ∷ (vs ++ (r ∷ zs)))) >>= after)) (sym e)
      (subst (λ w. Fits (wb (v ∷ (vs ++ t))) r (length zs) (w >>= after)) (sym stay)
      (record { taken = λ h. took_behind (length zs) x (tail (v ∷ (vs ++ (r ∷ zs)))) (f.taken h); refused = λ h. ap (λ w. w >>= λ y. Ok ((x, y.0), y.1)) (f.refused h) }))

  whole-inside : (y : Row Place) (ys t : Rows Place) → whole (y ∷ (ys ++ t)) ≡ Err (Unexpected (length t)) → (r : Row Place) (zs : Rows Place) → Fits (words (y ∷ (ys ++ t))) r (length zs) (whole (y ∷ (ys ++ (r ∷ zs))))
  whole-inside y ys t h r zs = elim (bind_err (a (y ∷ (ys ++ t))) after (Unexpected (length t)) h) [
    | inl p ↦
        let f = ha.inside y ys t p r zs in
        subst (λ e. Fits e r (length zs) (whole (y ∷ (ys ++ (r ∷ zs))))) (sym (ap (behind (wa (y ∷ (ys ++ t))) (λ x. wb)) p))
        (record { taken = λ n. took_then (length zs) (a (y ∷ (ys ++ (r ∷ zs)))) (f.taken n); refused = λ n. ap (λ u. u >>= after) (f.refused n) })
    | inr p ↦ elim (bind_err (tail p.0.1) (λ y. Ok ((p.0.0, y.0), y.1)) (Unexpected (length t)) p.2) [
      | inl q ↦
          let s = ha.rest (y ∷ (ys ++ t)) p.0 p.1 in
          let c = parted (y ∷ ys) t (s.0 ∷ s.1) p.0.1 s.2 (bound-tail p.0.1 (length t) q) in
          let front : y ∷ (ys ++ (r ∷ zs)) ≡ (s.0 ∷ s.1) ++ (c.part ++ (r ∷ zs)) = ap (λ u. u ++ (r ∷ zs)) c.front_is ∙ append_assoc (s.0 ∷ s.1) c.part (r ∷ zs) in
          subst (λ e. Fits e r (length zs) (whole (y ∷ (ys ++ (r ∷ zs))))) (sym (ap (behind (wa (y ∷ (ys ++ t))) (λ x. wb)) p.1))
          (subst (λ u. Fits (wb p.0.1) r (length zs) (a u >>= after)) (sym front) (inside-part c.part (s.0 ∷ s.1) t p.0.1 p.0.0 c.rest_is (subst (λ u. a u ≡ Ok p.0) s.2 p.1) q r zs))
      | inr q ↦ absurd (ok-err _ _ q.2)
    ]
  ]

  -- What the second part gave: nothing taken, or the rows of b.
  data Given (xs t : Rows Place) (o : Option B) : Type 0 where
    nothing_there : o ≡ None → xs ≡ t → tail t ≡ Ok (None, t) → Given xs t o
    some_there : (y : B) (v : Row Place) (vs : Rows Place) → o ≡ Some y → P (class v.shape) ≡ true → xs ≡ v ∷ (vs ++ t) → b (v ∷ (vs ++ t)) ≡ Ok (y, t) → Given xs t o

  some-read : (read : Result (B × Rows Place) Refusal) (x : Option B × Rows Place) → (read >>= under Some) ≡ Ok x → (y : B) × (read ≡ Ok (y, x.1)) × (x.0 ≡ Some y)
  some-read (Ok v) x q = let s = ok_is (Some v.0, v.1) x q in (v.0, ap (λ (u : Option B × Rows Place). Ok (v.0, u.1)) s, ap (λ (u : Option B × Rows Place). u.0) (sym s))
  some-read (Err d) x q = absurd (err-ok _ _ q)

  given-by : (r : Row Place) (zs t : Rows Place) (o : Option B) (c : Bool) → P (class r.shape) ≡ c → tail (r ∷ zs) ≡ Ok (o, t) → Given (r ∷ zs) t o
  given-by r zs t o true p q =
      let v = some-read (b (r ∷ zs)) (o, t) (sym (there r zs p) ∙ q) in
      let s = hb.rest (r ∷ zs) (v.0, t) v.1 in
      let h = head-of r s.0 zs (s.1 ++ t) s.2 in
      some_there v.0 s.0 s.1 v.2 (ap (λ (u : Row Place). P (class u.shape)) (sym h) ∙ p) s.2 (subst (λ u. b u ≡ Ok (v.0, t)) s.2 v.1)
    where
      head-of : (x y : Row Place) (xs ys : Rows Place) → x ∷ xs ≡ y ∷ ys → x ≡ y
      head-of x y xs ys e = cc
  given-by r zs t o false p q =
      let s = ok_is (None, r ∷ zs) (o, t) (sym (absent r zs p) ∙ q) in
      let same : r ∷ zs ≡ t = ap (λ (u : Option B × Rows Place). u.1) s in
      nothing_there (ap (λ (u : Option B × Rows Place). u.0) (sym s)) same (subst (λ u. tail u ≡ Ok (None, u)) same (absent r zs p))

  given : (xs t : Rows Place) (o : Option B) → tail xs ≡ Ok (o, t) → Given xs t o
  given [] t o q =
      let s = ok_is (None, []) (o, t) q in
      let same : [] ≡ t = ap (λ (u : Option B × Rows Place). u.1) s in
      nothing_there (ap (λ (u : Option B × Rows Place). u.0) (sym s)) same (subst (λ u. tail u ≡ Ok (None, u)) same refl)
  given (r ∷ zs) t o q = given-by r zs t o (P (class r.shape)) refl q

  -- The rows of the first part, and those of the second.
  record Read (ys t : Rows Place) (x : A × Option B) : Type 0 where
    u : Row Place
    us : Rows Place
    part : Rows Place
    front_is : ys ≡ (u ∷ us) ++ part
    one : a ((u ∷ us) ++ (part ++ t)) ≡ Ok (x.0, part ++ t)
    two : tail (part ++ t) ≡ Ok (x.1, t)

  shorter : (xs t : Rows Place) (o : Option B) → tail xs ≡ Ok (o, t) → length t ≤ length xs
  shorter xs t o q = subst (Took (length xs)) q (took-tail xs)

  read_of : (ys t : Rows Place) (x : A × Option B) → whole (ys ++ t) ≡ Ok (x, t) → Read ys t x
  read_of ys t x h =
      let p = bind_ok (a (ys ++ t)) after (x, t) h in
      let q = bind_ok (tail p.0.1) (λ y. Ok ((p.0.0, y.0), y.1)) (x, t) p.2 in
      let is = ok_is ((p.0.0, q.0.0), q.0.1) (x, t) q.2 in
      let s = ha.rest (ys ++ t) p.0 p.1 in
      let two : tail p.0.1 ≡ Ok (x.1, t) = q.1 ∙ ap (λ (w : (A × Option B) × Rows Place). Ok (w.0.1, w.1)) is in
      let c = parted ys t (s.0 ∷ s.1) p.0.1 s.2 (shorter p.0.1 t x.1 two) in
      record {
        u = s.0;
        us = s.1;
        part = c.part;
        front_is = c.front_is;
        one = subst (λ w. a ((s.0 ∷ s.1) ++ w) ≡ Ok (x.0, w)) c.rest_is (subst (λ w. a w ≡ Ok (x.0, p.0.1)) s.2 (p.1 ∙ ap (λ (w : (A × Option B) × Rows Place). Ok (w.0.0, p.0.1)) is));
        two = subst (λ w. tail w ≡ Ok (x.1, t)) c.rest_is two;
      }

  again : (ys t w : Rows Place) (x : A × Option B) (k : Read ys t x) → whole (ys ++ w) ≡ (a ((k.u ∷ k.us) ++ (k.part ++ w)) >>= after)
  again ys t w x k = ap (λ z. whole (z ++ w)) k.front_is ∙ ap whole (append_assoc (k.u ∷ k.us) k.part w)

  no-part : (part t : Rows Place) → part ++ t ≡ t → part ≡ []
  no-part [] t e = refl
  no-part (x ∷ xs) t e = absurd (omega (arith, ap length e, length-append xs t))

  -- With another row behind both.
  next : (part us t : Rows Place) (x : A) (o : Option B) → a (us ++ (part ++ t)) ≡ Ok (x, part ++ t) → tail (part ++ t) ≡ Ok (o, t) → (r : Row Place) (zs : Rows Place) (c : Bool) → tail_more ma mb P (x, o) (class r.shape) ≡ c
      → cond c (Took (length zs) (a (us ++ (part ++ (r ∷ zs))) >>= after)) ((a (us ++ (part ++ (r ∷ zs))) >>= after) ≡ Ok ((x, o), r ∷ zs))
  next part us t x o one two r zs c m = elim (given (part ++ t) t o two) [
    | nothing_there n e k ↦
        let none_taken = no-part part t e in
        let first : a (us ++ t) ≡ Ok (x, t) = subst (λ w. a (us ++ w) ≡ Ok (x, w)) e one in
        subst (λ w. cond c (Took (length zs) (a (us ++ (w ++ (r ∷ zs))) >>= after)) ((a (us ++ (w ++ (r ∷ zs))) >>= after) ≡ Ok ((x, o), r ∷ zs))) (sym none_taken)
        (subst (λ w. cond c (Took (length zs) (a (us ++ (r ∷ zs)) >>= after)) ((a (us ++ (r ∷ zs)) >>= after) ≡ Ok ((x, w), r ∷ zs))) (sym n)
        (alone first c (ma x (class r.shape)) (P (class r.shape)) refl refl (subst (λ w. tail_more ma mb P (x, w) (class r.shape) ≡ c) n m)))
    | some_there y v vs n p e k ↦
        let part_is : part ≡ v ∷ vs = (cut-same part (v ∷ vs) t t e refl).0 in
        subst (λ w. cond c (Took (length zs) (a (us ++ (w ++ (r ∷ zs))) >>= after)) ((a (us ++ (w ++ (r ∷ zs))) >>= after) ≡ Ok ((x, o), r ∷ zs))) (sym part_is)
        (subst (λ w. cond c (Took (length zs) (a (us ++ (v ∷ (vs ++ (r ∷ zs)))) >>= after)) ((a (us ++ (v ∷ (vs ++ (r ∷ zs)))) >>= after) ≡ Ok ((x, w), r ∷ zs))) (sym n)
        (both y v vs p (subst (λ w. a (us ++ w) ≡ Ok (x, w)) e one) k c (subst (λ w. tail_more ma mb P (x, w) (class r.shape) ≡ c) n m)))
  ]
    where
      alone : a (us ++ t) ≡ Ok (x, t) → (c m f : Bool) → ma x (class r.shape) ≡ m → P (class r.shape) ≡ f → union (ma x) P (class r.shape) ≡ c
          → cond c (Took (length zs) (a (us ++ (r ∷ zs)) >>= after)) ((a (us ++ (r ∷ zs)) >>= after) ≡ Ok ((x, None), r ∷ zs))
      alone first true true f i j o = took_then (length zs) (a (us ++ (r ∷ zs))) (ha.goes_on us t x first r zs i)
      alone first true false true i j o = subst (λ w. Took (length zs) (w >>= after)) (sym (ha.ends us t x first r zs i)) (took_behind (length zs) x (tail (r ∷ zs)) (begins-tail r zs j))
      alone first true false false i j o = let wrong : false ≡ true = sym j ∙ ap (λ b. b || P (class r.shape)) (sym i) ∙ o in absurd cc
      alone first false true f i j o = let no : true ≡ false = ap (λ b. b || P (class r.shape)) (sym i) ∙ o in absurd cc
      alone first false false true i j o = let no : true ≡ false = sym j ∙ ap (λ b. b || P (class r.shape)) (sym i) ∙ o in absurd cc
      alone first false false false i j o = ap (λ w. w >>= after) (ha.ends us t x first r zs i) ∙ ap (λ w. w >>= λ y. Ok ((x, y.0), y.1)) (absent r zs j)

      both : (y : B) (v : Row Place) (vs : Rows Place) → P (class v.shape) ≡ true → a (us ++ (v ∷ (vs ++ t))) ≡ Ok (x, v ∷ (vs ++ t)) → b (v ∷ (vs ++ t)) ≡ Ok (y, t) → (c : Bool) → mb y (class r.shape) ≡ c
          → cond c (Took (length zs) (a (us ++ (v ∷ (vs ++ (r ∷ zs)))) >>= after)) ((a (us ++ (v ∷ (vs ++ (r ∷ zs)))) >>= after) ≡ Ok ((x, Some y), r ∷ zs))
      both y v vs p one k true m =
          subst (λ w. Took (length zs) (w >>= after)) (sym (ha.stays us v vs t (r ∷ zs) x one))
          (took_behind (length zs) x (tail (v ∷ (vs ++ (r ∷ zs)))) (subst (Took (length zs)) (sym (there v (vs ++ (r ∷ zs)) p)) (took_some (length zs) (b (v ∷ (vs ++ (r ∷ zs)))) (hb.goes_on (v ∷ vs) t y k r zs m))))
      both y v vs p one k false m =
          ap (λ w. w >>= after) (ha.stays us v vs t (r ∷ zs) x one)
          ∙ ap (λ w. w >>= λ y. Ok ((x, y.0), y.1)) (there v (vs ++ (r ∷ zs)) p ∙ ap (λ w. w >>= under Some) (hb.ends (v ∷ vs) t y k r zs m))

  stays_one : (us part : Rows Place) (v : Row Place) (vs t u : Rows Place) (x : A) → a (us ++ (part ++ (v ∷ (vs ++ t)))) ≡ Ok (x, part ++ (v ∷ (vs ++ t))) → a (us ++ (part ++ (v ∷ (vs ++ u)))) ≡ Ok (x, part ++ (v ∷ (vs ++ u)))
  stays_one us [] v vs t u x q = ha.stays us v vs t u x q
  stays_one us (w ∷ ws) v vs t u x q =
      let assoc : (z : Rows Place) → w ∷ (ws ++ (v ∷ (vs ++ z))) ≡ w ∷ ((ws ++ (v ∷ vs)) ++ z) = λ z. ap (λ a. w ∷ a) (sym (append_assoc ws (v ∷ vs) z)) in
      subst (λ z. a (us ++ z) ≡ Ok (x, z)) (sym (assoc u)) (ha.stays us w (ws ++ (v ∷ vs)) t u x (subst (λ z. a (us ++ z) ≡ Ok (x, z)) (assoc t) q))

  stays_two : (part : Rows Place) (v : Row Place) (vs t u : Rows Place) (o : Option B) → tail (part ++ (v ∷ (vs ++ t))) ≡ Ok (o, v ∷ (vs ++ t)) → tail (part ++ (v ∷ (vs ++ u))) ≡ Ok (o, v ∷ (vs ++ u))
  stays_two [] v vs t u o q = by (P (class v.shape)) refl
    where
      by : (c : Bool) → P (class v.shape) ≡ c → tail (v ∷ (vs ++ u)) ≡ Ok (o, v ∷ (vs ++ u))
      by true p = absurd (omega (arith, subst (Took (length (vs ++ t))) q (begins-tail v (vs ++ t) p)))
      by false p = absent v (vs ++ u) p ∙ ap (λ (w : Option B × Rows Place). Ok (w.0, v ∷ (vs ++ u))) (ok_is (None, v ∷ (vs ++ t)) (o, v ∷ (vs ++ t)) (sym (absent v (vs ++ t) p) ∙ q))
  stays_two (w ∷ ws) v vs t u o q = by (P (class w.shape)) refl
    where
      by : (c : Bool) → P (class w.shape) ≡ c → tail (w ∷ (ws ++ (v ∷ (vs ++ u)))) ≡ Ok (o, v ∷ (vs ++ u))
      by true p =
          let k = some-read (b (w ∷ (ws ++ (v ∷ (vs ++ t))))) (o, v ∷ (vs ++ t)) (sym (there w (ws ++ (v ∷ (vs ++ t))) p) ∙ q) in
          there w (ws ++ (v ∷ (vs ++ u))) p ∙ ap (λ z. z >>= under Some) (hb.stays (w ∷ ws) v vs t u k.0 k.1) ∙ ap (λ z. Ok (z, v ∷ (vs ++ u))) (sym k.2)
      by false p =
          let s = ok_is (None, w ∷ (ws ++ (v ∷ (vs ++ t)))) (o, v ∷ (vs ++ t)) (sym (absent w (ws ++ (v ∷ (vs ++ t))) p) ∙ q) in
          absurd (omega (arith, ap (λ (z : Option B × Rows Place). length z.1) s, length-append ws (v ∷ (vs ++ t))))

  whole-rest : (xs : Rows Place) (x : (A × Option B) × Rows Place) → whole xs ≡ Ok x → (y : Row Place) × (ys : Rows Place) × (xs ≡ y ∷ (ys ++ x.1))
  whole-rest xs x h =
      let p = bind_ok (a xs) after x h in
      let q = bind_ok (tail p.0.1) (λ y. Ok ((p.0.0, y.0), y.1)) x p.2 in
      let is = ok_is ((p.0.0, q.0.0), q.0.1) x q.2 in
      let s = ha.rest xs p.0 p.1 in
      elim (given p.0.1 x.1 x.0.1 (q.1 ∙ ap (λ (w : (A × Option B) × Rows Place). Ok (w.0.1, w.1)) is)) [
        | nothing_there n e k ↦ (s.0, s.1, s.2 ∙ ap (λ w. s.0 ∷ (s.1 ++ w)) e)
        | some_there y v vs n i e k ↦ (s.0, s.1 ++ (v ∷ vs), s.2 ∙ ap (λ w. s.0 ∷ (s.1 ++ w)) e ∙ ap (λ w. s.0 ∷ w) (sym (append_assoc s.1 (v ∷ vs) x.1)))
      ]

  whole-bound : (xs : Rows Place) (n : ℕ) → whole xs ≡ Err (Unexpected n) → n ≤ length xs
  whole-bound xs n h = elim (bind_err (a xs) after (Unexpected n) h) [
    | inl p ↦ ha.bound xs n p
    | inr p ↦ elim (bind_err (tail p.0.1) (λ y. Ok ((p.0.0, y.0), y.1)) (Unexpected n) p.2) [
      | inl q ↦ let s = ha.rest xs p.0 p.1 in omega (arith, bound-tail p.0.1 n q, ap length s.2, length-append s.1 p.0.1)
      | inr q ↦ absurd (ok-err _ _ q.2)
    ]
  ]

  -- A part, and another by the tokens that begin it, if it is there.
  pub tail-exact : Exact (reader.seq a (reader.optional (in_set P) b)) (and_then a wa (λ x. wb)) ea fa (tail_more ma mb P)
  tail-exact = record {
    begins = λ r zs k. took_then (length zs) (a (r ∷ zs)) (ha.begins r zs k);
    barred = λ r zs k. ap (λ v. v >>= after) (ha.barred r zs k);
    empty = ap (λ v. v >>= after) ha.empty;
    says = whole-says;
    inside = whole-inside;
    ends = λ ys t x h r zs m. let k = read_of ys t x h in again ys t (r ∷ zs) x k ∙ next k.part (k.u ∷ k.us) t x.0 x.1 k.one k.two r zs false m;
    goes_on = λ ys t x h r zs m. let k = read_of ys t x h in subst (Took (length zs)) (sym (again ys t (r ∷ zs) x k)) (next k.part (k.u ∷ k.us) t x.0 x.1 k.one k.two r zs true m);
    stays = λ ys v vs t u x h.
        let k = read_of ys (v ∷ (vs ++ t)) x h in
        again ys (v ∷ (vs ++ t)) (v ∷ (vs ++ u)) x k ∙ ap (λ w. w >>= after) (stays_one (k.u ∷ k.us) k.part v vs t u x.0 k.one) ∙ ap (λ w. w >>= λ y. Ok ((x.0, y.0), y.1)) (stays_two k.part v vs t u x.1 k.two);
    rest = whole-rest;
    bound = whole-bound;
    all = λ xs. took_then (length xs) (a xs) (ha.all xs);
  }
