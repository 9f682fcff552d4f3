-- Reading again and again is exact if one turn is.
use Rattle.std.proofs.Common.{◌≡◌, ◌≤◌, ℕ, zero, suc, Bool, true, false, cond, ◌||◌, List, [], ◌∷◌, ◌++◌, length, Result, Ok, Err, refl, sym, ap, subst, ◌∙◌, append_assoc, arith, inl, inr}
use Rattle.std.proofs.lemmas.List.{length-append}
use Rattle.protox_ast.specs.Places.{Place}
use Rattle.protox_lexeme.specs.Shapes.{Row, Rows}
use Rattle.protox_grammar.specs.Class.{Set, class, in_set, none}
use Rattle.protox_grammar.specs.Reader.{Consumes, Reader, Refusal, Unexpected, Deep, ◌>>=◌, star}
use Rattle.protox_grammar.proofs.Lemmas.{bind_err, bind_ok, ok-err, ok_is, star-turn}
use Rattle.protox_rows.specs.declared.expected.Expected.{Expected}
use Rattle.protox_rows.specs.inner.Words.{Words, behind, times}
use Rattle.protox_rows.proofs.Exact.{Exact, Fits, Took, parted, took_more}
use Rattle.protox_rows.proofs.Turns.{words-turn}

-- The tokens with which the last of a list would go on.
abbrev pub last_more : {B : Type 0} → (B → Set) → List B → Set
last_more more [] = none
last_more more (y ∷ []) = more y
last_more more (y ∷ z ∷ zs) = last_more more (z ∷ zs)

module _ {B : Type 0} {b : Reader Place B} {wb : Words} {eb : Expected} {P : Set} {mb : B → Set} (hb : Exact b wb eb P mb) where
  pub eats : Consumes b
  eats xs x q = let s = hb.rest xs x q in omega (arith, ap length s.2, length-append s.1 x.1)

  abbrev all : Reader Place (List B)
  all = star (in_set P) b

  abbrev turn : B × Rows Place → Result (List B × Rows Place) Refusal
  turn x = all x.1 >>= λ y. Ok (x.0 ∷ y.0, y.1)

  goes : (r : Row Place) (zs : Rows Place) → P (class r.shape) ≡ true → all (r ∷ zs) ≡ (b (r ∷ zs) >>= turn)
  goes r zs p = star-turn (in_set P) b eats (r ∷ zs) ∙ ap (λ v. cond v (b (r ∷ zs) >>= turn) (Ok ([], r ∷ zs))) p

  stops : (r : Row Place) (zs : Rows Place) → P (class r.shape) ≡ false → all (r ∷ zs) ≡ Ok ([], r ∷ zs)
  stops r zs p = star-turn (in_set P) b eats (r ∷ zs) ∙ ap (λ v. cond v (b (r ∷ zs) >>= turn) (Ok ([], r ∷ zs))) p

  none_left : all [] ≡ Ok ([], [])
  none_left = star-turn (in_set P) b eats []

  -- ---- what is left

  -- A list, and how many rows it took.
  pub record Taken (xs : Rows Place) (l : List B) (rest : Rows Place) : Type 0 where
    pub front : Rows Place
    pub rows_are : xs ≡ front ++ rest
    -- an empty list takes nothing, any other takes something
    pub empty : (l ≡ [] → front ≡ []) × (front ≡ [] → l ≡ [])

  nothing_taken : (xs : Rows Place) → Taken xs [] xs
  nothing_taken xs = record { front = []; rows_are = refl; empty = (λ e. refl, λ e. refl) }

  taken_turn : (r : Row Place) (zs : Rows Place) → ((xs : Rows Place) → length xs ≤ length zs → (x : List B × Rows Place) → all xs ≡ Ok x → Taken xs x.0 x.1)
      → (x : List B × Rows Place) (c : Bool) → P (class r.shape) ≡ c → all (r ∷ zs) ≡ Ok x → Taken (r ∷ zs) x.0 x.1
  taken_turn r zs ih x false p q = subst (λ (v : List B × Rows Place). Taken (r ∷ zs) v.0 v.1) (ok_is ([], r ∷ zs) x (sym (stops r zs p) ∙ q)) (nothing_taken (r ∷ zs))
  taken_turn r zs ih x true p q =
      let v = bind_ok (b (r ∷ zs)) turn x (sym (goes r zs p) ∙ q) in
      let u = bind_ok (all v.0.1) (λ y. Ok (v.0.0 ∷ y.0, y.1)) x v.2 in
      let s = hb.rest (r ∷ zs) v.0 v.1 in
      let t = ih v.0.1 (omega (arith, ap length s.2, length-append s.1 v.0.1)) u.0 u.1 in
      subst (λ (w : List B × Rows Place). Taken (r ∷ zs) w.0 w.1) (ok_is (v.0.0 ∷ u.0.0, u.0.1) x u.2) (record {
        front = s.0 ∷ (s.1 ++ t.front);
        rows_are = s.2 ∙ ap (λ w. s.0 ∷ (s.1 ++ w)) t.rows_are ∙ ap (λ w. s.0 ∷ w) (sym (append_assoc s.1 t.front u.0.1));
        empty = (λ e. absurd cc, λ e. absurd cc);
      })

  taken_by : (n : ℕ) (xs : Rows Place) → length xs ≤ n → (x : List B × Rows Place) → all xs ≡ Ok x → Taken xs x.0 x.1
  taken_by n [] k x q = subst (λ (v : List B × Rows Place). Taken [] v.0 v.1) (ok_is ([], []) x (sym none_left ∙ q)) (nothing_taken [])
  taken_by zero (r ∷ zs) k x q = absurd (omega (arith, k))
  taken_by (suc n) (r ∷ zs) k x q = taken_turn r zs (λ ys l. taken_by n ys (omega (arith, k, l))) x (P (class r.shape)) refl q

  pub taken : (xs : Rows Place) (x : List B × Rows Place) → all xs ≡ Ok x → Taken xs x.0 x.1
  taken xs x q = taken_by (length xs) xs (omega arith) x q

  fewer : (xs : Rows Place) (x : List B × Rows Place) → all xs ≡ Ok x → length x.1 ≤ length xs
  fewer xs x q = let t = taken xs x q in omega (arith, ap length t.rows_are, length-append t.front x.1)

  -- ---- where it is refused

  bound_turn : (r : Row Place) (zs : Rows Place) → ((xs : Rows Place) → length xs ≤ length zs → (m : ℕ) → all xs ≡ Err (Unexpected m) → m ≤ length xs) → (m : ℕ) (c : Bool) → P (class r.shape) ≡ c → all (r ∷ zs) ≡ Err (Unexpected m) → m ≤ length zs
  bound_turn r zs ih m false p q = absurd (ok-err _ _ (sym (stops r zs p) ∙ q))
  bound_turn r zs ih m true p q = elim (bind_err (b (r ∷ zs)) turn (Unexpected m) (sym (goes r zs p) ∙ q)) [
    | inl e ↦ subst (Took (length zs)) e (hb.begins r zs p)
    | inr v ↦
        let s = hb.rest (r ∷ zs) v.0 v.1 in
        let l : length v.0.1 ≤ length zs = omega (arith, ap length s.2, length-append s.1 v.0.1) in
        elim (bind_err (all v.0.1) (λ y. Ok (v.0.0 ∷ y.0, y.1)) (Unexpected m) v.2) [
          | inl e ↦ omega (arith, l, ih v.0.1 l m e)
          | inr u ↦ absurd (ok-err _ _ u.2)
        ]
  ]

  bound_by : (n : ℕ) (xs : Rows Place) → length xs ≤ n → (m : ℕ) → all xs ≡ Err (Unexpected m) → m ≤ length xs
  bound_by n [] k m q = absurd (ok-err _ _ (sym none_left ∙ q))
  bound_by zero (r ∷ zs) k m q = absurd (omega (arith, k))
  bound_by (suc n) (r ∷ zs) k m q = omega (arith, bound_turn r zs (λ ys l. bound_by n ys (omega (arith, k, l))) m (P (class r.shape)) refl q)

  pub bound : (xs : Rows Place) (m : ℕ) → all xs ≡ Err (Unexpected m) → m ≤ length xs
  bound xs m q = bound_by (length xs) xs (omega arith) m q

  -- It is never refused at its beginning: either a turn begins there, or none does.
  pub begun : (t : Rows Place) → all t ≡ Err (Unexpected (length t)) → ⊥
  begun [] q = ok-err _ _ (sym none_left ∙ q)
  begun (r ∷ zs) q = omega (arith, bound_turn r zs (λ ys l. bound ys) (length (r ∷ zs)) (P (class r.shape)) refl q)

  took_cons : (n : ℕ) (y : B) (read : Result (List B × Rows Place) Refusal) → Took n read → Took {X = List B} n (read >>= λ x. Ok (y ∷ x.0, x.1))
  took_cons n y (Ok x) t = t
  took_cons n y (Err (Unexpected m)) t = t
  took_cons n y (Err (Deep m)) t = t

  -- What a list takes, if one of fewer rows does so.
  took_first : (n : ℕ) (read : Result (B × Rows Place) Refusal) → Took n read → ((x : B × Rows Place) → read ≡ Ok x → Took (length x.1) (all x.1)) → Took n (read >>= turn)
  took_first n (Ok x) t h = took_cons n x.0 (all x.1) (took_more (length x.1) n (all x.1) t (h x refl))
  took_first n (Err (Unexpected m)) t h = t
  took_first n (Err (Deep m)) t h = t

  took_row : (r : Row Place) (zs : Rows Place) (c : Bool) → P (class r.shape) ≡ c → ((x : B × Rows Place) → b (r ∷ zs) ≡ Ok x → Took (length x.1) (all x.1)) → Took (length (r ∷ zs)) (all (r ∷ zs))
  took_row r zs true p h = subst (Took (length (r ∷ zs))) (sym (goes r zs p)) (took_first (length (r ∷ zs)) (b (r ∷ zs)) (hb.all (r ∷ zs)) h)
  took_row r zs false p h = subst (Took (length (r ∷ zs))) (sym (stops r zs p)) (omega arith)

  took_by : (n : ℕ) (xs : Rows Place) → length xs ≤ n → Took (length xs) (all xs)
  took_by n [] k = subst (Took 0) (sym none_left) (omega arith)
  took_by zero (r ∷ zs) k = absurd (omega (arith, k))
  took_by (suc n) (r ∷ zs) k = took_row r zs (P (class r.shape)) refl (λ x q. let s = hb.rest (r ∷ zs) x q in took_by n x.1 (omega (arith, k, ap length s.2, length-append s.1 x.1)))

  pub took-all : (xs : Rows Place) → Took (length xs) (all xs)
  took-all xs = took_by (length xs) xs (omega arith)

  took_turn : (n : ℕ) (read : Result (B × Rows Place) Refusal) → Took n read → Took n (read >>= turn)
  took_turn n (Ok x) t = took_cons n x.0 (all x.1) (took_more (length x.1) n (all x.1) t (took-all x.1))
  took_turn n (Err (Unexpected m)) t = t
  took_turn n (Err (Deep m)) t = t

  -- ---- the words where it is refused

  abbrev words : Words
  words = times (in_set P) b wb

  words_at_turn : (r : Row Place) (zs : Rows Place) → P (class r.shape) ≡ true → words (r ∷ zs) ≡ behind (wb (r ∷ zs)) (λ x. words) (b (r ∷ zs))
  words_at_turn r zs p = words-turn (in_set P) b wb eats (r ∷ zs) p

  abbrev Inside : Rows Place → Type 0
  Inside ys = (t : Rows Place) → all (ys ++ t) ≡ Err (Unexpected (length t)) → (r : Row Place) (zs : Rows Place) → Fits (words (ys ++ t)) r (length zs) (all (ys ++ (r ∷ zs)))

  inside_later : (part us t rest : Rows Place) (x : B) → Inside part → rest ≡ part ++ t → b (us ++ rest) ≡ Ok (x, rest) → all rest ≡ Err (Unexpected (length t)) → (r : Row Place) (zs : Rows Place)
      → Fits (words rest) r (length zs) (b (us ++ (part ++ (r ∷ zs))) >>= turn)
  inside_later [] us t rest x ih e one q r zs = absurd (begun t (subst (λ u. all u ≡ Err (Unexpected (length t))) e q))
  inside_later (v ∷ vs) us t rest x ih e one q r zs =
      let same = subst (λ u. b (us ++ u) ≡ Ok (x, u)) e one in
      let stay = hb.stays us v vs t (r ∷ zs) x same in
      let f = ih t (subst (λ u. all u ≡ Err (Unexpected (length t))) e q) r zs in
      subst (λ u. Fits (words u) r (length zs) (b (us ++ (v ∷ (vs ++ (r ∷ zs)))) >>= turn)) (sym e)
      (subst (λ w. Fits (words (v ∷ (vs ++ t))) r (length zs) (w >>= turn)) (sym stay)
      (record { taken = λ h. took_cons (length zs) x (all (v ∷ (vs ++ (r ∷ zs)))) (f.taken h); refused = λ h. ap (λ w. w >>= λ y. Ok (x ∷ y.0, y.1)) (f.refused h) }))

  inside_turn : (y : Row Place) (ys t : Rows Place) → ((part : Rows Place) → length part ≤ length ys → Inside part) → (c : Bool) → P (class y.shape) ≡ c → all (y ∷ (ys ++ t)) ≡ Err (Unexpected (length t)) → (r : Row Place) (zs : Rows Place) → Fits (words (y ∷ (ys ++ t))) r (length zs) (all (y ∷ (ys ++ (r ∷ zs))))
  inside_turn y ys t ih false p q r zs = absurd (ok-err _ _ (sym (stops y (ys ++ t) p) ∙ q))
  inside_turn y ys t ih true p q r zs =
      subst (λ v. Fits (words (y ∷ (ys ++ t))) r (length zs) v) (sym (goes y (ys ++ (r ∷ zs)) p))
      (elim (bind_err (b (y ∷ (ys ++ t))) turn (Unexpected (length t)) (sym (goes y (ys ++ t) p) ∙ q)) [
        | inl e ↦
            let f = hb.inside y ys t e r zs in
            let said : words (y ∷ (ys ++ t)) ≡ wb (y ∷ (ys ++ t)) = words_at_turn y (ys ++ t) p ∙ ap (behind (wb (y ∷ (ys ++ t))) (λ x. words)) e in
            subst (λ v. Fits v r (length zs) (b (y ∷ (ys ++ (r ∷ zs))) >>= turn)) (sym said)
            (record { taken = λ h. took_turn (length zs) (b (y ∷ (ys ++ (r ∷ zs)))) (f.taken h); refused = λ h. ap (λ v. v >>= turn) (f.refused h) })
        | inr v ↦ elim (bind_err (all v.0.1) (λ y. Ok (v.0.0 ∷ y.0, y.1)) (Unexpected (length t)) v.2) [
          | inl e ↦
              let s = hb.rest (y ∷ (ys ++ t)) v.0 v.1 in
              let c = parted (y ∷ ys) t (s.0 ∷ s.1) v.0.1 s.2 (bound v.0.1 (length t) e) in
              let said : words (y ∷ (ys ++ t)) ≡ words v.0.1 = words_at_turn y (ys ++ t) p ∙ ap (behind (wb (y ∷ (ys ++ t))) (λ x. words)) v.1 in
              let front : y ∷ (ys ++ (r ∷ zs)) ≡ (s.0 ∷ s.1) ++ (c.part ++ (r ∷ zs)) = ap (λ u. u ++ (r ∷ zs)) c.front_is ∙ append_assoc (s.0 ∷ s.1) c.part (r ∷ zs) in
              subst (λ w. Fits w r (length zs) (b (y ∷ (ys ++ (r ∷ zs))) >>= turn)) (sym said)
              (subst (λ u. Fits (words v.0.1) r (length zs) (b u >>= turn)) (sym front)
              (inside_later c.part (s.0 ∷ s.1) t v.0.1 v.0.0 (ih c.part (omega (arith, ap length c.front_is, length-append s.1 c.part))) c.rest_is (subst (λ u. b u ≡ Ok v.0) s.2 v.1) e r zs))
          | inr u ↦ absurd (ok-err _ _ u.2)
        ]
      ])

  inside_by : (n : ℕ) (ys : Rows Place) → length ys ≤ n → Inside ys
  inside_by n [] k t q r zs = absurd (begun t q)
  inside_by zero (y ∷ ys) k t q r zs = absurd (omega (arith, k))
  inside_by (suc n) (y ∷ ys) k t q r zs = inside_turn y ys t (λ part l. inside_by n part (omega (arith, k, l))) (P (class y.shape)) refl q r zs

  pub inside-all : (ys t : Rows Place) → all (ys ++ t) ≡ Err (Unexpected (length t)) → (r : Row Place) (zs : Rows Place) → Fits (words (ys ++ t)) r (length zs) (all (ys ++ (r ∷ zs)))
  inside-all ys t q r zs = inside_by (length ys) ys (omega arith) t q r zs

  -- ---- what may stand behind a list

  -- The first turn of a list, and the others.
  record Turned (y : Row Place) (ys t : Rows Place) (l : List B) : Type 0 where
    us : Rows Place
    part : Rows Place
    x : B
    others : List B
    list_is : l ≡ x ∷ others
    front_is : y ∷ ys ≡ us ++ part
    shorter : length part ≤ length ys
    begins : P (class y.shape) ≡ true
    one : b (us ++ (part ++ t)) ≡ Ok (x, part ++ t)
    more : all (part ++ t) ≡ Ok (others, t)

  turned_by : (y : Row Place) (ys t : Rows Place) (l : List B) (c : Bool) → P (class y.shape) ≡ c → all (y ∷ (ys ++ t)) ≡ Ok (l, t) → Turned y ys t l
  turned_by y ys t l false p q =
      let s = ok_is ([], y ∷ (ys ++ t)) (l, t) (sym (stops y (ys ++ t) p) ∙ q) in
      absurd (omega (arith, ap (λ (v : List B × Rows Place). length v.1) s, length-append ys t))
  turned_by y ys t l true p q =
      let v = bind_ok (b (y ∷ (ys ++ t))) turn (l, t) (sym (goes y (ys ++ t) p) ∙ q) in
      let u = bind_ok (all v.0.1) (λ z. Ok (v.0.0 ∷ z.0, z.1)) (l, t) v.2 in
      let is = ok_is (v.0.0 ∷ u.0.0, u.0.1) (l, t) u.2 in
      let s = hb.rest (y ∷ (ys ++ t)) v.0 v.1 in
      let c = parted (y ∷ ys) t (s.0 ∷ s.1) v.0.1 s.2 (subst (λ (w : List B × Rows Place). length w.1 ≤ length v.0.1) is (fewer v.0.1 u.0 u.1)) in
      record {
        us = s.0 ∷ s.1;
        part = c.part;
        x = v.0.0;
        others = u.0.0;
        list_is = ap (λ (w : List B × Rows Place). w.0) (sym is);
        front_is = c.front_is;
        shorter = omega (arith, ap length c.front_is, length-append s.1 c.part);
        begins = p;
        one = subst (λ w. b ((s.0 ∷ s.1) ++ w) ≡ Ok (v.0.0, w)) c.rest_is (subst (λ w. b w ≡ Ok v.0) s.2 v.1);
        more = subst (λ w. all w ≡ Ok (u.0.0, t)) c.rest_is (u.1 ∙ ap (λ (w : List B × Rows Place). Ok (u.0.0, w.1)) is);
      }

  turned : (y : Row Place) (ys t : Rows Place) (l : List B) → all (y ∷ (ys ++ t)) ≡ Ok (l, t) → Turned y ys t l
  turned y ys t l q = turned_by y ys t l (P (class y.shape)) refl q

  no_rows : (xs : Rows Place) → length xs ≡ 0 → xs ≡ []
  no_rows [] l = refl
  no_rows (x ∷ xs) l = absurd (omega (arith, l))

  -- Nothing was taken, so the list is empty.
  none_taken : (t : Rows Place) (l : List B) → all t ≡ Ok (l, t) → l ≡ []
  none_taken t l q = let k = taken t (l, t) q in k.empty.1 (no_rows k.front (omega (arith, ap length k.rows_are, length-append k.front t)))

  -- Something was taken, so it isn't.
  some_taken : (v : Row Place) (vs t : Rows Place) (l : List B) → all (v ∷ (vs ++ t)) ≡ Ok (l, t) → l ≡ [] → ⊥
  some_taken v vs t l q e =
      let k = taken (v ∷ (vs ++ t)) (l, t) q in
      omega (arith, ap length k.rows_are, length-append k.front t, length-append vs t, ap length (k.empty.0 e))

  last_is : (x : B) (l : List B) (k : ℕ) → (l ≡ [] → ⊥) → last_more mb (x ∷ l) k ≡ last_more mb l k
  last_is x [] k h = absurd (h refl)
  last_is x (z ∷ zs) k h = refl

  -- ys ++ t with another tail, where t isn't read
  again : (y : Row Place) (ys t u : Rows Place) (l : List B) (k : Turned y ys t l) → all (y ∷ (ys ++ u)) ≡ (b (k.us ++ (k.part ++ u)) >>= turn)
  again y ys t u l k = goes y (ys ++ u) k.begins ∙ ap (λ w. b (w ++ u) >>= turn) k.front_is ∙ ap (λ w. b w >>= turn) (append_assoc k.us k.part u)

  abbrev Ends : Rows Place → Type 0
  Ends ys = (t : Rows Place) (l : List B) → all (ys ++ t) ≡ Ok (l, t) → (r : Row Place) (zs : Rows Place) → P (class r.shape) ≡ false → last_more mb l (class r.shape) ≡ false → all (ys ++ (r ∷ zs)) ≡ Ok (l, r ∷ zs)

  ends_part : (part us t : Rows Place) (x : B) (l : List B) → Ends part → b (us ++ (part ++ t)) ≡ Ok (x, part ++ t) → all (part ++ t) ≡ Ok (l, t) → (r : Row Place) (zs : Rows Place) → P (class r.shape) ≡ false → last_more mb (x ∷ l) (class r.shape) ≡ false
      → (b (us ++ (part ++ (r ∷ zs))) >>= turn) ≡ Ok (x ∷ l, r ∷ zs)
  ends_part [] us t x l ih one q r zs p m =
      let e = none_taken t l q in
      ap (λ w. w >>= turn) (hb.ends us t x one r zs (subst (λ w. last_more mb (x ∷ w) (class r.shape) ≡ false) e m)) ∙ ap (λ w. w >>= λ z. Ok (x ∷ z.0, z.1)) (stops r zs p) ∙ ap (λ w. Ok (x ∷ w, r ∷ zs)) (sym e)
  ends_part (v ∷ vs) us t x l ih one q r zs p m =
      ap (λ w. w >>= turn) (hb.stays us v vs t (r ∷ zs) x one) ∙ ap (λ w. w >>= λ z. Ok (x ∷ z.0, z.1)) (ih t l q r zs p (sym (last_is x l (class r.shape) (some_taken v vs t l q)) ∙ m))

  ends_by : (n : ℕ) (ys : Rows Place) → length ys ≤ n → Ends ys
  ends_by n [] k t l q r zs p m = stops r zs p ∙ ap (λ w. Ok (w, r ∷ zs)) (sym (none_taken t l q))
  ends_by zero (y ∷ ys) k t l q r zs p m = absurd (omega (arith, k))
  ends_by (suc n) (y ∷ ys) k t l q r zs p m =
      let h = turned y ys t l q in
      again y ys t (r ∷ zs) l h ∙ ends_part h.part h.us t h.x h.others (ends_by n h.part (omega (arith, k, h.shorter))) h.one h.more r zs p (subst (λ w. last_more mb w (class r.shape) ≡ false) h.list_is m) ∙ ap (λ w. Ok (w, r ∷ zs)) (sym h.list_is)

  pub ends-all : (ys : Rows Place) → Ends ys
  ends-all ys = ends_by (length ys) ys (omega arith)

  -- A further turn begins.
  begins-all : (r : Row Place) (zs : Rows Place) → P (class r.shape) ≡ true → Took (length zs) (all (r ∷ zs))
  begins-all r zs p = subst (Took (length zs)) (sym (goes r zs p)) (took_turn (length zs) (b (r ∷ zs)) (hb.begins r zs p))

  abbrev Goes : Rows Place → Type 0
  Goes ys = (t : Rows Place) (l : List B) → all (ys ++ t) ≡ Ok (l, t) → (r : Row Place) (zs : Rows Place) → last_more mb l (class r.shape) || P (class r.shape) ≡ true → Took (length zs) (all (ys ++ (r ∷ zs)))

  goes_last : (us t : Rows Place) (x : B) → b (us ++ t) ≡ Ok (x, t) → (r : Row Place) (zs : Rows Place) (c : Bool) → mb x (class r.shape) ≡ c → c || P (class r.shape) ≡ true → Took (length zs) (b (us ++ (r ∷ zs)) >>= turn)
  goes_last us t x one r zs true e m = took_turn (length zs) (b (us ++ (r ∷ zs))) (hb.goes_on us t x one r zs e)
  goes_last us t x one r zs false e m = subst (λ w. Took (length zs) (w >>= turn)) (sym (hb.ends us t x one r zs e)) (took_cons (length zs) x (all (r ∷ zs)) (begins-all r zs m))

  goes_part : (part us t : Rows Place) (x : B) (l : List B) → Goes part → b (us ++ (part ++ t)) ≡ Ok (x, part ++ t) → all (part ++ t) ≡ Ok (l, t) → (r : Row Place) (zs : Rows Place) → last_more mb (x ∷ l) (class r.shape) || P (class r.shape) ≡ true
      → Took (length zs) (b (us ++ (part ++ (r ∷ zs))) >>= turn)
  goes_part [] us t x l ih one q r zs m = goes_last us t x one r zs (mb x (class r.shape)) refl (subst (λ w. last_more mb (x ∷ w) (class r.shape) || P (class r.shape) ≡ true) (none_taken t l q) m)
  goes_part (v ∷ vs) us t x l ih one q r zs m =
      subst (λ w. Took (length zs) (w >>= turn)) (sym (hb.stays us v vs t (r ∷ zs) x one))
      (took_cons (length zs) x (all (v ∷ (vs ++ (r ∷ zs)))) (ih t l q r zs (ap (λ c. c || P (class r.shape)) (sym (last_is x l (class r.shape) (some_taken v vs t l q))) ∙ m)))

  goes_by : (n : ℕ) (ys : Rows Place) → length ys ≤ n → Goes ys
  goes_by n [] k t l q r zs m = begins-all r zs (subst (λ w. last_more mb w (class r.shape) || P (class r.shape) ≡ true) (none_taken t l q) m)
  goes_by zero (y ∷ ys) k t l q r zs m = absurd (omega (arith, k))
  goes_by (suc n) (y ∷ ys) k t l q r zs m =
      let h = turned y ys t l q in
      subst (Took (length zs)) (sym (again y ys t (r ∷ zs) l h)) (goes_part h.part h.us t h.x h.others (goes_by n h.part (omega (arith, k, h.shorter))) h.one h.more r zs (subst (λ w. last_more mb w (class r.shape) || P (class r.shape) ≡ true) h.list_is m))

  pub goes_on-all : (ys : Rows Place) → Goes ys
  goes_on-all ys = goes_by (length ys) ys (omega arith)

  abbrev Stays : Rows Place → Type 0
  Stays ys = (v : Row Place) (vs t u : Rows Place) (l : List B) → all (ys ++ (v ∷ (vs ++ t))) ≡ Ok (l, v ∷ (vs ++ t)) → all (ys ++ (v ∷ (vs ++ u))) ≡ Ok (l, v ∷ (vs ++ u))

  -- What was read doesn't depend on rows behind the next one.
  stays_one : (us part : Rows Place) (v : Row Place) (vs t u : Rows Place) (x : B) → b (us ++ (part ++ (v ∷ (vs ++ t)))) ≡ Ok (x, part ++ (v ∷ (vs ++ t))) → b (us ++ (part ++ (v ∷ (vs ++ u)))) ≡ Ok (x, part ++ (v ∷ (vs ++ u)))
  stays_one us [] v vs t u x q = hb.stays us v vs t u x q
  stays_one us (w ∷ ws) v vs t u x q =
      let assoc : (z : Rows Place) → w ∷ (ws ++ (v ∷ (vs ++ z))) ≡ w ∷ ((ws ++ (v ∷ vs)) ++ z) = λ z. ap (λ a. w ∷ a) (sym (append_assoc ws (v ∷ vs) z)) in
      subst (λ a. b (us ++ a) ≡ Ok (x, a)) (sym (assoc u)) (hb.stays us w (ws ++ (v ∷ vs)) t u x (subst (λ a. b (us ++ a) ≡ Ok (x, a)) (assoc t) q))

  stays_by : (n : ℕ) (ys : Rows Place) → length ys ≤ n → Stays ys
  stays_by n [] k v vs t u l q = stays_none v vs t u l (P (class v.shape)) refl q
    where
      stays_none : (v : Row Place) (vs t u : Rows Place) (l : List B) (c : Bool) → P (class v.shape) ≡ c → all (v ∷ (vs ++ t)) ≡ Ok (l, v ∷ (vs ++ t)) → all (v ∷ (vs ++ u)) ≡ Ok (l, v ∷ (vs ++ u))
      stays_none v vs t u l true p q = absurd (omega (arith, subst (Took (length (vs ++ t))) q (begins-all v (vs ++ t) p)))
      stays_none v vs t u l false p q = stops v (vs ++ u) p ∙ ap (λ w. Ok (w, v ∷ (vs ++ u))) (sym (none_taken (v ∷ (vs ++ t)) l q))
  stays_by zero (y ∷ ys) k v vs t u l q = absurd (omega (arith, k))
  stays_by (suc n) (y ∷ ys) k v vs t u l q =
      let h = turned y ys (v ∷ (vs ++ t)) l q in
      again y ys (v ∷ (vs ++ t)) (v ∷ (vs ++ u)) l h
      ∙ ap (λ w. w >>= turn) (stays_one h.us h.part v vs t u h.x h.one)
      ∙ ap (λ w. w >>= λ z. Ok (h.x ∷ z.0, z.1)) (stays_by n h.part (omega (arith, k, h.shorter)) v vs t u h.others h.more) ∙ ap (λ w. Ok (w, v ∷ (vs ++ u))) (sym h.list_is)

  pub stays-all : (ys : Rows Place) → Stays ys
  stays-all ys = stays_by (length ys) ys (omega arith)
