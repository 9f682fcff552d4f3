-- The laws of steps. The steps of reading are those of the tree, also if only the beginning of the
-- rows is the same.
use Rattle.std.proofs.Common.{◌≡◌, ℕ, zero, suc, ◌+◌, ◌≤◌, Bool, true, false, [], ◌∷◌, ◌++◌, length, None, Result, Ok, Err, refl, sym, ap, subst, ◌∙◌, append_assoc, arith, inl, inr, ◌⊎◌}
use Rattle.std.proofs.lemmas.List.{append-nil, length-append}
use Rattle.protox_lexeme.specs.Shapes.{Row, Rows}
use Rattle.protox_grammar.specs.Class.{Set}
use Rattle.protox_grammar.specs.Reader.{Refusal, Unexpected, Deep, head_in, is_string}
use Rattle.protox_grammar.specs.Rule.{Rule}
use Rattle.protox_grammar.specs.Steps.{Token, Note, Steps, tokens, until, has_deep, then_steps}
use Rattle.protox_grammar.proofs.Laws.{IsSpelled}
use Rattle.protox_grammar.proofs.Reading.{IsRead, Begins, Viable}
use Rattle.protox_grammar.proofs.StepLists.{Quiet, quiet-front, tokens-append, until-past, until-same, deep-until, deep-or, until-fewer, apart-of}
use Rattle.protox_grammar.proofs.EndsDeep.{StopsDeep}
use Rattle.protox_grammar.proofs.Placing.{last_row, is_string_row, ArePlaced, last-past}

-- After a string both lists begin with a string, or neither does.
abbrev pub Alike : {M : Type 0} → Rows M → Rows M → Rows M → Type 0
Alike front rest more = is_string_row (last_row None front) ≡ true → head_in is_string rest ≡ head_in is_string more

-- How many rows are left where reading stopped. A row that doesn't fit is among them. A row that
-- opens something too deep was taken.
abbrev pub IsLeft : Refusal → ℕ → Type 0
IsLeft (Unexpected n) left = n ≡ left
IsLeft (Deep n) left = n ≡ suc left

-- Some tree begins with what was read, with the same steps.
pub record Halts {M A : Type 0} (r : Rule M A) (xs : Rows M) (e : Refusal) : Type 0 where
  pub rest : Rows M
  pub parts : xs ≡ tokens (r.trace xs) ++ rest
  pub left_is : IsLeft e (length rest)
  pub placed : ArePlaced None (r.trace xs) rest
  pub tree : A
  pub tree_may : r.may tree
  pub later : Steps M
  pub goes_on : r.steps tree ≡ r.trace xs ++ later
  pub deep : (n : ℕ) → e ≡ Deep n → has_deep (r.trace xs) ≡ true

pub record IsTraced {M A : Type 0} (r : Rule M A) : Type 0 where
  pub rows : (t : A) → tokens (r.steps t) ≡ r.spell t
  pub quiet : (t : A) → Quiet (r.steps t)
  pub placed : (t : A) (z : Rows M) → r.ends t z → ArePlaced None (r.steps t) z
  pub ok : (xs : Rows M) (x : A × Rows M) → r.read xs ≡ Ok x → r.trace xs ≡ r.steps x.0
  pub halts : (xs : Rows M) (e : Refusal) → r.read xs ≡ Err e → Halts r xs e
  pub stops : (xs : Rows M) → StopsDeep (r.read xs) (r.trace xs)
  -- the steps up to the end of some rows depend only on these rows; except for a run of strings,
  -- which the next row ends
  pub agrees : (front rest : Rows M) (t : A) (z more : Rows M) → r.ends t z → r.spell t ++ z ≡ front ++ more → Alike front rest more
      → until (length front) (r.trace (front ++ rest)) ≡ until (length front) (r.steps t)

-- ---- where reading stops, some tree goes on

-- Some tree begins with the rows up to the one that opens something too deep, with this row.
pub record Opens {M A : Type 0} (r : Rule M A) (xs : Rows M) (left : ℕ) : Type 0 where
  pub front : Rows M
  pub here : Row M
  pub rest : Rows M
  pub parts : xs ≡ front ++ (here ∷ rest)
  pub left_is : left ≡ suc (length rest)
  pub tree : A
  pub tree_may : r.may tree
  pub more : Rows M
  pub goes_on : r.spell tree ≡ front ++ (here ∷ more)

module _ {M A : Type 0} (r : Rule M A) (t : IsTraced r) where
  spelled : (xs : Rows M) (e : Refusal) (v : Halts r xs e) → r.spell v.tree ≡ tokens (r.trace xs) ++ tokens v.later
  spelled xs e v = sym (t.rows v.tree) ∙ ap tokens v.goes_on ∙ tokens-append (r.trace xs) v.later

  last-of : (s : Row M) (ys : Rows M) → (front : Rows M) × (here : Row M) × (s ∷ ys ≡ front ++ (here ∷ []))
  last-of s [] = ([], s, refl)
  last-of s (y ∷ ys) = let c = last-of y ys in (s ∷ c.0, c.1, ap (λ u. s ∷ u) c.2)

  not-true : false ≡ true → ⊥
  not-true e = absurd cc

  -- the last row that was taken is the one that opens
  opens-at : (n : ℕ) (xs : Rows M) (v : Halts r xs (Deep n)) (l : Steps M) → r.trace xs ≡ l → Opens r xs n
  opens-at n xs v [] e = absurd (not-true (ap has_deep (sym e) ∙ v.deep n refl))
  opens-at n xs v (Note d ∷ l) e = absurd (subst Quiet (v.goes_on ∙ ap (λ u. u ++ v.later) e) (t.quiet v.tree))
  opens-at n xs v (Token s ∷ l) e =
      let c = last-of s (tokens l) in
      let all : tokens (r.trace xs) ≡ c.0 ++ (c.1 ∷ []) = ap tokens e ∙ c.2 in
      record {
        front = c.0;
        here = c.1;
        rest = v.rest;
        parts = v.parts ∙ ap (λ u. u ++ v.rest) all ∙ append_assoc c.0 (c.1 ∷ []) v.rest;
        left_is = v.left_is;
        tree = v.tree;
        tree_may = v.tree_may;
        more = tokens v.later;
        goes_on = spelled xs (Deep n) v ∙ ap (λ u. u ++ tokens v.later) all ∙ append_assoc c.0 (c.1 ∷ []) (tokens v.later);
      }

  pub opens-of : (n : ℕ) (xs : Rows M) → r.read xs ≡ Err (Deep n) → Opens r xs n
  opens-of n xs h = opens-at n xs (t.halts xs (Deep n) h) (r.trace xs) refl

  pub viable-of : Viable r
  viable-of xs (Unexpected n) h =
      let v = t.halts xs (Unexpected n) h in
      record { front = tokens (r.trace xs); rest = v.rest; parts = v.parts; left_is = v.left_is; tree = v.tree; tree_may = v.tree_may; more = tokens v.later; goes_on = spelled xs (Unexpected n) v }
  viable-of xs (Deep n) h =
      let v = opens-of n xs h in
      record { front = v.front; rest = v.here ∷ v.rest; parts = v.parts; left_is = v.left_is; tree = v.tree; tree_may = v.tree_may; more = v.here ∷ v.more; goes_on = v.goes_on }

-- ---- lists

pub then-of : {M A : Type 0} (res : Result (A × Rows M) Refusal) (x : A × Rows M) (k : A × Rows M → Steps M) → res ≡ Ok x → then_steps res k ≡ k x
then-of res x k h = ap (λ v. then_steps v k) h

pub then-none : {M A : Type 0} (res : Result (A × Rows M) Refusal) (e : Refusal) (k : A × Rows M → Steps M) → res ≡ Err e → then_steps res k ≡ []
then-none res e k h = ap (λ v. then_steps v k) h

pub alike-past : {M : Type 0} (front ys : Rows M) (s : Row M) (gs rest more : Rows M) → front ≡ ys ++ (s ∷ gs) → Alike front rest more → Alike (s ∷ gs) rest more
alike-past front ys s gs rest more e h g = h (ap (λ v. is_string_row (last_row None v)) e ∙ ap is_string_row (last-past None ys s gs) ∙ g)

-- ---- what reading does on the rows of a tree

module _ {M A : Type 0} (r : Rule M A) (e : Bool) (f g : Set) (l : IsSpelled r e f g) (rd : IsRead r) where
  stuck : (xs : Rows M) (n : ℕ) (t : A) (y : Rows M) → r.read xs ≡ Err (Unexpected (suc n)) → r.ends t y → xs ≡ r.spell t ++ y → (v : Begins r xs (suc n)) (rest : Rows M) → v.rest ≡ rest → ⊥
  stuck xs n t y k h q v [] p = omega (arith, v.left_is, ap length p)
  stuck xs n t y k h q v (s ∷ rest) p =
      let parts : xs ≡ v.front ++ (s ∷ rest) = v.parts ∙ ap (λ u. v.front ++ u) p in
      rd.tight (Unexpected (suc n)) v.front s rest (v.left_is ∙ ap length p) (ap r.read (sym parts) ∙ k) t y rest tt h (sym q ∙ parts)

  goes-at : (t : A) (y xs : Rows M) → r.ends t y → xs ≡ r.spell t ++ y → (res : Result (A × Rows M) Refusal) → r.read xs ≡ res → (r.read xs ≡ Ok (t, y)) ⊎ ((n : ℕ) × (r.read xs ≡ Err (Deep n)))
  goes-at t y xs h q (Ok x) k =
      let took = rd.takes xs x k in
      let one = l.once x.0 t x.1 y took.ends h (sym took.parts ∙ q) in
      inl (k ∙ (λ i. Ok (one.0 i, one.1 i)))
  goes-at t y xs h q (Err (Unexpected zero)) k = absurd (rd.short xs k t y h (sym q))
  goes-at t y xs h q (Err (Unexpected (suc n))) k = let v = rd.viable xs _ k in absurd (stuck xs n t y k h q v v.rest refl)
  goes-at t y xs h q (Err (Deep n)) k = inr (n, k)

  pub goes : (t : A) (y xs : Rows M) → r.ends t y → xs ≡ r.spell t ++ y → (r.read xs ≡ Ok (t, y)) ⊎ ((n : ℕ) × (r.read xs ≡ Err (Deep n)))
  goes t y xs h q = goes-at t y xs h q (r.read xs) refl

  -- if all trees can be read, nothing is too deep
  pub never-deep : IsTraced r → ((t : A) → r.may t → r.fits t) → (n : ℕ) (xs : Rows M) → r.read xs ≡ Err (Deep n) → ⊥
  never-deep traced whole n xs h =
      let v = opens-of r traced n xs h in
      rd.tight (Deep n) v.front v.here v.rest v.left_is (ap r.read (sym v.parts) ∙ h) v.tree [] v.more (whole v.tree v.tree_may) (l.follow v.tree [] v.tree_may tt) (append-nil (r.spell v.tree) ∙ v.goes_on)

  -- a tree that ends within the rows is read there
  pub not-inside : (front rest : Rows M) (t : A) (z more : Rows M) → r.ends t z → r.spell t ++ z ≡ front ++ more → length front ≤ length (r.spell t)
      → (x : A × Rows M) → r.read (front ++ rest) ≡ Ok x → length front ≤ length (r.spell x.0)
  not-inside front rest t z more h q w x k =
      let took = rd.takes (front ++ rest) x k in
      elim (apart-of (r.spell x.0) x.1 front rest (sym took.parts)) [
        | inl c ↦
            let gone : r.spell t ++ z ≡ r.spell x.0 ++ ((c.0 ∷ c.1) ++ more) = q ∙ ap (λ u. u ++ more) c.2 ∙ append_assoc (r.spell x.0) (c.0 ∷ c.1) more in
            let one = l.once t x.0 z ((c.0 ∷ c.1) ++ more) h (l.ahead x.0 c.0 (c.1 ++ rest) (c.1 ++ more) (subst (r.ends x.0) c.3 took.ends)) gone in
            omega (arith, w, ap (λ u. length (r.spell u)) one.0)
        | inr c ↦ elim c [
          | inl j ↦ omega (arith, ap length j.0)
          | inr j ↦ omega (arith, j)
        ]
      ]

module _ {M A : Type 0} (a : Rule M A) (ea : Bool) (fa ga : Set) (la : IsSpelled a ea fa ga) (ra : IsRead a) (ta : IsTraced a) where
  silent-at : (xs : Rows M) (res : Result (A × Rows M) Refusal) → a.read xs ≡ res → Quiet (a.trace xs)
  silent-at xs (Ok x) k = subst Quiet (sym (ta.ok xs x k)) (ta.quiet x.0)
  silent-at xs (Err e) k = let v = ta.halts xs e k in quiet-front (a.trace xs) v.later (subst Quiet v.goes_on (ta.quiet v.tree))

  pub silent : (xs : Rows M) → Quiet (a.trace xs)
  silent xs = silent-at xs (a.read xs) refl

  took-all : (t : A) → length (tokens (a.steps t)) ≡ length (a.spell t)
  took-all t = ap length (ta.rows t)

  -- after the end of a tree: what follows is read there, or something before is too deep
  pub inside : (front rest : Rows M) (t : A) (z more : Rows M) → a.ends t z → a.spell t ++ z ≡ front ++ more → Alike front rest more
      → (s : Row M) (gs : Rows M) → front ≡ a.spell t ++ (s ∷ gs) → z ≡ (s ∷ gs) ++ more
      → (K : A × Rows M → Steps M) (L : Steps M) → until (length (s ∷ gs)) (K (t, (s ∷ gs) ++ rest)) ≡ until (length (s ∷ gs)) L
      → until (length front) (a.trace (front ++ rest) ++ then_steps (a.read (front ++ rest)) K) ≡ until (length front) (a.steps t ++ L)
  inside front rest t z more h q alike s gs p zs K L same =
      let xs-is : front ++ rest ≡ a.spell t ++ ((s ∷ gs) ++ rest) = ap (λ u. u ++ rest) p ∙ append_assoc (a.spell t) (s ∷ gs) rest in
      let len : length front ≡ length (a.spell t) + length (s ∷ gs) = ap length p ∙ length-append (a.spell t) (s ∷ gs) in
      let ends : a.ends t ((s ∷ gs) ++ rest) = la.ahead t s (gs ++ more) (gs ++ rest) (subst (a.ends t) zs h) in
      elim (goes a ea fa ga la ra t ((s ∷ gs) ++ rest) (front ++ rest) ends xs-is) [
        | inl k ↦
            ap (λ u. until (length front) u) (λ i. ta.ok (front ++ rest) (t, (s ∷ gs) ++ rest) k i ++ then-of (a.read (front ++ rest)) (t, (s ∷ gs) ++ rest) K k i)
            ∙ until-same (a.steps t) (K (t, (s ∷ gs) ++ rest)) L (length (s ∷ gs)) (length front) (omega (arith, len, took-all t)) same
        | inr k ↦
            let v = ta.halts (front ++ rest) (Deep k.0) k.1 in
            let agree = ta.agrees front rest t z more h q alike in
            let deep : has_deep (until (length front) (a.steps t)) ≡ true =
            elim (deep-or (length front) (a.trace (front ++ rest)) (v.deep k.0 refl)) [
              | inl d ↦ subst (λ u. has_deep u ≡ true) agree d
              | inr d ↦ absurd (omega (arith, ap (λ u. length (tokens u)) (sym agree), d, until-fewer (length front) (a.steps t), took-all t, len))
            ] in
            ap (λ u. until (length front) (a.trace (front ++ rest) ++ u)) (then-none (a.read (front ++ rest)) (Deep k.0) K k.1)
            ∙ ap (λ u. until (length front) u) (append-nil (a.trace (front ++ rest))) ∙ agree ∙ sym (deep-until (length front) (a.steps t) L deep)
      ]

  outside-at : (front rest : Rows M) (t : A) (z more : Rows M) → a.ends t z → a.spell t ++ z ≡ front ++ more → Alike front rest more → length front ≤ length (a.spell t)
      → (K : A × Rows M → Steps M) → ((x : A × Rows M) → Quiet (K x)) → (res : Result (A × Rows M) Refusal) → a.read (front ++ rest) ≡ res
      → until (length front) (a.trace (front ++ rest) ++ then_steps res K) ≡ until (length front) (a.steps t)
  outside-at front rest t z more h q alike w K quiet (Ok x) k =
      until-past (length front) (a.trace (front ++ rest)) (K x) (omega (arith, not-inside a ea fa ga la ra front rest t z more h q w x k, took-all x.0, ap (λ u. length (tokens u)) (ta.ok (front ++ rest) x k))) (quiet x)
      ∙ ta.agrees front rest t z more h q alike
  outside-at front rest t z more h q alike w K quiet (Err e) k = ap (λ u. until (length front) u) (append-nil (a.trace (front ++ rest))) ∙ ta.agrees front rest t z more h q alike

  -- one reading after another agrees with one list of steps after another
  pub sequel : (front rest : Rows M) (t : A) (z more : Rows M) → a.ends t z → a.spell t ++ z ≡ front ++ more → Alike front rest more
      → (K : A × Rows M → Steps M) (L : Steps M) → ((x : A × Rows M) → Quiet (K x)) → Quiet L
      → ((s : Row M) (gs : Rows M) → front ≡ a.spell t ++ (s ∷ gs) → z ≡ (s ∷ gs) ++ more → Alike (s ∷ gs) rest more → until (length (s ∷ gs)) (K (t, (s ∷ gs) ++ rest)) ≡ until (length (s ∷ gs)) L)
      → until (length front) (a.trace (front ++ rest) ++ then_steps (a.read (front ++ rest)) K) ≡ until (length front) (a.steps t ++ L)
  sequel front rest t z more h q alike K L quiet-k quiet-l next = elim (apart-of (a.spell t) z front more q) [
    | inl c ↦ inside front rest t z more h q alike c.0 c.1 c.2 c.3 K L (next c.0 c.1 c.2 c.3 (alike-past front (a.spell t) c.0 c.1 rest more c.2 alike))
    | inr c ↦
        let w : length front ≤ length (a.spell t) = elim c [
          | inl j ↦ omega (arith, ap length j.0)
          | inr j ↦ omega (arith, j)
        ] in
        outside-at front rest t z more h q alike w K quiet-k (a.read (front ++ rest)) refl
        ∙ sym (until-past (length front) (a.steps t) L (omega (arith, w, took-all t)) quiet-l)
  ]
