-- Choices, what may be absent, lists, and what stands between braces: exact if their parts are.
use Rattle.std.proofs.Common.{◌≡◌, ◌≤◌, ℕ, suc, Bool, true, false, cond, ◌||◌, [], ◌∷◌, ◌++◌, length, Ok, Err, refl, sym, ap, subst, ◌∙◌, arith}
use Rattle.std.proofs.lemmas.List.{length-append}
use Rattle.protox_ast.specs.Places.{Place}
use Rattle.protox_lexeme.specs.Shapes.{Row, Rows}
use Rattle.protox_grammar.specs.Class.{Set, class, in_set, union}
use Rattle.protox_grammar.specs.Reader as reader
use Rattle.protox_grammar.specs.Reader.{Reader, Unexpected}
use Rattle.protox_rows.specs.declared.expected.Expected.{Expected}
use Rattle.protox_rows.specs.inner.Words.{Words, choose}
use Rattle.protox_rows.proofs.Exact.{Exact, Fits, Took}

-- ---- choices

-- Both readers of a choice have the same answers as the one that is chosen.
module _ {A : Type 0} {a b : Reader Place A} {wa wb : Words} {ea eb : Expected} {P fb : Set} {ma mb : A → Set} (ha : Exact a wa ea P ma) (hb : Exact b wb eb fb mb) (same : (x : A) → ma x ≡ mb x) where
  abbrev either : Reader Place A
  either = reader.either (in_set P) a b

  abbrev words : Words
  words = choose P wa wb

  -- With a token of the set first, it is the one; else it is the other.
  abbrev At : Row Place → Rows Place → Bool → Type 0
  At r zs c = (either (r ∷ zs) ≡ cond c (a (r ∷ zs)) (b (r ∷ zs))) × (words (r ∷ zs) ≡ cond c (wa (r ∷ zs)) (wb (r ∷ zs)))

  at : (r : Row Place) (zs : Rows Place) (c : Bool) → P (class r.shape) ≡ c → At r zs c
  at r zs c p = (ap (λ v. cond v (a (r ∷ zs)) (b (r ∷ zs))) p, ap (λ v. cond v (wa (r ∷ zs)) (wb (r ∷ zs))) p)

  begins-by : (r : Row Place) (zs : Rows Place) (c : Bool) → P (class r.shape) ≡ c → c || fb (class r.shape) ≡ true → Took (length zs) (either (r ∷ zs))
  begins-by r zs true p k = subst (Took (length zs)) (sym (at r zs true p).0) (ha.begins r zs p)
  begins-by r zs false p k = subst (Took (length zs)) (sym (at r zs false p).0) (hb.begins r zs k)

  barred-by : (r : Row Place) (zs : Rows Place) (c : Bool) → P (class r.shape) ≡ c → c || fb (class r.shape) ≡ false → either (r ∷ zs) ≡ Err (Unexpected (suc (length zs)))
  barred-by r zs true p k = absurd cc
  barred-by r zs false p k = (at r zs false p).0 ∙ hb.barred r zs k

  -- The first reader isn't refused at its beginning, since a token of the set stands there.
  begun : (r : Row Place) (zs : Rows Place) → P (class r.shape) ≡ true → a (r ∷ zs) ≡ Err (Unexpected (suc (length zs))) → ⊥
  begun r zs p q = omega (arith, subst (Took (length zs)) q (ha.begins r zs p))

  says-by : (r : Row Place) (zs : Rows Place) (c : Bool) → P (class r.shape) ≡ c → either (r ∷ zs) ≡ Err (Unexpected (suc (length zs))) → words (r ∷ zs) ≡ eb
  says-by r zs true p q = absurd (begun r zs p (sym (at r zs true p).0 ∙ q))
  says-by r zs false p q = (at r zs false p).1 ∙ hb.says (r ∷ zs) (sym (at r zs false p).0 ∙ q)

  says : (t : Rows Place) → either t ≡ Err (Unexpected (length t)) → words t ≡ eb
  says [] q = hb.says [] q
  says (r ∷ zs) q = says-by r zs (P (class r.shape)) refl q

  inside-by : (y : Row Place) (ys t : Rows Place) (c : Bool) → P (class y.shape) ≡ c → either (y ∷ (ys ++ t)) ≡ Err (Unexpected (length t)) → (r : Row Place) (zs : Rows Place) → Fits (words (y ∷ (ys ++ t))) r (length zs) (either (y ∷ (ys ++ (r ∷ zs))))
  inside-by y ys t true p q r zs =
      let one = at y (ys ++ t) true p in
      subst (λ v. Fits (words (y ∷ (ys ++ t))) r (length zs) v) (sym (at y (ys ++ (r ∷ zs)) true p).0)
      (subst (λ v. Fits v r (length zs) (a (y ∷ (ys ++ (r ∷ zs))))) (sym one.1) (ha.inside y ys t (sym one.0 ∙ q) r zs))
  inside-by y ys t false p q r zs =
      let one = at y (ys ++ t) false p in
      subst (λ v. Fits (words (y ∷ (ys ++ t))) r (length zs) v) (sym (at y (ys ++ (r ∷ zs)) false p).0)
      (subst (λ v. Fits v r (length zs) (b (y ∷ (ys ++ (r ∷ zs))))) (sym one.1) (hb.inside y ys t (sym one.0 ∙ q) r zs))

  -- Neither reader reads nothing.
  none-read : (t : Rows Place) (x : A) → either t ≡ Ok (x, t) → ⊥
  none-read [] x q = absurd (let s = hb.rest [] (x, []) q in omega (arith, ap length s.2))
  none-read (r ∷ zs) x q = none-by (P (class r.shape)) refl
    where
      none-by : (c : Bool) → P (class r.shape) ≡ c → ⊥
      none-by true p = let s = ha.rest (r ∷ zs) (x, r ∷ zs) (sym (at r zs true p).0 ∙ q) in omega (arith, ap length s.2, length-append s.1 (r ∷ zs))
      none-by false p = let s = hb.rest (r ∷ zs) (x, r ∷ zs) (sym (at r zs false p).0 ∙ q) in omega (arith, ap length s.2, length-append s.1 (r ∷ zs))

  ends-by : (y : Row Place) (ys t : Rows Place) (x : A) (c : Bool) → P (class y.shape) ≡ c → either (y ∷ (ys ++ t)) ≡ Ok (x, t) → (r : Row Place) (zs : Rows Place) → mb x (class r.shape) ≡ false → either (y ∷ (ys ++ (r ∷ zs))) ≡ Ok (x, r ∷ zs)
  ends-by y ys t x true p q r zs m = (at y (ys ++ (r ∷ zs)) true p).0 ∙ ha.ends (y ∷ ys) t x (sym (at y (ys ++ t) true p).0 ∙ q) r zs (ap (λ (s : Set). s (class r.shape)) (same x) ∙ m)
  ends-by y ys t x false p q r zs m = (at y (ys ++ (r ∷ zs)) false p).0 ∙ hb.ends (y ∷ ys) t x (sym (at y (ys ++ t) false p).0 ∙ q) r zs m

  goes_on-by : (y : Row Place) (ys t : Rows Place) (x : A) (c : Bool) → P (class y.shape) ≡ c → either (y ∷ (ys ++ t)) ≡ Ok (x, t) → (r : Row Place) (zs : Rows Place) → mb x (class r.shape) ≡ true → Took (length zs) (either (y ∷ (ys ++ (r ∷ zs))))
  goes_on-by y ys t x true p q r zs m = subst (Took (length zs)) (sym (at y (ys ++ (r ∷ zs)) true p).0) (ha.goes_on (y ∷ ys) t x (sym (at y (ys ++ t) true p).0 ∙ q) r zs (ap (λ (s : Set). s (class r.shape)) (same x) ∙ m))
  goes_on-by y ys t x false p q r zs m = subst (Took (length zs)) (sym (at y (ys ++ (r ∷ zs)) false p).0) (hb.goes_on (y ∷ ys) t x (sym (at y (ys ++ t) false p).0 ∙ q) r zs m)

  stays-by : (y : Row Place) (ys : Rows Place) (v : Row Place) (vs t u : Rows Place) (x : A) (c : Bool) → P (class y.shape) ≡ c → either (y ∷ (ys ++ (v ∷ (vs ++ t)))) ≡ Ok (x, v ∷ (vs ++ t)) → either (y ∷ (ys ++ (v ∷ (vs ++ u)))) ≡ Ok (x, v ∷ (vs ++ u))
  stays-by y ys v vs t u x true p q = (at y (ys ++ (v ∷ (vs ++ u))) true p).0 ∙ ha.stays (y ∷ ys) v vs t u x (sym (at y (ys ++ (v ∷ (vs ++ t))) true p).0 ∙ q)
  stays-by y ys v vs t u x false p q = (at y (ys ++ (v ∷ (vs ++ u))) false p).0 ∙ hb.stays (y ∷ ys) v vs t u x (sym (at y (ys ++ (v ∷ (vs ++ t))) false p).0 ∙ q)

  rest-by : (r : Row Place) (zs : Rows Place) (x : A × Rows Place) (c : Bool) → P (class r.shape) ≡ c → either (r ∷ zs) ≡ Ok x → (y : Row Place) × (ys : Rows Place) × (r ∷ zs ≡ y ∷ (ys ++ x.1))
  rest-by r zs x true p q = ha.rest (r ∷ zs) x (sym (at r zs true p).0 ∙ q)
  rest-by r zs x false p q = hb.rest (r ∷ zs) x (sym (at r zs false p).0 ∙ q)

  bound-by : (r : Row Place) (zs : Rows Place) (n : ℕ) (c : Bool) → P (class r.shape) ≡ c → either (r ∷ zs) ≡ Err (Unexpected n) → n ≤ length (r ∷ zs)
  bound-by r zs n true p q = ha.bound (r ∷ zs) n (sym (at r zs true p).0 ∙ q)
  bound-by r zs n false p q = hb.bound (r ∷ zs) n (sym (at r zs false p).0 ∙ q)

  -- A choice by the tokens that the first reader begins with is exact.
  pub choice-exact : Exact (reader.either (in_set P) a b) (choose P wa wb) eb (union P fb) mb
  choice-exact = record {
    begins = λ r zs k. begins-by r zs (P (class r.shape)) refl k;
    barred = λ r zs k. barred-by r zs (P (class r.shape)) refl k;
    empty = hb.empty;
    says = says;
    inside = λ y ys t q r zs. inside-by y ys t (P (class y.shape)) refl q r zs;
    ends = λ ys t x q r zs m. ends-of ys t x q r zs m;
    goes_on = λ ys t x q r zs m. goes_on-of ys t x q r zs m;
    stays = λ ys v vs t u x q. stays-of ys v vs t u x q;
    rest = λ xs x q. rest-of xs x q;
    bound = λ xs n q. bound-of xs n q;
    all = λ xs. all-of xs;
  }
    where
      ends-of : (ys t : Rows Place) (x : A) → either (ys ++ t) ≡ Ok (x, t) → (r : Row Place) (zs : Rows Place) → mb x (class r.shape) ≡ false → either (ys ++ (r ∷ zs)) ≡ Ok (x, r ∷ zs)
      ends-of [] t x q r zs m = absurd (none-read t x q)
      ends-of (y ∷ ys) t x q r zs m = ends-by y ys t x (P (class y.shape)) refl q r zs m

      goes_on-of : (ys t : Rows Place) (x : A) → either (ys ++ t) ≡ Ok (x, t) → (r : Row Place) (zs : Rows Place) → mb x (class r.shape) ≡ true → Took (length zs) (either (ys ++ (r ∷ zs)))
      goes_on-of [] t x q r zs m = absurd (none-read t x q)
      goes_on-of (y ∷ ys) t x q r zs m = goes_on-by y ys t x (P (class y.shape)) refl q r zs m

      stays-of : (ys : Rows Place) (v : Row Place) (vs t u : Rows Place) (x : A) → either (ys ++ (v ∷ (vs ++ t))) ≡ Ok (x, v ∷ (vs ++ t)) → either (ys ++ (v ∷ (vs ++ u))) ≡ Ok (x, v ∷ (vs ++ u))
      stays-of [] v vs t u x q = absurd (none-read (v ∷ (vs ++ t)) x q)
      stays-of (y ∷ ys) v vs t u x q = stays-by y ys v vs t u x (P (class y.shape)) refl q

      rest-of : (xs : Rows Place) (x : A × Rows Place) → either xs ≡ Ok x → (y : Row Place) × (ys : Rows Place) × (xs ≡ y ∷ (ys ++ x.1))
      rest-of [] x q = hb.rest [] x q
      rest-of (r ∷ zs) x q = rest-by r zs x (P (class r.shape)) refl q

      all-by : (r : Row Place) (zs : Rows Place) (c : Bool) → P (class r.shape) ≡ c → Took (length (r ∷ zs)) (either (r ∷ zs))
      all-by r zs true p = subst (Took (length (r ∷ zs))) (sym (at r zs true p).0) (ha.all (r ∷ zs))
      all-by r zs false p = subst (Took (length (r ∷ zs))) (sym (at r zs false p).0) (hb.all (r ∷ zs))

      all-of : (xs : Rows Place) → Took (length xs) (either xs)
      all-of [] = hb.all []
      all-of (r ∷ zs) = all-by r zs (P (class r.shape)) refl

      bound-of : (xs : Rows Place) (n : ℕ) → either xs ≡ Err (Unexpected n) → n ≤ length xs
      bound-of [] n q = hb.bound [] n q
      bound-of (r ∷ zs) n q = bound-by r zs n (P (class r.shape)) refl q
