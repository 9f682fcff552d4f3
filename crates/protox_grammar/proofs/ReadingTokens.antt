-- The laws of reading single tokens, and of a token that opens something too deep.
use Rattle.std.proofs.Common.{◌≡◌, ℕ, suc, Bool, true, false, cond, [], ◌∷◌, ◌++◌, length, Option, Some, None, Result, Ok, Err, refl, sym, ap, subst, ◌∙◌, arith, inl, inr}
use Rattle.std.proofs.lemmas.List.{length-append}
use Rattle.protox_grammar.specs.Reader.{Refusal, Unexpected, Deep}
use Rattle.protox_lexeme.specs.Shapes.{Shape, Row, Rows}
use Rattle.protox_grammar.specs.Reader as reader
use Rattle.protox_grammar.specs.Reader.{is_token}
use Rattle.protox_grammar.specs.Rule.{Rule, row, fixed, leaf, too_deep}
use Rattle.protox_grammar.proofs.Takes.{ok_is}
use Rattle.protox_grammar.proofs.Laws.{head-same}
use Rattle.protox_grammar.proofs.Reading.{left_of, Begins, Took, Concerns, IsRead, failed, at_once, err-left, ok-err, err-ok, chosen, unexpected-deep, true-false}

module _ {M : Type 0} (m0 : M) (w : Shape) (back : is_token w w ≡ true) (exact : (s : Shape) → is_token w s ≡ true → s ≡ w) where
  fixed-took : (r : Row M) (rs : Rows M) (b : Bool) (x : M × Rows M) (f : Refusal) → is_token w r.shape ≡ b → cond b (Ok (r.at, rs)) (Err f) ≡ Ok x → Took (fixed w) (r ∷ rs) x
  fixed-took r rs true x f h e =
      let same = ok_is (r.at, rs) x e in
      let shape-is : r.shape ≡ w = exact r.shape h in
      let parts : r ∷ rs ≡ row w r.at ∷ rs = ap (λ s. row s r.at ∷ rs) shape-is in
      subst (Took (fixed w) (r ∷ rs)) same (record { parts = parts; fits = tt; ends = tt })
  fixed-took r rs false x f h e = absurd (err-ok x f e)

  fixed-takes : (xs : Rows M) (x : M × Rows M) → reader.fixed w xs ≡ Ok x → Took (fixed w) xs x
  unfolding reader.fixed
  fixed-takes [] x e = absurd (err-ok x _ e)
  fixed-takes (r ∷ rs) x e = fixed-took r rs (is_token w r.shape) x _ refl e

  fixed-again : (t : M) (z : Rows M) → reader.fixed w (row w t ∷ z) ≡ Ok (t, z)
  unfolding reader.fixed
  fixed-again t z = rw back refl

  fixed-fault : (r : Row M) (rs : Rows M) (b : Bool) (e : Refusal) → cond {A = Result (M × Rows M) Refusal} b (Ok (r.at, rs)) (Err (Unexpected (length (r ∷ rs)))) ≡ Err e → left_of e ≡ length (r ∷ rs)
  fixed-fault r rs true e h = absurd (ok-err (r.at, rs) e h)
  fixed-fault r rs false e h = err-left (length (r ∷ rs)) e h

  fixed-viable : (xs : Rows M) (e : Refusal) → reader.fixed w xs ≡ Err e → Begins (fixed w) xs (left_of e)
  unfolding reader.fixed
  fixed-viable [] e h = at_once (fixed w) [] m0 tt (left_of e) (err-left {A = M × Rows M} 0 e h)
  fixed-viable (r ∷ rs) e h = at_once (fixed w) (r ∷ rs) m0 tt (left_of e) (fixed-fault r rs (is_token w r.shape) e h)

  fixed-other : (s : Row M) (rs : Rows M) (b : Bool) (e f : Refusal) → is_token w s.shape ≡ b → cond {A = Result (M × Rows M) Refusal} b (Ok (s.at, rs)) (Err f) ≡ Err e → is_token w s.shape ≡ false
  fixed-other s rs true e f k h = absurd (ok-err (s.at, rs) e h)
  fixed-other s rs false e f k h = k

  fixed-tight : (d : Refusal) (front : Rows M) (s : Row M) (rest : Rows M) → left_of d ≡ suc (length rest) → reader.fixed w (front ++ (s ∷ rest)) ≡ Err d → (t : M) (z more : Rows M) → row w t ∷ z ≡ front ++ (s ∷ more) → ⊥
  unfolding reader.fixed
  fixed-tight d [] s rest l h t z more e =
      let same = ap (λ r. r.shape) (head-same (row w t) s z more e).0 in
      let no = fixed-other s rest (is_token w s.shape) _ _ refl h in
      differ (is_token w s.shape) (subst (λ v. is_token w v ≡ true) same back) no
    where
      differ : (b : Bool) → b ≡ true → b ≡ false → ⊥
      differ true p q = absurd cc
      differ false p q = absurd cc
  fixed-tight d (f ∷ fs) s rest l h t z more e =
      let n = fixed-fault f (fs ++ (s ∷ rest)) (is_token w f.shape) d h in
      omega (arith, l, n, length-append fs (s ∷ rest))

  fixed-short : (xs : Rows M) → reader.fixed w xs ≡ Err (Unexpected 0) → (t : M) (z : Rows M) → row w t ∷ z ≡ xs → ⊥
  unfolding reader.fixed
  fixed-short [] h t z e = absurd cc
  fixed-short (r ∷ rs) h t z e = let n = fixed-fault r rs (is_token w r.shape) (Unexpected 0) h in omega (arith, n)

  pub fixed-deep : (n : ℕ) (xs : Rows M) → reader.fixed w xs ≡ Err (Deep n) → ⊥
  unfolding reader.fixed
  fixed-deep n [] h = unexpected-deep {A = M × Rows M} 0 n h
  fixed-deep n (r ∷ rs) h = elim (chosen (is_token w r.shape) (Ok (r.at, rs)) (failed (M × Rows M) (Unexpected (length (r ∷ rs)))) (failed (M × Rows M) (Deep n)) h) [
    | inl k ↦ ok-err _ _ k.1
    | inr k ↦ unexpected-deep {A = M × Rows M} (length (r ∷ rs)) n k.1
  ]

  pub fixed-read : IsRead {M = M} (fixed w)
  fixed-read = record {
    some = m0;
    some_may = tt;
    within = λ t h. tt;
    takes = fixed-takes;
    again = λ t z h k. fixed-again t z;
    viable = fixed-viable;
    tight = λ d front s rest l h t z more c k e. fixed-tight d front s rest l h t z more e;
    short = λ xs h t z k e. fixed-short xs h t z e;
  }

module _ {M X : Type 0} (some : X × M) (see : Shape → Option X) (shape : X → Shape) (back : (x : X) → see (shape x) ≡ Some x) (exact : (s : Shape) (x : X) → see s ≡ Some x → s ≡ shape x) where
  leaf-took : (r : Row M) (rs : Rows M) (o : Option X) (x : (X × M) × Rows M) → see r.shape ≡ o → reader.seen r rs o ≡ Ok x → Took (leaf see shape) (r ∷ rs) x
  leaf-took r rs (Some v) x h e =
      let parts : r ∷ rs ≡ row (shape v) r.at ∷ rs = ap (λ s. row s r.at ∷ rs) (exact r.shape v h) in
      subst (Took (leaf see shape) (r ∷ rs)) (ok_is ((v, r.at), rs) x e) (record { parts = parts; fits = tt; ends = tt })
  leaf-took r rs None x h e = absurd (err-ok x _ e)

  leaf-takes : (xs : Rows M) (x : (X × M) × Rows M) → reader.leaf see xs ≡ Ok x → Took (leaf see shape) xs x
  unfolding reader.leaf
  leaf-takes [] x e = absurd (err-ok x _ e)
  leaf-takes (r ∷ rs) x e = leaf-took r rs (see r.shape) x refl e

  leaf-again : (t : X × M) (z : Rows M) → reader.leaf see (row (shape t.0) t.1 ∷ z) ≡ Ok (t, z)
  unfolding reader.leaf
  leaf-again t z = rw (back t.0) refl

  leaf-fault : (r : Row M) (rs : Rows M) (o : Option X) (e : Refusal) → reader.seen r rs o ≡ Err e → left_of e ≡ length (r ∷ rs)
  leaf-fault r rs (Some v) e h = absurd (ok-err ((v, r.at), rs) e h)
  leaf-fault r rs None e h = err-left (length (r ∷ rs)) e h

  leaf-viable : (xs : Rows M) (e : Refusal) → reader.leaf see xs ≡ Err e → Begins (leaf see shape) xs (left_of e)
  unfolding reader.leaf
  leaf-viable [] e h = at_once (leaf see shape) [] some tt (left_of e) (err-left {A = (X × M) × Rows M} 0 e h)
  leaf-viable (r ∷ rs) e h = at_once (leaf see shape) (r ∷ rs) some tt (left_of e) (leaf-fault r rs (see r.shape) e h)

  leaf-tight : (d : Refusal) (front : Rows M) (s : Row M) (rest : Rows M) → left_of d ≡ suc (length rest) → reader.leaf see (front ++ (s ∷ rest)) ≡ Err d → (t : X × M) (z more : Rows M) → row (shape t.0) t.1 ∷ z ≡ front ++ (s ∷ more) → ⊥
  unfolding reader.leaf
  leaf-tight d [] s rest l h t z more e =
      let same : shape t.0 ≡ s.shape = ap (λ r. r.shape) (head-same (row (shape t.0) t.1) s z more e).0 in
      ok-err ((t.0, s.at), rest) d (ap (reader.seen s rest) (sym (ap see (sym same) ∙ back t.0)) ∙ h)
  leaf-tight d (f ∷ fs) s rest l h t z more e =
      let n = leaf-fault f (fs ++ (s ∷ rest)) (see f.shape) d h in
      omega (arith, l, n, length-append fs (s ∷ rest))

  leaf-short : (xs : Rows M) → reader.leaf see xs ≡ Err (Unexpected 0) → (t : X × M) (z : Rows M) → row (shape t.0) t.1 ∷ z ≡ xs → ⊥
  unfolding reader.leaf
  leaf-short [] h t z e = absurd cc
  leaf-short (r ∷ rs) h t z e = let n = leaf-fault r rs (see r.shape) (Unexpected 0) h in omega (arith, n)

  seen-deep : (r : Row M) (rs : Rows M) (o : Option X) (n : ℕ) → reader.seen r rs o ≡ Err (Deep n) → ⊥
  seen-deep r rs (Some v) n h = ok-err ((v, r.at), rs) (Deep n) h
  seen-deep r rs None n h = unexpected-deep {A = (X × M) × Rows M} (length (r ∷ rs)) n h

  pub leaf-deep : (n : ℕ) (xs : Rows M) → reader.leaf see xs ≡ Err (Deep n) → ⊥
  unfolding reader.leaf
  leaf-deep n [] h = unexpected-deep {A = (X × M) × Rows M} 0 n h
  leaf-deep n (r ∷ rs) h = seen-deep r rs (see r.shape) n h

  pub leaf-read : IsRead {M = M} (leaf see shape)
  leaf-read = record {
    some = some;
    some_may = tt;
    within = λ t h. tt;
    takes = leaf-takes;
    again = λ t z h k. leaf-again t z;
    viable = leaf-viable;
    tight = λ d front s rest l h t z more c k e. leaf-tight d front s rest l h t z more e;
    short = λ xs h t z k e. leaf-short xs h t z e;
  }

-- ---- what is too deep

module _ {M A : Type 0} (w : Shape) (back : is_token w w ≡ true) (a : Rule M A) (some : A) (some_may : a.may some) (begins : (t : A) → (m : M) × (more : Rows M) × (a.spell t ≡ row w m ∷ more)) where
  never-read : (xs : Rows M) (x : A × Rows M) → reader.too_deep w xs ≡ Ok x → ⊥
  unfolding reader.too_deep
  never-read [] x e = err-ok x _ e
  never-read (r ∷ rs) x e = elim (chosen (is_token w r.shape) (failed (A × Rows M) (Deep (length (r ∷ rs)))) (failed (A × Rows M) (Unexpected (length (r ∷ rs)))) (Ok x) e) [
    | inl h ↦ err-ok x _ h.1
    | inr h ↦ err-ok x _ h.1
  ]

  deep-left : (n : ℕ) (e : Refusal) → failed (A × Rows M) (Deep n) ≡ failed (A × Rows M) e → left_of e ≡ n
  deep-left n e h = let same : Deep n ≡ e = cc in sym (ap left_of same)

  too_deep-left : (xs : Rows M) (e : Refusal) → reader.too_deep {A = A} w xs ≡ Err e → left_of e ≡ length xs
  unfolding reader.too_deep
  too_deep-left [] e h = err-left {A = A × Rows M} 0 e h
  too_deep-left (r ∷ rs) e h = elim (chosen (is_token w r.shape) (failed (A × Rows M) (Deep (length (r ∷ rs)))) (failed (A × Rows M) (Unexpected (length (r ∷ rs)))) (Err e) h) [
    | inl k ↦ deep-left (length (r ∷ rs)) e k.1
    | inr k ↦ err-left {A = A × Rows M} (length (r ∷ rs)) e k.1
  ]

  not-deep : (m n : ℕ) → failed (A × Rows M) (Deep m) ≡ failed (A × Rows M) (Unexpected n) → ⊥
  not-deep m n h = absurd cc

  -- if the row is not this token, no tree begins with it
  other-row : (n : ℕ) (s : Row M) (rest : Rows M) → reader.too_deep {A = A} w (s ∷ rest) ≡ Err (Unexpected n) → (t : A) (z more : Rows M) → a.spell t ++ z ≡ s ∷ more → ⊥
  unfolding reader.too_deep
  other-row n s rest h t z more e =
      let b = begins t in
      let same : row w b.0 ≡ s = (head-same (row w b.0) s (b.1 ++ z) more (sym (ap (λ v. v ++ z) b.2) ∙ e)).0 in
      let is : is_token w s.shape ≡ true = subst (λ (v : Row M). is_token w v.shape ≡ true) same back in
      elim (chosen (is_token w s.shape) (failed (A × Rows M) (Deep (length (s ∷ rest)))) (failed (A × Rows M) (Unexpected (length (s ∷ rest)))) (Err (Unexpected n)) h) [
        | inl k ↦ not-deep _ _ k.1
        | inr k ↦ true-false _ is k.0
      ]

  too_deep-tight : (e : Refusal) (front : Rows M) (s : Row M) (rest : Rows M) → left_of e ≡ suc (length rest) → reader.too_deep {A = A} w (front ++ (s ∷ rest)) ≡ Err e
      → (t : A) (z more : Rows M) → Concerns (too_deep w a) e t → a.spell t ++ z ≡ front ++ (s ∷ more) → ⊥
  too_deep-tight (Deep n) front s rest l h t z more c e = absurd c
  too_deep-tight (Unexpected n) [] s rest l h t z more c e = other-row n s rest h t z more e
  too_deep-tight (Unexpected n) (f ∷ fs) s rest l h t z more c e =
      let k = too_deep-left (f ∷ (fs ++ (s ∷ rest))) (Unexpected n) h in
      omega (arith, l, k, length-append fs (s ∷ rest))

  too_deep-short : (xs : Rows M) → reader.too_deep {A = A} w xs ≡ Err (Unexpected 0) → (t : A) (z : Rows M) → a.spell t ++ z ≡ xs → ⊥
  too_deep-short [] h t z e = let b = begins t in let k : row w b.0 ∷ (b.1 ++ z) ≡ [] = sym (ap (λ v. v ++ z) b.2) ∙ e in absurd cc
  too_deep-short (r ∷ rs) h t z e = let k = too_deep-left (r ∷ rs) (Unexpected 0) h in omega (arith, k)

  pub too_deep-read : IsRead (too_deep w a)
  too_deep-read = record {
    some = some;
    some_may = some_may;
    within = λ t h. absurd h;
    takes = λ xs x e. absurd (never-read xs x e);
    again = λ t z h k. absurd h;
    viable = λ xs e h. at_once (too_deep w a) xs some some_may (left_of e) (too_deep-left xs e h);
    tight = λ e front s rest l h t z more c k j. too_deep-tight e front s rest l h t z more c j;
    short = λ xs h t z k e. too_deep-short xs h t z e;
  }
