-- The laws of reading.
use Rattle.std.proofs.Common.{◌≡◌, ℕ, suc, Bool, true, false, cond, List, [], ◌∷◌, ◌++◌, length, Result, Ok, Err, refl, sym, ap, subst, ◌∙◌, append_assoc, arith, inl, inr, ◌⊎◌}
use Rattle.std.proofs.lemmas.List.{length-append}
use Rattle.protox_grammar.specs.Reader.{Refusal, Unexpected, Deep}
use Rattle.protox_lexeme.specs.Shapes.{Shape, Row, Rows}
use Rattle.protox_grammar.specs.Class.{Set, class}
use Rattle.protox_grammar.specs.Reader as reader
use Rattle.protox_grammar.specs.Reader.{◌>>=◌, head_in}
use Rattle.protox_grammar.specs.Rule.{Rule, Stops, Starts, seq, nothing, mapped}
use Rattle.protox_grammar.proofs.Takes.{bind_ok, ok_is}
use Rattle.protox_grammar.proofs.Laws.{IsSpelled, head-same, ahead-past}

-- How many rows are left at the fault.
abbrev pub left_of : Refusal → ℕ
left_of (Unexpected n) = n
left_of (Deep n) = n

-- Some tree begins with the rows before a fault.
pub record Begins {M A : Type 0} (r : Rule M A) (xs : Rows M) (left : ℕ) : Type 0 where
  pub front : Rows M
  pub rest : Rows M
  pub parts : xs ≡ front ++ rest
  pub left_is : left ≡ length rest
  pub tree : A
  pub tree_may : r.may tree
  pub more : Rows M
  pub goes_on : r.spell tree ≡ front ++ more

-- This holds wherever reading stops.
abbrev pub Viable : {M A : Type 0} → Rule M A → Type 0
Viable {M} r = (xs : Rows M) (e : Refusal) → r.read xs ≡ Err e → Begins r xs (left_of e)

-- what was read
pub record Took {M A : Type 0} (r : Rule M A) (xs : Rows M) (x : A × Rows M) : Type 0 where
  pub parts : xs ≡ r.spell x.0 ++ x.1
  pub fits : r.fits x.0
  pub ends : r.ends x.0 x.1

-- The trees that a refusal is about. If something is too deep, they are those that can be read.
abbrev pub Concerns : {M A : Type 0} → Rule M A → Refusal → A → Type 0
Concerns r (Unexpected n) t = Unit {0}
Concerns r (Deep n) t = r.fits t

pub record IsRead {M A : Type 0} (r : Rule M A) : Type 0 where
  pub some : A
  pub some_may : r.may some
  pub within : (t : A) → r.fits t → r.may t
  pub takes : (xs : Rows M) (x : A × Rows M) → r.read xs ≡ Ok x → Took r xs x
  pub again : (t : A) (z : Rows M) → r.fits t → r.ends t z → r.read (r.spell t ++ z) ≡ Ok (t, z)
  pub viable : Viable r
  -- no tree goes on with an unexpected row, and no tree that can be read goes on with a row that
  -- opens something too deep
  pub tight : (e : Refusal) (front : Rows M) (s : Row M) (rest : Rows M) → left_of e ≡ suc (length rest) → r.read (front ++ (s ∷ rest)) ≡ Err e
      → (t : A) (z more : Rows M) → Concerns r e t → r.ends t z → r.spell t ++ z ≡ front ++ (s ∷ more) → ⊥
  -- if the rows end too soon, no tree has all of them
  pub short : (xs : Rows M) → r.read xs ≡ Err (Unexpected 0) → (t : A) (z : Rows M) → r.ends t z → r.spell t ++ z ≡ xs → ⊥

abbrev pub failed : (A : Type 0) → Refusal → Result A Refusal
failed A e = Err e

pub bind_err : {A B : Type 0} (r : Result A Refusal) (f : A → Result B Refusal) (e : Refusal) → (r >>= f) ≡ Err e → (r ≡ Err e) ⊎ ((x : A) × (r ≡ Ok x) × (f x ≡ Err e))
bind_err (Ok x) f e h = inr (x, refl, h)
bind_err (Err d) f e h = inl (err-again d e h)
  where
    err-again : {A B : Type 0} (d e : Refusal) → failed B d ≡ failed B e → failed A d ≡ failed A e
    err-again d e h = cc

-- Two cuts of one list, with tails of equal length.
pub cut-same : {A : Type 0} (ys zs xs ws : List A) → ys ++ xs ≡ zs ++ ws → length xs ≡ length ws → (ys ≡ zs) × (xs ≡ ws)
cut-same [] [] xs ws e l = (refl, e)
cut-same [] (z ∷ zs) xs ws e l = absurd (omega (arith, ap length e, length-append zs ws, l))
cut-same (y ∷ ys) [] xs ws e l = absurd (omega (arith, ap length e, length-append ys xs, l))
cut-same (y ∷ ys) (z ∷ zs) xs ws e l =
    let h = head-same y z (ys ++ xs) (zs ++ ws) e in
    let k = cut-same ys zs xs ws h.1 l in
    (cons-same y z ys zs h.0 k.0, k.1)
  where
    cons-same : {B : Type 0} (a b : B) (cs bs : List B) → a ≡ b → cs ≡ bs → a ∷ cs ≡ b ∷ bs
    cons-same a b cs bs p q = cc

-- at once, with a tree that begins otherwise
abbrev pub at_once : {M A : Type 0} (r : Rule M A) (xs : Rows M) (t : A) → r.may t → (n : ℕ) → n ≡ length xs → Begins r xs n
at_once r xs t m n e = record { front = []; rest = xs; parts = refl; left_is = e; tree = t; tree_may = m; more = r.spell t; goes_on = refl }

pub err-left : {A : Type 0} (n : ℕ) (e : Refusal) → failed A (Unexpected n) ≡ failed A e → left_of e ≡ n
err-left n e h = let same : Unexpected n ≡ e = cc in sym (ap left_of same)

pub ok-err : {A : Type 0} (x : A) (e : Refusal) → Ok x ≡ Err e → ⊥
ok-err x e h = absurd cc

pub err-ok : {A : Type 0} (x : A) (e : Refusal) → Err e ≡ Ok x → ⊥
err-ok x e h = absurd cc

-- The way a test went.
pub chosen : {X : Type 0} (b : Bool) (x y z : X) → cond b x y ≡ z → ((b ≡ true) × (x ≡ z)) ⊎ ((b ≡ false) × (y ≡ z))
chosen true x y z e = inl (refl, e)
chosen false x y z e = inr (refl, e)

pub unexpected-deep : {A : Type 0} (m n : ℕ) → failed A (Unexpected m) ≡ failed A (Deep n) → ⊥
unexpected-deep m n e = absurd cc

module _ {M A B : Type 0} (a : Rule M A) (b : Rule M B) (ea : Bool) (fa ga : Set) (la : IsSpelled a ea fa ga) (ra : IsRead a) (rb : IsRead b) where
  seq-takes : (xs : Rows M) (x : (A × B) × Rows M) → reader.seq a.read b.read xs ≡ Ok x → Took (seq a b) xs x
  seq-takes xs x e =
      let p = bind_ok (a.read xs) (λ v. b.read v.1 >>= λ y. Ok ((v.0, y.0), y.1)) x e in
      let q = bind_ok (b.read p.0.1) (λ y. Ok ((p.0.0, y.0), y.1)) x p.2 in
      let ta = ra.takes xs p.0 p.1 in
      let tb = rb.takes p.0.1 q.0 q.1 in
      let made : (A × B) × Rows M = ((p.0.0, q.0.0), q.0.1) in
      subst (Took (seq a b) xs) (ok_is made x q.2) (record {
        parts = ta.parts ∙ ap (λ v. a.spell p.0.0 ++ v) tb.parts ∙ sym (append_assoc (a.spell p.0.0) (b.spell q.0.0) q.0.1);
        fits = (ta.fits, tb.fits);
        ends = (subst (a.ends p.0.0) tb.parts ta.ends, tb.ends);
      })

  seq-again : (t : A × B) (z : Rows M) → a.fits t.0 × b.fits t.1 → a.ends t.0 (b.spell t.1 ++ z) × b.ends t.1 z → reader.seq a.read b.read ((a.spell t.0 ++ b.spell t.1) ++ z) ≡ Ok (t, z)
  seq-again t z f e = rw (append_assoc (a.spell t.0) (b.spell t.1) z, ra.again t.0 (b.spell t.1 ++ z) f.0 e.0, rb.again t.1 z f.1 e.1) refl

  first-concerned : (e : Refusal) (t : A × B) → Concerns (seq a b) e t → Concerns a e t.0
  first-concerned (Unexpected n) t c = tt
  first-concerned (Deep n) t c = c.0

  second-concerned : (e : Refusal) (t : A × B) → Concerns (seq a b) e t → Concerns b e t.1
  second-concerned (Unexpected n) t c = tt
  second-concerned (Deep n) t c = c.1

  -- The second part fails. Every tree has the same first part, so that the second part goes on with
  -- the row.
  seq-tight-second : (d : Refusal) (front : Rows M) (s : Row M) (rest : Rows M) (x : A × Rows M) → left_of d ≡ suc (length rest) → Took a (front ++ (s ∷ rest)) x → b.read x.1 ≡ Err d
      → (t : A × B) (z more : Rows M) → Concerns b d t.1 → a.ends t.0 (b.spell t.1 ++ z) × b.ends t.1 z → (a.spell t.0 ++ b.spell t.1) ++ z ≡ front ++ (s ∷ more) → ⊥
  seq-tight-second d front s rest x l ta k t z more c e h =
      let v = rb.viable x.1 d k in
      let cut = cut-same front (a.spell x.0 ++ v.front) (s ∷ rest) v.rest (ta.parts ∙ ap (λ u. a.spell x.0 ++ u) v.parts ∙ sym (append_assoc (a.spell x.0) v.front v.rest)) (sym l ∙ v.left_is) in
      let ys-is : x.1 ≡ v.front ++ (s ∷ rest) = v.parts ∙ ap (λ u. v.front ++ u) (sym cut.1) in
      let same : a.spell t.0 ++ (b.spell t.1 ++ z) ≡ a.spell x.0 ++ (v.front ++ (s ∷ more)) =
      sym (append_assoc (a.spell t.0) (b.spell t.1) z) ∙ h ∙ ap (λ u. u ++ (s ∷ more)) cut.0 ∙ append_assoc (a.spell x.0) v.front (s ∷ more) in
      let one = la.once t.0 x.0 (b.spell t.1 ++ z) (v.front ++ (s ∷ more)) e.0 (ahead-past la x.0 v.front s rest more (subst (a.ends x.0) ys-is ta.ends)) same in
      rb.tight d v.front s rest l (subst (λ u. b.read u ≡ Err d) ys-is k) t.1 z more c e.1 one.1

  seq-tight : (d : Refusal) (front : Rows M) (s : Row M) (rest : Rows M) → left_of d ≡ suc (length rest) → reader.seq a.read b.read (front ++ (s ∷ rest)) ≡ Err d
      → (t : A × B) (z more : Rows M) → Concerns (seq a b) d t → a.ends t.0 (b.spell t.1 ++ z) × b.ends t.1 z → (a.spell t.0 ++ b.spell t.1) ++ z ≡ front ++ (s ∷ more) → ⊥
  seq-tight d front s rest f h t z more c e k = elim (bind_err (a.read (front ++ (s ∷ rest))) (λ v. b.read v.1 >>= λ y. Ok ((v.0, y.0), y.1)) d h) [
    | inl l ↦ ra.tight d front s rest f l t.0 (b.spell t.1 ++ z) more (first-concerned d t c) e.0 (sym (append_assoc (a.spell t.0) (b.spell t.1) z) ∙ k)
    | inr p ↦ elim (bind_err (b.read p.0.1) (λ y. Ok ((p.0.0, y.0), y.1)) d p.2) [
      | inl l ↦ seq-tight-second d front s rest p.0 f (ra.takes (front ++ (s ∷ rest)) p.0 p.1) l t z more (second-concerned d t c) e k
      | inr q ↦ absurd (ok-err _ _ q.2)
    ]
  ]

  seq-short : (xs : Rows M) → reader.seq a.read b.read xs ≡ Err (Unexpected 0) → (t : A × B) (z : Rows M) → a.ends t.0 (b.spell t.1 ++ z) × b.ends t.1 z → (a.spell t.0 ++ b.spell t.1) ++ z ≡ xs → ⊥
  seq-short xs h t z e k = elim (bind_err (a.read xs) (λ v. b.read v.1 >>= λ y. Ok ((v.0, y.0), y.1)) _ h) [
    | inl l ↦ ra.short xs l t.0 (b.spell t.1 ++ z) e.0 (sym (append_assoc (a.spell t.0) (b.spell t.1) z) ∙ k)
    | inr p ↦ elim (bind_err (b.read p.0.1) (λ y. Ok ((p.0.0, y.0), y.1)) _ p.2) [
      | inl l ↦
          let ta = ra.takes xs p.0 p.1 in
          let one = la.once t.0 p.0.0 (b.spell t.1 ++ z) p.0.1 e.0 ta.ends (sym (append_assoc (a.spell t.0) (b.spell t.1) z) ∙ k ∙ ta.parts) in
          rb.short p.0.1 l t.1 z e.1 one.1
      | inr q ↦ absurd (ok-err _ _ q.2)
    ]
  ]

  pub seq-read : Viable (seq a b) → IsRead (seq a b)
  seq-read viable = record {
    some = (ra.some, rb.some);
    some_may = (ra.some_may, rb.some_may);
    within = λ t h. (ra.within t.0 h.0, rb.within t.1 h.1);
    takes = seq-takes;
    again = seq-again;
    viable = viable;
    tight = seq-tight;
    short = seq-short;
  }

-- ---- names

pub took-mapped : {M A B : Type 0} (to : B → A) (from : A → B) (b : Rule M B) (there : (t : B) → from (to t) ≡ t) (xs : Rows M) (x : B × Rows M) → Took b xs x → Took (mapped to from b) xs (to x.0, x.1)
took-mapped to from b there xs x k = record {
  parts = k.parts ∙ ap (λ u. b.spell u ++ x.1) (sym (there x.0));
  fits = subst b.fits (sym (there x.0)) k.fits;
  ends = subst (λ u. b.ends u x.1) (sym (there x.0)) k.ends;
}

abbrev pub renamed : {M A B : Type 0} → (B → A) → B × Rows M → Result (A × Rows M) Refusal
renamed to x = Ok (to x.0, x.1)

pub map_err : {M A B : Type 0} (to : B → A) (r : Result (B × Rows M) Refusal) (e : Refusal) → (r >>= renamed to) ≡ Err e → r ≡ Err e
map_err to (Ok x) e h = absurd (ok-err _ e h)
map_err to (Err d) e h = same-err d e h
  where
    same-err : {C D : Type 0} (d e : Refusal) → failed C d ≡ failed C e → failed D d ≡ failed D e
    same-err d e h = cc

module _ {M A B : Type 0} (to : B → A) (from : A → B) (b : Rule M B) (back : (t : A) → to (from t) ≡ t) (there : (t : B) → from (to t) ≡ t) (rb : IsRead b) where
  mapped-takes : (xs : Rows M) (x : A × Rows M) → reader.mapped to b.read xs ≡ Ok x → Took (mapped to from b) xs x
  mapped-takes xs x e =
      let p = bind_ok (b.read xs) (λ y. Ok (to y.0, y.1)) x e in
      subst (Took (mapped to from b) xs) (ok_is (to p.0.0, p.0.1) x p.2) (took-mapped to from b there xs p.0 (rb.takes xs p.0 p.1))

  from-concerned : (e : Refusal) (t : A) → Concerns (mapped to from b) e t → Concerns b e (from t)
  from-concerned (Unexpected n) t c = tt
  from-concerned (Deep n) t c = c

  pub mapped-read : Viable (mapped to from b) → IsRead (mapped to from b)
  mapped-read viable = record {
    some = to rb.some;
    some_may = subst b.may (sym (there rb.some)) rb.some_may;
    within = λ t h. rb.within (from t) h;
    takes = mapped-takes;
    again = λ t z h k. rw (rb.again (from t) z h k, back t) refl;
    viable = viable;
    tight = λ d front s rest l h t z more c k e. rb.tight d front s rest l (map_err to (b.read (front ++ (s ∷ rest))) d h) (from t) z more (from-concerned d t c) k e;
    short = λ xs h t z k e. rb.short xs (map_err to (b.read xs) (Unexpected 0) h) (from t) z k e;
  }

-- ---- nothing

pub nothing-read : {M : Type 0} → IsRead {M = M} nothing
nothing-read {M = M} = record {
  some = tt;
  some_may = tt;
  within = λ t h. tt;
  takes = λ xs x e. nothing-took xs x e;
  again = λ t z h k. refl;
  viable = λ xs e h. absurd (ok-err _ e h);
  tight = λ d front s rest l h t z more c k e. ok-err _ _ h;
  short = λ xs h t z k e. ok-err _ _ h;
}
  where
    nothing-took : (xs : Rows M) (x : Unit {0} × Rows M) → reader.nothing xs ≡ Ok x → Took nothing xs x
    nothing-took xs x e = subst (Took nothing xs) (ok_is (tt, xs) x e) (record { parts = refl; fits = tt; ends = tt })

-- ---- the test of the next row

pub stops-head : {M : Type 0} (p : Shape → Bool) (P : Set) → ((s : Shape) → p s ≡ P (class s)) → (xs : Rows M) → head_in p xs ≡ false → Stops P xs
stops-head p P h [] e = tt
stops-head p P h (x ∷ xs) e = sym (h x.shape) ∙ e

pub head-stops : {M : Type 0} (p : Shape → Bool) (P : Set) → ((s : Shape) → p s ≡ P (class s)) → (xs : Rows M) → Stops P xs → head_in p xs ≡ false
head-stops p P h [] e = refl
head-stops p P h (x ∷ xs) e = h x.shape ∙ e

pub head-starts : {M : Type 0} (p : Shape → Bool) (P : Set) → ((s : Shape) → p s ≡ P (class s)) → (ys z : Rows M) → Starts false P ys → head_in p (ys ++ z) ≡ true
head-starts p P h [] z e = absurd cc
head-starts p P h (y ∷ ys) z e = h y.shape ∙ e

pub true-false : (b : Bool) → b ≡ true → b ≡ false → ⊥
true-false true p q = absurd cc
true-false false p q = absurd cc

-- Rows that begin as others do.
pub same-head : {M : Type 0} (p : Shape → Bool) (front : Rows M) (s : Row M) (xs ys : Rows M) → head_in p (front ++ (s ∷ xs)) ≡ head_in p (front ++ (s ∷ ys))
same-head p [] s xs ys = refl
same-head p (f ∷ fs) s xs ys = refl
