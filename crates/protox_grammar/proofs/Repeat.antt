-- The laws of reading again and again.
use Rattle.std.proofs.Common.{◌≡◌, ℕ, zero, suc, ◌<◌, Bool, true, false, List, [], ◌∷◌, ◌++◌, length, Result, Ok, Err, refl, sym, ap, subst, ◌∙◌, append_assoc, arith, inl, inr}
use Rattle.std.proofs.lemmas.List.{append-nil, length-append}
use Rattle.protox_grammar.specs.Reader.{Refusal, Unexpected, Deep}
use Rattle.protox_lexeme.specs.Shapes.{Shape, Row, Rows}
use Rattle.protox_grammar.specs.Class.{Set, class, within}
use Rattle.protox_grammar.specs.Reader as reader
use Rattle.protox_grammar.specs.Reader.{◌>>=◌, head_in, star_at}
use Rattle.protox_grammar.specs.Rule.{Rule, Starts, Ends, star}
use Rattle.protox_ast.specs.Spelling.{many}
use Rattle.protox_ast.specs.Keywords.{Each}
use Rattle.protox_grammar.proofs.Takes.{bind_ok, ok_is}
use Rattle.protox_grammar.proofs.Laws.{IsSpelled, ahead-past}
use Rattle.protox_grammar.proofs.Sets.{starts-within}
use Rattle.protox_grammar.proofs.Reading.{left_of, Concerns, Begins, Took, IsRead, bind_err, cut-same, ok-err, err-ok, chosen, true-false, same-head, head-starts, head-stops, stops-head}

pub some-rows : {M : Type 0} (f : Set) (ys : Rows M) → Starts false f ys → 0 < length ys
some-rows f [] h = absurd cc
some-rows f (y ∷ ys) h = omega arith

module _ {M A : Type 0} (p : Shape → Bool) (P : Set) (a : Rule M A) (same : (s : Shape) → p s ≡ P (class s)) (fa ga : Set) (la : IsSpelled a false fa ga) (w : within fa P ≡ true) (ra : IsRead a) where
  abbrev again_at : ℕ → A × Rows M → Result (List A × Rows M) Refusal
  again_at n v = star_at p a.read n v.1 >>= λ y. Ok (v.0 ∷ y.0, y.1)

  abbrev turn_at : A → List A × Rows M → Result (List A × Rows M) Refusal
  turn_at v y = Ok (v ∷ y.0, y.1)

  abbrev rule : Rule M (List A)
  rule = star p P a

  shorter : (xs : Rows M) (v : A × Rows M) → Took a xs v → length v.1 < length xs
  shorter xs v k = omega (arith, some-rows fa (a.spell v.0) (la.starts v.0 v.1 k.ends), ap length k.parts, length-append (a.spell v.0) v.1)

  took-more : (xs : Rows M) (v : A × Rows M) (y : List A × Rows M) → Took a xs v → Took rule v.1 y → Took rule xs (v.0 ∷ y.0, y.1)
  took-more xs v y k l = record {
    parts = k.parts ∙ ap (λ u. a.spell v.0 ++ u) l.parts ∙ sym (append_assoc (a.spell v.0) (many a.spell y.0) y.1);
    fits = (k.fits, l.fits);
    ends = (subst (a.ends v.0) l.parts k.ends, l.ends);
  }

  takes_at : (n : ℕ) (xs : Rows M) (x : List A × Rows M) → star_at p a.read n xs ≡ Ok x → Took rule xs x
  unfolding star_at
  takes_at zero xs x e = absurd (err-ok x _ e)
  takes_at (suc n) xs x e = elim (chosen (head_in p xs) (a.read xs >>= again_at n) (Ok ([], xs)) (Ok x) e) [
    | inl h ↦
        let v = bind_ok (a.read xs) (again_at n) x h.1 in
        let y = bind_ok (star_at p a.read n v.0.1) (turn_at v.0.0) x v.2 in
        subst (Took rule xs) (ok_is (v.0.0 ∷ y.0.0, y.0.1) x y.2) (took-more xs v.0 y.0 (ra.takes xs v.0 v.1) (takes_at n v.0.1 y.0 y.1))
    | inr h ↦ subst (Took rule xs) (ok_is ([], xs) x h.1) (record { parts = refl; fits = tt; ends = stops-head p P same xs h.0 })
  ]

  again_all : (n : ℕ) (ts : List A) (z : Rows M) → Each a.fits ts → Ends a.spell a.ends P ts z → length (many a.spell ts ++ z) < n → star_at p a.read n (many a.spell ts ++ z) ≡ Ok (ts, z)
  unfolding star_at
  again_all zero ts z f e h = absurd (omega arith)
  again_all (suc n) [] z f e h = rw (head-stops p P same z e) refl
  again_all (suc n) (t ∷ ts) z f e h =
      let begins = starts-within false fa P w (a.spell t) (la.starts t _ e.0) in
      let regroup = append_assoc (a.spell t) (many a.spell ts) z in
      let fewer : length (many a.spell ts ++ z) < n = omega (arith, some-rows P (a.spell t) begins, ap length regroup, length-append (a.spell t) (many a.spell ts ++ z)) in
      rw (regroup, head-starts p P same (a.spell t) (many a.spell ts ++ z) begins, ra.again t (many a.spell ts ++ z) f.0 e.0, again_all n ts z f.1 e.1 fewer) refl

  begins-here : (xs : Rows M) (n : ℕ) → Begins a xs n → Begins rule xs n
  begins-here xs n v = record { front = v.front; rest = v.rest; parts = v.parts; left_is = v.left_is; tree = v.tree ∷ []; tree_may = (v.tree_may, tt); more = v.more; goes_on = append-nil (a.spell v.tree) ∙ v.goes_on }

  begins-later : (xs : Rows M) (x : A × Rows M) (n : ℕ) → Took a xs x → Begins rule x.1 n → Begins rule xs n
  begins-later xs x n k v = record {
    front = a.spell x.0 ++ v.front;
    rest = v.rest;
    parts = k.parts ∙ ap (λ u. a.spell x.0 ++ u) v.parts ∙ sym (append_assoc (a.spell x.0) v.front v.rest);
    left_is = v.left_is;
    tree = x.0 ∷ v.tree;
    tree_may = (ra.within x.0 k.fits, v.tree_may);
    more = v.more;
    goes_on = ap (λ u. a.spell x.0 ++ u) v.goes_on ∙ sym (append_assoc (a.spell x.0) v.front v.more);
  }

  viable_at : (n : ℕ) (xs : Rows M) (e : Refusal) → length xs < n → star_at p a.read n xs ≡ Err e → Begins rule xs (left_of e)
  unfolding star_at
  viable_at zero xs e l h = absurd (omega arith)
  viable_at (suc n) xs e l h = elim (chosen (head_in p xs) (a.read xs >>= again_at n) (Ok ([], xs)) (Err e) h) [
    | inl c ↦ elim (bind_err (a.read xs) (again_at n) e c.1) [
      | inl k ↦ begins-here xs (left_of e) (ra.viable xs e k)
      | inr v ↦
          let k = ra.takes xs v.0 v.1 in
          elim (bind_err (star_at p a.read n v.0.1) (turn_at v.0.0) e v.2) [
            | inl q ↦ begins-later xs v.0 (left_of e) k (viable_at n v.0.1 e (omega (arith, shorter xs v.0 k)) q)
            | inr q ↦ absurd (ok-err _ e q.2)
          ]
    ]
    | inr c ↦ absurd (ok-err _ e c.1)
  ]

  first-concerned : (e : Refusal) (t : A) (ts : List A) → Concerns rule e (t ∷ ts) → Concerns a e t
  first-concerned (Unexpected n) t ts c = tt
  first-concerned (Deep n) t ts c = c.0

  others-concerned : (e : Refusal) (t : A) (ts : List A) → Concerns rule e (t ∷ ts) → Concerns rule e ts
  others-concerned (Unexpected n) t ts c = tt
  others-concerned (Deep n) t ts c = c.1

  tight_at : (n : ℕ) (d : Refusal) (front : Rows M) (s : Row M) (rest : Rows M) → length (front ++ (s ∷ rest)) < n → left_of d ≡ suc (length rest) → star_at p a.read n (front ++ (s ∷ rest)) ≡ Err d
      → (ts : List A) (z more : Rows M) → Concerns rule d ts → Ends a.spell a.ends P ts z → many a.spell ts ++ z ≡ front ++ (s ∷ more) → ⊥
  unfolding star_at
  tight_at zero d front s rest l f h ts z more g e k = omega arith
  tight_at (suc n) d front s rest l f h [] z more g e k = elim (chosen (head_in p (front ++ (s ∷ rest))) (a.read (front ++ (s ∷ rest)) >>= again_at n) (Ok ([], front ++ (s ∷ rest))) _ h) [
    | inl c ↦ true-false _ (ap (head_in p) k ∙ same-head p front s more rest ∙ c.0) (head-stops p P same z e)
    | inr c ↦ ok-err _ _ c.1
  ]
  tight_at (suc n) d front s rest l f h (t ∷ ts) z more g e k = elim (chosen (head_in p (front ++ (s ∷ rest))) (a.read (front ++ (s ∷ rest)) >>= again_at n) (Ok ([], front ++ (s ∷ rest))) _ h) [
    | inl c ↦ elim (bind_err (a.read (front ++ (s ∷ rest))) (again_at n) _ c.1) [
      | inl q ↦ ra.tight d front s rest f q t (many a.spell ts ++ z) more (first-concerned d t ts g) e.0 (sym (append_assoc (a.spell t) (many a.spell ts) z) ∙ k)
      | inr v ↦ elim (bind_err (star_at p a.read n v.0.1) (turn_at v.0.0) _ v.2) [
        | inl q ↦
            let took = ra.takes (front ++ (s ∷ rest)) v.0 v.1 in
            let less = shorter (front ++ (s ∷ rest)) v.0 took in
            let b = viable_at n v.0.1 d (omega arith) q in
            let cut = cut-same front (a.spell v.0.0 ++ b.front) (s ∷ rest) b.rest (took.parts ∙ ap (λ u. a.spell v.0.0 ++ u) b.parts ∙ sym (append_assoc (a.spell v.0.0) b.front b.rest)) (sym f ∙ b.left_is) in
            let ys-is : v.0.1 ≡ b.front ++ (s ∷ rest) = b.parts ∙ ap (λ u. b.front ++ u) (sym cut.1) in
            let equal : a.spell t ++ (many a.spell ts ++ z) ≡ a.spell v.0.0 ++ (b.front ++ (s ∷ more)) = sym (append_assoc (a.spell t) (many a.spell ts) z) ∙ k ∙ ap (λ u. u ++ (s ∷ more)) cut.0 ∙ append_assoc (a.spell v.0.0) b.front (s ∷ more) in
            let one = la.once t v.0.0 (many a.spell ts ++ z) (b.front ++ (s ∷ more)) e.0 (ahead-past la v.0.0 b.front s rest more (subst (a.ends v.0.0) ys-is took.ends)) equal in
            tight_at n d b.front s rest (subst (λ u. length u < n) ys-is (omega arith)) f (subst (λ u. star_at p a.read n u ≡ Err d) ys-is q) ts z more (others-concerned d t ts g) e.1 one.1
        | inr q ↦ ok-err _ _ q.2
      ]
    ]
    | inr c ↦ ok-err _ _ c.1
  ]

  short_at : (n : ℕ) (xs : Rows M) → length xs < n → star_at p a.read n xs ≡ Err (Unexpected 0) → (ts : List A) (z : Rows M) → Ends a.spell a.ends P ts z → many a.spell ts ++ z ≡ xs → ⊥
  unfolding star_at
  short_at zero xs l h ts z e k = omega arith
  short_at (suc n) xs l h [] z e k = elim (chosen (head_in p xs) (a.read xs >>= again_at n) (Ok ([], xs)) _ h) [
    | inl c ↦ true-false _ (ap (head_in p) k ∙ c.0) (head-stops p P same z e)
    | inr c ↦ ok-err _ _ c.1
  ]
  short_at (suc n) xs l h (t ∷ ts) z e k = elim (chosen (head_in p xs) (a.read xs >>= again_at n) (Ok ([], xs)) _ h) [
    | inl c ↦ elim (bind_err (a.read xs) (again_at n) _ c.1) [
      | inl q ↦ ra.short xs q t (many a.spell ts ++ z) e.0 (sym (append_assoc (a.spell t) (many a.spell ts) z) ∙ k)
      | inr v ↦ elim (bind_err (star_at p a.read n v.0.1) (turn_at v.0.0) _ v.2) [
        | inl q ↦
            let took = ra.takes xs v.0 v.1 in
            let less = shorter xs v.0 took in
            let one = la.once t v.0.0 (many a.spell ts ++ z) v.0.1 e.0 took.ends (sym (append_assoc (a.spell t) (many a.spell ts) z) ∙ k ∙ took.parts) in
            short_at n v.0.1 (omega arith) q ts z e.1 one.1
        | inr q ↦ ok-err _ _ q.2
      ]
    ]
    | inr c ↦ ok-err _ _ c.1
  ]

  within_all : (ts : List A) → Each a.fits ts → Each a.may ts
  within_all [] f = tt
  within_all (t ∷ ts) f = (ra.within t f.0, within_all ts f.1)

  pub star-read : IsRead (star p P a)
  unfolding reader.star
  star-read = record {
    some = [];
    some_may = tt;
    within = within_all;
    takes = λ xs x e. takes_at (suc (length xs)) xs x e;
    again = λ ts z f e. again_all (suc (length (many a.spell ts ++ z))) ts z f e (omega arith);
    viable = λ xs e h. viable_at (suc (length xs)) xs e (omega arith) h;
    tight = λ d front s rest f h ts z more g e k. tight_at (suc (length (front ++ (s ∷ rest)))) d front s rest (omega arith) f h ts z more g e k;
    short = λ xs h ts z e k. short_at (suc (length xs)) xs (omega arith) h ts z e k;
  }
