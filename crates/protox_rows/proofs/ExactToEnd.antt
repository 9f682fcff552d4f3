-- Elements up to the end of the rows, with one part before them that may be absent: the words are
-- exact wherever reading stops.
use Rattle.std.proofs.Common.{◌≡◌, ◌≤◌, ℕ, suc, Bool, true, false, cond, ◌||◌, List, [], ◌∷◌, ◌++◌, length, Option, Some, None, Result, Ok, Err, refl, sym, ap, subst, ◌∙◌, append_assoc, arith, inl, inr}
use Rattle.protox_ast.specs.Places.{Place}
use Rattle.protox_lexeme.specs.Shapes.{Shape, Row, Rows}
use Rattle.protox_grammar.specs.Class.{Set, all, class, in_set, none, within}
use Rattle.protox_grammar.specs.Reader as reader
use Rattle.protox_grammar.specs.Reader.{Reader, Refusal, Unexpected, Deep, ◌>>=◌, mapped, star}
use Rattle.protox_grammar.proofs.Lemmas.{bind_err, cut-same, ok-err, star-turn, within-at}
use Rattle.protox_rows.specs.Expected.{named, allowed}
use Rattle.protox_rows.specs.declared.expected.Expected.{Expected}
use Rattle.protox_rows.specs.inner.Words.{Words, and_then, behind, times}
use Rattle.protox_rows.proofs.Exact.{Exact, Fits, Took, parted, took_more, under}
use Rattle.protox_rows.proofs.ExactBefore.{none-last}
use Rattle.protox_rows.proofs.ExactLists.{eats, ends-all, goes_on-all, inside-all, taken, took-all}
use Rattle.protox_rows.proofs.ExactWide.{at_end-words, cut, is-cut, same-words, stopped}

module _ {B : Type 0} {b : Reader Place B} {wb : Words} {e : Expected} {fb : Set} (hb : Exact b wb e fb (λ y. none)) (wide : within fb all ≡ true) (low : within (named e) fb ≡ true) (high : within fb (allowed e) ≡ true) where
  abbrev narrow : Reader Place (List B)
  narrow = star (in_set fb) b

  abbrev elements : Reader Place (List B)
  elements = star (in_set all) b

  abbrev words : Words
  words = times (in_set all) b wb

  is : (xs : Rows Place) → elements xs ≡ (narrow xs >>= cut hb all wide)
  is xs = is-cut hb all wide xs

  took_cut : (n : ℕ) (read : Result (List B × Rows Place) Refusal) → Took n read → Took n (read >>= cut hb all wide)
  took_cut n (Ok (l, [])) t = t
  took_cut n (Ok (l, r ∷ zs)) t = t
  took_cut n (Err (Unexpected m)) t = t
  took_cut n (Err (Deep m)) t = t

  pub took-elements : (xs : Rows Place) → Took (length xs) (elements xs)
  took-elements xs = subst (Took (length xs)) (sym (is xs)) (took_cut (length xs) (narrow xs) (took-all hb xs))

  -- Reading stops before a row with which no element begins.
  data Stopped (ys t : Rows Place) : Type 0 where
    within_one : narrow (ys ++ t) ≡ Err (Unexpected (length t)) → Stopped ys t
    before_one : (l : List B) (r : Row Place) (zs : Rows Place) → t ≡ r ∷ zs → narrow (ys ++ t) ≡ Ok (l, t) → Stopped ys t

  cut-stops : (ys t : Rows Place) (l : List B) (rest : Rows Place) → narrow (ys ++ t) ≡ Ok (l, rest) → cut hb all wide (l, rest) ≡ Err (Unexpected (length t)) → Stopped ys t
  cut-stops ys t l [] q k = absurd (ok-err _ _ k)
  cut-stops ys t l (r ∷ zs) q k =
      let len : suc (length zs) ≡ length t = same (suc (length zs)) (length t) k in
      let p = taken hb (ys ++ t) (l, r ∷ zs) q in
      let parts = cut-same ys p.front t (r ∷ zs) p.rows_are (sym len) in
      before_one l r zs parts.1 (q ∙ ap (λ w. Ok (l, w)) (sym parts.1))
    where
      failed : ℕ → Result (List B × Rows Place) Refusal
      failed n = Err (Unexpected n)

      same : (n m : ℕ) → failed n ≡ failed m → n ≡ m
      same n m k = cc

  stopped-at : (ys t : Rows Place) (read : Result (List B × Rows Place) Refusal) → narrow (ys ++ t) ≡ read → (read >>= cut hb all wide) ≡ Err (Unexpected (length t)) → Stopped ys t
  stopped-at ys t (Ok x) q k = cut-stops ys t x.0 x.1 q k
  stopped-at ys t (Err d) q k = within_one (q ∙ k)

  stops : (ys t : Rows Place) → elements (ys ++ t) ≡ Err (Unexpected (length t)) → Stopped ys t
  stops ys t q = stopped-at ys t (narrow (ys ++ t)) refl (sym (is (ys ++ t)) ∙ q)

  words-before : (ys t : Rows Place) (l : List B) (r : Row Place) (zs : Rows Place) → t ≡ r ∷ zs → narrow (ys ++ t) ≡ Ok (l, t) → words (ys ++ t) ≡ e
  words-before ys t l r zs same q =
      let one : narrow (ys ++ t) ≡ Ok (l, r ∷ zs) = q ∙ ap (λ w. Ok (l, w)) same in
      same-words hb all wide (ys ++ t) ∙ at_end-words hb all wide (ys ++ t) (l, r ∷ zs) one ∙ hb.says (r ∷ zs) (hb.barred r zs (stopped hb all wide (ys ++ t) l r zs one))

  not_at : {p q : Bool} → (p ≡ true → q ≡ true) → q ≡ false → p ≡ false
  not_at {p = true} i h = let s = sym h ∙ i refl in absurd cc
  not_at {p = false} i h = refl

  -- With another row where they stop, elements are read as the words say.
  pub end-fits : (ys t : Rows Place) → elements (ys ++ t) ≡ Err (Unexpected (length t)) → (r : Row Place) (zs : Rows Place) → Fits (words (ys ++ t)) r (length zs) (elements (ys ++ (r ∷ zs)))
  end-fits ys t q r zs = subst (λ v. Fits (words (ys ++ t)) r (length zs) v) (sym (is (ys ++ (r ∷ zs)))) (elim (stops ys t q) [
    | within_one p ↦
        let f = inside-all hb ys t p r zs in
        subst (λ w. Fits w r (length zs) (narrow (ys ++ (r ∷ zs)) >>= cut hb all wide)) (sym (same-words hb all wide (ys ++ t)))
        (record { taken = λ h. took_cut (length zs) (narrow (ys ++ (r ∷ zs))) (f.taken h); refused = λ h. ap (λ v. v >>= cut hb all wide) (f.refused h) })
    | before_one l r0 zs0 same p ↦
        subst (λ w. Fits w r (length zs) (narrow (ys ++ (r ∷ zs)) >>= cut hb all wide)) (sym (words-before ys t l r0 zs0 same p))
        (record {
          taken = λ h. took_cut (length zs) (narrow (ys ++ (r ∷ zs))) (goes_on-all hb ys t l p r zs (ap (λ v. v || fb (class r.shape)) (none-last l (class r.shape)) ∙ within-at (named e) fb low r.shape h));
          refused = λ h. ap (λ v. v >>= cut hb all wide) (ends-all hb ys t l p r zs (not_at (within-at fb (allowed e) high r.shape) h) (none-last l (class r.shape)));
        })
  ])

  -- At the beginning the words are these.
  pub end-says : (t : Rows Place) → elements t ≡ Err (Unexpected (length t)) → words t ≡ e
  end-says t q = elim (stops [] t q) [
    | within_one p ↦ absurd (never t p)
    | before_one l r zs same p ↦ words-before [] t l r zs same p
  ]
    where
      never : (t : Rows Place) → narrow t ≡ Err (Unexpected (length t)) → ⊥
      never [] p = ok-err _ _ (sym (star-turn (in_set fb) b (eats hb) []) ∙ p)
      never (r ∷ zs) p = by (fb (class r.shape)) refl
        where
          by : (c : Bool) → fb (class r.shape) ≡ c → ⊥
          by true f = omega (arith, subst (Took (length zs)) p (goes_on-all hb [] [] [] (star-turn (in_set fb) b (eats hb) []) r zs f))
          by false f = ok-err _ _ (sym (ends-all hb [] [] [] (star-turn (in_set fb) b (eats hb) []) r zs f refl) ∙ p)

  pub none-at_end : elements [] ≡ Ok ([], [])
  none-at_end = star-turn (in_set all) b (eats hb) []

-- A part that may be absent, and elements up to the end.
module _ {A B C : Type 0} {a : Reader Place A} {b : Reader Place B} {wa wb : Words} {ea e : Expected} {P fb : Set} (g : List B → C) (ha : Exact a wa ea P (λ x. none)) (hb : Exact b wb e fb (λ y. none))
    (wide : within fb all ≡ true) (low : within (named e) fb ≡ true) (high : within fb (allowed e) ≡ true) (unnamed : (s : Shape) → P (class s) ≡ true → (named e (class s) ≡ false) × (allowed e (class s) ≡ true)) where
  abbrev others : Reader Place (List B)
  others = star (in_set all) b

  abbrev gathered : Reader Place C
  gathered = mapped g others

  abbrev front : Reader Place (Option A)
  front = reader.optional (in_set P) a

  abbrev file : Reader Place (Option A × C)
  file = reader.seq front gathered

  abbrev said : Words
  said = and_then front wa (λ o. times (in_set all) b wb)

  abbrev after : Option A × Rows Place → Result ((Option A × C) × Rows Place) Refusal
  after x = gathered x.1 >>= λ y. Ok ((x.0, y.0), y.1)

  abbrev with : Option A → List B × Rows Place → Result ((Option A × C) × Rows Place) Refusal
  with o y = Ok ((o, g y.0), y.1)

  after-is : (o : Option A) (read : Result (List B × Rows Place) Refusal) → ((read >>= under g) >>= λ y. Ok ((o, y.0), y.1)) ≡ (read >>= with o)
  after-is o (Ok y) = refl
  after-is o (Err d) = refl

  took_with : (n : ℕ) (o : Option A) (read : Result (List B × Rows Place) Refusal) → Took n read → Took n (read >>= with o)
  took_with n o (Ok y) t = t
  took_with n o (Err (Unexpected m)) t = t
  took_with n o (Err (Deep m)) t = t

  refused_with : (n : ℕ) (o : Option A) (read : Result (List B × Rows Place) Refusal) → (read >>= with o) ≡ Err (Unexpected n) → read ≡ Err (Unexpected n)
  refused_with n o (Ok y) q = absurd (ok-err _ _ q)
  refused_with n o (Err d) q = again d (Unexpected n) q
    where
      failed : {X : Type 0} → Refusal → Result X Refusal
      failed d = Err d

      again : (c d : Refusal) → failed {X = (Option A × C) × Rows Place} c ≡ failed d → failed {X = List B × Rows Place} c ≡ failed d
      again c d q = cc

  -- Without the first part.
  absent : (y : Row Place) (ys : Rows Place) → P (class y.shape) ≡ false → file (y ∷ ys) ≡ (others (y ∷ ys) >>= with None)
  absent y ys p = ap (λ c. cond c (a (y ∷ ys) >>= under Some) (Ok (None, y ∷ ys)) >>= after) p ∙ after-is None (others (y ∷ ys))

  absent-said : (y : Row Place) (ys : Rows Place) → P (class y.shape) ≡ false → said (y ∷ ys) ≡ times (in_set all) b wb (y ∷ ys)
  absent-said y ys p = ap (λ c. behind (wa (y ∷ ys)) (λ o. times (in_set all) b wb) (cond c (a (y ∷ ys) >>= under Some) (Ok (None, y ∷ ys)))) p

  -- With it.
  abbrev then_others : A × Rows Place → Result ((Option A × C) × Rows Place) Refusal
  then_others x = others x.1 >>= with (Some x.0)

  there-is : (read : Result (A × Rows Place) Refusal) → ((read >>= under Some) >>= after) ≡ (read >>= then_others)
  there-is (Ok x) = after-is (Some x.0) (others x.1)
  there-is (Err d) = refl

  there : (y : Row Place) (ys : Rows Place) → P (class y.shape) ≡ true → file (y ∷ ys) ≡ (a (y ∷ ys) >>= then_others)
  there y ys p = ap (λ c. cond c (a (y ∷ ys) >>= under Some) (Ok (None, y ∷ ys)) >>= after) p ∙ there-is (a (y ∷ ys))

  there-said-is : (w : Expected) (read : Result (A × Rows Place) Refusal) → behind w (λ (o : Option A). times (in_set all) b wb) (read >>= under Some) ≡ behind w (λ (x : A). times (in_set all) b wb) read
  there-said-is w (Ok x) = refl
  there-said-is w (Err d) = refl

  there-said : (y : Row Place) (ys : Rows Place) → P (class y.shape) ≡ true → said (y ∷ ys) ≡ behind (wa (y ∷ ys)) (λ (x : A). times (in_set all) b wb) (a (y ∷ ys))
  there-said y ys p = ap (λ c. behind (wa (y ∷ ys)) (λ o. times (in_set all) b wb) (cond c (a (y ∷ ys) >>= under Some) (Ok (None, y ∷ ys)))) p ∙ there-said-is (wa (y ∷ ys)) (a (y ∷ ys))

  took_then : (n : ℕ) (read : Result (A × Rows Place) Refusal) → Took n read → Took n (read >>= then_others)
  took_then n (Ok x) t = took_with n (Some x.0) (others x.1) (took_more (length x.1) n (others x.1) t (took-elements hb wide low high x.1))
  took_then n (Err (Unexpected m)) t = t
  took_then n (Err (Deep m)) t = t

  with-fits : (w : Expected) (r : Row Place) (n : ℕ) (o : Option A) (read : Result (List B × Rows Place) Refusal) → Fits w r n read → Fits w r n (read >>= with o)
  with-fits w r n o read f = record { taken = λ h. took_with n o read (f.taken h); refused = λ h. ap (λ v. v >>= with o) (f.refused h) }

  -- ---- at the beginning

  first-fits : (t : Rows Place) → others t ≡ Err (Unexpected (length t)) → (r : Row Place) (zs : Rows Place) → Fits (times (in_set all) b wb t) r (length zs) (file (r ∷ zs))
  first-fits t q r zs = by (P (class r.shape)) refl
    where
      by : (c : Bool) → P (class r.shape) ≡ c → Fits (times (in_set all) b wb t) r (length zs) (file (r ∷ zs))
      by false p = subst (λ v. Fits (times (in_set all) b wb t) r (length zs) v) (sym (absent r zs p)) (with-fits (times (in_set all) b wb t) r (length zs) None (others (r ∷ zs)) (end-fits hb wide low high [] t q r zs))
      by true p =
          let u = unnamed r.shape p in
          let w = end-says hb wide low high t q in
          record {
            taken = λ h. absurd (differ (sym u.0 ∙ ap (λ v. named v (class r.shape)) (sym w) ∙ h));
            refused = λ h. absurd (differ (sym h ∙ ap (λ v. allowed v (class r.shape)) w ∙ u.1));
          }
        where
          differ : false ≡ true → ⊥
          differ q = absurd cc

  -- ---- further on

  later-fits : (part us t rest : Rows Place) (x : A) → rest ≡ part ++ t → a (us ++ rest) ≡ Ok (x, rest) → others rest ≡ Err (Unexpected (length t)) → (r : Row Place) (zs : Rows Place) → Fits (times (in_set all) b wb rest) r (length zs) (a (us ++ (part ++ (r ∷ zs))) >>= then_others)
  later-fits [] us t rest x same one q r zs =
      let first = ha.ends us t x (subst (λ w. a (us ++ w) ≡ Ok (x, w)) same one) r zs refl in
      subst (λ w. Fits (times (in_set all) b wb w) r (length zs) (a (us ++ (r ∷ zs)) >>= then_others)) (sym same)
      (subst (λ w. Fits (times (in_set all) b wb t) r (length zs) (w >>= then_others)) (sym first)
      (with-fits (times (in_set all) b wb t) r (length zs) (Some x) (others (r ∷ zs)) (end-fits hb wide low high [] t (subst (λ w. others w ≡ Err (Unexpected (length t))) same q) r zs)))
  later-fits (v ∷ vs) us t rest x same one q r zs =
      let first = ha.stays us v vs t (r ∷ zs) x (subst (λ w. a (us ++ w) ≡ Ok (x, w)) same one) in
      subst (λ w. Fits (times (in_set all) b wb w) r (length zs) (a (us ++ (v ∷ (vs ++ (r ∷ zs)))) >>= then_others)) (sym same)
      (subst (λ w. Fits (times (in_set all) b wb (v ∷ (vs ++ t))) r (length zs) (w >>= then_others)) (sym first)
      (with-fits (times (in_set all) b wb (v ∷ (vs ++ t))) r (length zs) (Some x) (others (v ∷ (vs ++ (r ∷ zs)))) (end-fits hb wide low high (v ∷ vs) t (subst (λ w. others w ≡ Err (Unexpected (length t))) same q) r zs)))

  bound-others : (xs : Rows Place) (n : ℕ) → others xs ≡ Err (Unexpected n) → n ≤ length xs
  bound-others xs n q = subst (Took (length xs)) q (took-elements hb wide low high xs)

  there-fits : (y : Row Place) (ys t : Rows Place) → P (class y.shape) ≡ true → file (y ∷ (ys ++ t)) ≡ Err (Unexpected (length t)) → (r : Row Place) (zs : Rows Place) → Fits (said (y ∷ (ys ++ t))) r (length zs) (file (y ∷ (ys ++ (r ∷ zs))))
  there-fits y ys t p h r zs =
      subst (λ v. Fits (said (y ∷ (ys ++ t))) r (length zs) v) (sym (there y (ys ++ (r ∷ zs)) p))
      (subst (λ w. Fits w r (length zs) (a (y ∷ (ys ++ (r ∷ zs))) >>= then_others)) (sym (there-said y (ys ++ t) p))
      (elim (bind_err (a (y ∷ (ys ++ t))) then_others (Unexpected (length t)) (sym (there y (ys ++ t) p) ∙ h)) [
        | inl q ↦
            let f = ha.inside y ys t q r zs in
            subst (λ w. Fits w r (length zs) (a (y ∷ (ys ++ (r ∷ zs))) >>= then_others)) (sym (ap (behind (wa (y ∷ (ys ++ t))) (λ x. times (in_set all) b wb)) q))
            (record { taken = λ n. took_then (length zs) (a (y ∷ (ys ++ (r ∷ zs)))) (f.taken n); refused = λ n. ap (λ u. u >>= then_others) (f.refused n) })
        | inr q ↦
            let k = refused_with (length t) (Some q.0.0) (others q.0.1) q.2 in
            let s = ha.rest (y ∷ (ys ++ t)) q.0 q.1 in
            let c = parted (y ∷ ys) t (s.0 ∷ s.1) q.0.1 s.2 (bound-others q.0.1 (length t) k) in
            let front_is : y ∷ (ys ++ (r ∷ zs)) ≡ (s.0 ∷ s.1) ++ (c.part ++ (r ∷ zs)) = ap (λ u. u ++ (r ∷ zs)) c.front_is ∙ append_assoc (s.0 ∷ s.1) c.part (r ∷ zs) in
            subst (λ w. Fits w r (length zs) (a (y ∷ (ys ++ (r ∷ zs))) >>= then_others)) (sym (ap (behind (wa (y ∷ (ys ++ t))) (λ x. times (in_set all) b wb)) q.1))
            (subst (λ u. Fits (times (in_set all) b wb q.0.1) r (length zs) (a u >>= then_others)) (sym front_is)
            (later-fits c.part (s.0 ∷ s.1) t q.0.1 q.0.0 c.rest_is (subst (λ u. a u ≡ Ok q.0) s.2 q.1) k r zs))
      ]))

  absent-fits : (y : Row Place) (ys t : Rows Place) → P (class y.shape) ≡ false → file (y ∷ (ys ++ t)) ≡ Err (Unexpected (length t)) → (r : Row Place) (zs : Rows Place) → Fits (said (y ∷ (ys ++ t))) r (length zs) (file (y ∷ (ys ++ (r ∷ zs))))
  absent-fits y ys t p h r zs =
      subst (λ v. Fits (said (y ∷ (ys ++ t))) r (length zs) v) (sym (absent y (ys ++ (r ∷ zs)) p))
      (subst (λ w. Fits w r (length zs) (others (y ∷ (ys ++ (r ∷ zs))) >>= with None)) (sym (absent-said y (ys ++ t) p))
      (with-fits (times (in_set all) b wb (y ∷ (ys ++ t))) r (length zs) None (others (y ∷ (ys ++ (r ∷ zs))))
      (end-fits hb wide low high (y ∷ ys) t (refused_with (length t) None (others (y ∷ (ys ++ t))) (sym (absent y (ys ++ t) p) ∙ h)) r zs)))

  -- Wherever reading stops, with another row there the file is read as the words say.
  pub file-fits : (ys t : Rows Place) → file (ys ++ t) ≡ Err (Unexpected (length t)) → (r : Row Place) (zs : Rows Place) → Fits (said (ys ++ t)) r (length zs) (file (ys ++ (r ∷ zs)))
  file-fits [] [] h r zs = absurd (ok-err _ _ (sym (after-is None (others []) ∙ ap (λ v. v >>= with None) (none-at_end hb wide low high)) ∙ h))
  file-fits [] (y ∷ t) h r zs = by (P (class y.shape)) refl
    where
      by : (c : Bool) → P (class y.shape) ≡ c → Fits (said (y ∷ t)) r (length zs) (file (r ∷ zs))
      by true p = absurd (omega (arith, subst (Took (length t)) (sym (there y t p) ∙ h) (took_then (length t) (a (y ∷ t)) (ha.begins y t p))))
      by false p =
          subst (λ w. Fits w r (length zs) (file (r ∷ zs))) (sym (absent-said y t p))
          (first-fits (y ∷ t) (refused_with (length (y ∷ t)) None (others (y ∷ t)) (sym (absent y t p) ∙ h)) r zs)
  file-fits (y ∷ ys) t h r zs = by (P (class y.shape)) refl
    where
      by : (c : Bool) → P (class y.shape) ≡ c → Fits (said (y ∷ (ys ++ t))) r (length zs) (file (y ∷ (ys ++ (r ∷ zs))))
      by true p = there-fits y ys t p h r zs
      by false p = absent-fits y ys t p h r zs
