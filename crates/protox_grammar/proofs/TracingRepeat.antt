-- The laws of steps for any number of trees of a rule.
use Rattle.std.proofs.Common.{◌≡◌, ℕ, zero, suc, ◌<◌, Bool, true, false, cond, List, [], ◌∷◌, ◌++◌, length, None, Result, Ok, Err, refl, sym, ap, subst, ◌∙◌, append_assoc, arith, inl, inr}
use Rattle.std.proofs.lemmas.List.{append-nil, length-append}
use Rattle.protox_lexeme.specs.Shapes.{Shape, Rows}
use Rattle.protox_grammar.specs.Class.{Set, class, within}
use Rattle.protox_grammar.specs.Reader as reader
use Rattle.protox_grammar.specs.Reader.{Refusal, Deep, ◌>>=◌, head_in, star_at}
use Rattle.protox_grammar.specs.Rule.{Rule, Ends, star}
use Rattle.protox_grammar.specs.Steps.{Steps, tokens, until, has_deep, then_steps, steps_of_many, star_trace}
use Rattle.protox_ast.specs.Spelling.{many}
use Rattle.protox_ast.specs.Keywords.{Each}
use Rattle.protox_grammar.proofs.Takes.{bind_ok, ok_is}
use Rattle.protox_grammar.proofs.Sets.{starts-within}
use Rattle.protox_grammar.proofs.Laws.{IsSpelled}
use Rattle.protox_grammar.proofs.Reading.{IsRead, Took, bind_err, ok-err, err-ok, chosen, head-starts, head-stops}
use Rattle.protox_grammar.proofs.Repeat.{some-rows}
use Rattle.protox_grammar.proofs.StepLists.{Quiet, until-quiet, quiet-append, tokens-append, has_deep-first}
use Rattle.protox_grammar.proofs.Tracing.{Alike, IsLeft, IsTraced, then-of, then-none, silent, sequel}
use Rattle.protox_grammar.proofs.EndsDeep.{StopsDeep, stops-if, stops-mapped, stops-then}
use Rattle.protox_grammar.proofs.Placing.{ArePlaced, placed-append}

-- ---- again and again

module _ {M A : Type 0} (p : Shape → Bool) (P : Set) (a : Rule M A) (same : (s : Shape) → p s ≡ P (class s)) (fa ga : Set) (la : IsSpelled a false fa ga) (w : within fa P ≡ true) (ra : IsRead a) (ta : IsTraced a) where
  abbrev turns : ℕ → Rows M → Steps M
  turns n xs = star_trace p a.read a.trace n xs

  abbrev turn : ℕ → A × Rows M → Steps M
  turn n x = turns n x.1

  abbrev again_at : ℕ → A × Rows M → Result (List A × Rows M) Refusal
  again_at n v = star_at p a.read n v.1 >>= λ y. Ok (v.0 ∷ y.0, y.1)

  abbrev turn_at : A → List A × Rows M → Result (List A × Rows M) Refusal
  turn_at v y = Ok (v ∷ y.0, y.1)

  turn-silent : (n : ℕ) (xs : Rows M) → Quiet (turns n xs)
  unfolding star_trace
  turn-silent zero xs = tt
  turn-silent (suc n) xs = under n (head_in p xs) (silent a false fa ga la ra ta xs) (a.read xs) (λ x. turn-silent n x.1)
    where
      under : (n : ℕ) (v : Bool) → Quiet (a.trace xs) → (res : Result (A × Rows M) Refusal) → ((x : A × Rows M) → Quiet (turns n x.1)) → Quiet (cond v (a.trace xs ++ then_steps res (turn n)) [])
      under n false q res h = tt
      under n true q (Ok x) h = quiet-append (a.trace xs) (turns n x.1) q (h x)
      under n true q (Err e) h = quiet-append (a.trace xs) [] q tt

  turn-on : (n : ℕ) (xs : Rows M) → head_in p xs ≡ true → turns (suc n) xs ≡ a.trace xs ++ then_steps (a.read xs) (turn n)
  unfolding star_trace
  turn-on n xs h = ap (λ v. cond v (a.trace xs ++ then_steps (a.read xs) (turn n)) []) h

  turn-off : (n : ℕ) (xs : Rows M) → head_in p xs ≡ false → turns (suc n) xs ≡ []
  unfolding star_trace
  turn-off n xs h = ap (λ v. cond v (a.trace xs ++ then_steps (a.read xs) (turn n)) []) h

  turn-read : (n : ℕ) (xs : Rows M) (x : A × Rows M) → head_in p xs ≡ true → a.read xs ≡ Ok x → turns (suc n) xs ≡ a.steps x.0 ++ turns n x.1
  turn-read n xs x c h = turn-on n xs c ∙ (λ i. ta.ok xs x h i ++ then-of (a.read xs) x (turn n) h i)

  turn-failed : (n : ℕ) (xs : Rows M) (e : Refusal) → head_in p xs ≡ true → a.read xs ≡ Err e → turns (suc n) xs ≡ a.trace xs
  turn-failed n xs e c h = turn-on n xs c ∙ ap (λ u. a.trace xs ++ u) (then-none (a.read xs) e (turn n) h) ∙ append-nil (a.trace xs)

  ok_at : (n : ℕ) (xs : Rows M) (x : List A × Rows M) → star_at p a.read n xs ≡ Ok x → turns n xs ≡ steps_of_many a.steps x.0
  unfolding star_at star_trace
  ok_at zero xs x e = absurd (err-ok x _ e)
  ok_at (suc n) xs x e = elim (chosen (head_in p xs) (a.read xs >>= again_at n) (Ok ([], xs)) (Ok x) e) [
    | inl h ↦
        let v = bind_ok (a.read xs) (again_at n) x h.1 in
        let y = bind_ok (star_at p a.read n v.0.1) (turn_at v.0.0) x v.2 in
        turn-read n xs v.0 h.0 v.1 ∙ ap (λ u. a.steps v.0.0 ++ u) (ok_at n v.0.1 y.0 y.1) ∙ ap (λ (u : List A × Rows M). steps_of_many a.steps u.0) (ok_is (v.0.0 ∷ y.0.0, y.0.1) x y.2)
    | inr h ↦ turn-off n xs h.0 ∙ ap (λ (u : List A × Rows M). steps_of_many a.steps u.0) (ok_is ([], xs) x h.1)
  ]

  many-rows : (ts : List A) → tokens (steps_of_many a.steps ts) ≡ many a.spell ts
  many-rows [] = refl
  many-rows (t ∷ ts) = tokens-append (a.steps t) (steps_of_many a.steps ts) ∙ (λ i. ta.rows t i ++ many-rows ts i)

  many-quiet : (ts : List A) → Quiet (steps_of_many a.steps ts)
  many-quiet [] = tt
  many-quiet (t ∷ ts) = quiet-append (a.steps t) (steps_of_many a.steps ts) (ta.quiet t) (many-quiet ts)

  many-placed : (ts : List A) (z : Rows M) → Ends a.spell a.ends P ts z → ArePlaced None (steps_of_many a.steps ts) z
  many-placed [] z h = tt
  many-placed (t ∷ ts) z h = placed-append None (a.steps t) (steps_of_many a.steps ts) z (subst (λ v. ArePlaced None (a.steps t) (v ++ z)) (sym (many-rows ts)) (ta.placed t (many a.spell ts ++ z) h.0)) (many-quiet ts) (many-placed ts z h.1)

  -- the same of a number of turns
  record Halts_at (n : ℕ) (xs : Rows M) (e : Refusal) : Type 0 where
    pub rest : Rows M
    pub parts : xs ≡ tokens (turns n xs) ++ rest
    pub left_is : IsLeft e (length rest)
    pub placed : ArePlaced None (turns n xs) rest
    pub tree : List A
    pub tree_may : Each a.may tree
    pub later : Steps M
    pub goes_on : steps_of_many a.steps tree ≡ turns n xs ++ later
    pub deep : (d : ℕ) → e ≡ Deep d → has_deep (turns n xs) ≡ true

  halts-here : (n : ℕ) (xs : Rows M) (e : Refusal) → head_in p xs ≡ true → a.read xs ≡ Err e → Halts_at (suc n) xs e
  halts-here n xs e c h =
      let v = ta.halts xs e h in
      let g = turn-failed n xs e c h in
      record {
        rest = v.rest;
        parts = v.parts ∙ ap (λ u. tokens u ++ v.rest) (sym g);
        left_is = v.left_is;
        placed = subst (λ u. ArePlaced None u v.rest) (sym g) v.placed;
        tree = v.tree ∷ [];
        tree_may = (v.tree_may, tt);
        later = v.later;
        goes_on = append-nil (a.steps v.tree) ∙ v.goes_on ∙ ap (λ u. u ++ v.later) (sym g);
        deep = λ d k. ap has_deep g ∙ v.deep d k;
      }

  halts-later : (n : ℕ) (xs : Rows M) (x : A × Rows M) (e : Refusal) → head_in p xs ≡ true → a.read xs ≡ Ok x → Halts_at n x.1 e → Halts_at (suc n) xs e
  halts-later n xs x e c h v =
      let g = turn-read n xs x c h in
      let took = ra.takes xs x h in
      let toks : tokens (a.steps x.0 ++ turns n x.1) ≡ a.spell x.0 ++ tokens (turns n x.1) = tokens-append (a.steps x.0) (turns n x.1) ∙ ap (λ u. u ++ tokens (turns n x.1)) (ta.rows x.0) in
      record {
        rest = v.rest;
        parts = took.parts ∙ ap (λ u. a.spell x.0 ++ u) v.parts ∙ sym (append_assoc (a.spell x.0) (tokens (turns n x.1)) v.rest) ∙ ap (λ u. u ++ v.rest) (sym toks) ∙ ap (λ u. tokens u ++ v.rest) (sym g);
        left_is = v.left_is;
        placed = subst (λ u. ArePlaced None u v.rest) (sym g) (placed-append None (a.steps x.0) (turns n x.1) v.rest (ta.placed x.0 (tokens (turns n x.1) ++ v.rest) (subst (a.ends x.0) v.parts took.ends)) (turn-silent n x.1) v.placed);
        tree = x.0 ∷ v.tree;
        tree_may = (ra.within x.0 took.fits, v.tree_may);
        later = v.later;
        goes_on = ap (λ u. a.steps x.0 ++ u) v.goes_on ∙ sym (append_assoc (a.steps x.0) (turns n x.1) v.later) ∙ ap (λ u. u ++ v.later) (sym g);
        deep = λ d k. ap has_deep g ∙ has_deep-first (a.steps x.0) (turns n x.1) (v.deep d k);
      }

  shorter : (xs : Rows M) (v : A × Rows M) → Took a xs v → length v.1 < length xs
  shorter xs v k = omega (arith, some-rows fa (a.spell v.0) (la.starts v.0 v.1 k.ends), ap length k.parts, length-append (a.spell v.0) v.1)

  halts_at : (n : ℕ) (xs : Rows M) (e : Refusal) → length xs < n → star_at p a.read n xs ≡ Err e → Halts_at n xs e
  unfolding star_at
  halts_at zero xs e l h = absurd (omega arith)
  halts_at (suc n) xs e l h = elim (chosen (head_in p xs) (a.read xs >>= again_at n) (Ok ([], xs)) (Err e) h) [
    | inl c ↦ elim (bind_err (a.read xs) (again_at n) e c.1) [
      | inl k ↦ halts-here n xs e c.0 k
      | inr v ↦
          let k = ra.takes xs v.0 v.1 in
          elim (bind_err (star_at p a.read n v.0.1) (turn_at v.0.0) e v.2) [
            | inl q ↦ halts-later n xs v.0 e c.0 v.1 (halts_at n v.0.1 e (omega (arith, shorter xs v.0 k)) q)
            | inr q ↦ absurd (ok-err _ e q.2)
          ]
    ]
    | inr c ↦ absurd (ok-err _ e c.1)
  ]

  agrees_at : (n : ℕ) (front rest : Rows M) (ts : List A) (z more : Rows M) → length (front ++ rest) < n → Ends a.spell a.ends P ts z → many a.spell ts ++ z ≡ front ++ more → Alike front rest more
      → until (length front) (turns n (front ++ rest)) ≡ until (length front) (steps_of_many a.steps ts)
  agrees_at zero front rest ts z more l h q alike = absurd (omega arith)
  agrees_at (suc n) [] rest ts z more l h q alike = until-quiet (turns (suc n) rest) (turn-silent (suc n) rest) ∙ sym (until-quiet (steps_of_many a.steps ts) (many-quiet ts))
  agrees_at (suc n) (f ∷ fs) rest [] z more l h q alike =
      ap (λ u. until (length (f ∷ fs)) u) (turn-off n (f ∷ (fs ++ rest)) (ap (head_in p) (sym q) ∙ head-stops p P same z h))
  agrees_at (suc n) (f ∷ fs) rest (t ∷ ts) z more l h q alike =
      let starts = starts-within false fa P w (a.spell t) (la.starts t (many a.spell ts ++ z) h.0) in
      let q' : a.spell t ++ (many a.spell ts ++ z) ≡ (f ∷ fs) ++ more = sym (append_assoc (a.spell t) (many a.spell ts) z) ∙ q in
      let on : head_in p (f ∷ (fs ++ rest)) ≡ true = ap (head_in p) (sym q') ∙ head-starts p P same (a.spell t) (many a.spell ts ++ z) starts in
      ap (λ u. until (length (f ∷ fs)) u) (turn-on n (f ∷ (fs ++ rest)) on)
      ∙ sequel a false fa ga la ra ta (f ∷ fs) rest t (many a.spell ts ++ z) more h.0 q' alike (turn n) (steps_of_many a.steps ts) (λ x. turn-silent n x.1) (many-quiet ts)
      (λ s gs p zs al. agrees_at n (s ∷ gs) rest ts z more (omega (arith, l, some-rows P (a.spell t) starts, ap length p, length-append (a.spell t) (s ∷ gs), length-append (f ∷ fs) rest, length-append (s ∷ gs) rest)) h.1 zs al)

  turns-stop : (n : ℕ) (xs : Rows M) → StopsDeep (star_at p a.read n xs) (turns n xs)
  unfolding star_at star_trace
  turns-stop zero xs = tt
  turns-stop (suc n) xs = stops-if (head_in p xs) (a.read xs >>= again_at n) (Ok ([], xs)) (a.trace xs ++ then_steps (a.read xs) (turn n)) []
      (stops-then (a.read xs) (again_at n) (a.trace xs) (turn n) (ta.stops xs) (λ x. stops-mapped (λ y. x.0 ∷ y) (star_at p a.read n x.1) (turns n x.1) (turns-stop n x.1))) refl

  pub star-traced : IsTraced (star p P a)
  unfolding reader.star
  star-traced = record {
    rows = many-rows;
    quiet = many-quiet;
    placed = many-placed;
    ok = λ xs x e. ok_at (suc (length xs)) xs x e;
    halts = λ xs e h.
        let v = halts_at (suc (length xs)) xs e (omega arith) h in
        record { rest = v.rest; parts = v.parts; left_is = v.left_is; placed = v.placed; tree = v.tree; tree_may = v.tree_may; later = v.later; goes_on = v.goes_on; deep = v.deep };
    stops = λ xs. turns-stop (suc (length xs)) xs;
    agrees = λ front rest ts z more h q alike. agrees_at (suc (length (front ++ rest))) front rest ts z more (omega arith) h q alike;
  }
