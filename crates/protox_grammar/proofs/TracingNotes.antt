-- The laws of steps for a rule with a note after it, and for a rule without notes.
use Rattle.std.proofs.Common.{◌≡◌, ℕ, ◌-◌, ◌<◌, ◌≤◌, Bool, false, ◌||◌, [], ◌∷◌, ◌++◌, length, take, None, Result, Ok, Err, refl, sym, ap, subst, ◌∙◌, append_assoc, arith, inl, inr}
use Rattle.std.proofs.lemmas.List.{append-nil, length-append}
use Rattle.protox_lexeme.specs.Shapes.{Rows}
use Rattle.protox_grammar.specs.Class.{Set}
use Rattle.protox_grammar.specs.Reader.{Refusal, Unexpected, Deep}
use Rattle.protox_grammar.specs.Rule.{Rule, noting}
use Rattle.protox_grammar.specs.Steps.{Event, Token, Note, Steps, tokens, plainly, is_too_deep, until, has_deep, then_steps, rows_before, plain_trace}
use Rattle.protox_grammar.proofs.Laws.{IsSpelled, head-same}
use Rattle.protox_grammar.proofs.Reading.{IsRead, Begins}
use Rattle.protox_grammar.proofs.StepLists.{Quiet, EndsDeep, deep-behind, plainly-shallow, until-quiet, tokens-append, tokens-plainly, plainly-append, plainly-quiet, until-long, apart-of, take-front}
use Rattle.protox_grammar.proofs.Tracing.{Alike, Halts, IsTraced, then-of, then-none, goes, never-deep, not-inside, inside}
use Rattle.protox_grammar.proofs.EndsDeep.{StopsDeep, stops-shallow}
use Rattle.protox_grammar.proofs.Placing.{last_row, is_string_row, IsPlaced, ArePlaced, placed-note, placed-plainly}

-- ---- a note after a rule

module _ {M A : Type 0} (note : A → Event M) (a : Rule M A) (fa ga : Set) (la : IsSpelled a false fa ga) (ra : IsRead a) (ta : IsTraced a)
    (whole : (t : A) → a.may t → a.fits t)
    (prompt : (t : A) (y z : Rows M) → a.ends t y → Alike (a.spell t) y z → a.ends t z)
    (nonempty : (t : A) → 0 < length (a.spell t))
    (placed : (t : A) (z : Rows M) → a.ends t z → IsPlaced (last_row None (a.spell t)) (note t) z)
    (shallow : (t : A) → is_too_deep (note t) ≡ false) where
  abbrev noted : A × Rows M → Steps M
  noted x = Note (note x.0) ∷ []

  noted-trace : (xs : Rows M) (x : A × Rows M) → a.read xs ≡ Ok x → (noting note a).trace xs ≡ a.steps x.0 ++ noted x
  noted-trace xs x h = λ i. ta.ok xs x h i ++ then-of (a.read xs) x noted h i

  failed-trace : (xs : Rows M) (e : Refusal) → a.read xs ≡ Err e → (noting note a).trace xs ≡ a.trace xs
  failed-trace xs e h = ap (λ u. a.trace xs ++ u) (then-none (a.read xs) e noted h) ∙ append-nil (a.trace xs)

  -- at the end of the tree the next rows may be others, if they are alike
  noted-here : (front rest : Rows M) (t : A) (z more : Rows M) → a.ends t z → Alike front rest more → a.spell t ≡ front → z ≡ more → (noting note a).trace (front ++ rest) ≡ (noting note a).steps t
  noted-here front rest t z more h alike p zs =
      let ends : a.ends t rest = prompt t more rest (subst (a.ends t) zs h) (λ g. sym (alike (ap (λ v. is_string_row (last_row None v)) (sym p) ∙ g))) in
      elim (goes a false fa ga la ra t rest (front ++ rest) ends (ap (λ v. v ++ rest) (sym p))) [
        | inl k ↦ noted-trace (front ++ rest) (t, rest) k
        | inr k ↦ absurd (never-deep a false fa ga la ra ta whole k.0 (front ++ rest) k.1)
      ]

  noted-past : (front rest : Rows M) (t : A) (z more : Rows M) → a.ends t z → a.spell t ++ z ≡ front ++ more → Alike front rest more → length front < length (a.spell t) → (x : A × Rows M) → a.read (front ++ rest) ≡ Ok x
      → length front < length (a.spell x.0)
  noted-past front rest t z more h q alike w x k =
      let took = ra.takes (front ++ rest) x k in
      elim (apart-of (a.spell x.0) x.1 front rest (sym took.parts)) [
        | inl c ↦ absurd (omega (arith, w, not-inside a false fa ga la ra front rest t z more h q (omega (arith, w)) x k, ap length c.2, length-append (a.spell x.0) (c.0 ∷ c.1)))
        | inr c ↦ elim c [
          | inl j ↦
              let ends : a.ends x.0 more = prompt x.0 rest more (subst (a.ends x.0) j.1 took.ends) (λ g. alike (ap (λ v. is_string_row (last_row None v)) (sym j.0) ∙ g)) in
              let one = la.once t x.0 z more h ends (q ∙ ap (λ v. v ++ more) (sym j.0)) in
              absurd (omega (arith, w, ap (λ u. length (a.spell u)) one.0, ap length j.0))
          | inr j ↦ j
        ]
      ]

  noted-before : (front rest : Rows M) (t : A) (z more : Rows M) → a.ends t z → a.spell t ++ z ≡ front ++ more → Alike front rest more → length front < length (a.spell t) → (res : Result (A × Rows M) Refusal) → a.read (front ++ rest) ≡ res
      → until (length front) (a.trace (front ++ rest) ++ then_steps res noted) ≡ until (length front) (a.steps t)
  noted-before front rest t z more h q alike w (Ok x) k =
      until-long (length front) (a.trace (front ++ rest)) (noted x) (omega (arith, noted-past front rest t z more h q alike w x k, ap (λ u. length (tokens u)) (ta.ok (front ++ rest) x k), ap length (ta.rows x.0)))
      ∙ ta.agrees front rest t z more h q alike
  noted-before front rest t z more h q alike w (Err e) k = ap (λ u. until (length front) u) (append-nil (a.trace (front ++ rest))) ∙ ta.agrees front rest t z more h q alike

  noting-agrees : (front rest : Rows M) (t : A) (z more : Rows M) → a.ends t z → a.spell t ++ z ≡ front ++ more → Alike front rest more
      → until (length front) ((noting note a).trace (front ++ rest)) ≡ until (length front) (a.steps t ++ (Note (note t) ∷ []))
  noting-agrees front rest t z more h q alike = elim (apart-of (a.spell t) z front more q) [
    | inl c ↦ inside a false fa ga la ra ta front rest t z more h q alike c.0 c.1 c.2 c.3 noted (Note (note t) ∷ []) refl
    | inr c ↦ elim c [
      | inl j ↦ ap (λ u. until (length front) u) (noted-here front rest t z more h alike j.0 j.1)
      | inr j ↦ noted-before front rest t z more h q alike j (a.read (front ++ rest)) refl ∙ sym (until-long (length front) (a.steps t) (Note (note t) ∷ []) (omega (arith, j, ap length (ta.rows t))))
    ]
  ]

  noting-stops : (xs : Rows M) (res : Result (A × Rows M) Refusal) → StopsDeep res (a.trace xs) → StopsDeep res (a.trace xs ++ then_steps res noted)
  noting-stops xs (Ok x) h = deep-behind (a.trace xs) (noted x) h ∙ ap (λ b. b || false) (shallow x.0)
  noting-stops xs (Err e) h = subst EndsDeep (sym (append-nil (a.trace xs))) h

  pub noting-traced : IsTraced (noting note a)
  noting-traced = record {
    rows = λ t. tokens-append (a.steps t) (Note (note t) ∷ []) ∙ append-nil (tokens (a.steps t)) ∙ ta.rows t;
    quiet = λ t. note-quiet (note t) (a.steps t) (ta.quiet t) (some-taken t);
    placed = λ t z h. placed-note None (a.steps t) (note t) z (ta.placed t z h) (subst (λ u. IsPlaced (last_row None u) (note t) z) (sym (ta.rows t)) (placed t z h));
    ok = λ xs x h. noted-trace xs x h;
    halts = λ xs e h.
        let v = ta.halts xs e h in
        let g = failed-trace xs e h in
        record {
          rest = v.rest;
          parts = v.parts ∙ ap (λ u. tokens u ++ v.rest) (sym g);
          left_is = v.left_is;
          placed = subst (λ u. ArePlaced None u v.rest) (sym g) v.placed;
          tree = v.tree;
          tree_may = v.tree_may;
          later = v.later ++ (Note (note v.tree) ∷ []);
          goes_on = ap (λ u. u ++ (Note (note v.tree) ∷ [])) v.goes_on ∙ append_assoc (a.trace xs) v.later (Note (note v.tree) ∷ []) ∙ ap (λ u. u ++ (v.later ++ (Note (note v.tree) ∷ []))) (sym g);
          deep = λ n k. ap has_deep g ∙ v.deep n k;
        };
    agrees = noting-agrees;
    stops = λ xs. noting-stops xs (a.read xs) (ta.stops xs);
  }
    where
      note-quiet : (e : Event M) (l : Steps M) → Quiet l → 0 < length (tokens l) → Quiet (l ++ (Note e ∷ []))
      note-quiet e [] q w = absurd (omega (arith, w))
      note-quiet e (Token r ∷ l) q w = tt
      note-quiet e (Note d ∷ l) q w = absurd q

      some-taken : (t : A) → 0 < length (tokens (a.steps t))
      some-taken t = omega (arith, nonempty t, ap length (ta.rows t))

-- ---- a rule without notes

module _ {M A : Type 0} (r : Rule M A) (e : Bool) (f g : Set) (l : IsSpelled r e f g) (rd : IsRead r) (never : (n : ℕ) (xs : Rows M) → r.read xs ≡ Err (Deep n) → ⊥)
    (steps-are : (t : A) → r.steps t ≡ plainly (r.spell t)) (trace-is : (xs : Rows M) → r.trace xs ≡ plain_trace r.read xs) where
  took-front : (xs ys rest : Rows M) (n : ℕ) → xs ≡ ys ++ rest → n ≡ length rest → take (length xs - n) xs ≡ ys
  took-front xs ys rest n p q =
      ap (λ u. take (length xs - n) u) p ∙ take-front (length xs - n) ys rest (omega (arith, ap length p, length-append ys rest, q))

  plain-ok : (xs : Rows M) (x : A × Rows M) → r.read xs ≡ Ok x → r.trace xs ≡ plainly (r.spell x.0)
  plain-ok xs x h = let took = rd.takes xs x h in trace-is xs ∙ ap (λ u. plainly (rows_before xs u)) h ∙ ap plainly (took-front xs (r.spell x.0) x.1 (length x.1) took.parts refl)

  plain-err : (xs : Rows M) (n : ℕ) → r.read xs ≡ Err (Unexpected n) → (v : Begins r xs n) → r.trace xs ≡ plainly v.front
  plain-err xs n h v = trace-is xs ∙ ap (λ u. plainly (rows_before xs u)) h ∙ ap plainly (took-front xs v.front v.rest n v.parts v.left_is)

  not-deep : (n d : ℕ) → Unexpected n ≡ Deep d → ⊥
  not-deep n d k = absurd cc

  plain-halts : (xs : Rows M) (d : Refusal) → r.read xs ≡ Err d → Halts r xs d
  plain-halts xs (Unexpected n) h =
      let v = rd.viable xs (Unexpected n) h in
      let same = plain-err xs n h v in
      record {
        rest = v.rest;
        parts = v.parts ∙ ap (λ u. u ++ v.rest) (sym (tokens-plainly v.front)) ∙ ap (λ u. tokens u ++ v.rest) (sym same);
        left_is = v.left_is;
        placed = subst (λ u. ArePlaced None u v.rest) (sym same) (placed-plainly None v.front v.rest);
        tree = v.tree;
        tree_may = v.tree_may;
        later = plainly v.more;
        goes_on = steps-are v.tree ∙ ap plainly v.goes_on ∙ plainly-append v.front v.more ∙ ap (λ u. u ++ plainly v.more) (sym same);
        deep = λ d k. absurd (not-deep n d k);
      }
  plain-halts xs (Deep n) h = absurd (never n xs h)

  until-plainly : (ys z fs more : Rows M) → ys ++ z ≡ fs ++ more → length fs ≤ length ys → until (length fs) (plainly ys) ≡ plainly fs
  until-plainly ys z [] more q w = until-quiet (plainly ys) (plainly-quiet ys)
  until-plainly [] z (f ∷ fs) more q w = absurd (omega (arith, w))
  until-plainly (y ∷ ys) z (f ∷ fs) more q w =
      let h = head-same y f (ys ++ z) (fs ++ more) q in
      λ i. Token (h.0 i) ∷ until-plainly ys z fs more h.1 (omega (arith, w)) i

  outside-plain : (front rest : Rows M) (t : A) (z more : Rows M) → r.ends t z → r.spell t ++ z ≡ front ++ more → length front ≤ length (r.spell t) → (res : Result (A × Rows M) Refusal) → r.read (front ++ rest) ≡ res
      → until (length front) (r.trace (front ++ rest)) ≡ plainly front
  outside-plain front rest t z more h q w (Ok x) k =
      let took = rd.takes (front ++ rest) x k in
      ap (λ u. until (length front) u) (plain-ok (front ++ rest) x k) ∙ until-plainly (r.spell x.0) x.1 front rest (sym took.parts) (not-inside r e f g l rd front rest t z more h q w x k)
  outside-plain front rest t z more h q w (Err (Deep n)) k = absurd (never n (front ++ rest) k)
  outside-plain front rest t z more h q w (Err (Unexpected n)) k =
      let v = rd.viable (front ++ rest) (Unexpected n) k in
      ap (λ u. until (length front) u) (plain-err (front ++ rest) n k v) ∙ until-plainly v.front v.rest front rest (sym v.parts) (elim (apart-of v.front v.rest front rest (sym v.parts)) [
        | inl c ↦
            let parts : front ++ rest ≡ v.front ++ (c.0 ∷ (c.1 ++ rest)) = v.parts ∙ ap (λ u. v.front ++ u) c.3 in
            absurd (rd.tight (Unexpected n) v.front c.0 (c.1 ++ rest) (v.left_is ∙ ap length c.3) (ap r.read (sym parts) ∙ k) t z (c.1 ++ more) tt h
            (q ∙ ap (λ u. u ++ more) c.2 ∙ append_assoc v.front (c.0 ∷ c.1) more))
        | inr c ↦ elim c [
          | inl j ↦ omega (arith, ap length j.0)
          | inr j ↦ omega (arith, j)
        ]
      ])

  unnoted-agrees : (front rest : Rows M) (t : A) (z more : Rows M) → r.ends t z → r.spell t ++ z ≡ front ++ more → until (length front) (r.trace (front ++ rest)) ≡ until (length front) (r.steps t)
  unnoted-agrees front rest t z more h q = elim (apart-of (r.spell t) z front more q) [
    | inl c ↦
        let xs-is : front ++ rest ≡ r.spell t ++ ((c.0 ∷ c.1) ++ rest) = ap (λ u. u ++ rest) c.2 ∙ append_assoc (r.spell t) (c.0 ∷ c.1) rest in
        let ends : r.ends t ((c.0 ∷ c.1) ++ rest) = l.ahead t c.0 (c.1 ++ more) (c.1 ++ rest) (subst (r.ends t) c.3 h) in
        elim (goes r e f g l rd t ((c.0 ∷ c.1) ++ rest) (front ++ rest) ends xs-is) [
          | inl k ↦ ap (λ u. until (length front) u) (plain-ok (front ++ rest) (t, (c.0 ∷ c.1) ++ rest) k ∙ sym (steps-are t))
          | inr k ↦ absurd (never k.0 (front ++ rest) k.1)
        ]
    | inr c ↦
        let w : length front ≤ length (r.spell t) = elim c [
          | inl j ↦ omega (arith, ap length j.0)
          | inr j ↦ omega (arith, j)
        ] in
        outside-plain front rest t z more h q w (r.read (front ++ rest)) refl
        ∙ sym (ap (λ u. until (length front) u) (steps-are t) ∙ until-plainly (r.spell t) z front more q w)
  ]

  pub plain-traced : IsTraced r
  plain-traced = record {
    rows = λ t. ap tokens (steps-are t) ∙ tokens-plainly (r.spell t);
    quiet = λ t. subst Quiet (sym (steps-are t)) (plainly-quiet (r.spell t));
    placed = λ t z h. subst (λ u. ArePlaced None u z) (sym (steps-are t)) (placed-plainly None (r.spell t) z);
    ok = λ xs x h. plain-ok xs x h ∙ sym (steps-are x.0);
    halts = plain-halts;
    agrees = λ front rest t z more h q alike. unnoted-agrees front rest t z more h q;
    stops = λ xs. stops-shallow (r.read xs) (r.trace xs) (ap has_deep (trace-is xs) ∙ plainly-shallow (rows_before xs (r.read xs)));
  }
