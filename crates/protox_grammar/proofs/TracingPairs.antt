-- The laws of steps for one rule after another, for a rule under another name and for nothing.
use Rattle.std.proofs.Common.{◌≡◌, Bool, ◌∷◌, ◌++◌, length, None, Ok, Err, refl, sym, ap, subst, ◌∙◌, append_assoc, inl, inr}
use Rattle.std.proofs.lemmas.List.{append-nil}
use Rattle.protox_lexeme.specs.Shapes.{Rows}
use Rattle.protox_grammar.specs.Class.{Set}
use Rattle.protox_grammar.specs.Reader as reader
use Rattle.protox_grammar.specs.Reader.{Refusal, ◌>>=◌}
use Rattle.protox_grammar.specs.Rule.{Rule, seq, mapped, nothing}
use Rattle.protox_grammar.specs.Steps.{Steps, tokens, until, has_deep}
use Rattle.protox_grammar.proofs.Takes.{bind_ok, ok_is}
use Rattle.protox_grammar.proofs.Laws.{IsSpelled}
use Rattle.protox_grammar.proofs.Reading.{IsRead, bind_err, ok-err, map_err}
use Rattle.protox_grammar.proofs.StepLists.{quiet-append, tokens-append, has_deep-first}
use Rattle.protox_grammar.proofs.Tracing.{Alike, Halts, IsTraced, then-of, then-none, silent, sequel}
use Rattle.protox_grammar.proofs.EndsDeep.{StopsDeep, stops-mapped, stops-then}
use Rattle.protox_grammar.proofs.Placing.{ArePlaced, placed-append}

-- ---- one after another

module _ {M A B : Type 0} (a : Rule M A) (b : Rule M B) (ea : Bool) (fa ga : Set) (la : IsSpelled a ea fa ga) (ra : IsRead a) (ta : IsTraced a)
    (eb : Bool) (fb gb : Set) (lb : IsSpelled b eb fb gb) (rb : IsRead b) (tb : IsTraced b) where
  abbrev next : A × Rows M → Steps M
  next x = b.trace x.1

  both-rows : (t : A × B) → tokens (a.steps t.0 ++ b.steps t.1) ≡ a.spell t.0 ++ b.spell t.1
  both-rows t = tokens-append (a.steps t.0) (b.steps t.1) ∙ (λ i. ta.rows t.0 i ++ tb.rows t.1 i)

  both-placed : (t : A × B) (z : Rows M) → a.ends t.0 (b.spell t.1 ++ z) × b.ends t.1 z → ArePlaced None (a.steps t.0 ++ b.steps t.1) z
  both-placed t z h = placed-append None (a.steps t.0) (b.steps t.1) z (subst (λ v. ArePlaced None (a.steps t.0) (v ++ z)) (sym (tb.rows t.1)) (ta.placed t.0 (b.spell t.1 ++ z) h.0)) (tb.quiet t.1) (tb.placed t.1 z h.1)

  both-trace : (xs : Rows M) (x : A × Rows M) → a.read xs ≡ Ok x → (seq a b).trace xs ≡ a.steps x.0 ++ b.trace x.1
  both-trace xs x h = λ i. ta.ok xs x h i ++ then-of (a.read xs) x next h i

  first-trace : (xs : Rows M) (e : Refusal) → a.read xs ≡ Err e → (seq a b).trace xs ≡ a.trace xs
  first-trace xs e h = ap (λ u. a.trace xs ++ u) (then-none (a.read xs) e next h) ∙ append-nil (a.trace xs)

  seq-ok : (xs : Rows M) (x : (A × B) × Rows M) → reader.seq a.read b.read xs ≡ Ok x → (seq a b).trace xs ≡ a.steps x.0.0 ++ b.steps x.0.1
  seq-ok xs x h =
      let p = bind_ok (a.read xs) (λ v. b.read v.1 >>= λ y. Ok ((v.0, y.0), y.1)) x h in
      let q = bind_ok (b.read p.0.1) (λ y. Ok ((p.0.0, y.0), y.1)) x p.2 in
      let made : (A × B) × Rows M = ((p.0.0, q.0.0), q.0.1) in
      both-trace xs p.0 p.1 ∙ ap (λ u. a.steps p.0.0 ++ u) (tb.ok p.0.1 q.0 q.1) ∙ ap (λ (u : (A × B) × Rows M). a.steps u.0.0 ++ b.steps u.0.1) (ok_is made x q.2)

  halts-first : (xs : Rows M) (e : Refusal) → a.read xs ≡ Err e → Halts (seq a b) xs e
  halts-first xs e h =
      let v = ta.halts xs e h in
      let same = first-trace xs e h in
      record {
        rest = v.rest;
        parts = v.parts ∙ ap (λ u. tokens u ++ v.rest) (sym same);
        left_is = v.left_is;
        placed = subst (λ u. ArePlaced None u v.rest) (sym same) v.placed;
        tree = (v.tree, rb.some);
        tree_may = (v.tree_may, rb.some_may);
        later = v.later ++ b.steps rb.some;
        goes_on = ap (λ u. u ++ b.steps rb.some) v.goes_on ∙ append_assoc (a.trace xs) v.later (b.steps rb.some) ∙ ap (λ u. u ++ (v.later ++ b.steps rb.some)) (sym same);
        deep = λ n k. ap has_deep same ∙ v.deep n k;
      }

  halts-second : (xs : Rows M) (x : A × Rows M) (e : Refusal) → a.read xs ≡ Ok x → Halts b x.1 e → Halts (seq a b) xs e
  halts-second xs x e h v =
      let same = both-trace xs x h in
      let took = ra.takes xs x h in
      let toks : tokens (a.steps x.0 ++ b.trace x.1) ≡ a.spell x.0 ++ tokens (b.trace x.1) = tokens-append (a.steps x.0) (b.trace x.1) ∙ ap (λ u. u ++ tokens (b.trace x.1)) (ta.rows x.0) in
      record {
        rest = v.rest;
        parts = took.parts ∙ ap (λ u. a.spell x.0 ++ u) v.parts ∙ sym (append_assoc (a.spell x.0) (tokens (b.trace x.1)) v.rest) ∙ ap (λ u. u ++ v.rest) (sym toks) ∙ ap (λ u. tokens u ++ v.rest) (sym same);
        left_is = v.left_is;
        placed = subst (λ u. ArePlaced None u v.rest) (sym same) (placed-append None (a.steps x.0) (b.trace x.1) v.rest (ta.placed x.0 (tokens (b.trace x.1) ++ v.rest) (subst (a.ends x.0) v.parts took.ends)) (silent b eb fb gb lb rb tb x.1) v.placed);
        tree = (x.0, v.tree);
        tree_may = (ra.within x.0 took.fits, v.tree_may);
        later = v.later;
        goes_on = ap (λ u. a.steps x.0 ++ u) v.goes_on ∙ sym (append_assoc (a.steps x.0) (b.trace x.1) v.later) ∙ ap (λ u. u ++ v.later) (sym same);
        deep = λ n k. ap has_deep same ∙ has_deep-first (a.steps x.0) (b.trace x.1) (v.deep n k);
      }

  both-agrees : (front rest : Rows M) (t : A × B) (z more : Rows M) → a.ends t.0 (b.spell t.1 ++ z) × b.ends t.1 z → (a.spell t.0 ++ b.spell t.1) ++ z ≡ front ++ more → Alike front rest more
      → until (length front) ((seq a b).trace (front ++ rest)) ≡ until (length front) (a.steps t.0 ++ b.steps t.1)
  both-agrees front rest t z more h q alike =
      sequel a ea fa ga la ra ta front rest t.0 (b.spell t.1 ++ z) more h.0 (sym (append_assoc (a.spell t.0) (b.spell t.1) z) ∙ q) alike next (b.steps t.1) (λ x. silent b eb fb gb lb rb tb x.1) (tb.quiet t.1)
      (λ s gs p zs al. tb.agrees (s ∷ gs) rest t.1 z more h.1 zs al)

  both-stop : (xs : Rows M) → StopsDeep (reader.seq a.read b.read xs) ((seq a b).trace xs)
  both-stop xs = stops-then (a.read xs) (λ x. b.read x.1 >>= λ y. Ok ((x.0, y.0), y.1)) (a.trace xs) next (ta.stops xs) (λ x. stops-mapped (λ y. (x.0, y)) (b.read x.1) (b.trace x.1) (tb.stops x.1))

  pub seq-traced : IsTraced (seq a b)
  seq-traced = record {
    rows = both-rows;
    quiet = λ t. quiet-append (a.steps t.0) (b.steps t.1) (ta.quiet t.0) (tb.quiet t.1);
    placed = both-placed;
    ok = seq-ok;
    halts = λ xs e h. elim (bind_err (a.read xs) (λ v. b.read v.1 >>= λ y. Ok ((v.0, y.0), y.1)) e h) [
      | inl k ↦ halts-first xs e k
      | inr p ↦ elim (bind_err (b.read p.0.1) (λ y. Ok ((p.0.0, y.0), y.1)) e p.2) [
        | inl k ↦ halts-second xs p.0 e p.1 (tb.halts p.0.1 e k)
        | inr q ↦ absurd (ok-err _ e q.2)
      ]
    ];
    agrees = both-agrees;
    stops = both-stop;
  }

-- ---- under another name

module _ {M A B : Type 0} (to : B → A) (from : A → B) (b : Rule M B) (there : (t : B) → from (to t) ≡ t) (tb : IsTraced b) where
  pub mapped-traced : IsTraced (mapped to from b)
  mapped-traced = record {
    rows = λ t. tb.rows (from t);
    quiet = λ t. tb.quiet (from t);
    placed = λ t z h. tb.placed (from t) z h;
    ok = λ xs x h. let p = bind_ok (b.read xs) (λ y. Ok (to y.0, y.1)) x h in tb.ok xs p.0 p.1 ∙ ap b.steps (sym (there p.0.0)) ∙ ap (λ (u : A × Rows M). b.steps (from u.0)) (ok_is (to p.0.0, p.0.1) x p.2);
    halts = λ xs e h.
        let v = tb.halts xs e (map_err to (b.read xs) e h) in
        record {
          rest = v.rest;
          parts = v.parts;
          left_is = v.left_is;
          placed = v.placed;
          tree = to v.tree;
          tree_may = subst b.may (sym (there v.tree)) v.tree_may;
          later = v.later;
          goes_on = ap b.steps (there v.tree) ∙ v.goes_on;
          deep = v.deep;
        };
    agrees = λ front rest t z more h q alike. tb.agrees front rest (from t) z more h q alike;
    stops = λ xs. stops-mapped to (b.read xs) (b.trace xs) (tb.stops xs);
  }

-- ---- nothing

pub nothing-traced : {M : Type 0} → IsTraced {M = M} nothing
nothing-traced {M = M} = record {
  rows = λ t. refl;
  quiet = λ t. tt;
  placed = λ t z h. tt;
  ok = λ xs x h. refl;
  halts = λ xs e h. absurd (ok-err _ e h);
  agrees = λ front rest t z more h q alike. refl;
  stops = λ xs. refl;
}
