-- The laws of steps for rules between which the next row decides.
use Rattle.std.proofs.Common.{◌≡◌, ℕ, Bool, true, false, cond, [], ◌∷◌, ◌++◌, length, None, Ok, Err, refl, sym, ap, subst, ◌∙◌, inl, inr, ◌⊎◌}
use Rattle.protox_lexeme.specs.Shapes.{Shape, Rows}
use Rattle.protox_grammar.specs.Class.{Set, class, within}
use Rattle.protox_grammar.specs.Reader as reader
use Rattle.protox_grammar.specs.Reader.{Refusal, Unexpected, Deep, head_in}
use Rattle.protox_grammar.specs.Rule.{Rule, Stops, either, unstarted}
use Rattle.protox_grammar.specs.Steps.{Token, Note, Steps, tokens, until, has_deep}
use Rattle.protox_grammar.proofs.Takes.{bind_ok, ok_is}
use Rattle.protox_grammar.proofs.Sets.{starts-within}
use Rattle.protox_grammar.proofs.Laws.{IsSpelled}
use Rattle.protox_grammar.proofs.Reading.{IsRead, chosen, map_err, head-starts, head-stops}
use Rattle.protox_grammar.proofs.StepLists.{Quiet, until-quiet}
use Rattle.protox_grammar.proofs.Tracing.{Alike, Halts, IsTraced, silent}
use Rattle.protox_grammar.proofs.EndsDeep.{StopsDeep, stops-if, stops-mapped}
use Rattle.protox_grammar.proofs.Placing.{ArePlaced}

never-both : (n d : ℕ) → Unexpected n ≡ Deep d → ⊥
never-both n d k = absurd cc

-- ---- the first or the second

module _ {M A B : Type 0} (p : Shape → Bool) (P : Set) (a : Rule M A) (b : Rule M B) (same : (s : Shape) → p s ≡ P (class s)) (fa ga : Set) (la : IsSpelled a false fa ga) (w : within fa P ≡ true) (ra : IsRead a) (ta : IsTraced a)
    (eb : Bool) (fb gb : Set) (lb : IsSpelled b eb fb gb) (rb : IsRead b) (tb : IsTraced b) (some : B) (some_may : b.may some) (some_stops : Stops P (b.spell some)) where
  abbrev rule : Rule M (A ⊎ B)
  rule = either p P a b

  on-first : (xs : Rows M) → head_in p xs ≡ true → rule.trace xs ≡ a.trace xs
  on-first xs h = ap (λ v. cond v (a.trace xs) (b.trace xs)) h

  on-second : (xs : Rows M) → head_in p xs ≡ false → rule.trace xs ≡ b.trace xs
  on-second xs h = ap (λ v. cond v (a.trace xs) (b.trace xs)) h

  either-ok : (xs : Rows M) (x : (A ⊎ B) × Rows M) → reader.either p (reader.mapped inl a.read) (reader.mapped inr b.read) xs ≡ Ok x → rule.trace xs ≡ rule.steps x.0
  either-ok xs x h = elim (chosen (head_in p xs) (reader.mapped inl a.read xs) (reader.mapped inr b.read xs) (Ok x) h) [
    | inl c ↦ let k = bind_ok (a.read xs) (λ y. Ok (inl y.0, y.1)) x c.1 in on-first xs c.0 ∙ ta.ok xs k.0 k.1 ∙ ap (λ (u : (A ⊎ B) × Rows M). rule.steps u.0) (ok_is (inl k.0.0, k.0.1) x k.2)
    | inr c ↦ let k = bind_ok (b.read xs) (λ y. Ok (inr y.0, y.1)) x c.1 in on-second xs c.0 ∙ tb.ok xs k.0 k.1 ∙ ap (λ (u : (A ⊎ B) × Rows M). rule.steps u.0) (ok_is (inr k.0.0, k.0.1) x k.2)
  ]

  halts-left : (xs : Rows M) (e : Refusal) → head_in p xs ≡ true → Halts a xs e → Halts rule xs e
  halts-left xs e c v =
      let h = on-first xs c in
      record {
        rest = v.rest;
        parts = v.parts ∙ ap (λ u. tokens u ++ v.rest) (sym h);
        left_is = v.left_is;
        placed = subst (λ u. ArePlaced None u v.rest) (sym h) v.placed;
        tree = inl v.tree;
        tree_may = v.tree_may;
        later = v.later;
        goes_on = v.goes_on ∙ ap (λ u. u ++ v.later) (sym h);
        deep = λ n k. ap has_deep h ∙ v.deep n k;
      }

  -- a tree that begins as the rows do, or another one if no row was taken
  begun : (xs : Rows M) (rest : Rows M) (l : Steps M) → Quiet l → xs ≡ tokens l ++ rest → head_in p xs ≡ false → (tree : B) → b.may tree → (later : Steps M) → b.steps tree ≡ l ++ later
      → (u : B) × (b.may u × Stops P (b.spell u)) × (on : Steps M) × (b.steps u ≡ l ++ on)
  begun xs rest [] quiet parts c tree m later on = (some, (some_may, some_stops), b.steps some, refl)
  begun xs rest (Token r ∷ l) quiet parts c tree m later on =
      let spelled : b.spell tree ≡ r ∷ tokens (l ++ later) = sym (tb.rows tree) ∙ ap tokens on in
      let no : P (class r.shape) ≡ false = sym (same r.shape) ∙ ap (head_in p) (sym parts) ∙ c in
      (tree, (m, subst (Stops P) (sym spelled) no), later, on)
  begun xs rest (Note d ∷ l) quiet parts c tree m later on = absurd quiet

  halts-right : (xs : Rows M) (e : Refusal) → head_in p xs ≡ false → Halts b xs e → Halts rule xs e
  halts-right xs e c v =
      let h = on-second xs c in
      let u = begun xs v.rest (b.trace xs) (silent b eb fb gb lb rb tb xs) v.parts c v.tree v.tree_may v.later v.goes_on in
      record {
        rest = v.rest;
        parts = v.parts ∙ ap (λ u. tokens u ++ v.rest) (sym h);
        left_is = v.left_is;
        placed = subst (λ u. ArePlaced None u v.rest) (sym h) v.placed;
        tree = inr u.0;
        tree_may = u.1;
        later = u.2;
        goes_on = u.3 ∙ ap (λ y. y ++ u.2) (sym h);
        deep = λ n k. ap has_deep h ∙ v.deep n k;
      }

  either-halts : (xs : Rows M) (e : Refusal) → reader.either p (reader.mapped inl a.read) (reader.mapped inr b.read) xs ≡ Err e → Halts rule xs e
  either-halts xs e h = elim (chosen (head_in p xs) (reader.mapped inl a.read xs) (reader.mapped inr b.read xs) (Err e) h) [
    | inl c ↦ halts-left xs e c.0 (ta.halts xs e (map_err inl (a.read xs) e c.1))
    | inr c ↦ halts-right xs e c.0 (tb.halts xs e (map_err inr (b.read xs) e c.1))
  ]

  either-silent : (xs : Rows M) → Quiet (rule.trace xs)
  either-silent xs = under (head_in p xs)
    where
      under : (v : Bool) → Quiet (cond v (a.trace xs) (b.trace xs))
      under true = silent a false fa ga la ra ta xs
      under false = silent b eb fb gb lb rb tb xs

  either-quiet : (t : A ⊎ B) → Quiet (rule.steps t)
  either-quiet (inl t) = ta.quiet t
  either-quiet (inr t) = tb.quiet t

  either-agrees : (front rest : Rows M) (t : A ⊎ B) (z more : Rows M) → rule.ends t z → rule.spell t ++ z ≡ front ++ more → Alike front rest more
      → until (length front) (rule.trace (front ++ rest)) ≡ until (length front) (rule.steps t)
  either-agrees [] rest t z more h q alike = until-quiet (rule.trace rest) (either-silent rest) ∙ sym (until-quiet (rule.steps t) (either-quiet t))
  either-agrees (f ∷ fs) rest (inl t) z more h q alike =
      let c : head_in p (f ∷ (fs ++ rest)) ≡ true = ap (head_in p) (sym q) ∙ head-starts p P same (a.spell t) z (starts-within false fa P w (a.spell t) (la.starts t z h)) in
      ap (λ u. until (length (f ∷ fs)) u) (on-first (f ∷ (fs ++ rest)) c) ∙ ta.agrees (f ∷ fs) rest t z more h q alike
  either-agrees (f ∷ fs) rest (inr t) z more h q alike =
      let c : head_in p (f ∷ (fs ++ rest)) ≡ false = ap (head_in p) (sym q) ∙ head-stops p P same (b.spell t ++ z) h.1 in
      ap (λ u. until (length (f ∷ fs)) u) (on-second (f ∷ (fs ++ rest)) c) ∙ tb.agrees (f ∷ fs) rest t z more h.0 q alike

  either-rows : (t : A ⊎ B) → tokens (rule.steps t) ≡ rule.spell t
  either-rows (inl t) = ta.rows t
  either-rows (inr t) = tb.rows t

  either-placed : (t : A ⊎ B) (z : Rows M) → rule.ends t z → ArePlaced None (rule.steps t) z
  either-placed (inl t) z h = ta.placed t z h
  either-placed (inr t) z h = tb.placed t z h.0

  either-stops : (xs : Rows M) → StopsDeep (rule.read xs) (rule.trace xs)
  either-stops xs = stops-if (head_in p xs) (reader.mapped inl a.read xs) (reader.mapped inr b.read xs) (a.trace xs) (b.trace xs) (stops-mapped inl (a.read xs) (a.trace xs) (ta.stops xs)) (stops-mapped inr (b.read xs) (b.trace xs) (tb.stops xs))

  pub either-traced : IsTraced (either p P a b)
  either-traced = record { rows = either-rows; quiet = either-quiet; placed = either-placed; ok = either-ok; halts = either-halts; agrees = either-agrees; stops = either-stops }

-- ---- what doesn't begin with a token of a set

module _ {M B : Type 0} (P : Set) (b : Rule M B) (eb : Bool) (fb gb : Set) (lb : IsSpelled b eb fb gb) (rb : IsRead b) (tb : IsTraced b) (some : B) (some_may : b.may some) (some_stops : Stops P (b.spell some)) where
  abbrev barred : Rule M B
  barred = unstarted P b
