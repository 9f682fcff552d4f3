-- How bodies are spelled at any depth, and read up to some depth.
use Rattle.std.proofs.Common.{◌≡◌, ℕ, zero, suc, ◌+◌, ◌≤◌, Bool, true, false, ◌||◌, cond, [], ◌∷◌, ◌++◌, length, Some, None, Ok, Err, refl, sym, ap, subst, ◌∙◌, arith, inl, inr}
use Rattle.protox_lexeme.specs.Shapes.{Mark, Row, Rows}
use Rattle.protox_grammar.specs.Class.{none, just_mark}
use Rattle.protox_grammar.specs.Reader.{Reader, Refusal, Unexpected, Deep, is_token, is_string}
use Rattle.protox_grammar.specs.Steps.{Event, ADeepBody, ADeeperBody, Token, Note, Steps, tokens, plainly, until, has_deep, is_too_deep}
use Rattle.protox_grammar.proofs.StepLists.{Quiet, until-quiet, until-note, tokens-plainly}
use Rattle.protox_grammar.proofs.EndsDeep.{StopsDeep, stops-if}
use Rattle.protox_grammar.proofs.Tracing.{IsLeft, Halts, IsTraced}
use Rattle.protox_grammar.proofs.Reading.{failed, chosen, err-ok, true-false}
use Rattle.protox_grammar.specs.Reader as reader
use Rattle.protox_grammar.proofs.Words.{mark-back, mark-exact}
use Rattle.protox_grammar.specs.Rule.{Rule, Starts, row}
use Rattle.protox_ast.specs.Tree as t
use Rattle.protox_ast.specs.Spelling as s
use Rattle.protox_ast.specs.KeywordWalk as k
use Rattle.protox_ast.specs.DepthWalk as d
use Rattle.protox_grammar.specs.Bodies as rule
use Rattle.protox_grammar.proofs.Laws.{IsSpelled, head-same}
use Rattle.protox_grammar.proofs.ReadingTokens.{too_deep-read}
use Rattle.protox_grammar.proofs.Forms.{Lawful, said-laws, stops-none}
use Rattle.protox_grammar.proofs.Sealed.{sealed-spelled, sealed-read, sealed-traced}
use Rattle.protox_grammar.proofs.Messages.{mbody-laws}
use Rattle.protox_grammar.proofs.Levels.{mbody-into, mbody-keeps, mbody-deep}
use Rattle.protox_grammar.proofs.Placing.{event_end, is_run_event, IsPlaced, ArePlaced, placed-plainly}

-- ---- how bodies are spelled, level by level

-- At most this many levels, the last of them empty.
unfoldable At : {M : Type 0} → ℕ → t.Mbody M → Type 0
At zero (t.mbody_of o es c) = es ≡ t.no_elements
At (suc n) x = rule.MbodyHas (At n) x

at-level : {M : Type 0} (n : ℕ) (x : t.Mbody M) → k.KeepsMbody x → suc (d.mbody_depth x) ≤ n → At n x
unfolding At
at-level zero x h w = absurd (omega (arith, w))
at-level (suc n) x h w = mbody-into (At n) n (at-level n) x h (omega (arith, w))

module _ {M : Type 0} (m : M) where
  abbrev some_body : t.Mbody M
  some_body = t.mbody_of m t.no_elements m

  abbrev level : ℕ → Rule M (t.Mbody M)
  level n = rule.sealed (At n) (λ x. ⊥) rule.deep_read (rule.deep_steps ADeeperBody 0) (rule.deep_trace ADeeperBody)

  empty-once : (o o' c c' : M) (es es' : t.Elements M) (y z : Rows M) → es ≡ t.no_elements → es' ≡ t.no_elements
      → s.mbody (t.mbody_of o es c) ++ y ≡ s.mbody (t.mbody_of o' es' c') ++ z → (t.mbody_of o es c ≡ t.mbody_of o' es' c') × (y ≡ z)
  empty-once o o' c c' es es' y z p q e =
      let e' = ap (λ v. s.mbody (t.mbody_of o v c) ++ y) (sym p) ∙ e ∙ ap (λ v. s.mbody (t.mbody_of o' v c') ++ z) q in
      let h = head-same (row (Mark s.open_brace) o) (row (Mark s.open_brace) o') (row (Mark s.close_brace) c ∷ y) (row (Mark s.close_brace) c' ∷ z) e' in
      let j = head-same (row (Mark s.close_brace) c) (row (Mark s.close_brace) c') y z h.1 in
      let same : es ≡ es' = p ∙ sym q in
      (λ i. t.mbody_of ((h.0 i).at) (same i) ((j.0 i).at), j.1)

  body-begins : (x : t.Mbody M) → (o : M) × (more : Rows M) × (s.mbody x ≡ row (Mark s.open_brace) o ∷ more)
  body-begins (t.mbody_of o es c) = (o, s.elements es ++ (row (Mark s.close_brace) c ∷ []), refl)

  empty-starts : (x : t.Mbody M) (z : Rows M) → Starts false (just_mark s.open_brace) (s.mbody x)
  empty-starts (t.mbody_of o es c) z = refl

  zero-once : (x u : t.Mbody M) (y z : Rows M) → At 0 x → At 0 u → s.mbody x ++ y ≡ s.mbody u ++ z → (x ≡ u) × (y ≡ z)
  unfolding At
  zero-once (t.mbody_of o es c) (t.mbody_of o' es' c') y z p q e = empty-once o o' c c' es es' y z p q e

  -- ---- the steps of a body that is too deep

  -- they begin with the brace and the note
  abbrev BeginsDeep : (M → Event M) → Steps M → t.Mbody M → Type 0
  BeginsDeep note l x = (k : Steps M) × (l ≡ Token (row (Mark s.open_brace) (rule.opening x)) ∷ (Note (note (rule.opening x)) ∷ k))

  behind-rows : (e : Event M) (l : Steps M) → tokens (rule.behind_first e l) ≡ tokens l
  behind-rows e [] = refl
  behind-rows e (Token r ∷ l) = refl
  behind-rows e (Note d ∷ l) = refl

  not-both : (n d : ℕ) → Unexpected n ≡ Deep d → ⊥
  not-both n d k = absurd cc

  deep-of : (a b : Refusal) → failed (t.Mbody M × Rows M) a ≡ failed (t.Mbody M × Rows M) b → a ≡ b
  deep-of a b h = cc

  module _ (note : M → Event M) (is-deep : (o : M) → is_too_deep (note o) ≡ true) (is-at : (o : M) → o ≡ event_end (note o)) (no-run : (o : M) → false ≡ is_run_event (note o)) (P : t.Mbody M → Type 0) (steps : t.Mbody M → Steps M) (begin : (x : t.Mbody M) → BeginsDeep note (steps x) x) (rows : (x : t.Mbody M) → tokens (steps x) ≡ s.mbody x)
      (placed : (x : t.Mbody M) (z : Rows M) → P x → ArePlaced None (steps x) z) (some_may : (o : M) → P (t.mbody_of o t.no_elements m)) where
    abbrev deep_rule : Rule M (t.Mbody M)
    deep_rule = rule.sealed P (λ x. ⊥) rule.deep_read steps (rule.deep_trace note)

    never : (xs : Rows M) (x : t.Mbody M × Rows M) → rule.deep_read xs ≡ Ok x → ⊥
    unfolding rule.deep_read reader.too_deep
    never [] x e = err-ok x _ e
    never (r ∷ rs) x e = elim (chosen (is_token (Mark s.open_brace) r.shape) (failed (t.Mbody M × Rows M) (Deep (length (r ∷ rs)))) (failed (t.Mbody M × Rows M) (Unexpected (length (r ∷ rs)))) (Ok x) e) [
      | inl h ↦ err-ok x _ h.1
      | inr h ↦ err-ok x _ h.1
    ]

    trace-on : (r : Row M) (rs : Rows M) → is_token (Mark s.open_brace) r.shape ≡ true → rule.deep_trace note (r ∷ rs) ≡ Token r ∷ (Note (note r.at) ∷ [])
    unfolding rule.deep_trace
    trace-on r rs h = ap (λ v. cond v (Token r ∷ (Note (note r.at) ∷ [])) []) h

    trace-off : (r : Row M) (rs : Rows M) → is_token (Mark s.open_brace) r.shape ≡ false → rule.deep_trace note (r ∷ rs) ≡ []
    unfolding rule.deep_trace
    trace-off r rs h = ap (λ v. cond v (Token r ∷ (Note (note r.at) ∷ [])) []) h

    opened-is : (r : Row M) → is_token (Mark s.open_brace) r.shape ≡ true → r ≡ row (Mark s.open_brace) r.at
    opened-is r h = ap (λ v. row v r.at) (mark-exact s.open_brace r.shape h)

    not-run : (o : M) → is_run_event (note o) ≡ true → ⊥
    not-run o h = true-false (is_run_event (note o)) h (sym (no-run o))

    placed-here : (r : Row M) (rs : Rows M) → is_string r.shape ≡ false → ArePlaced None (Token r ∷ (Note (note r.at) ∷ [])) rs
    placed-here r rs h = ((is-at r.at, h ∙ no-run r.at, λ q. absurd (not-run r.at q), λ q. absurd (true-false (is_too_deep (note r.at)) (is-deep r.at) q)), tt)

    deep-halts : (xs : Rows M) (e : Refusal) → rule.deep_read xs ≡ Err e → Halts deep_rule xs e
    unfolding rule.deep_read reader.too_deep rule.deep_trace
    deep-halts [] e h = record { rest = []; parts = refl; left_is = subst (λ u. IsLeft u 0) (deep-of _ _ h) refl; placed = tt; tree = t.mbody_of m t.no_elements m; tree_may = some_may m; later = steps (t.mbody_of m t.no_elements m); goes_on = refl; deep = λ n k. absurd (not-both 0 n (deep-of _ _ h ∙ k)) }
    deep-halts (r ∷ rs) e h = elim (chosen (is_token (Mark s.open_brace) r.shape) (failed (t.Mbody M × Rows M) (Deep (length (r ∷ rs)))) (failed (t.Mbody M × Rows M) (Unexpected (length (r ∷ rs)))) (Err e) h) [
      | inl c ↦
          let g = trace-on r rs c.0 in
          let o = opened-is r c.0 in
          let b = begin (t.mbody_of r.at t.no_elements m) in
          record {
            rest = rs;
            parts = ap (λ u. tokens u ++ rs) (sym g);
            left_is = subst (λ u. IsLeft u (length rs)) (deep-of _ _ c.1) refl;
            placed = subst (λ u. ArePlaced None u rs) (sym g) (placed-here r rs (ap (λ (u : Row M). is_string u.shape) o));
            tree = t.mbody_of r.at t.no_elements m;
            tree_may = some_may r.at;
            later = b.0;
            goes_on = b.1 ∙ ap (λ (u : Row M). Token u ∷ (Note (note r.at) ∷ b.0)) (sym o) ∙ ap (λ u. u ++ b.0) (sym g);
            deep = λ n k. ap has_deep g ∙ ap (λ v. v || false) (is-deep r.at);
          }
      | inr c ↦
          let g = trace-off r rs c.0 in
          record {
            rest = r ∷ rs;
            parts = ap (λ u. tokens u ++ (r ∷ rs)) (sym g);
            left_is = subst (λ u. IsLeft u (length (r ∷ rs))) (deep-of _ _ c.1) refl;
            placed = subst (λ u. ArePlaced None u (r ∷ rs)) (sym g) tt;
            tree = t.mbody_of m t.no_elements m;
            tree_may = some_may m;
            later = steps (t.mbody_of m t.no_elements m);
            goes_on = ap (λ u. u ++ steps (t.mbody_of m t.no_elements m)) (sym g);
            deep = λ n k. absurd (not-both _ n (deep-of _ _ c.1 ∙ k));
          }
    ]

    begins-quiet : (l : Steps M) (x : t.Mbody M) → BeginsDeep note l x → Quiet l
    begins-quiet l x b = subst Quiet (sym b.1) tt

    trace-quiet : (xs : Rows M) → Quiet (rule.deep_trace note xs)
    unfolding rule.deep_trace
    trace-quiet [] = tt
    trace-quiet (r ∷ rs) = under (is_token (Mark s.open_brace) r.shape)
      where
        under : (v : Bool) → Quiet (cond v (Token r ∷ (Note (note r.at) ∷ [])) [])
        under true = tt
        under false = tt

    body-opens : (x : t.Mbody M) → (more : Rows M) × (s.mbody x ≡ row (Mark s.open_brace) (rule.opening x) ∷ more)
    body-opens (t.mbody_of o es c) = (s.elements es ++ (row (Mark s.close_brace) c ∷ []), refl)

    until-deep : (n : ℕ) (r : Row M) (o : M) (k : Steps M) → until (suc n) (Token r ∷ (Note (note o) ∷ k)) ≡ Token r ∷ (Note (note o) ∷ [])
    until-deep n r o k = ap (λ u. Token r ∷ u) (until-note n (note o) k ∙ ap (λ v. Note (note o) ∷ cond v [] (until n k)) (is-deep o))

    deep-agrees : (front rest : Rows M) (x : t.Mbody M) (z more : Rows M) → s.mbody x ++ z ≡ front ++ more → until (length front) (rule.deep_trace note (front ++ rest)) ≡ until (length front) (steps x)
    deep-agrees [] rest x z more q = until-quiet (rule.deep_trace note rest) (trace-quiet rest) ∙ sym (until-quiet (steps x) (begins-quiet (steps x) x (begin x)))
    deep-agrees (f ∷ fs) rest x z more q =
        let b = body-opens x in
        let same : row (Mark s.open_brace) (rule.opening x) ≡ f = (head-same (row (Mark s.open_brace) (rule.opening x)) f (b.0 ++ z) (fs ++ more) (sym (ap (λ v. v ++ z) b.1) ∙ q)).0 in
        let on : is_token (Mark s.open_brace) f.shape ≡ true = subst (λ (v : Row M). is_token (Mark s.open_brace) v.shape ≡ true) same (mark-back s.open_brace) in
        ap (λ u. until (length (f ∷ fs)) u) (trace-on f (fs ++ rest) on) ∙ until-deep (length fs) f f.at []
        ∙ ap (λ (u : Row M). Token u ∷ (Note (note u.at) ∷ [])) (sym same)
        ∙ sym (until-deep (length fs) (row (Mark s.open_brace) (rule.opening x)) (rule.opening x) (begin x).0) ∙ ap (λ u. until (length (f ∷ fs)) u) (sym (begin x).1)

    deep-stops : (xs : Rows M) → StopsDeep (rule.deep_read xs) (rule.deep_trace note xs)
    unfolding rule.deep_read reader.too_deep rule.deep_trace
    deep-stops [] = tt
    deep-stops (r ∷ rs) = stops-if (is_token (Mark s.open_brace) r.shape) _ _ (Token r ∷ (Note (note r.at) ∷ [])) [] (λ q. refl, tt) tt

    deep-traced : IsTraced deep_rule
    deep-traced = record {
      rows = rows;
      quiet = λ x. begins-quiet (steps x) x (begin x);
      placed = λ x z h. placed x z h;
      ok = λ xs x h. absurd (never xs x h);
      halts = deep-halts;
      stops = deep-stops;
      agrees = λ front rest x z more h q alike. deep-agrees front rest x z more q;
    }

  module _ (note : M → Event M) (is-deep : (o : M) → is_too_deep (note o) ≡ true) (is-at : (o : M) → o ≡ event_end (note o)) (no-run : (o : M) → false ≡ is_run_event (note o)) where
    placed-brace : (r : Row M) (o : M) (z : Rows M) → r ≡ row (Mark s.open_brace) o → IsPlaced (Some r) (note o) z
    placed-brace r o z e = (ap (λ (u : Row M). u.at) e ∙ is-at o, ap (λ (u : Row M). is_string u.shape) e ∙ no-run o, λ q. absurd (true-false (is_run_event (note o)) q (sym (no-run o))), λ q. absurd (true-false (is_too_deep (note o)) (is-deep o) q))

    flat-begins : (x : t.Mbody M) → BeginsDeep note (rule.deep_steps note 0 x) x
    unfolding rule.deep_steps
    flat-begins (t.mbody_of o es c) = (plainly (s.elements es ++ (row (Mark s.close_brace) c ∷ [])), refl)

    flat-rows : (x : t.Mbody M) → tokens (rule.deep_steps note 0 x) ≡ s.mbody x
    unfolding rule.deep_steps
    flat-rows x = behind-rows (note (rule.opening x)) (plainly (s.mbody x)) ∙ tokens-plainly (s.mbody x)

    flat-placed : (x : t.Mbody M) (z : Rows M) → ArePlaced None (rule.deep_steps note 0 x) z
    unfolding rule.deep_steps
    flat-placed (t.mbody_of o es c) z = (placed-brace (row (Mark s.open_brace) o) o _ refl, placed-plainly (Some (row (Mark s.open_brace) o)) (s.elements es ++ (row (Mark s.close_brace) c ∷ [])) z)

  level-laws : (n : ℕ) → Lawful (level n) false (just_mark s.open_brace) none
  unfolding At rule.deep_read rule.mbody
  level-laws zero = record {
    spelled = record { starts = λ x z h. empty-starts x z; follow = λ x z h w. h; ahead = λ x v y z h. h; once = zero-once };
    read = too_deep-read (Mark s.open_brace) (mark-back s.open_brace) (level 0) some_body refl body-begins;
    traced = deep-traced ADeeperBody (λ o. refl) (λ o. refl) (λ o. refl) (At 0) (rule.deep_steps ADeeperBody 0) (flat-begins ADeeperBody (λ o. refl) (λ o. refl) (λ o. refl)) (flat-rows ADeeperBody (λ o. refl) (λ o. refl) (λ o. refl)) (λ x z h. flat-placed ADeeperBody (λ o. refl) (λ o. refl) (λ o. refl) x z) (λ o. refl);
  }
  level-laws (suc n) =
      let l = sealed-spelled (mbody-laws m (At n) (λ x. ⊥) rule.deep_read (rule.deep_steps ADeeperBody 0) (rule.deep_trace ADeeperBody) (level-laws n)).spelled in
      record {
        spelled = record { starts = l.starts; follow = l.follow; ahead = l.ahead; once = l.once };
        read = too_deep-read (Mark s.open_brace) (mark-back s.open_brace) (level (suc n)) some_body tt body-begins;
        traced = deep-traced ADeeperBody (λ o. refl) (λ o. refl) (λ o. refl) (At (suc n)) (rule.deep_steps ADeeperBody 0) (flat-begins ADeeperBody (λ o. refl) (λ o. refl) (λ o. refl)) (flat-rows ADeeperBody (λ o. refl) (λ o. refl) (λ o. refl)) (λ x z h. flat-placed ADeeperBody (λ o. refl) (λ o. refl) (λ o. refl) x z) (λ o. tt);
      }

  -- at any depth
  any-spelled : (F : t.Mbody M → Type 0) (read : Reader M (t.Mbody M)) (steps : t.Mbody M → Steps M) (trace : Rows M → Steps M) → IsSpelled (rule.sealed k.KeepsMbody F read steps trace) false (just_mark s.open_brace) none
  any-spelled F read steps trace = record {
    starts = λ x z h. empty-starts x z;
    follow = λ x z h w. h;
    ahead = λ x v y z h. h;
    once = λ x u y z p q e.
        let n : ℕ = suc (d.mbody_depth x) + suc (d.mbody_depth u) in
        (level-laws n).spelled.once x u y z (at-level n x p (omega arith)) (at-level n u q (omega arith)) e;
  }

  -- ---- the steps of a body that is too deep, with what stands in it

  abbrev unread : (M → Event M) → (t.Mbody M → Steps M) → Rule M (t.Mbody M)
  unread note steps = rule.sealed k.KeepsMbody (λ x. ⊥) rule.deep_read steps (rule.deep_trace note)

  abbrev inner : ℕ → Rule M (t.Mbody M)
  inner n = unread ADeeperBody (rule.deep_steps ADeeperBody n)

  keeps-inner : (x : t.Mbody M) → k.KeepsMbody x → rule.MbodyHas k.KeepsMbody x
  keeps-inner x h = mbody-into k.KeepsMbody (d.mbody_depth x) (λ y g w. g) x h (omega arith)

  module _ (note : M → Event M) (is-deep : (o : M) → is_too_deep (note o) ≡ true) (is-at : (o : M) → o ≡ event_end (note o)) (no-run : (o : M) → false ≡ is_run_event (note o)) where
    unread-laws : (steps : t.Mbody M → Steps M) (begin : (x : t.Mbody M) → BeginsDeep note (steps x) x) (rows : (x : t.Mbody M) → tokens (steps x) ≡ s.mbody x) (placed : (x : t.Mbody M) (z : Rows M) → k.KeepsMbody x → ArePlaced None (steps x) z)
        → Lawful (unread note steps) false (just_mark s.open_brace) none
    unfolding rule.deep_read
    unread-laws steps begin rows placed = record {
      spelled = any-spelled (λ x. ⊥) rule.deep_read steps (rule.deep_trace note);
      read = too_deep-read (Mark s.open_brace) (mark-back s.open_brace) (unread note steps) some_body tt body-begins;
      traced = deep-traced note is-deep is-at no-run k.KeepsMbody steps begin rows placed (λ o. tt);
    }

    deep-begins : (n : ℕ) (x : t.Mbody M) → BeginsDeep note (rule.deep_steps note n x) x
    unfolding rule.deep_steps rule.mbody
    deep-begins zero x = flat-begins note is-deep is-at no-run x
    deep-begins (suc n) (t.mbody_of o es c) = (_, refl)

    placed-behind : (x : t.Mbody M) (l : Steps M) (z : Rows M) → BeginsDeep note (rule.behind_first (note (rule.opening x)) l) x → ArePlaced None l z → ArePlaced None (rule.behind_first (note (rule.opening x)) l) z
    placed-behind x [] z b h = absurd (subst Quiet (sym b.1) tt)
    placed-behind x (Note e ∷ l) z b h = absurd (subst Quiet (sym b.1) tt)
    placed-behind x (Token r ∷ l) z b h = (placed-brace note is-deep is-at no-run r (rule.opening x) _ (token-same r (row (Mark s.open_brace) (rule.opening x)) _ _ b.1), h)
      where
        token-same : (r q : Row M) (l k : Steps M) → Token r ∷ l ≡ Token q ∷ k → r ≡ q
        token-same r q l k e = cc

    -- with what stands in it, whatever it is
    abbrev DeepIsWell : ℕ → Type 0
    DeepIsWell n = ((x : t.Mbody M) → tokens (rule.deep_steps note n x) ≡ s.mbody x) × ((x : t.Mbody M) (z : Rows M) → k.KeepsMbody x → ArePlaced None (rule.deep_steps note n x) z)

    deep-flat : DeepIsWell 0
    deep-flat = (flat-rows note is-deep is-at no-run, λ x z h. flat-placed note is-deep is-at no-run x z)

    deep-over : (n : ℕ) → Lawful (inner n) false (just_mark s.open_brace) none → DeepIsWell (suc n)
    unfolding rule.deep_steps rule.mbody
    deep-over n li =
        let l = mbody-laws m k.KeepsMbody (λ x. ⊥) rule.deep_read (rule.deep_steps ADeeperBody n) (rule.deep_trace ADeeperBody) li in (
          λ x. behind-rows (note (rule.opening x)) ((rule.mbody (inner n)).steps x) ∙ l.traced.rows x,
          λ x z h. placed-behind x ((rule.mbody (inner n)).steps x) z (deep-begins (suc n) x) (l.traced.placed x z (l.spelled.follow x z (keeps-inner x h) (stops-none z))),
        )

  abbrev inner-of : (n : ℕ) → DeepIsWell ADeeperBody (λ o. refl) (λ o. refl) (λ o. refl) n → Lawful (inner n) false (just_mark s.open_brace) none
  inner-of n w = unread-laws ADeeperBody (λ o. refl) (λ o. refl) (λ o. refl) (rule.deep_steps ADeeperBody n) (deep-begins ADeeperBody (λ o. refl) (λ o. refl) (λ o. refl) n) w.0 w.1

  deeper-is-well : (n : ℕ) → DeepIsWell ADeeperBody (λ o. refl) (λ o. refl) (λ o. refl) n
  deeper-is-well zero = deep-flat ADeeperBody (λ o. refl) (λ o. refl) (λ o. refl)
  deeper-is-well (suc n) = deep-over ADeeperBody (λ o. refl) (λ o. refl) (λ o. refl) n (inner-of n (deeper-is-well n))

  -- for bodies in a body that is too deep
  pub inner-laws : (n : ℕ) → Lawful (inner n) false (just_mark s.open_brace) none
  inner-laws n = inner-of n (deeper-is-well n)

  deep-is-well : (n : ℕ) → DeepIsWell ADeepBody (λ o. refl) (λ o. refl) (λ o. refl) n
  deep-is-well zero = deep-flat ADeepBody (λ o. refl) (λ o. refl) (λ o. refl)
  deep-is-well (suc n) = deep-over ADeepBody (λ o. refl) (λ o. refl) (λ o. refl) n (inner-of n (deeper-is-well n))

  -- ---- how bodies are read, at most this deep

  pub body-laws : (n : ℕ) → Lawful (rule.mbody_at {M = M} n) false (just_mark s.open_brace) none
  unfolding rule.unsealed rule.mbody
  body-laws zero =
      said-laws {r = unread ADeepBody (λ x. rule.deep_steps ADeepBody (suc (d.mbody_depth x)) x)} s.mbody k.KeepsMbody (rule.FitsMbody 0) (λ x z. k.KeepsMbody x) (λ x. rule.deep_steps ADeepBody (suc (d.mbody_depth x)) x) (λ x. refl) (λ x h. h) (λ x h. h)
      (λ x h. absurd (omega (arith, h.1))) (λ x h. absurd h) (λ x z h. h) (λ x z h. h) (λ x. refl)
      (unread-laws ADeepBody (λ o. refl) (λ o. refl) (λ o. refl) (λ x. rule.deep_steps ADeepBody (suc (d.mbody_depth x)) x) (λ x. deep-begins ADeepBody (λ o. refl) (λ o. refl) (λ o. refl) (suc (d.mbody_depth x)) x)
      (λ x. (deep-is-well (suc (d.mbody_depth x))).0 x) (λ x z h. (deep-is-well (suc (d.mbody_depth x))).1 x z h))
  body-laws (suc n) =
      let l = mbody-laws m k.KeepsMbody (rule.FitsMbody n) (rule.unsealed n).read (rule.unsealed n).steps (rule.unsealed n).trace (body-laws n) in
      said-laws s.mbody k.KeepsMbody (rule.FitsMbody (suc n)) (λ x z. k.KeepsMbody x) (rule.unsealed (suc n)).steps (λ x. refl)
      (λ x h. mbody-into k.KeepsMbody (d.mbody_depth x) (λ y g w. g) x h (omega arith)) (λ x h. mbody-keeps k.KeepsMbody (λ y g. g) x h)
      (λ x h. mbody-into (rule.FitsMbody n) n (λ y g w. (g, w)) x h.0 (omega (arith, h.1)))
      (λ x h. (mbody-keeps (rule.FitsMbody n) (λ y g. g.0) x h, omega (arith, mbody-deep (rule.FitsMbody n) n (λ y g. g.1) x h)))
      (λ x z h. mbody-into k.KeepsMbody (d.mbody_depth x) (λ y g w. g) x h (omega arith)) (λ x z h. mbody-keeps k.KeepsMbody (λ y g. g) x h) (λ x. refl)
      (record { spelled = sealed-spelled l.spelled; read = sealed-read l; traced = sealed-traced l })
