-- Where a node that is noted among steps stands.
use Rattle.std.proofs.Common.{◌≡◌, ℕ, suc, true, false, ◌||◌, cond, [], ◌∷◌, ◌++◌, length, Option, Some, None, refl, sym, ap, subst, ◌∙◌, inl, inr, ◌⊎◌}
use Rattle.protox_lexeme.specs.Shapes.{Row, Rows}
use Rattle.protox_ast.specs.Tree as t
use Rattle.protox_ast.specs.CheckedNodes.{CheckedNode, APackageAgain, ATooDeep, node_end}
use Rattle.protox_ast.specs.Truth.{is_run}
use Rattle.protox_grammar.specs.Reader.{head_in, is_string}
use Rattle.protox_grammar.specs.Steps.{Event, ANode, APackage, AKeyword, ADeepBody, ADeeperBody, AnOpenBrace, ACloseBrace, Token, Note, Steps, tokens, until, has_deep, is_too_deep}
use Rattle.protox_grammar.specs.Noted.{noted_nodes}
use Rattle.protox_grammar.proofs.StepLists.{until-note}
use Rattle.protox_grammar.proofs.Holding.{Holds}
use Rattle.protox_grammar.proofs.Placing.{event_end, is_run_event, IsPlaced, ArePlaced}

-- The row is the last of the node. A run of strings ends there, whichever of the two lists of rows
-- comes next.
abbrev pub Facts : {M : Type 0} → Row M → CheckedNode M → Rows M → Rows M → Type 0
Facts r e y z = (r.at ≡ node_end e) × (is_string r.shape ≡ is_run e) × (is_run e ≡ true → (head_in is_string y ≡ false) × (head_in is_string z ≡ false))

module _ {M : Type 0} (Q : CheckedNode M → Type 0) where
  -- such a node is noted by then, or something before is too deep
  abbrev pub Seen : Option (t.Package M) → M → Steps M → Type 0
  Seen p w l = Holds Q (noted_nodes p w l) ⊎ (has_deep l ≡ true)

  pub record Located (p : Option (t.Package M)) (w : M) (l : Steps M) (y z : Rows M) : Type 0 where
    pub before : Rows M
    pub here : Row M
    pub behind : Rows M
    pub node : CheckedNode M
    pub parts : tokens l ≡ before ++ (here ∷ behind)
    pub holds : Q node
    pub facts : Facts here node (behind ++ y) (behind ++ z)
    pub seen : Seen p w (until (suc (length before)) l)

  -- the node ends with the row before these steps
  pub record IsHere (last : Option (Row M)) (p : Option (t.Package M)) (w : M) (l : Steps M) (y z : Rows M) : Type 0 where
    pub here : Row M
    pub last_is : last ≡ Some here
    pub node : CheckedNode M
    pub holds : Q node
    pub facts : Facts here node (tokens l ++ y) (tokens l ++ z)
    pub seen : Seen p w (until 0 l)

  abbrev Found : Option (Row M) → Option (t.Package M) → M → Steps M → Rows M → Rows M → Type 0
  Found last p w l y z = IsHere last p w l y z ⊎ Located p w l y z

  token-found : (last : Option (Row M)) (p : Option (t.Package M)) (w : M) (r : Row M) (l : Steps M) (y z : Rows M) → Found (Some r) p w l y z → Located p w (Token r ∷ l) y z
  token-found last p w r l y z (inl v) =
      let same : r ≡ v.here = some-same r v.here v.last_is in
      record {
        before = [];
        here = v.here;
        behind = tokens l;
        node = v.node;
        parts = ap (λ u. u ∷ tokens l) same;
        holds = v.holds;
        facts = v.facts;
        seen = v.seen;
      }
    where
      some-same : (a b : Row M) → Some a ≡ Some b → a ≡ b
      some-same a b e = cc
  token-found last p w r l y z (inr v) = record {
    before = r ∷ v.before;
    here = v.here;
    behind = v.behind;
    node = v.node;
    parts = ap (λ u. r ∷ u) v.parts;
    holds = v.holds;
    facts = v.facts;
    seen = v.seen;
  }

  -- after a note, if what is seen after it is seen with it
  note-found : (last : Option (Row M)) (d : Event M) (p q : Option (t.Package M)) (w v : M) (l : Steps M) (y z : Rows M) → ((n : ℕ) → Seen q v (until n l) → Seen p w (until n (Note d ∷ l))) → Found last q v l y z → Found last p w (Note d ∷ l) y z
  note-found last d p q w v l y z up (inl h) = inl (record { here = h.here; last_is = h.last_is; node = h.node; holds = h.holds; facts = h.facts; seen = up 0 h.seen })
  note-found last d p q w v l y z up (inr h) = inr (record { before = h.before; here = h.here; behind = h.behind; node = h.node; parts = h.parts; holds = h.holds; facts = h.facts; seen = up (suc (length h.before)) h.seen })

  -- the note itself
  this-found : (last : Option (Row M)) (d : Event M) (p : Option (t.Package M)) (w : M) (l : Steps M) (y z : Rows M) (e : CheckedNode M) → Q e → event_end d ≡ node_end e → is_run_event d ≡ is_run e
      → IsPlaced last d (tokens l ++ y) → IsPlaced last d (tokens l ++ z) → Seen p w (until 0 (Note d ∷ l)) → Found last p w (Note d ∷ l) y z
  this-found None d p w l y z e q m i a b s = absurd a
  this-found (Some r) d p w l y z e q m i a b s =
      inl (record { here = r; last_is = refl; node = e; holds = q; facts = (a.0 ∙ m, a.1 ∙ i, λ g. (a.2 (i ∙ g), b.2 (i ∙ g))); seen = s })

  -- notes that are not of a node
  passed : (d : Event M) (p q : Option (t.Package M)) (w v : M) (l : Steps M) → is_too_deep d ≡ false → ((k : Steps M) → noted_nodes p w (Note d ∷ k) ≡ noted_nodes q v k) → (n : ℕ) → Seen q v (until n l) → Seen p w (until n (Note d ∷ l))
  passed d p q w v l e same n h =
      let c : until n (Note d ∷ l) ≡ Note d ∷ until n l = until-note n d l ∙ ap (λ u. Note d ∷ cond u [] (until n l)) e in
      elim h [
        | inl k ↦ inl (subst (λ u. Holds Q (noted_nodes p w u)) (sym c) (subst (Holds Q) (sym (same (until n l))) k))
        | inr k ↦ inr (subst (λ u. has_deep u ≡ true) (sym c) (ap (λ u. u || has_deep (until n l)) e ∙ k))
      ]

  -- a note of a node
  shown : (d : Event M) (p q : Option (t.Package M)) (w v : M) (l : Steps M) (e : CheckedNode M) → is_too_deep d ≡ false → ((k : Steps M) → noted_nodes p w (Note d ∷ k) ≡ e ∷ noted_nodes q v k) → (n : ℕ) → Q e ⊎ Seen q v (until n l) → Seen p w (until n (Note d ∷ l))
  shown d p q w v l e f same n h =
      let c : until n (Note d ∷ l) ≡ Note d ∷ until n l = until-note n d l ∙ ap (λ u. Note d ∷ cond u [] (until n l)) f in
      subst (λ u. Seen p w u) (sym c) (elim h [
        | inl k ↦ inl (subst (Holds Q) (sym (same (until n l))) (inl k))
        | inr g ↦ elim g [
          | inl k ↦ inl (subst (Holds Q) (sym (same (until n l))) (inr k))
          | inr k ↦ inr (ap (λ u. u || has_deep (until n l)) f ∙ k)
        ]
      ])

  -- a body that is too deep
  sunk : (d : Event M) (p : Option (t.Package M)) (w : M) (l : Steps M) → is_too_deep d ≡ true → (n : ℕ) → Seen p w (until n (Note d ∷ l))
  sunk d p w l e n = inr (ap has_deep (until-note n d l) ∙ ap (λ u. u || has_deep (cond u [] (until n l))) e)

  locate_from : (last : Option (Row M)) (l : Steps M) (y z : Rows M) → ArePlaced last l y → ArePlaced last l z → (p : Option (t.Package M)) (w : M) → Holds Q (noted_nodes p w l) → Found last p w l y z
  locate_from last [] y z a b p w h = absurd h
  locate_from last (Token r ∷ l) y z a b p w h = inr (token-found last p w r l y z (locate_from (Some r) l y z a b p w h))
  locate_from last (Note (ANode x) ∷ l) y z a b p w (inl h) = this-found last (ANode x) p w l y z x h refl refl a.0 b.0 (shown (ANode x) p p w w l x refl (λ k. refl) 0 (inl h))
  locate_from last (Note (ANode x) ∷ l) y z a b p w (inr h) = note-found last (ANode x) p p w w l y z (λ n s. shown (ANode x) p p w w l x refl (λ k. refl) n (inr s)) (locate_from last l y z a.1 b.1 p w h)
  locate_from last (Note (APackage x) ∷ l) y z a b None w h = note-found last (APackage x) None (Some x) w w l y z (λ n s. passed (APackage x) None (Some x) w w l refl (λ k. refl) n s) (locate_from last l y z a.1 b.1 (Some x) w h)
  locate_from last (Note (APackage x) ∷ l) y z a b (Some f) w (inl h) = this-found last (APackage x) (Some f) w l y z (APackageAgain f x) h refl refl a.0 b.0 (shown (APackage x) (Some f) (Some f) w w l (APackageAgain f x) refl (λ k. refl) 0 (inl h))
  locate_from last (Note (APackage x) ∷ l) y z a b (Some f) w (inr h) = note-found last (APackage x) (Some f) (Some f) w w l y z (λ n s. shown (APackage x) (Some f) (Some f) w w l (APackageAgain f x) refl (λ k. refl) n (inr s)) (locate_from last l y z a.1 b.1 (Some f) w h)
  locate_from last (Note (AKeyword m) ∷ l) y z a b p w h = note-found last (AKeyword m) p p w m l y z (λ n s. passed (AKeyword m) p p w m l refl (λ k. refl) n s) (locate_from last l y z a.1 b.1 p m h)
  locate_from last (Note (ADeepBody m) ∷ l) y z a b p w (inl h) = this-found last (ADeepBody m) p w l y z (ATooDeep w m) h refl refl a.0 b.0 (sunk (ADeepBody m) p w l refl 0)
  locate_from last (Note (ADeepBody m) ∷ l) y z a b p w (inr h) = note-found last (ADeepBody m) p p w w l y z (λ n s. sunk (ADeepBody m) p w l refl n) (locate_from last l y z a.1 b.1 p w h)
  locate_from last (Note (ADeeperBody m) ∷ l) y z a b p w h = note-found last (ADeeperBody m) p p w w l y z (λ n s. sunk (ADeeperBody m) p w l refl n) (locate_from last l y z a.1 b.1 p w h)
  locate_from last (Note (AnOpenBrace m) ∷ l) y z a b p w h = note-found last (AnOpenBrace m) p p w w l y z (λ n s. passed (AnOpenBrace m) p p w w l refl (λ k. refl) n s) (locate_from last l y z a.1 b.1 p w h)
  locate_from last (Note (ACloseBrace m) ∷ l) y z a b p w h = note-found last (ACloseBrace m) p p w w l y z (λ n s. passed (ACloseBrace m) p p w w l refl (λ k. refl) n s) (locate_from last l y z a.1 b.1 p w h)

  pub locate : (l : Steps M) (y z : Rows M) → ArePlaced None l y → ArePlaced None l z → (p : Option (t.Package M)) (w : M) → Holds Q (noted_nodes p w l) → Located p w l y z
  locate l y z a b p w h = elim (locate_from None l y z a b p w h) [
    | inl v ↦ absurd (none-some v.here v.last_is)
    | inr v ↦ v
  ]
    where
      none-some : (r : Row M) → None ≡ Some r → ⊥
      none-some r e = absurd cc
