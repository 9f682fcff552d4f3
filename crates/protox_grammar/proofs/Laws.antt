-- The laws of a rule, and of rules that are built from others.
use Rattle.std.proofs.Common.{◌≡◌, Bool, true, false, ◌&&◌, List, [], ◌∷◌, ◌++◌, Option, Some, refl, sym, ap, subst, ◌∙◌, append_assoc, inl, inr, ◌⊎◌}
use Rattle.protox_lexeme.specs.Shapes.{Shape, Row, Rows}
use Rattle.protox_grammar.specs.Class.{Set, class, apart, within, union, none}
use Rattle.protox_grammar.specs.Rule.{Rule, Stops, Starts, row, fixed, leaf, seq, either, nothing, mapped, Ends, star, unstarted}
use Rattle.protox_ast.specs.Spelling.{many}
use Rattle.protox_ast.specs.Keywords.{Each}
use Rattle.protox_grammar.proofs.Sets.{stops-left, stops-right, gated, stops-then, starts-then, starts-within, clash, or_left, or_right, within-at}

-- ---- how it is spelled

pub record IsSpelled {M A : Type 0} (r : Rule M A) (e : Bool) (f g : Set) : Type 0 where
  pub starts : (t : A) (z : Rows M) → r.ends t z → Starts e f (r.spell t)
  pub follow : (t : A) (z : Rows M) → r.may t → Stops g z → r.ends t z
  pub ahead : (t : A) (s : Row M) (y z : Rows M) → r.ends t (s ∷ y) → r.ends t (s ∷ z)
  -- the same rows don't spell two trees
  pub once : (t u : A) (y z : Rows M) → r.ends t y → r.ends u z → r.spell t ++ y ≡ r.spell u ++ z → (t ≡ u) × (y ≡ z)

pub head-same : {A : Type 0} (x y : A) (xs ys : List A) → x ∷ xs ≡ y ∷ ys → (x ≡ y) × (xs ≡ ys)
head-same x y xs ys e = (cc, cc)

pair-same : {A B : Type 0} (t u : A × B) → t.0 ≡ u.0 → t.1 ≡ u.1 → t ≡ u
pair-same t u x m = λ i. (x i, m i)

sum-cases : {A B : Type 0} (P : A ⊎ B → Type 0) → ((a : A) → P (inl a)) → ((b : B) → P (inr b)) → (t : A ⊎ B) → P t
sum-cases P f g (inl a) = f a
sum-cases P f g (inr b) = g b

ahead-after : {M A : Type 0} (r : Rule M A) (e : Bool) (f g : Set) (l : IsSpelled r e f g) (t : A) (ys : Rows M) (s : Row M) (y z : Rows M) → r.ends t (ys ++ (s ∷ y)) → r.ends t (ys ++ (s ∷ z))
ahead-after r e f g l t [] s y z h = l.ahead t s y z h
ahead-after r e f g l t (x ∷ ys) s y z h = l.ahead t x (ys ++ (s ∷ y)) (ys ++ (s ∷ z)) h

pub ahead-past : {M A : Type 0} {r : Rule M A} {e : Bool} {f g : Set} (l : IsSpelled r e f g) (t : A) (ys : Rows M) (s : Row M) (y z : Rows M) → r.ends t (ys ++ (s ∷ y)) → r.ends t (ys ++ (s ∷ z))
ahead-past {r = r} {e = e} {f = f} {g = g} l t ys s y z h = ahead-after r e f g l t ys s y z h

starts-left : {M : Type 0} (f g : Set) (ys : Rows M) (e : Bool) → Starts false f ys → Starts e (union f g) ys
starts-left f g [] e h = absurd cc
starts-left f g (y ∷ ys) e h = or_left _ _ h

starts-right : {M : Type 0} (e : Bool) (f g : Set) (ys : Rows M) → Starts e g ys → Starts e (union f g) ys
starts-right e f g [] h = h
starts-right e f g (y ∷ ys) h = or_right _ _ h

-- rows that don't come first stop a list that is empty in front of others that stop it
stops-both : {M : Type 0} (e : Bool) (f P : Set) (ys z : Rows M) → Starts e f ys → Stops P ys → Stops (gated e P) z → Stops P (ys ++ z)
stops-both e f P [] [] h k s = tt
stops-both e f P [] (z ∷ zs) h k s = subst (λ b. b && P (class z.shape) ≡ false) h s
stops-both e f P (y ∷ ys) z h k s = k

stops-ahead : {M : Type 0} (P : Set) (ys : Rows M) (s : Row M) (y z : Rows M) → Stops P (ys ++ (s ∷ y)) → Stops P (ys ++ (s ∷ z))
stops-ahead P [] s y z h = h
stops-ahead P (x ∷ ys) s y z h = h

stops-within : {M : Type 0} (f g : Set) → within f g ≡ true → (z : Rows M) → Stops g z → Stops f z
stops-within f g w [] h = tt
stops-within f g w (z ∷ zs) h = not_in (f (class z.shape)) (g (class z.shape)) (within-at f g w z.shape) h
  where
    not_in : (a b : Bool) → (a ≡ true → b ≡ true) → b ≡ false → a ≡ false
    not_in true b i h = let t = i refl in cc
    not_in false b i h = refl

pub fixed-spelled : {M : Type 0} (w : Shape) (f : Set) → f (class w) ≡ true → IsSpelled {M = M} (fixed w) false f none
fixed-spelled w f h = record {
  starts = λ t z e. h;
  follow = λ t z m s. tt;
  ahead = λ t s y z e. tt;
  once = λ t u y z p q e. let h = head-same (row w t) (row w u) y z e in (ap (λ r. r.at) h.0, h.1);
}

pub leaf-spelled : {M X : Type 0} (see : Shape → Option X) (shape : X → Shape) (f : Set) → ((x : X) → f (class (shape x)) ≡ true) → ((x : X) → see (shape x) ≡ Some x) → IsSpelled {M = M} (leaf see shape) false f none
leaf-spelled see shape f h back = record {
  starts = λ t z e. h t.0;
  follow = λ t z m s. tt;
  ahead = λ t s y z e. tt;
  once = λ t u y z p q e.
      let h = head-same (row (shape t.0) t.1) (row (shape u.0) u.1) y z e in
      let s : Some t.0 ≡ Some u.0 = sym (back t.0) ∙ ap (λ r. see r.shape) h.0 ∙ back u.0 in
      let x : t.0 ≡ u.0 = cc in
      let m : t.1 ≡ u.1 = ap (λ r. r.at) h.0 in
      (pair-same t u x m, h.1);
}

pub seq-spelled : {M A B : Type 0} (a : Rule M A) (b : Rule M B) (ea eb : Bool) (fa ga fb gb : Set) → IsSpelled a ea fa ga → IsSpelled b eb fb gb → apart fb ga ≡ true
    → IsSpelled (seq a b) (ea && eb) (union fa (gated ea fb)) (union gb (gated eb ga))
seq-spelled a b ea eb fa ga fb gb la lb d = record {
  starts = λ t z e. starts-then ea eb fa fb (a.spell t.0) (b.spell t.1) (la.starts t.0 _ e.0) (lb.starts t.1 z e.1);
  follow = λ t z m s.
      let e1 = lb.follow t.1 z m.1 (stops-left gb (gated eb ga) z s) in
      (la.follow t.0 (b.spell t.1 ++ z) m.0 (stops-then eb fb ga d (b.spell t.1) z (lb.starts t.1 z e1) (stops-right gb (gated eb ga) z s)), e1);
  ahead = λ t s y z e. (ahead-after a ea fa ga la t.0 (b.spell t.1) s y z e.0, lb.ahead t.1 s y z e.1);
  once = λ t u y z p q e.
      let h = la.once t.0 u.0 (b.spell t.1 ++ y) (b.spell u.1 ++ z) p.0 q.0 (sym (append_assoc (a.spell t.0) (b.spell t.1) y) ∙ e ∙ append_assoc (a.spell u.0) (b.spell u.1) z) in
      let k = lb.once t.1 u.1 y z p.1 q.1 h.1 in
      (pair-same t u h.0 k.0, k.1);
}

pub either-spelled : {M A B : Type 0} (p : Shape → Bool) (P : Set) (a : Rule M A) (b : Rule M B) (eb : Bool) (fa ga fb gb : Set) → IsSpelled a false fa ga → IsSpelled b eb fb gb → within fa P ≡ true
    → IsSpelled (either p P a b) eb (union fa fb) (union ga (union gb (gated eb P)))
either-spelled p P a b eb fa ga fb gb la lb w = record {
  starts = sum-cases _ (λ t z e. starts-left fa fb (a.spell t) eb (la.starts t z e)) (λ t z e. starts-right eb fa fb (b.spell t) (lb.starts t z e.0));
  follow = sum-cases _
      (λ t z m s. la.follow t z m (stops-left ga (union gb (gated eb P)) z s))
      (λ t z m s.
      let s2 = stops-right ga (union gb (gated eb P)) z s in
      let e = lb.follow t z m.0 (stops-left gb (gated eb P) z s2) in
      (e, stops-both eb fb P (b.spell t) z (lb.starts t z e) m.1 (stops-right gb (gated eb P) z s2)));
  ahead = sum-cases _ (λ t s y z e. la.ahead t s y z e) (λ t s y z e. (lb.ahead t s y z e.0, stops-ahead P (b.spell t) s y z e.1));
  once = sum-cases _
      (λ t. sum-cases _
      (λ u y z p q e. let h = la.once t u y z p q e in (ap inl h.0, h.1))
      (λ u y z p q e. absurd (clash P (a.spell t) y (b.spell u ++ z) (starts-within false fa P w (a.spell t) (la.starts t y p)) q.1 e)))
      (λ t. sum-cases _
      (λ u y z p q e. absurd (clash P (a.spell u) z (b.spell t ++ y) (starts-within false fa P w (a.spell u) (la.starts u z q)) p.1 (sym e)))
      (λ u y z p q e. let h = lb.once t u y z p.0 q.0 e in (ap inr h.0, h.1)));
}

pub nothing-spelled : {M : Type 0} → IsSpelled {M = M} nothing true none none
nothing-spelled = record {
  starts = λ t z e. refl;
  follow = λ t z m s. tt;
  ahead = λ t s y z e. tt;
  once = λ t u y z p q e. (refl, e);
}

pub mapped-spelled : {M A B : Type 0} (to : B → A) (from : A → B) (b : Rule M B) (e : Bool) (f g : Set) → ((t : A) → to (from t) ≡ t) → IsSpelled b e f g → IsSpelled (mapped to from b) e f g
mapped-spelled to from b e f g back l = record {
  starts = λ t z h. l.starts (from t) z h;
  follow = λ t z m s. l.follow (from t) z m s;
  ahead = λ t s y z h. l.ahead (from t) s y z h;
  once = λ t u y z p q h. let k = l.once (from t) (from u) y z p q h in (sym (back t) ∙ ap to k.0 ∙ back u, k.1);
}

-- the same with larger sets
pub wider : {M A : Type 0} (r : Rule M A) (e : Bool) (f g f' g' : Set) → within f f' ≡ true → within g g' ≡ true → IsSpelled r e f g → IsSpelled r e f' g'
wider r e f g f' g' wf wg l = record {
  starts = λ t z h. starts-within e f f' wf (r.spell t) (l.starts t z h);
  follow = λ t z m s. l.follow t z m (stops-within g g' wg z s);
  ahead = l.ahead;
  once = l.once;
}

list-same : {A : Type 0} (t u : A) (ts us : List A) → t ≡ u → ts ≡ us → t ∷ ts ≡ u ∷ us
list-same t u ts us h k = cc

starts-more : {M : Type 0} (e : Bool) (f : Set) (ys zs : Rows M) → Starts false f ys → Starts e f (ys ++ zs)
starts-more e f [] zs h = absurd cc
starts-more e f (y ∷ ys) zs h = h

module _ {M A : Type 0} (p : Shape → Bool) (P : Set) (a : Rule M A) (fa ga : Set) (la : IsSpelled a false fa ga) (w : within fa P ≡ true) (d : apart fa ga ≡ true) where
  star-starts : (ts : List A) (z : Rows M) → Ends a.spell a.ends P ts z → Starts true fa (many a.spell ts)
  star-starts [] z e = refl
  star-starts (t ∷ ts) z e = starts-more true fa (a.spell t) (many a.spell ts) (la.starts t _ e.0)

  star-follow : (ts : List A) (z : Rows M) → Each a.may ts → Stops (union P ga) z → Ends a.spell a.ends P ts z
  star-follow [] z m s = stops-left P ga z s
  star-follow (t ∷ ts) z m s =
      let e = star-follow ts z m.1 s in
      (la.follow t (many a.spell ts ++ z) m.0 (stops-then true fa ga d (many a.spell ts) z (star-starts ts z e) (stops-right P ga z s)), e)

  star-ahead : (ts : List A) (s : Row M) (y z : Rows M) → Ends a.spell a.ends P ts (s ∷ y) → Ends a.spell a.ends P ts (s ∷ z)
  star-ahead [] s y z e = e
  star-ahead (t ∷ ts) s y z e = (ahead-after a false fa ga la t (many a.spell ts) s y z e.0, star-ahead ts s y z e.1)

  star-once : (ts us : List A) (y z : Rows M) → Ends a.spell a.ends P ts y → Ends a.spell a.ends P us z → many a.spell ts ++ y ≡ many a.spell us ++ z → (ts ≡ us) × (y ≡ z)
  star-once [] [] y z p q e = (refl, e)
  star-once [] (u ∷ us) y z p q e = absurd (clash P (a.spell u) (many a.spell us ++ z) y (starts-within false fa P w (a.spell u) (la.starts u _ q.0)) p (sym (e ∙ append_assoc (a.spell u) (many a.spell us) z)))
  star-once (t ∷ ts) [] y z p q e = absurd (clash P (a.spell t) (many a.spell ts ++ y) z (starts-within false fa P w (a.spell t) (la.starts t _ p.0)) q (sym (append_assoc (a.spell t) (many a.spell ts) y) ∙ e))
  star-once (t ∷ ts) (u ∷ us) y z p q e =
      let h = la.once t u (many a.spell ts ++ y) (many a.spell us ++ z) p.0 q.0 (sym (append_assoc (a.spell t) (many a.spell ts) y) ∙ e ∙ append_assoc (a.spell u) (many a.spell us) z) in
      let k = star-once ts us y z p.1 q.1 h.1 in
      (list-same t u ts us h.0 k.0, k.1)

  pub star-spelled : IsSpelled (star p P a) true fa (union P ga)
  star-spelled = record { starts = star-starts; follow = star-follow; ahead = star-ahead; once = star-once }
