-- The laws of the forms in which the grammar is written.
use Rattle.std.proofs.Common.{◌≡◌, ◌<◌, ℕ, length, subst, Bool, true, false, ◌&&◌, List, [], ◌∷◌, ◌++◌, Option, Some, None, refl, sym, ap, ◌∙◌, inl, inr, ◌⊎◌}
use Rattle.std.proofs.lemmas.Bool.{eq-eqb}
use Rattle.protox_grammar.specs.Reader.{Refusal, Unexpected, Deep, is_token}
use Rattle.protox_lexeme.specs.Shapes.{Shape, Ident, Mark, Rows}
use Rattle.protox_grammar.specs.Class.{Set, class, apart, within, union, none, only, just_word, just_mark, in_set}
use Rattle.protox_ast.specs.Spelling.{maybe}
use Rattle.protox_ast.specs.KeywordWalk.{Given}
use Rattle.protox_grammar.specs.Rule.{Rule, Stops, Starts, fixed, seq, on_sum, nothing, mapped, unless, choice, Closes, to_option, optional, times, named, named_fits, noting}
use Rattle.protox_grammar.proofs.Words.{word-exact, word-back, mark-exact, mark-back}
use Rattle.protox_grammar.proofs.Sets.{gated, apart-at}
use Rattle.protox_grammar.proofs.Laws.{IsSpelled, fixed-spelled, seq-spelled, either-spelled, nothing-spelled, mapped-spelled, star-spelled, wider}
use Rattle.protox_grammar.proofs.Reading.{Concerns, IsRead, Took, seq-read, mapped-read, nothing-read}
use Rattle.protox_grammar.proofs.ReadingTokens.{fixed-read, fixed-deep}
use Rattle.protox_grammar.proofs.Choosing.{either-read}
use Rattle.protox_grammar.proofs.Repeat.{star-read}
use Rattle.protox_grammar.specs.Steps.{Event, Steps, is_too_deep, tokens, until, steps_of_option}
use Rattle.protox_grammar.proofs.StepLists.{Quiet}
use Rattle.protox_grammar.proofs.Tracing.{Alike, IsTraced, viable-of}
use Rattle.protox_grammar.proofs.TracingPairs.{seq-traced, mapped-traced, nothing-traced}
use Rattle.protox_grammar.proofs.TracingChoices.{either-traced}
use Rattle.protox_grammar.proofs.TracingNotes.{noting-traced, plain-traced}
use Rattle.protox_grammar.proofs.TracingRepeat.{star-traced}
use Rattle.protox_grammar.proofs.Placing.{last_row, IsPlaced, ArePlaced}

-- both kinds of laws
pub record Lawful {M A : Type 0} (r : Rule M A) (e : Bool) (f g : Set) : Type 0 where
  pub spelled : IsSpelled r e f g
  pub read : IsRead r
  pub traced : IsTraced r

pub fixed-laws : {M : Type 0} (m : M) (w : Shape) → is_token w w ≡ true → ((s : Shape) → is_token w s ≡ true → s ≡ w) → Lawful {M = M} (fixed w) false (only (class w)) none
fixed-laws m w back exact =
    let l = fixed-spelled w (only (class w)) (eq-eqb (class w) (class w) refl) in
    let rd = fixed-read m w back exact in
    record { spelled = l; read = rd; traced = plain-traced (fixed w) false (only (class w)) none l rd (fixed-deep m w back exact) (λ t. refl) (λ xs. refl) }

pub word-laws : {M : Type 0} (m : M) (w : List ℕ) → Lawful {M = M} (fixed (Ident w)) false (just_word w) none
word-laws m w = fixed-laws m (Ident w) (word-back w) (word-exact w)

pub mark-laws : {M : Type 0} (m : M) (s : ℕ) → Lawful {M = M} (fixed (Mark s)) false (just_mark s) none
mark-laws m s = fixed-laws m (Mark s) (mark-back s) (mark-exact s)

pub seq-laws : {M A B : Type 0} {a : Rule M A} {b : Rule M B} {ea eb : Bool} {fa ga fb gb : Set} → Lawful a ea fa ga → Lawful b eb fb gb → apart fb ga ≡ true → Lawful (seq a b) (ea && eb) (union fa (gated ea fb)) (union gb (gated eb ga))
seq-laws {a = a} {b = b} {ea = ea} {eb = eb} {fa = fa} {ga = ga} {fb = fb} {gb = gb} la lb d = record {
  spelled = seq-spelled a b ea eb fa ga fb gb la.spelled lb.spelled d;
  read = seq-read a b ea fa ga la.spelled la.read lb.read (viable-of (seq a b) traced);
  traced = traced;
}
  where
    traced : IsTraced (seq a b)
    traced = seq-traced a b ea fa ga la.spelled la.read la.traced eb fb gb lb.spelled lb.read lb.traced

pub mapped-laws : {M A B : Type 0} {b : Rule M B} {e : Bool} {f g : Set} (to : B → A) (from : A → B) → ((t : A) → to (from t) ≡ t) → ((t : B) → from (to t) ≡ t) → Lawful b e f g → Lawful (mapped to from b) e f g
mapped-laws {b = b} {e = e} {f = f} {g = g} to from back there l = record {
  spelled = mapped-spelled to from b e f g back l.spelled;
  read = mapped-read to from b back there l.read (viable-of (mapped to from b) (mapped-traced to from b there l.traced));
  traced = mapped-traced to from b there l.traced;
}

-- The second rule may begin as the first does, but some tree of it doesn't.
pub unless-laws : {M A B : Type 0} {a : Rule M A} {b : Rule M B} {eb : Bool} {fa ga fb gb : Set} (P : Set) → Lawful a false fa ga → within fa P ≡ true → Lawful b eb fb gb → (some : B) → b.may some → Stops P (b.spell some) → Lawful (unless P a b) eb (union fa fb) (union ga (union gb (gated eb P)))
unless-laws {a = a} {b = b} {eb = eb} {fa = fa} {ga = ga} {fb = fb} {gb = gb} P la w lb some m s = record {
  spelled = either-spelled (in_set P) P a b eb fa ga fb gb la.spelled lb.spelled w;
  read = either-read (in_set P) P a b (λ s. refl) fa ga la.spelled w la.read lb.read some m s (viable-of (unless P a b) traced);
  traced = traced;
}
  where
    traced : IsTraced (unless P a b)
    traced = either-traced (in_set P) P a b (λ s. refl) fa ga la.spelled w la.read la.traced eb fb gb lb.spelled lb.read lb.traced some m s

-- A rule that says the same in another way.
module _ {M A : Type 0} {r : Rule M A} {e : Bool} {f g : Set} (spell : A → Rows M) (may fits : A → Type 0) (ends : A → Rows M → Type 0) (steps : A → Steps M)
    (spelled : (t : A) → spell t ≡ r.spell t) (obeys : (t : A) → may t → r.may t) (allows : (t : A) → r.may t → may t)
    (fits_obeys : (t : A) → fits t → r.fits t) (fits_allows : (t : A) → r.fits t → fits t)
    (ends_obeys : (t : A) (z : Rows M) → ends t z → r.ends t z) (ends_allows : (t : A) (z : Rows M) → r.ends t z → ends t z)
    (stepped : (t : A) → steps t ≡ r.steps t)
    (l : Lawful r e f g) where
  abbrev again_said : Rule M A
  again_said = record { spell = spell; may = may; fits = fits; ends = ends; read = r.read; steps = steps; trace = r.trace }

  took : (xs : Rows M) (x : A × Rows M) → Took r xs x → Took again_said xs x
  took xs x k = record { parts = k.parts ∙ ap (λ u. u ++ x.1) (sym (spelled x.0)); fits = fits_allows x.0 k.fits; ends = ends_allows x.0 x.1 k.ends }

  said-concerned : (d : Refusal) (t : A) → Concerns again_said d t → Concerns r d t
  said-concerned (Unexpected n) t c = tt
  said-concerned (Deep n) t c = fits_obeys t c

  said-traced : IsTraced again_said
  said-traced = record {
    rows = λ t. ap tokens (stepped t) ∙ l.traced.rows t ∙ sym (spelled t);
    quiet = λ t. subst Quiet (sym (stepped t)) (l.traced.quiet t);
    placed = λ t z h. subst (λ u. ArePlaced None u z) (sym (stepped t)) (l.traced.placed t z (ends_obeys t z h));
    ok = λ xs x h. l.traced.ok xs x h ∙ sym (stepped x.0);
    halts = λ xs e h.
        let v = l.traced.halts xs e h in
        record { rest = v.rest; parts = v.parts; left_is = v.left_is; placed = v.placed; tree = v.tree; tree_may = allows v.tree v.tree_may; later = v.later; goes_on = stepped v.tree ∙ v.goes_on; deep = v.deep };
    stops = l.traced.stops;
    agrees = λ front rest t z more h q alike. l.traced.agrees front rest t z more (ends_obeys t z h) (ap (λ v. v ++ z) (sym (spelled t)) ∙ q) alike ∙ ap (λ u. until (length front) u) (sym (stepped t));
  }

  pub said-laws : Lawful again_said e f g
  said-laws = record {
    spelled = record {
      starts = λ t z h. rw (spelled t) (l.spelled.starts t z (ends_obeys t z h));
      follow = λ t z m s. ends_allows t z (l.spelled.follow t z (obeys t m) s);
      ahead = λ t s y z h. ends_allows t (s ∷ z) (l.spelled.ahead t s y z (ends_obeys t (s ∷ y) h));
      once = λ t u y z p q h. l.spelled.once t u y z (ends_obeys t y p) (ends_obeys u z q) (ap (λ v. v ++ y) (sym (spelled t)) ∙ h ∙ ap (λ v. v ++ z) (spelled u));
    };
    read = record {
      some = l.read.some;
      some_may = allows l.read.some l.read.some_may;
      within = λ t h. allows t (l.read.within t (fits_obeys t h));
      takes = λ xs x h. took xs x (l.read.takes xs x h);
      again = λ t z h k. rw (spelled t) (l.read.again t z (fits_obeys t h) (ends_obeys t z k));
      viable = viable-of again_said said-traced;
      tight = λ d front s rest n h t z more c k j. l.read.tight d front s rest n h t z more (said-concerned d t c) (ends_obeys t z k) (ap (λ v. v ++ z) (sym (spelled t)) ∙ j);
      short = λ xs h t z k j. l.read.short xs h t z (ends_obeys t z k) (ap (λ v. v ++ z) (sym (spelled t)) ∙ j);
    };
    traced = said-traced;
  }

-- under a plain spelling and plain conditions
pub named_fits-laws : {M A B : Type 0} {b : Rule M B} {e : Bool} {f g : Set} (spell : A → Rows M) (keeps fits : A → Type 0) (to : B → A) (from : A → B)
    → ((t : A) → to (from t) ≡ t) → ((t : B) → from (to t) ≡ t) → ((t : A) → spell t ≡ b.spell (from t))
    → ((t : A) → keeps t → b.may (from t)) → ((t : A) → b.may (from t) → keeps t)
    → ((t : A) → fits t → b.fits (from t)) → ((t : A) → b.fits (from t) → fits t)
    → Lawful b e f g → Lawful (named_fits spell keeps fits to from b) e f g
named_fits-laws {b = b} spell keeps fits to from back there spelled obeys allows fits_obeys fits_allows l =
    said-laws spell keeps fits (λ t z. b.ends (from t) z) (λ t. b.steps (from t)) spelled obeys allows fits_obeys fits_allows (λ t z h. h) (λ t z h. h) (λ t. refl) (mapped-laws to from back there l)

-- And if all trees that may be can be read.
pub named-laws : {M A B : Type 0} {b : Rule M B} {e : Bool} {f g : Set} (spell : A → Rows M) (keeps : A → Type 0) (to : B → A) (from : A → B)
    → ((t : A) → to (from t) ≡ t) → ((t : B) → from (to t) ≡ t) → ((t : A) → spell t ≡ b.spell (from t))
    → ((t : A) → keeps t → b.may (from t)) → ((t : A) → b.may (from t) → keeps t) → ((t : B) → b.may t → b.fits t)
    → Lawful b e f g → Lawful (named spell keeps to from b) e f g
named-laws spell keeps to from back there spelled obeys allows whole l =
    named_fits-laws spell keeps keeps to from back there spelled obeys allows (λ t h. whole (from t) (obeys t h)) (λ t h. allows t (l.read.within (from t) h)) l

stops-of : {M : Type 0} (e : Bool) (f P : Set) → apart f P ≡ true → (ys : Rows M) → Starts e f ys → Stops P ys
stops-of e f P d [] h = tt
stops-of e f P d (y ∷ ys) h = apart-at f P d y.shape h

-- The second never begins as the first does.
pub never-begins : {M B : Type 0} {b : Rule M B} {eb : Bool} {fb gb : Set} (P : Set) → apart fb P ≡ true → Lawful b eb fb gb → (t : B) → b.may t → Stops P (b.spell t)
never-begins {b = b} {eb = eb} {fb = fb} P d lb t h = stops-of eb fb P d (b.spell t) (lb.spelled.starts t [] (lb.spelled.follow t [] h tt))

pub choice-laws : {M A B : Type 0} {a : Rule M A} {b : Rule M B} {eb : Bool} {fa ga fb gb : Set} (P : Set) → Lawful a false fa ga → within fa P ≡ true → Lawful b eb fb gb → apart fb P ≡ true → Lawful (choice P a b) eb (union fa fb) (union ga (union gb (gated eb P)))
choice-laws {M} {A} {B} {a = a} {b = b} P la w lb d =
    said-laws {r = unless P a b} (on_sum a.spell b.spell) (on_sum a.may b.may) (on_sum a.fits b.fits) (on_sum a.ends (λ t z. b.ends t z × Stops P (b.spell t ++ z))) (on_sum a.steps b.steps)
    (λ t. refl) obeys allows fits_obeys fits_allows (λ t z h. h) (λ t z h. h) (λ t. refl)
    (unless-laws P la w lb lb.read.some lb.read.some_may (never-begins P d lb lb.read.some lb.read.some_may))
  where
    obeys : (t : A ⊎ B) → on_sum a.may b.may t → on_sum a.may (λ u. b.may u × Stops P (b.spell u)) t
    obeys (inl t) h = h
    obeys (inr t) h = (h, never-begins P d lb t h)

    allows : (t : A ⊎ B) → on_sum a.may (λ u. b.may u × Stops P (b.spell u)) t → on_sum a.may b.may t
    allows (inl t) h = h
    allows (inr t) h = h.0

    fits_obeys : (t : A ⊎ B) → on_sum a.fits b.fits t → on_sum a.fits (λ u. b.fits u × Stops P (b.spell u)) t
    fits_obeys (inl t) h = h
    fits_obeys (inr t) h = (h, never-begins P d lb t (lb.read.within t h))

    fits_allows : (t : A ⊎ B) → on_sum a.fits (λ u. b.fits u × Stops P (b.spell u)) t → on_sum a.fits b.fits t
    fits_allows (inl t) h = h
    fits_allows (inr t) h = h.0

pub nothing-laws : {M : Type 0} → Lawful {M = M} nothing true none none
nothing-laws = record { spelled = nothing-spelled; read = nothing-read; traced = nothing-traced }

of_option : {A : Type 0} → Option A → A ⊎ Unit {0}
of_option (Some a) = inl a
of_option None = inr tt

option-back : {A : Type 0} (t : Option A) → to_option (of_option t) ≡ t
unfolding of_option
option-back (Some a) = refl
option-back None = refl

option-there : {A : Type 0} (t : A ⊎ Unit {0}) → of_option (to_option t) ≡ t
unfolding of_option
option-there (inl a) = refl
option-there (inr u) = refl

pub optional-laws : {M A : Type 0} {a : Rule M A} {fa ga : Set} (P : Set) → Lawful a false fa ga → within fa P ≡ true → Lawful (optional P a) true (union fa none) (union ga (union none (gated true P)))
unfolding of_option
optional-laws {M} {A} {a = a} P la w =
    said-laws {r = mapped to_option of_option (unless P a nothing)} (maybe a.spell) (Given a.may) (Given a.fits) (Closes a.ends P) (steps_of_option a.steps) spelled obeys allows fits_obeys fits_allows ends_obeys ends_allows stepped
    (mapped-laws to_option of_option option-back option-there (unless-laws P la w nothing-laws tt tt tt))
  where
    spelled : (t : Option A) → maybe a.spell t ≡ on_sum a.spell nothing.spell (of_option t)
    spelled (Some t) = refl
    spelled None = refl

    stepped : (t : Option A) → steps_of_option a.steps t ≡ on_sum a.steps nothing.steps (of_option t)
    stepped (Some t) = refl
    stepped None = refl

    obeys : (t : Option A) → Given a.may t → (unless P a nothing).may (of_option t)
    obeys (Some t) h = h
    obeys None h = (tt, tt)

    allows : (t : Option A) → (unless P a nothing).may (of_option t) → Given a.may t
    allows (Some t) h = h
    allows None h = tt

    fits_obeys : (t : Option A) → Given a.fits t → (unless P a nothing).fits (of_option t)
    fits_obeys (Some t) h = h
    fits_obeys None h = (tt, tt)

    fits_allows : (t : Option A) → (unless P a nothing).fits (of_option t) → Given a.fits t
    fits_allows (Some t) h = h
    fits_allows None h = tt

    ends_obeys : (t : Option A) (z : Rows M) → Closes a.ends P t z → (unless P a nothing).ends (of_option t) z
    ends_obeys (Some t) z h = h
    ends_obeys None z h = (tt, h)

    ends_allows : (t : Option A) (z : Rows M) → (unless P a nothing).ends (of_option t) z → Closes a.ends P t z
    ends_allows (Some t) z h = h
    ends_allows None z h = h.1

pub times-laws : {M A : Type 0} {a : Rule M A} {fa ga : Set} (P : Set) → Lawful a false fa ga → within fa P ≡ true → apart fa ga ≡ true → Lawful (times P a) true fa (union P ga)
times-laws {a = a} {fa = fa} {ga = ga} P la w d = record {
  spelled = star-spelled (in_set P) P a fa ga la.spelled w d;
  read = star-read (in_set P) P a (λ s. refl) fa ga la.spelled w la.read;
  traced = star-traced (in_set P) P a (λ s. refl) fa ga la.spelled w la.read la.traced;
}

pub wide : {M A : Type 0} {r : Rule M A} {e : Bool} {f g : Set} (f' g' : Set) → Lawful r e f g → within f f' ≡ true → within g g' ≡ true → Lawful r e f' g'
wide {r = r} {e = e} {f = f} {g = g} f' g' l wf wg = record { spelled = wider r e f g f' g' wf wg l.spelled; read = l.read; traced = l.traced }

pub stops-none : {M : Type 0} (z : Rows M) → Stops none z
stops-none [] = tt
stops-none (z ∷ zs) = refl

-- What is noted after a rule all of whose trees can be read.
pub noting-laws : {M A : Type 0} {a : Rule M A} {f g : Set} (note : A → Event M) → Lawful a false f g → ((t : A) → a.may t → a.fits t)
    → ((t : A) (y z : Rows M) → a.ends t y → Alike (a.spell t) y z → a.ends t z) → ((t : A) → 0 < length (a.spell t))
    → ((t : A) (z : Rows M) → a.ends t z → IsPlaced (last_row None (a.spell t)) (note t) z) → ((t : A) → is_too_deep (note t) ≡ false) → Lawful (noting note a) false f g
noting-laws {M} {A} {a = a} {f = f} {g = g} note l whole prompt nonempty placed shallow = record {
  spelled = record { starts = l.spelled.starts; follow = l.spelled.follow; ahead = l.spelled.ahead; once = l.spelled.once };
  read = record {
    some = l.read.some;
    some_may = l.read.some_may;
    within = l.read.within;
    takes = λ xs x h. let k = l.read.takes xs x h in record { parts = k.parts; fits = k.fits; ends = k.ends };
    again = l.read.again;
    viable = viable-of (noting note a) (noting-traced note a f g l.spelled l.read l.traced whole prompt nonempty placed shallow);
    tight = λ d front s rest n h t z more c k j. l.read.tight d front s rest n h t z more (noted-concerned d t c) k j;
    short = l.read.short;
  };
  traced = noting-traced note a f g l.spelled l.read l.traced whole prompt nonempty placed shallow;
}
  where
    noted-concerned : (d : Refusal) (t : A) → Concerns (noting note a) d t → Concerns a d t
    noted-concerned (Unexpected n) t c = tt
    noted-concerned (Deep n) t c = c
