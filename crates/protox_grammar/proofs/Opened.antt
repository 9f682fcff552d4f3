-- A body is read and noted after the keyword of its message or group. The fault of a body that is
-- too deep stands at that keyword.
use Rattle.std.proofs.Common.{◌≡◌, ℕ, Bool, true, false, cond, List, [], ◌∷◌, ◌++◌, Option, Result, Ok, Err, refl, sym, ap, subst, ◌∙◌, append-nil, inl, inr, arith}
use Rattle.protox_fault.specs.Faults.{Span, SpanLiesIn}
use Rattle.protox_lexeme.specs.Shapes.{Shape, Ident, Mark, Rows}
use Rattle.protox_ast.proofs.Lemmas.{Stand, in-order}
use Rattle.protox_ast.specs.Keywords.{Each}
use Rattle.protox_ast.specs.Places.{Place}
use Rattle.protox_ast.specs.Spelling as s
use Rattle.protox_ast.specs.Tree as t
use Rattle.protox_grammar.specs.Bodies.{deep_read, deep_trace}
use Rattle.protox_grammar.specs.Reader as reader
use Rattle.protox_grammar.specs.Reader.{Reader, Refusal, fixed, seq, mapped, is_token, ◌>>=◌}
use Rattle.protox_grammar.specs.Rule.{Rule}
use Rattle.protox_grammar.specs.Steps.{Event, ANode, AKeyword, ADeepBody, AnOpenBrace, ACloseBrace, Token, Note, Steps, plainly, plain_trace, rows_before, then_steps}
use Rattle.protox_grammar.specs.Told.{Notes, deep_notes, told, past, first_behind, keyword_behind, checked, then_notes}
use Rattle.protox_grammar.proofs.Braced.{Braced}
use Rattle.protox_grammar.proofs.Notes.{notes, notes-append, IsBrace, events-braces}
use Rattle.protox_grammar.proofs.Reading.{chosen, err-ok}
use Rattle.protox_grammar.proofs.Shown.{Shown}
use Rattle.protox_grammar.proofs.Shows.{Shows, as_is, seq-shows, right-shows}
use Rattle.protox_grammar.proofs.Takes.{bind_ok, ok_is}
use Rattle.protox_grammar.proofs.Telling.{AllLie, Lie, both-lie, cond-lie, then-lie, Voice, silent, noting, NotesOf, notes_of, told-append, past-append, seq_trace, note_trace, fixed-leaves, plain-tells, then-seen}
use Rattle.protox_grammar.proofs.Tracing.{IsTraced}

-- The notes are those of the steps after a keyword at this place. They lie in the source in which
-- this place and the rows stand.
pub record Opened {A B : Type 0} (read : Reader Place A) (trace : Rows Place → Steps Place) (view : A → B) : Type 0 where
  pub code : Reader Place B
  pub notes : Span → Rows Place → Notes
  pub shows : Shows view read code
  pub says : (first : Option (t.Package Place)) (w : Place) (xs : Rows Place) → told first w (trace xs) xs ≡ notes w.span xs
  pub left : (xs : Rows Place) (x : A × Rows Place) → read xs ≡ Ok x → past (trace xs) xs ≡ x.1
  pub lies : (w : Span) (low high : ℕ) (xs : Rows Place) → SpanLiesIn high w → Stand low high xs → AllLie high (notes w xs)

-- ---- what doesn't change the keyword

abbrev pub Keeps : (Rows Place → Steps Place) → Type 0
Keeps trace = (w : Place) (xs : Rows Place) → keyword_behind w (trace xs) ≡ w

keeps-braces : (w : Place) (l : Steps Place) → Each IsBrace (notes l) → keyword_behind w l ≡ w
keeps-braces w [] h = refl
keeps-braces w (Token r ∷ l) h = keeps-braces w l h
keeps-braces w (Note (AnOpenBrace m) ∷ l) h = keeps-braces w l h.1
keeps-braces w (Note (ACloseBrace m) ∷ l) h = keeps-braces w l h.1
keeps-braces w (Note e ∷ l) h = absurd h.0

each-front : {A : Type 0} (P : A → Type 0) (xs ys : List A) → Each P (xs ++ ys) → Each P xs
each-front P [] ys h = tt
each-front P (x ∷ xs) ys h = (h.0, each-front P xs ys h.1)

-- A rule whose trees note nothing but braces of aggregates.
module _ {A : Type 0} (r : Rule Place A) (traced : IsTraced r) (bs : A → List (Place × Place)) (braced : (x : A) → Braced (r.steps x) (bs x)) where
  all-braces : (x : A) → Each IsBrace (notes (r.steps x))
  all-braces x = subst (Each IsBrace) (sym (braced x)) (events-braces (bs x))

  braces-at : (xs : Rows Place) (res : Result (A × Rows Place) Refusal) → r.read xs ≡ res → Each IsBrace (notes (r.trace xs))
  braces-at xs (Ok x) e = subst (λ l. Each IsBrace (notes l)) (sym (traced.ok xs x e)) (all-braces x.0)
  braces-at xs (Err d) e =
      let v = traced.halts xs d e in
      each-front IsBrace (notes (r.trace xs)) (notes v.later) (subst (Each IsBrace) (ap notes v.goes_on ∙ notes-append (r.trace xs) v.later) (all-braces v.tree))

  pub keeps-of : Keeps r.trace
  keeps-of w xs = keeps-braces w (r.trace xs) (braces-at xs (r.read xs) refl)

keeps-plainly : (w : Place) (rs : Rows Place) → keyword_behind w (plainly rs) ≡ w
keeps-plainly w [] = refl
keeps-plainly w (r ∷ rs) = keeps-plainly w rs

pub plain-keeps : {A : Type 0} (a : Reader Place A) → Keeps (plain_trace a)
plain-keeps a w xs = keeps-plainly w (rows_before xs (a xs))

keyword-append : (w : Place) (l k : Steps Place) → keyword_behind w (l ++ k) ≡ keyword_behind (keyword_behind w l) k
keyword-append w [] k = refl
keyword-append w (Token r ∷ l) k = keyword-append w l k
keyword-append w (Note (ANode x) ∷ l) k = keyword-append w l k
keyword-append w (Note (AKeyword m) ∷ l) k = keyword-append m l k
keyword-append w (Note e ∷ l) k = keyword-append _ l k

-- A checked node, after what doesn't change the keyword.
pub node-keeps : {A : Type 0} (a : Reader Place A) (s : Rows Place → Steps Place) (node : A → Event Place) → ((x : A) (w : Place) → keyword_behind w (Note (node x) ∷ []) ≡ w) → Keeps s → Keeps (note_trace s a node)
node-keeps {A = A} a s node e h w xs = keyword-append w (s xs) (then_steps (a xs) (λ x. Note (node x.0) ∷ [])) ∙ ap (λ v. keyword_behind v (then_steps (a xs) (λ x. Note (node x.0) ∷ []))) (h w xs) ∙ last (a xs)
  where
    last : (r : Result (A × Rows Place) Refusal) → keyword_behind w (then_steps r (λ x. Note (node x.0) ∷ [])) ≡ w
    last (Ok x) = e x.0 w
    last (Err d) = refl

-- ---- what stands before a body, and its keyword

abbrev pub before_notes : {C : Type 0} (v : Voice) → NotesOf v → Reader Place C → (Rows Place → Notes) → Rows Place → Notes
before_notes silent f c g xs = then_notes g (c xs)
before_notes noting f c g xs = f xs ++ then_notes g (c xs)

before-is : {C : Type 0} (v : Voice) (f : NotesOf v) (c : Reader Place C) (g : Rows Place → Notes) (xs : Rows Place) → notes_of v f xs ++ then_notes g (c xs) ≡ before_notes v f c g xs
before-is silent f c g xs = refl
before-is noting f c g xs = refl

told-body : (b : Rows Place → Steps Place) (g : Span → Rows Place → Notes) → ((first : Option (t.Package Place)) (w : Place) (xs : Rows Place) → told first w (b xs) xs ≡ g w.span xs)
    → (first : Option (t.Package Place)) (w v : Place) → v ≡ w → (xs left : Rows Place) → left ≡ xs → told first v (b xs) left ≡ g w.span xs
told-body b g h first w v e xs left f = (λ i. told first (e i) (b xs) (f i)) ∙ h first w xs

module _ {A B C D : Type 0} {v : Voice} {a : Reader Place A} {b : Reader Place B} {s u : Rows Place → Steps Place} {f : A → C} {g : B → D} where
  pub before-says : (x : Shown v a s f) → Keeps s → (y : Opened b u g) → (first : Option (t.Package Place)) (w : Place) (xs : Rows Place)
      → told first w (seq_trace s a u xs) xs ≡ before_notes v x.notes x.code (y.notes w.span) xs
  before-says x h y first w xs =
      told-append first w (s xs) (then_steps (a xs) (λ z. u z.1)) xs
      ∙ ap (λ n. n ++ told (first_behind first (s xs)) (keyword_behind w (s xs)) (then_steps (a xs) (λ z. u z.1)) (past (s xs) xs)) (x.tells.says first w xs)
      ∙ ap (λ n. notes_of v x.notes xs ++ n) (rest (a xs) refl ∙ then-seen f a x.code x.shows (y.notes w.span) xs)
      ∙ before-is v x.notes x.code (y.notes w.span) xs
    where
      rest : (r : Result (A × Rows Place) Refusal) → a xs ≡ r → told (first_behind first (s xs)) (keyword_behind w (s xs)) (then_steps r (λ z. u z.1)) (past (s xs) xs) ≡ then_notes (y.notes w.span) r
      rest (Ok z) q = told-body u y.notes y.says (first_behind first (s xs)) w (keyword_behind w (s xs)) (h w xs) z.1 (past (s xs) xs) (x.tells.left xs z q)
      rest (Err d) q = refl

  pub before-left : (x : Shown v a s f) (y : Opened b u g) (xs : Rows Place) (z : (A × B) × Rows Place) → seq a b xs ≡ Ok z → past (seq_trace s a u xs) xs ≡ z.1
  before-left x y xs z e =
      let p = bind_ok (a xs) (λ i. b i.1 >>= λ j. Ok ((i.0, j.0), j.1)) z e in
      let q = bind_ok (b p.0.1) (λ j. Ok ((p.0.0, j.0), j.1)) z p.2 in
      let same : ((p.0.0, q.0.0), q.0.1) ≡ z = ok_is ((p.0.0, q.0.0), q.0.1) z q.2 in
      past-append (s xs) (then_steps (a xs) (λ i. u i.1)) xs ∙ ap (λ r. past (then_steps r (λ i. u i.1)) (past (s xs) xs)) p.1
      ∙ ap (past (u p.0.1)) (x.tells.left xs p.0 p.1) ∙ y.left p.0.1 q.0 q.1 ∙ ap (λ i. i.1) same

  pub before-lie : (x : Shown v a s f) (y : Opened b u g) (w : Span) (low high : ℕ) (xs : Rows Place) → SpanLiesIn high w → Stand low high xs → AllLie high (before_notes v x.notes x.code (y.notes w) xs)
  before-lie x y w low high xs e h =
      subst (AllLie high) (before-is v x.notes x.code (y.notes w) xs) (both-lie high (notes_of v x.notes xs) (then_notes (y.notes w) (x.code xs)) (x.tells.lies low high xs h)
      (subst (AllLie high) (then-seen f a x.code x.shows (y.notes w) xs) (then-lie v a s x.notes x.tells (y.notes w) high (λ m ys k. y.lies w m high ys e k) low xs h)))

  -- what stands between the keyword and the body
  abbrev pub before : Shown v a s f → Keeps s → Opened b u g → Opened {B = C × D} (seq a b) (seq_trace s a u) (λ i. (f i.0, g i.1))
  before x h y = record {
    code = seq x.code y.code;
    notes = λ w. before_notes v x.notes x.code (y.notes w);
    shows = seq-shows x.shows y.shows;
    says = before-says x h y;
    left = before-left x y;
    lies = before-lie x y;
  }

-- What is read, with another view.
abbrev pub body_seen : {A B C : Type 0} {a : Reader Place A} {s : Rows Place → Steps Place} {f : A → B} (to : B → C) → Opened a s f → Opened a s (λ x. to (f x))
body_seen to x = record { code = mapped to x.code; notes = x.notes; shows = right-shows to x.shows; says = x.says; left = x.left; lies = x.lies }

-- A row that stands in a source lies in it, and the rows after it stand there too.
pub fixed-stands : (word : Shape) (low high : ℕ) (xs : Rows Place) (x : Place × Rows Place) → fixed word xs ≡ Ok x → Stand low high xs → SpanLiesIn high x.0.span × Stand x.0.span.end high x.1
unfolding fixed
fixed-stands word low high [] x e h = absurd (err-ok x _ e)
fixed-stands word low high (r ∷ rs) x e h = elim (chosen (is_token word r.shape) (Ok (r.at, rs)) (reader.refuse (r ∷ rs)) (Ok x) e) [
  | inl q ↦ subst (λ (v : Place × Rows Place). SpanLiesIn high v.0.span × Stand v.0.span.end high v.1) (ok_is (r.at, rs) x q.1) ((omega (arith, h.1), in-order r.at.span.end high rs h.2), h.2)
  | inr q ↦ absurd (err-ok x _ q.1)
]

abbrev pub word_trace : List ℕ → Rows Place → Steps Place
word_trace word = note_trace (plain_trace (fixed (Ident word))) (fixed (Ident word)) AKeyword

module _ {B D : Type 0} {b : Reader Place B} {u : Rows Place → Steps Place} {g : B → D} (word : List ℕ) (y : Opened b u g) where
  abbrev word_notes : Rows Place → Notes
  word_notes xs = checked (λ m rest. y.notes m.span rest) (fixed (Ident word) xs)

  word-keyword : (w m : Place) (l : Steps Place) → keyword_behind w (l ++ (Note (AKeyword m) ∷ [])) ≡ m
  word-keyword w m l = keyword-append w l (Note (AKeyword m) ∷ [])

  word-past : (xs : Rows Place) (z : Place × Rows Place) → fixed (Ident word) xs ≡ Ok z → past (word_trace word xs) xs ≡ z.1
  word-past xs z e =
      past-append (plain_trace (fixed (Ident word)) xs) (then_steps (fixed (Ident word) xs) (λ i. Note (AKeyword i.0) ∷ [])) xs
      ∙ ap (λ r. past (then_steps r (λ i. Note (AKeyword i.0) ∷ [])) (past (plain_trace (fixed (Ident word)) xs) xs)) e
      ∙ (plain-tells (fixed (Ident word)) (fixed-leaves (Ident word))).left xs z e

  word-none : (first : Option (t.Package Place)) (w : Place) (xs : Rows Place) (r : Result (Place × Rows Place) Refusal)
      → told first w (plain_trace (fixed (Ident word)) xs ++ then_steps r (λ i. Note (AKeyword i.0) ∷ [])) xs ≡ []
  word-none first w xs r =
      told-append first w (plain_trace (fixed (Ident word)) xs) (then_steps r (λ i. Note (AKeyword i.0) ∷ [])) xs
      ∙ ap (λ n. n ++ told (first_behind first (plain_trace (fixed (Ident word)) xs)) (keyword_behind w (plain_trace (fixed (Ident word)) xs)) (then_steps r (λ i. Note (AKeyword i.0) ∷ [])) (past (plain_trace (fixed (Ident word)) xs) xs))
      ((plain-tells (fixed (Ident word)) (fixed-leaves (Ident word))).says first w xs)
      ∙ none r
    where
      none : (r : Result (Place × Rows Place) Refusal) → told (first_behind first (plain_trace (fixed (Ident word)) xs)) (keyword_behind w (plain_trace (fixed (Ident word)) xs)) (then_steps r (λ i. Note (AKeyword i.0) ∷ [])) (past (plain_trace (fixed (Ident word)) xs) xs) ≡ []
      none (Ok z) = refl
      none (Err d) = refl

  pub word-says : (first : Option (t.Package Place)) (w : Place) (xs : Rows Place) → told first w (seq_trace (word_trace word) (fixed (Ident word)) u xs) xs ≡ word_notes xs
  word-says first w xs =
      told-append first w (word_trace word xs) (then_steps (fixed (Ident word) xs) (λ z. u z.1)) xs
      ∙ ap (λ n. n ++ told (first_behind first (word_trace word xs)) (keyword_behind w (word_trace word xs)) (then_steps (fixed (Ident word) xs) (λ z. u z.1)) (past (word_trace word xs) xs)) (word-none first w xs (fixed (Ident word) xs))
      ∙ rest (fixed (Ident word) xs) refl
    where
      rest : (r : Result (Place × Rows Place) Refusal) → fixed (Ident word) xs ≡ r
          → told (first_behind first (word_trace word xs)) (keyword_behind w (word_trace word xs)) (then_steps r (λ z. u z.1)) (past (word_trace word xs) xs) ≡ checked (λ m rest. y.notes m.span rest) r
      rest (Ok z) q = told-body u y.notes y.says (first_behind first (word_trace word xs)) z.0 (keyword_behind w (word_trace word xs))
          (ap (λ v. keyword_behind w (plain_trace (fixed (Ident word)) xs ++ then_steps v (λ i. Note (AKeyword i.0) ∷ []))) q ∙ word-keyword w z.0 (plain_trace (fixed (Ident word)) xs)) z.1 (past (word_trace word xs) xs) (word-past xs z q)
      rest (Err d) q = refl

  pub word-left : (xs : Rows Place) (z : (Place × B) × Rows Place) → seq (fixed (Ident word)) b xs ≡ Ok z → past (seq_trace (word_trace word) (fixed (Ident word)) u xs) xs ≡ z.1
  word-left xs z e =
      let p = bind_ok (fixed (Ident word) xs) (λ i. b i.1 >>= λ j. Ok ((i.0, j.0), j.1)) z e in
      let q = bind_ok (b p.0.1) (λ j. Ok ((p.0.0, j.0), j.1)) z p.2 in
      let same : ((p.0.0, q.0.0), q.0.1) ≡ z = ok_is ((p.0.0, q.0.0), q.0.1) z q.2 in
      past-append (word_trace word xs) (then_steps (fixed (Ident word) xs) (λ i. u i.1)) xs ∙ ap (λ r. past (then_steps r (λ i. u i.1)) (past (word_trace word xs) xs)) p.1
      ∙ ap (past (u p.0.1)) (word-past xs p.0 p.1) ∙ y.left p.0.1 q.0 q.1 ∙ ap (λ i. i.1) same

  pub word-lie : Lie word_notes
  word-lie low high xs h = at (fixed (Ident word) xs) refl
    where
      at : (r : Result (Place × Rows Place) Refusal) → fixed (Ident word) xs ≡ r → AllLie high (checked (λ m rest. y.notes m.span rest) r)
      at (Ok z) q = let p = fixed-stands (Ident word) low high xs z q h in y.lies z.0.span z.0.span.end high z.1 p.0 p.1
      at (Err d) q = tt

  -- the keyword, and what it opens
  abbrev pub opened_by : Shown {B = Place × D} noting (seq (fixed (Ident word)) b) (seq_trace (word_trace word) (fixed (Ident word)) u) (λ i. (i.0, g i.1))
  opened_by = record {
    code = seq (fixed (Ident word)) y.code;
    notes = word_notes;
    shows = seq-shows (as_is (fixed (Ident word))) y.shows;
    tells = record { says = word-says; left = word-left; lies = word-lie };
  }

-- ---- bodies

-- A body whose notes don't depend on its keyword.
abbrev pub opened : {A B : Type 0} {a : Reader Place A} {s : Rows Place → Steps Place} {f : A → B} → Shown noting a s f → Opened a s f
opened x = record { code = x.code; notes = λ w. x.notes; shows = x.shows; says = x.tells.says; left = x.tells.left; lies = λ w low high xs e h. x.tells.lies low high xs h }

-- A body that is too deep is not read.
abbrev pub sunk_notes : Span → Rows Place → Notes
sunk_notes w [] = []
sunk_notes w (r ∷ rs) = cond (is_token (Mark s.open_brace) r.shape) (deep_notes w rs) []

pub sunk-says : (first : Option (t.Package Place)) (w : Place) (xs : Rows Place) → told first w (deep_trace ADeepBody xs) xs ≡ sunk_notes w.span xs
unfolding deep_trace
sunk-says first w [] = refl
sunk-says first w (r ∷ rs) = at (is_token (Mark s.open_brace) r.shape)
  where
    at : (b : Bool) → told first w (cond b (Token r ∷ (Note (ADeepBody r.at) ∷ [])) []) (r ∷ rs) ≡ cond b (deep_notes w.span rs) []
    at true = append-nil (deep_notes w.span rs)
    at false = refl

pub sunk-left : (xs : Rows Place) (x : t.Mbody Place × Rows Place) → deep_read xs ≡ Ok x → past (deep_trace ADeepBody xs) xs ≡ x.1
unfolding deep_read reader.too_deep
sunk-left [] x e = absurd (err-ok x _ e)
sunk-left (r ∷ rs) x e = elim (chosen (is_token (Mark s.open_brace) r.shape) (Err (reader.Deep _)) (reader.refuse (r ∷ rs)) (Ok x) e) [
  | inl h ↦ absurd (err-ok x _ h.1)
  | inr h ↦ absurd (err-ok x _ h.1)
]

pub sunk-lie : (w : Span) (low high : ℕ) (xs : Rows Place) → SpanLiesIn high w → Stand low high xs → AllLie high (sunk_notes w xs)
sunk-lie w low high [] e h = tt
sunk-lie w low high (r ∷ rs) e h =
    cond-lie high (is_token (Mark s.open_brace) r.shape) (deep_notes w rs) []
    (e, tt) tt

abbrev pub sunk : {B : Type 0} (view : t.Mbody Place → B) → Opened deep_read (deep_trace ADeepBody) view
sunk view = record { code = mapped view deep_read; notes = sunk_notes; shows = right-shows view (as_is deep_read); says = sunk-says; left = sunk-left; lies = sunk-lie }
