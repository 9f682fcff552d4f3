-- The notes of a reader's steps, as the code that reads makes them: each part notes its own, one
-- after another.
use Rattle.std.proofs.Common.{◌≡◌, ◌<◌, ℕ, zero, suc, ◌-◌, Bool, true, false, cond, List, [], ◌∷◌, ◌++◌, length, take, Option, Some, None, Result, Ok, Err, refl, sym, ap, subst, ◌∙◌, append_assoc, append-nil, arith, inl, inr}
use Rattle.std.proofs.lemmas.List.{length-append}
use Rattle.protox_fault.specs.Faults.{LiesIn}
use Rattle.protox_lexeme.specs.Shapes.{Shape, Row, Rows}
use Rattle.protox_ast.proofs.Lemmas.{Stand}
use Rattle.protox_ast.specs.Keywords.{Each}
use Rattle.protox_ast.specs.Places.{Place}
use Rattle.protox_ast.specs.Tree as t
use Rattle.protox_ast.specs.CheckedNodes.{APackageAgain, ATooDeep}
use Rattle.protox_grammar.specs.Reader.{Reader, Refusal, head_in, ◌>>=◌, fixed, leaf, is_token, seq, mapped, star, star_at, Consumes}
use Rattle.protox_grammar.specs.Reader as reader
use Rattle.protox_grammar.specs.Steps.{Event, ANode, APackage, AKeyword, ADeepBody, ADeeperBody, AnOpenBrace, ACloseBrace, Token, Note, Steps, plainly, then_steps, rows_before, plain_trace, star_trace}
use Rattle.protox_grammar.specs.Told.{Notes, behind, node_notes, brace_notes, told, past, first_behind, keyword_behind, checked, then_notes}
use Rattle.protox_grammar.specs.declared.note.Note as note_type
use Rattle.protox_grammar.specs.declared.note.Noted.{Noted}
use Rattle.protox_grammar.specs.declared.note.Noted.TheVariants.{Fault, TextFormat}
use Rattle.protox_grammar.proofs.Takes.{bind_ok, ok_is}
use Rattle.protox_grammar.proofs.Reading.{chosen, err-ok}
use Rattle.protox_grammar.proofs.StepLists.{take-front}
use Rattle.protox_grammar.proofs.Shows.{Shows}

-- ---- steps one after another

pub told-append : (first : Option (t.Package Place)) (w : Place) (l k : Steps Place) (xs : Rows Place)
    → told first w (l ++ k) xs ≡ told first w l xs ++ told (first_behind first l) (keyword_behind w l) k (past l xs)
told-append first w [] k xs = refl
told-append first w (Token r ∷ l) k xs = told-append first w l k (behind xs)
told-append first w (Note (ANode x) ∷ l) k xs = ap (λ v. node_notes x xs ++ v) (told-append first w l k xs) ∙ sym (append_assoc (node_notes x xs) _ _)
told-append None w (Note (APackage x) ∷ l) k xs = told-append (Some x) w l k xs
told-append (Some f) w (Note (APackage x) ∷ l) k xs =
    ap (λ v. node_notes (APackageAgain f x) xs ++ v) (told-append (Some f) w l k xs)
told-append first w (Note (AKeyword m) ∷ l) k xs = told-append first m l k xs
told-append first w (Note (ADeepBody m) ∷ l) k xs = ap (λ v. node_notes (ATooDeep w m) xs ++ v) (told-append first w l k xs)
told-append first w (Note (ADeeperBody m) ∷ l) k xs = told-append first w l k xs
told-append first w (Note (AnOpenBrace m) ∷ l) k xs = ap (λ v. brace_notes true xs ++ v) (told-append first w l k xs)
told-append first w (Note (ACloseBrace m) ∷ l) k xs = ap (λ v. brace_notes false xs ++ v) (told-append first w l k xs)

pub past-append : (l k : Steps Place) (xs : Rows Place) → past (l ++ k) xs ≡ past k (past l xs)
past-append [] k xs = refl
past-append (Token r ∷ l) k xs = past-append l k (behind xs)
past-append (Note e ∷ l) k xs = past-append l k xs

pub told-plainly : (first : Option (t.Package Place)) (w : Place) (rs xs : Rows Place) → told first w (plainly rs) xs ≡ []
told-plainly first w [] xs = refl
told-plainly first w (r ∷ rs) xs = told-plainly first w rs (behind xs)

past-plainly : (front rest : Rows Place) → past (plainly front) (front ++ rest) ≡ rest
past-plainly [] rest = refl
past-plainly (r ∷ rs) rest = past-plainly rs rest

-- ---- where the notes lie

-- A fault that is noted lies in a source of `size` bytes.
abbrev pub NotedLies : ℕ → Noted → Type 0
NotedLies high (Fault f) = LiesIn high f
NotedLies high (TextFormat on) = Unit {0}

abbrev pub AllLie : ℕ → Notes → Type 0
AllLie high ns = Each (λ (n : note_type.Note). NotedLies high n.noted) ns

-- The notes of rows that stand in a source lie in it.
abbrev pub Lie : (Rows Place → Notes) → Type 0
Lie f = (low high : ℕ) (xs : Rows Place) → Stand low high xs → AllLie high (f xs)

pub both-lie : (high : ℕ) (xs ys : Notes) → AllLie high xs → AllLie high ys → AllLie high (xs ++ ys)
both-lie high [] ys h k = k
both-lie high (x ∷ xs) ys h k = (h.0, both-lie high xs ys h.1 k)

pub cond-lie : (high : ℕ) (b : Bool) (xs ys : Notes) → AllLie high xs → AllLie high ys → AllLie high (cond b xs ys)
cond-lie high true xs ys h k = h
cond-lie high false xs ys h k = k

-- Rows after others stand where the others do.
pub past-stand : (l : Steps Place) (low high : ℕ) (xs : Rows Place) → Stand low high xs → (m : ℕ) × Stand m high (past l xs)
past-stand [] low high xs h = (low, h)
past-stand (Token r ∷ l) low high [] h = past-stand l low high [] h
past-stand (Token r ∷ l) low high (x ∷ xs) h = past-stand l x.at.span.end high xs h.2
past-stand (Note e ∷ l) low high xs h = past-stand l low high xs h

-- ---- whether a rule notes anything

pub data Voice : Type 0 where
  silent : Voice
  noting : Voice

-- What a rule notes of the rows that it reads.
abbrev pub NotesOf : Voice → Type 0
NotesOf silent = Unit {0}
NotesOf noting = Rows Place → Notes

abbrev pub notes_of : (v : Voice) → NotesOf v → Rows Place → Notes
notes_of silent u xs = []
notes_of noting f xs = f xs

-- Whether one of two rules notes anything.
abbrev pub either_of : Voice → Voice → Voice
either_of silent v = v
either_of noting v = noting

-- The notes are those of the steps, whatever was noted before. The steps go on to the rows that are
-- left. The notes lie in the source in which the rows stand.
pub record Tells {A : Type 0} (v : Voice) (read : Reader Place A) (trace : Rows Place → Steps Place) (notes : NotesOf v) : Type 0 where
  pub says : (first : Option (t.Package Place)) (w : Place) (xs : Rows Place) → told first w (trace xs) xs ≡ notes_of v notes xs
  pub left : (xs : Rows Place) (x : A × Rows Place) → read xs ≡ Ok x → past (trace xs) xs ≡ x.1
  pub lies : Lie (notes_of v notes)

-- ---- rules without notes

-- The rows that are left are the last of the rows that were there.
abbrev pub Leaves : {A : Type 0} → Reader Place A → Type 0
Leaves {A} read = (xs : Rows Place) (x : A × Rows Place) → read xs ≡ Ok x → (front : Rows Place) × (xs ≡ front ++ x.1)

left-plainly : {A : Type 0} (xs front : Rows Place) (x : A × Rows Place) → xs ≡ front ++ x.1 → past (plainly (rows_before xs (Ok x))) xs ≡ x.1
left-plainly xs front x e =
    let count : length xs - length x.1 ≡ length front = omega (arith, ap length e, length-append front x.1) in
    let same : take (length xs - length x.1) xs ≡ front = ap (take (length xs - length x.1)) e ∙ take-front (length xs - length x.1) front x.1 count in
    ap (λ v. past (plainly v) xs) same ∙ ap (past (plainly front)) e ∙ past-plainly front x.1

pub plain-tells : {A : Type 0} (read : Reader Place A) → Leaves read → Tells silent read (plain_trace read) tt
plain-tells read h = record {
  says = λ first w xs. told-plainly first w (rows_before xs (read xs)) xs;
  left = λ xs x e. let k = h xs x e in ap (λ v. past (plainly (rows_before xs v)) xs) e ∙ left-plainly xs k.0 x k.1;
  lies = λ low high xs h. tt;
}

abbrev read_as : {A : Type 0} → A × Rows Place → Result (A × Rows Place) Refusal
read_as x = Ok x

row-same : {A : Type 0} (r : Row Place) (rs : Rows Place) (y : A) (x : A × Rows Place) → read_as (y, rs) ≡ read_as x → r ∷ rs ≡ (r ∷ []) ++ x.1
row-same r rs y x e = ap (λ v. r ∷ v.1) (ok_is (y, rs) x e)

pub fixed-leaves : (w : Shape) → Leaves (fixed w)
unfolding fixed
fixed-leaves w [] x e = absurd (err-ok x _ e)
fixed-leaves w (r ∷ rs) x e = elim (chosen (is_token w r.shape) (Ok (r.at, rs)) (reader.refuse (r ∷ rs)) (Ok x) e) [
  | inl h ↦ (r ∷ [], row-same r rs r.at x h.1)
  | inr h ↦ absurd (err-ok x _ h.1)
]

seen-leaves : {X : Type 0} (r : Row Place) (rs : Rows Place) (o : Option X) (x : (X × Place) × Rows Place) → reader.seen r rs o ≡ Ok x → (front : Rows Place) × (r ∷ rs ≡ front ++ x.1)
seen-leaves r rs (Some v) x e = (r ∷ [], row-same r rs (v, r.at) x e)
seen-leaves r rs None x e = absurd (err-ok x _ e)

pub leaf-leaves : {X : Type 0} (see : Shape → Option X) → Leaves (leaf see)
unfolding leaf
leaf-leaves see [] x e = absurd (err-ok x _ e)
leaf-leaves see (r ∷ rs) x e = seen-leaves r rs (see r.shape) x e

-- ---- one after another

abbrev pub seq_trace : {A : Type 0} → (Rows Place → Steps Place) → Reader Place A → (Rows Place → Steps Place) → Rows Place → Steps Place
seq_trace s a t xs = s xs ++ then_steps (a xs) (λ x. t x.1)

-- The notes of the first, and then those of the second, if the first reads as the code does.
abbrev pub both_notes : {C : Type 0} (j k : Voice) → NotesOf j → Reader Place C → NotesOf k → NotesOf (either_of j k)
both_notes silent silent f c g = tt
both_notes silent noting f c g = λ xs. then_notes g (c xs)
both_notes noting silent f c g = f
both_notes noting noting f c g = λ xs. f xs ++ then_notes g (c xs)

silent-then : {A : Type 0} (r : Result (A × Rows Place) Refusal) → then_notes (λ xs. []) r ≡ []
silent-then (Ok x) = refl
silent-then (Err e) = refl

pub both-is : {C : Type 0} (j k : Voice) (f : NotesOf j) (c : Reader Place C) (g : NotesOf k) (xs : Rows Place)
    → notes_of j f xs ++ then_notes (notes_of k g) (c xs) ≡ notes_of (either_of j k) (both_notes j k f c g) xs
both-is silent silent f c g xs = silent-then (c xs)
both-is silent noting f c g xs = refl
both-is noting silent f c g xs = ap (λ v. f xs ++ v) (silent-then (c xs)) ∙ append-nil (f xs)
both-is noting noting f c g xs = refl

then-same : {A C : Type 0} (view : A → C) (g : Rows Place → Notes) (r : Result (A × Rows Place) Refusal) → then_notes g (r >>= λ x. Ok (view x.0, x.1)) ≡ then_notes g r
then-same view g (Ok x) = refl
then-same view g (Err e) = refl

-- What is read gets another view, and the same rows are left.
pub then-seen : {A C : Type 0} (view : A → C) (a : Reader Place A) (c : Reader Place C) → Shows view a c → (g : Rows Place → Notes) (xs : Rows Place) → then_notes g (a xs) ≡ then_notes g (c xs)
then-seen view a c h g xs = sym (ap (then_notes g) (h.same xs) ∙ then-same view g (a xs))

-- The notes of what comes after a reading.
pub told-then : {A : Type 0} (v : Voice) (read : Reader Place A) (trace : Rows Place → Steps Place) (notes : NotesOf v) → Tells v read trace notes
    → (k : A × Rows Place → Steps Place) (g : A × Rows Place → Notes)
    → ((first : Option (t.Package Place)) (w : Place) (x : A × Rows Place) → told first w (k x) x.1 ≡ g x)
    → (first : Option (t.Package Place)) (w : Place) (xs : Rows Place) → told first w (trace xs ++ then_steps (read xs) k) xs ≡ notes_of v notes xs ++ checked (λ x rest. g (x, rest)) (read xs)
told-then {A = A} v read trace notes h k g e first w xs =
    told-append first w (trace xs) (then_steps (read xs) k) xs
    ∙ ap (λ u. u ++ told (first_behind first (trace xs)) (keyword_behind w (trace xs)) (then_steps (read xs) k) (past (trace xs) xs)) (h.says first w xs)
    ∙ ap (λ u. notes_of v notes xs ++ u) (rest (read xs) refl)
  where
    rest : (r : Result (A × Rows Place) Refusal) → read xs ≡ r → told (first_behind first (trace xs)) (keyword_behind w (trace xs)) (then_steps r k) (past (trace xs) xs) ≡ checked (λ x rest. g (x, rest)) r
    rest (Ok x) q = ap (told (first_behind first (trace xs)) (keyword_behind w (trace xs)) (k x)) (h.left xs x q) ∙ e (first_behind first (trace xs)) (keyword_behind w (trace xs)) x
    rest (Err d) q = refl

past-then : {A : Type 0} (v : Voice) (read : Reader Place A) (trace : Rows Place → Steps Place) (notes : NotesOf v) → Tells v read trace notes
    → (k : A × Rows Place → Steps Place) (xs : Rows Place) (x : A × Rows Place) (left : Rows Place) → read xs ≡ Ok x → past (k x) x.1 ≡ left → past (trace xs ++ then_steps (read xs) k) xs ≡ left
past-then v read trace notes h k xs x left e f =
    past-append (trace xs) (then_steps (read xs) k) xs ∙ ap (λ r. past (then_steps r k) (past (trace xs) xs)) e ∙ ap (past (k x)) (h.left xs x e) ∙ f

checked-then : {A : Type 0} (g : Rows Place → Notes) (r : Result (A × Rows Place) Refusal) → checked (λ x rest. g rest) r ≡ then_notes g r
checked-then g (Ok x) = refl
checked-then g (Err e) = refl

-- What is noted after a reading.
pub after-lie : {A : Type 0} (v : Voice) (a : Reader Place A) (s : Rows Place → Steps Place) (f : NotesOf v) → Tells v a s f → (g : A → Rows Place → Notes) (low high : ℕ) (xs : Rows Place)
    → ((x : A × Rows Place) → a xs ≡ Ok x → (m : ℕ) → Stand m high x.1 → AllLie high (g x.0 x.1)) → Stand low high xs → AllLie high (checked g (a xs))
after-lie {A = A} v a s f h g low high xs e stands = at (a xs) refl
  where
    at : (r : Result (A × Rows Place) Refusal) → a xs ≡ r → AllLie high (checked g r)
    at (Ok x) q = let p = past-stand (s xs) low high xs stands in e x q p.0 (subst (Stand p.0 high) (h.left xs x q) p.1)
    at (Err d) q = tt

pub then-lie : {A : Type 0} (v : Voice) (a : Reader Place A) (s : Rows Place → Steps Place) (f : NotesOf v) → Tells v a s f → (g : Rows Place → Notes) (high : ℕ)
    → ((low : ℕ) (xs : Rows Place) → Stand low high xs → AllLie high (g xs)) → (low : ℕ) (xs : Rows Place) → Stand low high xs → AllLie high (then_notes g (a xs))
then-lie v a s f h g high l low xs stands = subst (AllLie high) (checked-then g (a xs)) (after-lie v a s f h (λ x rest. g rest) low high xs (λ x q m k. l m x.1 k) stands)

module _ {A B C : Type 0} (j k : Voice) (a : Reader Place A) (b : Reader Place B) (s u : Rows Place → Steps Place) (f : NotesOf j) (g : NotesOf k) (view : A → C) (c : Reader Place C) where
  pub seq-tells : Shows view a c → Tells j a s f → Tells k b u g → Tells (either_of j k) (seq a b) (seq_trace s a u) (both_notes j k f c g)
  seq-tells shows h l = record {
    says = λ first w xs.
        told-then j a s f h (λ x. u x.1) (λ x. notes_of k g x.1) (λ i v x. l.says i v x.1) first w xs
        ∙ ap (λ v. notes_of j f xs ++ v) (checked-then (notes_of k g) (a xs) ∙ then-seen view a c shows (notes_of k g) xs)
        ∙ both-is j k f c g xs;
    left = λ xs x e.
        let p = bind_ok (a xs) (λ v. b v.1 >>= λ y. Ok ((v.0, y.0), y.1)) x e in
        let q = bind_ok (b p.0.1) (λ y. Ok ((p.0.0, y.0), y.1)) x p.2 in
        let same : ((p.0.0, q.0.0), q.0.1) ≡ x = ok_is ((p.0.0, q.0.0), q.0.1) x q.2 in
        past-then j a s f h (λ v. u v.1) xs p.0 q.0.1 p.1 (l.left p.0.1 q.0 q.1) ∙ ap (λ v. v.1) same;
    lies = λ low high xs e.
        subst (AllLie high) (both-is j k f c g xs) (both-lie high (notes_of j f xs) (then_notes (notes_of k g) (c xs)) (h.lies low high xs e)
        (subst (AllLie high) (then-seen view a c shows (notes_of k g) xs) (then-lie j a s f h (notes_of k g) high (λ m ys i. l.lies m high ys i) low xs e)));
  }

-- ---- under another name

pub mapped-tells : {A B : Type 0} (v : Voice) (a : Reader Place A) (s : Rows Place → Steps Place) (f : NotesOf v) (to : A → B) → Tells v a s f → Tells v (mapped to a) s f
mapped-tells v a s f to h = record {
  says = h.says;
  left = λ xs x e.
      let p = bind_ok (a xs) (λ y. Ok (to y.0, y.1)) x e in
      let same : (to p.0.0, p.0.1) ≡ x = ok_is (to p.0.0, p.0.1) x p.2 in
      h.left xs p.0 p.1 ∙ ap (λ y. y.1) same;
  lies = h.lies;
}

-- ---- one of two

abbrev pub choice_trace : (Shape → Bool) → (Rows Place → Steps Place) → (Rows Place → Steps Place) → Rows Place → Steps Place
choice_trace p s u xs = cond (head_in p xs) (s xs) (u xs)

abbrev pub choice_notes : (Shape → Bool) → (j k : Voice) → NotesOf j → NotesOf k → NotesOf (either_of j k)
choice_notes p silent silent f g = tt
choice_notes p silent noting f g = λ xs. cond (head_in p xs) [] (g xs)
choice_notes p noting silent f g = λ xs. cond (head_in p xs) (f xs) []
choice_notes p noting noting f g = λ xs. cond (head_in p xs) (f xs) (g xs)

cond-none : (b : Bool) → cond {A = Notes} b [] [] ≡ []
cond-none true = refl
cond-none false = refl

choice-is : (p : Shape → Bool) (j k : Voice) (f : NotesOf j) (g : NotesOf k) (xs : Rows Place) → cond (head_in p xs) (notes_of j f xs) (notes_of k g xs) ≡ notes_of (either_of j k) (choice_notes p j k f g) xs
choice-is p silent silent f g xs = cond-none (head_in p xs)
choice-is p silent noting f g xs = refl
choice-is p noting silent f g xs = refl
choice-is p noting noting f g xs = refl

split-told : (b : Bool) (l k : Steps Place) (xs : Rows Place) (first : Option (t.Package Place)) (w : Place) (ls ks : Notes) → told first w l xs ≡ ls → told first w k xs ≡ ks → told first w (cond b l k) xs ≡ cond b ls ks
split-told true l k xs first w ls ks e f = e
split-told false l k xs first w ls ks e f = f

module _ {A B C : Type 0} (p : Shape → Bool) (j k : Voice) (a : Reader Place A) (b : Reader Place B) (s u : Rows Place → Steps Place) (f : NotesOf j) (g : NotesOf k) (from : A → C) (other : B → C) where
  choice-left : (xs : Rows Place) (b' : Bool) → Tells j a s f → Tells k b u g → (x : C × Rows Place) → cond b' (mapped from a xs) (mapped other b xs) ≡ Ok x → past (cond b' (s xs) (u xs)) xs ≡ x.1
  choice-left xs true h l x e = (mapped-tells j a s f from h).left xs x e
  choice-left xs false h l x e = (mapped-tells k b u g other l).left xs x e

  pub choice-tells : Tells j a s f → Tells k b u g → Tells (either_of j k) (reader.either p (mapped from a) (mapped other b)) (choice_trace p s u) (choice_notes p j k f g)
  choice-tells h l = record {
    says = λ first w xs. split-told (head_in p xs) (s xs) (u xs) xs first w (notes_of j f xs) (notes_of k g xs) (h.says first w xs) (l.says first w xs) ∙ choice-is p j k f g xs;
    left = λ xs x e. choice-left xs (head_in p xs) h l x e;
    lies = λ low high xs e. subst (AllLie high) (choice-is p j k f g xs) (cond-lie high (head_in p xs) (notes_of j f xs) (notes_of k g xs) (h.lies low high xs e) (l.lies low high xs e));
  }

pub nothing-tells : Tells silent (reader.nothing {M = Place}) (λ xs. []) tt
nothing-tells = record { says = λ first w xs. refl; left = λ xs x e. ap (λ v. v.1) (ok_is (tt, xs) x e); lies = λ low high xs h. tt }

-- ---- a note after what was read

abbrev pub note_trace : {A : Type 0} → (Rows Place → Steps Place) → Reader Place A → (A → Event Place) → Rows Place → Steps Place
note_trace s a event xs = s xs ++ then_steps (a xs) (λ x. Note (event x.0) ∷ [])

checked-seen : {A C : Type 0} (view : A → C) (check : C → Rows Place → Notes) (r : Result (A × Rows Place) Refusal) → checked (λ x rest. check (view x) rest) r ≡ checked check (r >>= λ x. Ok (view x.0, x.1))
checked-seen view check (Ok x) = refl
checked-seen view check (Err e) = refl

pub note-tells : {A C : Type 0} (a : Reader Place A) (s : Rows Place → Steps Place) (view : A → C) (c : Reader Place C) (event : A → Event Place) (check : C → Rows Place → Notes)
    → ((first : Option (t.Package Place)) (w : Place) (x : A) (rest : Rows Place) → told first w (Note (event x) ∷ []) rest ≡ check (view x) rest)
    → ((low high : ℕ) (xs : Rows Place) (x : A × Rows Place) → a xs ≡ Ok x → Stand low high xs → AllLie high (check (view x.0) x.1))
    → Shows view a c → Tells silent a s tt → Tells noting a (note_trace s a event) (λ xs. checked check (c xs))
note-tells a s view c event check e safe shows h = record {
  says = λ first w xs.
      told-then silent a s tt h (λ x. Note (event x.0) ∷ []) (λ x. check (view x.0) x.1) (λ i v x. e i v x.0 x.1) first w xs
      ∙ checked-seen view check (a xs) ∙ ap (checked check) (sym (shows.same xs));
  left = λ xs x q. past-then silent a s tt h (λ v. Note (event v.0) ∷ []) xs x x.1 q refl;
  lies = λ low high xs k.
      subst (AllLie high) (checked-seen view check (a xs) ∙ ap (checked check) (sym (shows.same xs)))
      (after-lie silent a s tt h (λ x rest. check (view x) rest) low high xs (λ x q m g. safe low high xs x q k) k);
}

-- ---- again and again

-- with a bound on the turns
abbrev pub notes_at : {C : Type 0} → (Shape → Bool) → Reader Place C → (Rows Place → Notes) → ℕ → Rows Place → Notes
notes_at p c f zero xs = []
notes_at p c f (suc n) xs = cond (head_in p xs) (f xs ++ then_notes (notes_at p c f n) (c xs)) []

unfoldable pub star_notes : {C : Type 0} → (Shape → Bool) → Reader Place C → (Rows Place → Notes) → Rows Place → Notes
star_notes p c f xs = notes_at p c f (suc (length xs)) xs

abbrev pub times_notes : {C : Type 0} → (Shape → Bool) → (v : Voice) → Reader Place C → NotesOf v → NotesOf v
times_notes p silent c f = tt
times_notes p noting c f = star_notes p c f

nothing-then : {C : Type 0} (g : Rows Place → Notes) → ((xs : Rows Place) → g xs ≡ []) → (r : Result (C × Rows Place) Refusal) → then_notes g r ≡ []
nothing-then g h (Ok x) = h x.1
nothing-then g h (Err e) = refl

none-at : {C : Type 0} (p : Shape → Bool) (c : Reader Place C) (n : ℕ) (xs : Rows Place) → notes_at p c (λ ys. []) n xs ≡ []
none-at p c zero xs = refl
none-at p c (suc n) xs = ap (λ v. cond (head_in p xs) v []) (nothing-then (notes_at p c (λ ys. []) n) (none-at p c n) (c xs)) ∙ cond-none (head_in p xs)

times-is : {C : Type 0} (p : Shape → Bool) (c : Reader Place C) (v : Voice) (f : NotesOf v) (xs : Rows Place) → notes_at p c (notes_of v f) (suc (length xs)) xs ≡ notes_of v (times_notes p v c f) xs
unfolding star_notes
times-is p c silent f xs = none-at p c (suc (length xs)) xs
times-is p c noting f xs = refl

module _ {A C : Type 0} (p : Shape → Bool) (v : Voice) (a : Reader Place A) (s : Rows Place → Steps Place) (f : NotesOf v) (view : A → C) (c : Reader Place C) (shows : Shows view a c) (h : Tells v a s f) where
  star-says : (n : ℕ) (first : Option (t.Package Place)) (w : Place) (xs : Rows Place) → told first w (star_trace p a s n xs) xs ≡ notes_at p c (notes_of v f) n xs
  unfolding star_trace
  star-says zero first w xs = refl
  star-says (suc n) first w xs = split-told (head_in p xs) (s xs ++ then_steps (a xs) (λ x. star_trace p a s n x.1)) [] xs first w _ []
      (told-then v a s f h (λ x. star_trace p a s n x.1) (λ x. notes_at p c (notes_of v f) n x.1) (λ i u x. star-says n i u x.1) first w xs
      ∙ ap (λ u. notes_of v f xs ++ u) (checked-then (notes_at p c (notes_of v f) n) (a xs) ∙ then-seen view a c shows (notes_at p c (notes_of v f) n) xs)) refl

  star-left : (n : ℕ) (xs : Rows Place) (x : List A × Rows Place) → star_at p a n xs ≡ Ok x → past (star_trace p a s n xs) xs ≡ x.1
  unfolding star_at star_trace
  star-left zero xs x e = absurd (err-ok x _ e)
  star-left (suc n) xs x e = elim (chosen (head_in p xs) (a xs >>= λ y. star_at p a n y.1 >>= λ z. Ok (y.0 ∷ z.0, z.1)) (Ok ([], xs)) (Ok x) e) [
    | inl q ↦
        let y = bind_ok (a xs) (λ y. star_at p a n y.1 >>= λ z. Ok (y.0 ∷ z.0, z.1)) x q.1 in
        let z = bind_ok (star_at p a n y.0.1) (λ z. Ok (y.0.0 ∷ z.0, z.1)) x y.2 in
        let same : (y.0.0 ∷ z.0.0, z.0.1) ≡ x = ok_is (y.0.0 ∷ z.0.0, z.0.1) x z.2 in
        ap (λ b. past (cond b (s xs ++ then_steps (a xs) (λ x. star_trace p a s n x.1)) []) xs) q.0
        ∙ past-then v a s f h (λ x. star_trace p a s n x.1) xs y.0 z.0.1 y.1 (star-left n y.0.1 z.0 z.1) ∙ ap (λ u. u.1) same
    | inr q ↦ ap (λ b. past (cond b (s xs ++ then_steps (a xs) (λ x. star_trace p a s n x.1)) []) xs) q.0 ∙ ap (λ u. u.1) (ok_is ([], xs) x q.1)
  ]

  star-is : (xs : Rows Place) → notes_at p c (notes_of v f) (suc (length xs)) xs ≡ notes_of v (times_notes p v c f) xs
  star-is xs = times-is p c v f xs

  star-lie : (n : ℕ) → Lie (notes_at p c (notes_of v f) n)
  star-lie zero low high xs e = tt
  star-lie (suc n) low high xs e =
      cond-lie high (head_in p xs) (notes_of v f xs ++ then_notes (notes_at p c (notes_of v f) n) (c xs)) []
      (both-lie high (notes_of v f xs) (then_notes (notes_at p c (notes_of v f) n) (c xs)) (h.lies low high xs e)
      (subst (AllLie high) (then-seen view a c shows (notes_at p c (notes_of v f) n) xs) (then-lie v a s f h (notes_at p c (notes_of v f) n) high (λ m ys i. star-lie n m high ys i) low xs e))) tt

  pub star-tells : Tells v (star p a) (λ xs. star_trace p a s (suc (length xs)) xs) (times_notes p v c f)
  unfolding star
  star-tells = record {
    says = λ first w xs. star-says (suc (length xs)) first w xs ∙ star-is xs;
    left = λ xs x e. star-left (suc (length xs)) xs x e;
    lies = λ low high xs e. subst (AllLie high) (star-is xs) (star-lie (suc (length xs)) low high xs e);
  }

-- ---- one turn of a loop that notes

module _ {C : Type 0} (p : Shape → Bool) (c : Reader Place C) (f : Rows Place → Notes) (eats : Consumes c) where
  later-same : (g h : Rows Place → Notes) (r : Result (C × Rows Place) Refusal) → ((x : C × Rows Place) → r ≡ Ok x → g x.1 ≡ h x.1) → then_notes g r ≡ then_notes h r
  later-same g h (Ok x) e = e x refl
  later-same g h (Err d) e = refl

  enough : (n m : ℕ) (xs : Rows Place) → length xs < n → length xs < m → notes_at p c f n xs ≡ notes_at p c f m xs
  enough zero m xs h k = absurd (omega arith)
  enough (suc n) zero xs h k = absurd (omega arith)
  enough (suc n) (suc m) xs h k = ap (λ v. cond (head_in p xs) (f xs ++ v) []) (later-same (notes_at p c f n) (notes_at p c f m) (c xs) (λ x e. enough n m x.1 (omega (arith, eats xs x e)) (omega (arith, eats xs x e))))

  pub notes-turn : (xs : Rows Place) → head_in p xs ≡ true → star_notes p c f xs ≡ f xs ++ then_notes (star_notes p c f) (c xs)
  unfolding star_notes
  notes-turn xs h = ap (λ b. cond b (f xs ++ then_notes (notes_at p c f (length xs)) (c xs)) []) h
      ∙ ap (λ v. f xs ++ v) (later-same (notes_at p c f (length xs)) (star_notes p c f) (c xs) (λ x e. enough (length xs) (suc (length x.1)) x.1 (eats xs x e) (omega arith)))

  pub notes-done : (xs : Rows Place) → head_in p xs ≡ false → star_notes p c f xs ≡ []
  unfolding star_notes
  notes-done xs h = ap (λ b. cond b (f xs ++ then_notes (notes_at p c f (length xs)) (c xs)) []) h
