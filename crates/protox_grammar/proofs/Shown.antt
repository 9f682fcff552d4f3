-- What the code reads and notes, compared with what a rule of the grammar reads and notes: one term
-- for each rule.
use Rattle.std.proofs.Common.{◌≡◌, ℕ, suc, List, [], ◌∷◌, ◌++◌, map, length, Option, option_map, Result, Ok, Err, inl, inr, refl, sym, ap, subst, ◌∙◌, append-nil, append_assoc}
use Rattle.protox_lexeme.specs.Shapes.{Shape, Ident, Mark, Rows}
use Rattle.protox_ast.proofs.Lemmas.{Stand}
use Rattle.protox_ast.specs.Places.{Place}
use Rattle.protox_ast.specs.Tree as t
use Rattle.protox_grammar.specs.Class.{Set, in_set}
use Rattle.protox_grammar.specs.Rule.{Rule, on_sum, to_option}
use Rattle.protox_grammar.specs.Reader as reader
use Rattle.protox_grammar.specs.Reader.{Reader, Refusal, fixed, leaf, seq, mapped, gathered, folded, nothing, ◌>>=◌}
use Rattle.protox_grammar.specs.Steps.{Event, Note, Steps, plain_trace, star_trace, then_steps}
use Rattle.protox_grammar.specs.Told.{Notes, told, past, checked}
use Rattle.protox_grammar.proofs.Reading.{IsRead}
use Rattle.protox_grammar.proofs.Shows as by_shows
use Rattle.protox_grammar.proofs.Shows.{Shows, as_is, seq-shows, mapped-shows, either-shows, star-shows, optional-shows, shows-by, left-shows, right-shows}
use Rattle.protox_grammar.proofs.Telling.{AllLie, Voice, silent, noting, NotesOf, either_of, Tells, Leaves, plain-tells, fixed-leaves, leaf-leaves, seq_trace, both_notes, seq-tells, mapped-tells, choice_trace, choice_notes, choice-tells, nothing-tells, note_trace, note-tells, times_notes, star-tells}

-- `code` reads what `read` does, with the view `view`. `notes` are the notes of its steps.
pub record Shown {A B : Type 0} (v : Voice) (read : Reader Place A) (trace : Rows Place → Steps Place) (view : A → B) : Type 0 where
  pub code : Reader Place B
  pub notes : NotesOf v
  pub shows : Shows view read code
  pub tells : Tells v read trace notes

-- For a rule that notes nothing, and for a rule that notes something.
abbrev pub Silent : {A B : Type 0} → Rule Place A → (A → B) → Type 0
Silent rule view = Shown silent rule.read rule.trace view

abbrev pub Noting : {A B : Type 0} → Rule Place A → (A → B) → Type 0
Noting rule view = Shown noting rule.read rule.trace view

-- ---- single rows

abbrev pub as_read : {A : Type 0} (a : Reader Place A) → Leaves a → Shown silent a (plain_trace a) (λ x. x)
as_read a h = record { code = a; notes = tt; shows = as_is a; tells = plain-tells a h }

abbrev pub the : (w : List ℕ) → Shown silent (fixed (Ident w)) (plain_trace (fixed (Ident w))) (λ m. m)
the w = as_read (fixed (Ident w)) (fixed-leaves (Ident w))

abbrev pub sign : (b : ℕ) → Shown silent (fixed (Mark b)) (plain_trace (fixed (Mark b))) (λ m. m)
sign b = as_read (fixed (Mark b)) (fixed-leaves (Mark b))

abbrev pub one : {X : Type 0} (see : Shape → Option X) → Shown silent (leaf see) (plain_trace (leaf see)) (λ x. x)
one see = as_read (leaf see) (leaf-leaves see)

-- ---- one after another, and under other names

module _ {A B C D : Type 0} {j k : Voice} {a : Reader Place A} {b : Reader Place B} {s u : Rows Place → Steps Place} {f : A → C} {g : B → D} where
  abbrev pub both : Shown j a s f → Shown k b u g → Shown {B = C × D} (either_of j k) (seq a b) (seq_trace s a u) (λ t. (f t.0, g t.1))
  both x y = record {
    code = seq x.code y.code;
    notes = both_notes j k x.notes x.code y.notes;
    shows = seq-shows x.shows y.shows;
    tells = seq-tells j k a b s u x.notes y.notes f x.code x.shows x.tells y.tells;
  }

module _ {A C : Type 0} {v : Voice} {a : Reader Place A} {s : Rows Place → Steps Place} {f : A → C} where
  -- what is read, with another view
  abbrev pub seen : {D : Type 0} (to : C → D) → Shown v a s f → Shown v a s (λ x. to (f x))
  seen to x = record { code = mapped to x.code; notes = x.notes; shows = right-shows to x.shows; tells = x.tells }

  -- with an equal view
  abbrev pub shown_by : {g : A → C} → ((x : A) → f x ≡ g x) → Shown v a s f → Shown v a s g
  shown_by e x = record { code = x.code; notes = x.notes; shows = shows-by e x.shows; tells = x.tells }

  -- a rule under another name, which the code doesn't see
  abbrev pub renamed : {B : Type 0} (to : A → B) {h : B → C} → ((x : A) → f x ≡ h (to x)) → Shown v a s f → Shown v (mapped to a) s h
  renamed to {h = h} e x = record { code = x.code; notes = x.notes; shows = left-shows to h e x.shows; tells = mapped-tells v a s x.notes to x.tells }

  -- a rule under another name, for which the code builds a value of its own
  abbrev pub named : {B D : Type 0} (to : A → B) {h : B → D} (to' : C → D) → ((x : A) → to' (f x) ≡ h (to x)) → Shown v a s f → Shown v (mapped to a) s h
  named to {h = h} to' e x = record { code = mapped to' x.code; notes = x.notes; shows = mapped-shows to to' h e x.shows; tells = mapped-tells v a s x.notes to x.tells }

-- ---- views that use the rows, too

-- What is read, with the rows from which it is read.
abbrev pub mapped_from : {A B : Type 0} → (Rows Place → A → B) → Reader Place A → Reader Place B
mapped_from f a xs = a xs >>= λ x. Ok (f xs x.0, x.1)

abbrev see : {C D : Type 0} → (Rows Place → C → D) → Rows Place → C × Rows Place → Result (D × Rows Place) Refusal
see to xs x = Ok (to xs x.0, x.1)

shown : {A B C D : Type 0} (rule : Rule Place B) (law : IsRead rule) (f : A → C) (a : Reader Place A) (to : A → B) (to' : Rows Place → C → D) (h : B → D)
    → ((x : A) (rest : Rows Place) → to' (rule.spell (to x) ++ rest) (f x) ≡ h (to x)) → ((xs : Rows Place) → rule.read xs ≡ mapped to a xs)
    → (xs : Rows Place) (r : Result (A × Rows Place) Refusal) → a xs ≡ r → ((r >>= by_shows.seen_as f) >>= see to' xs) ≡ ((r >>= by_shows.seen_as to) >>= by_shows.seen_as h)
shown rule law f a to to' h e same xs (Ok x) g =
    let k = (law.takes xs (to x.0, x.1) (same xs ∙ ap (λ v. v >>= by_shows.seen_as to) g)).parts in
    ap (λ v. Ok (v, x.1)) (subst (λ ys. to' ys (f x.0) ≡ h (to x.0)) (sym k) (e x.0 x.1))
shown rule law f a to to' h e same xs (Err d) g = refl

pub mapped_from-shows : {A B C D : Type 0} (rule : Rule Place B) (law : IsRead rule) {f : A → C} {a : Reader Place A} {c : Reader Place C} (to : A → B) (to' : Rows Place → C → D) (h : B → D)
    → ((xs : Rows Place) → rule.read xs ≡ mapped to a xs) → ((x : A) (rest : Rows Place) → to' (rule.spell (to x) ++ rest) (f x) ≡ h (to x)) → Shows f a c → Shows h (mapped to a) (mapped_from to' c)
mapped_from-shows rule law {f = f} {a = a} to to' h same e k = record { same = λ xs. ap (λ v. v >>= see to' xs) (k.same xs) ∙ shown rule law f a to to' h e same xs (a xs) refl }

module _ {A B C D : Type 0} {v : Voice} {a : Reader Place A} {s : Rows Place → Steps Place} {f : A → C} (to : A → B) {h : B → D} where
  -- as `named`, for code that sees the rows, too
  abbrev pub named_from : (rule : Rule Place B) → IsRead rule → ((xs : Rows Place) → rule.read xs ≡ mapped to a xs) → (to' : Rows Place → C → D)
      → ((x : A) (rest : Rows Place) → to' (rule.spell (to x) ++ rest) (f x) ≡ h (to x)) → Shown v a s f → Shown v (mapped to a) s h
  named_from rule law same to' e x = record { code = mapped_from to' x.code; notes = x.notes; shows = mapped_from-shows rule law to to' h same e x.shows; tells = mapped-tells v a s x.notes to x.tells }

-- ---- choices and repetition

module _ {A B C : Type 0} {j k : Voice} {a : Reader Place A} {b : Reader Place B} {s u : Rows Place → Steps Place} {f : A → C} {g : B → C} where
  abbrev pub choice : (P : Set) → Shown j a s f → Shown k b u g → Shown (either_of j k) (reader.either (in_set P) (mapped inl a) (mapped inr b)) (choice_trace (in_set P) s u) (on_sum f g)
  choice P x y = record {
    code = reader.either (in_set P) x.code y.code;
    notes = choice_notes (in_set P) j k x.notes y.notes;
    shows = either-shows (in_set P) (in_set P) (λ i. refl) x.shows y.shows;
    tells = choice-tells (in_set P) j k a b s u x.notes y.notes inl inr x.tells y.tells;
  }

module _ {A C : Type 0} {v : Voice} {a : Reader Place A} {s : Rows Place → Steps Place} {f : A → C} where
  abbrev pub optional : (P : Set) → Shown v a s f
      → Shown (either_of v silent) (mapped to_option (reader.either (in_set P) (mapped inl a) (mapped inr nothing))) (choice_trace (in_set P) s (λ xs. [])) (option_map f)
  optional P x = record {
    code = reader.optional (in_set P) x.code;
    notes = choice_notes (in_set P) v silent x.notes tt;
    shows = optional-shows (in_set P) (in_set P) (λ i. refl) x.shows;
    tells = mapped-tells (either_of v silent) (reader.either (in_set P) (mapped inl a) (mapped inr nothing)) (choice_trace (in_set P) s (λ xs. [])) (choice_notes (in_set P) v silent x.notes tt) to_option
        (choice-tells (in_set P) v silent a nothing s (λ xs. []) x.notes tt inl inr x.tells nothing-tells);
  }

  abbrev pub times : (P : Set) → Shown v a s f → Shown v (reader.star (in_set P) a) (λ xs. star_trace (in_set P) a s (suc (length xs)) xs) (map f)
  times P x = record {
    code = reader.star (in_set P) x.code;
    notes = times_notes (in_set P) v x.code x.notes;
    shows = star-shows (in_set P) (in_set P) (λ i. refl) x.shows;
    tells = star-tells (in_set P) v a s x.notes f x.code x.shows x.tells;
  }

  -- what is read again and again, gathered into one value
  abbrev pub gather : {D : Type 0} {h : List A → D} (P : Set) (add : D → C → D) (none : D) → ((xs : List A) → folded add none (map f xs) ≡ h xs) → Shown v a s f
      → Shown v (reader.star (in_set P) a) (λ xs. star_trace (in_set P) a s (suc (length xs)) xs) h
  gather P add none e x = record {
    code = λ xs. gathered add none (reader.star (in_set P) x.code xs);
    notes = times_notes (in_set P) v x.code x.notes;
    shows = shows-by e (right-shows (folded add none) (star-shows (in_set P) (in_set P) (λ i. refl) x.shows));
    tells = star-tells (in_set P) v a s x.notes f x.code x.shows x.tells;
  }

-- ---- notes

-- What is noted after something was read.
abbrev pub with_note : {A C : Type 0} {a : Reader Place A} {s : Rows Place → Steps Place} {f : A → C} (event : A → Event Place) (check : C → Rows Place → Notes)
    → ((first : Option (t.Package Place)) (w : Place) (x : A) (rest : Rows Place) → told first w (Note (event x) ∷ []) rest ≡ check (f x) rest)
    → ((low high : ℕ) (xs : Rows Place) (x : A × Rows Place) → a xs ≡ Ok x → Stand low high xs → AllLie high (check (f x.0) x.1)) → Shown silent a s f → Shown noting a (note_trace s a event) f
with_note {a = a} {s = s} {f = f} event check e safe x = record { code = x.code; notes = λ xs. checked check (x.code xs); shows = x.shows; tells = note-tells a s f x.code event check e safe x.shows x.tells }

-- ---- one, and more of them

abbrev pub push : {A : Type 0} → List A → A → List A
push xs x = xs ++ x ∷ []

pub pushed : {A B : Type 0} (f : A → B) (bs : List B) (xs : List A) → folded push bs (map f xs) ≡ bs ++ map f xs
pushed f bs [] = sym (append-nil bs)
pushed f bs (x ∷ xs) = pushed f (bs ++ f x ∷ []) xs ∙ append_assoc bs (f x ∷ []) (map f xs)

abbrev pub list_view : {A B C : Type 0} → (A → C) → (B → C) → A × List B → List C
list_view f g x = f x.0 ∷ map g x.1

module _ {A B C : Type 0} {j k : Voice} {a : Reader Place A} {b : Reader Place B} {s u : Rows Place → Steps Place} {f : A → C} {g : B → C} where
  abbrev pub list_of : (P : Set) → Shown j a s f → Shown k b u g
      → Shown (either_of j k) (seq a (reader.star (in_set P) b)) (seq_trace s a (λ xs. star_trace (in_set P) b u (suc (length xs)) xs)) (list_view f g)
  list_of P x y = shown_by (λ t. pushed g (f t.0 ∷ []) t.1) (seen (λ t. folded push (t.0 ∷ []) t.1) (both x (times P y)))

-- Three readers one after another, with the first two taken together.
module _ {A B C : Type 0} (a : Reader Place A) (b : Reader Place B) (c : Reader Place C) where
  abbrev rounded : {D : Type 0} → ((A × B) × C → D) → A × (B × C) → D
  rounded f x = f ((x.0, x.1.0), x.1.1)

  third-same : {D : Type 0} (f : (A × B) × C → D) (x : A) (y : B) (r : Result (C × Rows Place) Refusal) → ((r >>= by_shows.paired (x, y)) >>= by_shows.seen_as f) ≡ (((r >>= by_shows.paired y) >>= by_shows.paired x) >>= by_shows.seen_as (rounded f))
  third-same f x y (Ok z) = refl
  third-same f x y (Err e) = refl

  second-same : {D : Type 0} (f : (A × B) × C → D) (x : A) (r : Result (B × Rows Place) Refusal) → (((r >>= by_shows.paired x) >>= by_shows.then c) >>= by_shows.seen_as f) ≡ (((r >>= by_shows.then c) >>= by_shows.paired x) >>= by_shows.seen_as (rounded f))
  second-same f x (Ok y) = third-same f x y.0 (c y.1)
  second-same f x (Err e) = refl

  pub first-same : {D : Type 0} (f : (A × B) × C → D) (r : Result (A × Rows Place) Refusal)
      → (((r >>= by_shows.then b) >>= by_shows.then c) >>= by_shows.seen_as f) ≡ ((r >>= by_shows.then (seq b c)) >>= by_shows.seen_as (rounded f))
  first-same f (Ok x) = second-same f x.0 (b x.1)
  first-same f (Err e) = refl

  module _ (s u w : Rows Place → Steps Place) where
    steps-second : (x : A) (r : Result (B × Rows Place) Refusal) → then_steps (r >>= by_shows.paired x) (λ y. w y.1) ≡ then_steps r (λ y. w y.1)
    steps-second x (Ok y) = refl
    steps-second x (Err e) = refl

    steps-first : (l : Steps Place) (r : Result (A × Rows Place) Refusal)
        → (l ++ then_steps r (λ x. u x.1)) ++ then_steps (r >>= by_shows.then b) (λ y. w y.1) ≡ l ++ then_steps r (λ x. u x.1 ++ then_steps (b x.1) (λ y. w y.1))
    steps-first l (Ok x) = append_assoc l (u x.1) _ ∙ ap (λ v. l ++ (u x.1 ++ v)) (steps-second x.0 (b x.1))
    steps-first l (Err e) = append-nil (l ++ [])

    pub grouped-tells : (v : Voice) (n : NotesOf v) → Tells v (seq (seq a b) c) (seq_trace (seq_trace s a u) (seq a b) w) n → Tells v (seq a (seq b c)) (seq_trace s a (seq_trace u b w)) n
    grouped-tells v n h = record {
      says = λ first k xs. ap (λ l. told first k l xs) (sym (steps-first (s xs) (a xs))) ∙ h.says first k xs;
      left = λ xs x e.
          let same : seq (seq a b) c xs ≡ Ok (((x.0.0, x.0.1.0), x.0.1.1), x.1) =
          kept (seq (seq a b) c xs) ∙ first-same (λ t. t) (a xs) ∙ ap (λ v. v >>= by_shows.seen_as (rounded (λ t. t))) e in
          ap (λ l. past l xs) (sym (steps-first (s xs) (a xs))) ∙ h.left xs _ same;
      lies = h.lies;
    }
      where
        kept : {X : Type 0} (r : Result (X × Rows Place) Refusal) → r ≡ (r >>= by_shows.seen_as (λ t. t))
        kept (Ok x) = refl
        kept (Err e) = refl

-- One, and more of them, and what comes after.
module _ {A B C D E : Type 0} {j k l : Voice} {a : Reader Place A} {b : Reader Place B} {c : Reader Place D} {s u w : Rows Place → Steps Place} {f : A → C} {g : B → C} {h : D → E} where
  abbrev pub list_then : (P : Set) → Shown j a s f → Shown k b u g → Shown l c w h
      → Shown {B = List C × E} (either_of (either_of j k) l) (seq a (seq (reader.star (in_set P) b) c)) (seq_trace s a (seq_trace (λ xs. star_trace (in_set P) b u (suc (length xs)) xs) (reader.star (in_set P) b) w)) (λ x. (f x.0 ∷ map g x.1.0, h x.1.1))
  list_then P x y z = record {
    code = seq (list_of P x y).code z.code;
    notes = both_notes (either_of j k) l (list_of P x y).notes (list_of P x y).code z.notes;
    shows = record { same = λ xs. (both (list_of P x y) z).shows.same xs ∙ first-same a (reader.star (in_set P) b) c (λ t. (list_view f g t.0, h t.1)) (a xs) };
    tells = grouped-tells a (reader.star (in_set P) b) c s (λ xs. star_trace (in_set P) b u (suc (length xs)) xs) w (either_of (either_of j k) l)
        (both_notes (either_of j k) l (list_of P x y).notes (list_of P x y).code z.notes) (both (list_of P x y) z).tells;
  }
