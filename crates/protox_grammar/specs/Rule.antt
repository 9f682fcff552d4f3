-- A rule of a grammar: how its trees are spelled, which trees there may be, what may
-- follow one, how one is read, and what is noted.
use Rattle.std.specs.Prelude.{◌≡◌, suc, List, [], ◌∷◌, ◌++◌, length, Bool, true, false, if◌then◌else◌, Option, Some, None, ◌⊎◌}
use Rattle.std.proofs.Common.{inl, inr}
use Rattle.protox_lexeme.specs.Shapes.{Shape, Row, Rows}
use Rattle.protox_grammar.specs.Class.{class, Set, in_set}
use Rattle.protox_ast.specs.Spelling.{maybe, many}
use Rattle.protox_ast.specs.KeywordWalk.{Given}
use Rattle.protox_ast.specs.Keywords.{Each}
use Rattle.protox_grammar.specs.Reader as reader
use Rattle.protox_grammar.specs.Reader.{Reader, head_in}
use Rattle.protox_grammar.specs.Steps.{Event, Note, Steps, plainly, plain_trace, star_trace, then_steps, steps_of_many, steps_of_option}

-- The first row isn't in the set. There may be no row.
abbrev pub Stops : {M : Type 0} → Set → Rows M → Type 0
Stops g [] = Unit {0}
Stops g (r ∷ rs) = g (class r.shape) ≡ false

-- The first row is in the set. If `e` is true, there may be no row.
abbrev pub Starts : {M : Type 0} → Bool → Set → Rows M → Type 0
Starts e f [] = e ≡ true
Starts e f (r ∷ rs) = f (class r.shape) ≡ true

-- A rule for trees of type A.
pub record Rule (M A : Type 0) : Type 1 where
  pub spell : A → Rows M
  -- the tree belongs to the grammar
  pub may : A → Type 0
  -- the tree belongs to the grammar and can be read
  pub fits : A → Type 0
  -- these rows may follow the tree
  pub ends : A → Rows M → Type 0
  pub read : Reader M A
  -- the rows of a tree, and the notes among them
  pub steps : A → Steps M
  -- the rows that the reader takes, and the notes among them
  pub trace : Rows M → Steps M

-- A row with this shape and this tag.
abbrev pub row : {M : Type 0} → Shape → M → Row M
row s m = record { shape = s; at = m }

-- The rule of one given token.
abbrev pub fixed : {M : Type 0} → Shape → Rule M M
fixed w = record {
  spell = λ m. row w m ∷ [];
  may = λ m. Unit {0};
  fits = λ m. Unit {0};
  ends = λ m z. Unit {0};
  read = reader.fixed w;
  steps = λ m. plainly (row w m ∷ []);
  trace = plain_trace (reader.fixed w);
}

-- The rule of one token with a value.
abbrev pub leaf : {M X : Type 0} → (Shape → Option X) → (X → Shape) → Rule M (X × M)
leaf see shape = record {
  spell = λ x. row (shape x.0) x.1 ∷ [];
  may = λ x. Unit {0};
  fits = λ x. Unit {0};
  ends = λ x z. Unit {0};
  read = reader.leaf see;
  steps = λ x. plainly (row (shape x.0) x.1 ∷ []);
  trace = plain_trace (reader.leaf see);
}

-- One rule, and then another.
abbrev pub seq : {M A B : Type 0} → Rule M A → Rule M B → Rule M (A × B)
seq a b = record {
  spell = λ t. a.spell t.0 ++ b.spell t.1;
  may = λ t. a.may t.0 × b.may t.1;
  fits = λ t. a.fits t.0 × b.fits t.1;
  ends = λ t z. a.ends t.0 (b.spell t.1 ++ z) × b.ends t.1 z;
  read = reader.seq a.read b.read;
  steps = λ t. a.steps t.0 ++ b.steps t.1;
  trace = λ xs. a.trace xs ++ then_steps (a.read xs) (λ x. b.trace x.1);
}

-- One function for each side of a choice.
abbrev pub on_sum {ℓ} : {A B : Type 0} {C : Type ℓ} → (A → C) → (B → C) → A ⊎ B → C
on_sum f g (inl a) = f a
on_sum f g (inr b) = g b

-- The first rule if the next token is in the set, else the second.
abbrev pub either : {M A B : Type 0} → (Shape → Bool) → Set → Rule M A → Rule M B → Rule M (A ⊎ B)
either p P a b = record {
  spell = on_sum a.spell b.spell;
  may = on_sum a.may (λ t. b.may t × Stops P (b.spell t));
  fits = on_sum a.fits (λ t. b.fits t × Stops P (b.spell t));
  ends = on_sum a.ends (λ t z. b.ends t z × Stops P (b.spell t ++ z));
  read = reader.either p (reader.mapped inl a.read) (reader.mapped inr b.read);
  steps = on_sum a.steps b.steps;
  trace = λ xs. if head_in p xs then a.trace xs else b.trace xs;
}

-- The rule of no tokens.
abbrev pub nothing : {M : Type 0} → Rule M (Unit {0})
nothing = record {
  spell = λ t. [];
  may = λ t. Unit {0};
  fits = λ t. Unit {0};
  ends = λ t z. Unit {0};
  read = reader.nothing;
  steps = λ t. [];
  trace = λ xs. [];
}

-- A rule with its trees renamed.
abbrev pub mapped : {M A B : Type 0} → (B → A) → (A → B) → Rule M B → Rule M A
mapped to from b = record {
  spell = λ t. b.spell (from t);
  may = λ t. b.may (from t);
  fits = λ t. b.fits (from t);
  ends = λ t z. b.ends (from t) z;
  read = reader.mapped to b.read;
  steps = λ t. b.steps (from t);
  trace = b.trace;
}

-- Each tree of the list may be followed by the next, and the last by z. z doesn't begin with a row
-- of the set.
abbrev pub Ends : {M A : Type 0} → (A → Rows M) → (A → Rows M → Type 0) → Set → List A → Rows M → Type 0
Ends spell ends P [] z = Stops P z
Ends spell ends P (t ∷ ts) z = ends t (many spell ts ++ z) × Ends spell ends P ts z

-- A rule again and again, as long as the next token passes the test.
abbrev pub star : {M A : Type 0} → (Shape → Bool) → Set → Rule M A → Rule M (List A)
star p P a = record {
  spell = many a.spell;
  may = Each a.may;
  fits = Each a.fits;
  ends = Ends a.spell a.ends P;
  read = reader.star p a.read;
  steps = steps_of_many a.steps;
  trace = λ xs. star_trace p a.read a.trace (suc (length xs)) xs;
}

-- A rule that is too deep to be read. It begins with this token.
abbrev pub too_deep : {M A : Type 0} → Shape → Rule M A → Rule M A
too_deep w a = record {
  spell = a.spell;
  may = a.may;
  fits = λ t. ⊥;
  ends = a.ends;
  read = reader.too_deep w;
  steps = a.steps;
  trace = a.trace;
}

-- ---- the forms in which the grammar is written

-- The first rule if the next token is in the set, else the second. The second may not begin with
-- such a token: a keyword rule.
abbrev pub unless : {M A B : Type 0} → Set → Rule M A → Rule M B → Rule M (A ⊎ B)
unless P a b = either (in_set P) P a b

-- The first rule if the next token is in the set, else the second, which never begins with such a
-- token.
abbrev pub choice : {M A B : Type 0} → Set → Rule M A → Rule M B → Rule M (A ⊎ B)
choice P a b = record {
  spell = on_sum a.spell b.spell;
  may = on_sum a.may b.may;
  fits = on_sum a.fits b.fits;
  ends = on_sum a.ends (λ t z. b.ends t z × Stops P (b.spell t ++ z));
  read = reader.either (in_set P) (reader.mapped inl a.read) (reader.mapped inr b.read);
  steps = on_sum a.steps b.steps;
  trace = λ xs. if head_in (in_set P) xs then a.trace xs else b.trace xs;
}

-- These rows may follow a tree, or stand where the tree is absent.
abbrev pub Closes : {M A : Type 0} → (A → Rows M → Type 0) → Set → Option A → Rows M → Type 0
Closes ends P None z = Stops P z
Closes ends P (Some t) z = ends t z

-- The left value, if there is one.
abbrev pub to_option : {A : Type 0} → A ⊎ Unit {0} → Option A
to_option (inl a) = Some a
to_option (inr u) = None

-- `?`: the rule, if the next token is in the set.
abbrev pub optional : {M A : Type 0} → Set → Rule M A → Rule M (Option A)
optional P a = record {
  spell = maybe a.spell;
  may = Given a.may;
  fits = Given a.fits;
  ends = Closes a.ends P;
  read = reader.mapped to_option (reader.either (in_set P) (reader.mapped inl a.read) (reader.mapped inr reader.nothing));
  steps = steps_of_option a.steps;
  trace = λ xs. if head_in (in_set P) xs then a.trace xs else [];
}

-- `*`: the rule again and again, as long as the next token is in the set.
abbrev pub times : {M A : Type 0} → Set → Rule M A → Rule M (List A)
times P a = star (in_set P) P a

-- A rule with a plain spelling and a plain condition of its own.
abbrev pub named : {M A B : Type 0} → (A → Rows M) → (A → Type 0) → (B → A) → (A → B) → Rule M B → Rule M A
named spell keeps to from b = record {
  spell = spell;
  may = keeps;
  fits = keeps;
  ends = λ t z. b.ends (from t) z;
  read = reader.mapped to b.read;
  steps = λ t. b.steps (from t);
  trace = b.trace;
}

-- A rule under other names for its trees, of which fewer can be read.
abbrev pub named_fits : {M A B : Type 0} → (A → Rows M) → (A → Type 0) → (A → Type 0) → (B → A) → (A → B) → Rule M B → Rule M A
named_fits spell keeps fits to from b = record {
  spell = spell;
  may = keeps;
  fits = fits;
  ends = λ t z. b.ends (from t) z;
  read = reader.mapped to b.read;
  steps = λ t. b.steps (from t);
  trace = b.trace;
}

-- A rule that doesn't begin with a token of the set: a keyword rule.
abbrev pub unstarted : {M A : Type 0} → Set → Rule M A → Rule M A
unstarted P a = record {
  spell = a.spell;
  may = λ t. a.may t × Stops P (a.spell t);
  fits = λ t. a.fits t × Stops P (a.spell t);
  ends = λ t z. a.ends t z × Stops P (a.spell t ++ z);
  read = reader.unstarted (in_set P) a.read;
  steps = a.steps;
  trace = λ xs. if head_in (in_set P) xs then [] else a.trace xs;
}

-- A rule with a note after its tree.
abbrev pub noting : {M A : Type 0} → (A → Event M) → Rule M A → Rule M A
noting note a = record {
  spell = a.spell;
  may = a.may;
  fits = a.fits;
  ends = a.ends;
  read = a.read;
  steps = λ t. a.steps t ++ (Note (note t) ∷ []);
  trace = λ xs. a.trace xs ++ then_steps (a.read xs) (λ x. Note (note x.0) ∷ []);
}
