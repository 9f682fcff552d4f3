-- A file goes on as its rest does, where its first statements have been read and nothing is wrong
-- with them.
use Rattle.std.proofs.Common.{◌≡◌, suc, Bool, true, false, List, [], ◌∷◌, ◌++◌, length, Option, Some, None, option_map, Result, Ok, refl, sym, ap, subst, ◌∙◌, append-nil, append_assoc, arith, codes}
use Rattle.protox_fault.specs.Faults.{Span}
use Rattle.protox_lexeme.specs.Shapes.{Rows}
use Rattle.protox_lexeme.specs.Table.{Table}
use Rattle.protox_ast.proofs.Lemmas.{each-front}
use Rattle.protox_ast.specs.CheckedNodes.{CheckedNode, APackageAgain, ATooDeep}
use Rattle.protox_ast.specs.inner.Fine.{IsFine}
use Rattle.protox_ast.specs.KeywordWalk as k
use Rattle.protox_ast.specs.Keywords.{Each}
use Rattle.protox_ast.specs.Places.{Place, placed}
use Rattle.protox_ast.specs.Spelling as s
use Rattle.protox_ast.specs.Tree as tree
use Rattle.protox_grammar.specs.Bodies as bodies
use Rattle.protox_grammar.specs.Class.{Set, all, among, in_set, mark, none, only, word}
use Rattle.protox_grammar.specs.Noted.{noted_nodes, steps}
use Rattle.protox_grammar.specs.Reader.{Refusal, gathered, head_in, star, ◌>>=◌}
use Rattle.protox_grammar.specs.Rule as rule
use Rattle.protox_grammar.specs.Rule.{Stops}
use Rattle.protox_grammar.specs.Rules as r
use Rattle.protox_grammar.specs.Steps.{ANode, APackage, AKeyword, ADeepBody, ADeeperBody, AnOpenBrace, ACloseBrace, Token, Note, Steps, steps_of_many}
use Rattle.protox_grammar.specs.Told.{Notes, IsFaultless, behind, checked, first_behind, is_invalid, keyword_behind, node_notes, past, place_of, then_notes, told}
use Rattle.protox_grammar.specs.Token as token
use Rattle.protox_grammar.proofs.Lemmas.{AreAbove, Lawful, Outside, body-laws, faultless-first}
use Rattle.protox_grammar.proofs.Lemmas.{faultless-last, file-outside, first-append, gated}
use Rattle.protox_grammar.proofs.Lemmas.{none-noted-of, noted-append, optional-laws, past-append}
use Rattle.protox_grammar.proofs.Lemmas.{stated-turn, stops-none, stops-then, told-append, told-fine}
use Rattle.protox_grammar.proofs.Lemmas.{told-in-order}
use Rattle.protox_grammar.proofs.Lemmas as grammar
use Rattle.protox_declarations.specs.inner.Options.{here}
use Rattle.protox_rows.proofs.Lemmas.{more, more-words}
use Rattle.protox_rows.specs.inner.Words as words
use Rattle.protox_syntax.proofs.AllFound.{leads-start}
use Rattle.protox_syntax.proofs.Leading.{leads-more}
use Rattle.protox_syntax.proofs.Modes.{faults-none}
use Rattle.protox_syntax.proofs.OneMore.{seen-more}
use Rattle.protox_syntax.proofs.RightFiles.{and_statement, steps-begun, steps-more}
use Rattle.protox_syntax.proofs.Shift.{last_mode}
use Rattle.protox_syntax.proofs.SyntaxNotes.{syntax-faults}
use Rattle.protox_syntax.proofs.Turns.{statement-eats}
use Rattle.protox_syntax.specs.NextStatement.{BeginWithSyntax, syntax_steps}
use Rattle.protox_syntax.specs.declared.statement_types.Statement.{Statement}
use Rattle.protox_syntax.specs.inner.Leading.{Leads}
use Rattle.protox_syntax.specs.inner.SoFar.{IsRightSoFar, begun}
use Rattle.protox_syntax.specs.inner.Statements.{Statements, add_statement, levels, next_first, notes_behind, statement, statement_rule, statement_seen, statements_at, statements_seen, syntax_if_any, syntax_seen}
use Rattle.protox_syntax.specs.inner.Whole.{Whole, all_notes, whole}
use Rattle.protox_syntax.specs.inner.Words as said

-- ---- the mode behind notes

closed-past : (x : CheckedNode Place) (xs : Rows Place) (b : Bool) (more : Notes) → IsFaultless (node_notes x xs ++ more) → (IsFaultless more → last_mode b more ≡ false) → last_mode b (node_notes x xs ++ more) ≡ false
closed-past x xs b more f h =
    ap (λ v. last_mode b (v ++ more)) (none-noted-of x xs (faultless-first (node_notes x xs) more f))
    ∙ h (faultless-last (node_notes x xs) more f)

-- Steps end outside any aggregate, so their notes do.
closed-told : (p : Option (tree.Package Place)) (w : Place) (l : Steps Place) (xs : Rows Place) (b : Bool) → Outside b l → IsFaultless (told p w l xs) → last_mode b (told p w l xs) ≡ false
closed-told p w [] xs b h f = h
closed-told p w (Token r ∷ l) xs b h f = closed-told p w l (behind xs) b h f
closed-told p w (Note (ANode x) ∷ l) xs b h f = closed-past x xs b (told p w l xs) f (closed-told p w l xs b h)
closed-told None w (Note (APackage x) ∷ l) xs b h f = closed-told (Some x) w l xs b h f
closed-told (Some y) w (Note (APackage x) ∷ l) xs b h f = closed-past (APackageAgain y x) xs b (told (Some y) w l xs) f (closed-told (Some y) w l xs b h)
closed-told p w (Note (AKeyword m) ∷ l) xs b h f = closed-told p m l xs b h f
closed-told p w (Note (ADeepBody m) ∷ l) xs b h f = closed-past (ATooDeep w m) xs b (told p w l xs) f (closed-told p w l xs b h.2)
closed-told p w (Note (ADeeperBody m) ∷ l) xs b h f = closed-told p w l xs b h.2 f
closed-told p w (Note (AnOpenBrace m) ∷ l) xs b h f = closed-told p w l xs true h f.1
closed-told p w (Note (ACloseBrace m) ∷ l) xs b h f = closed-told p w l xs false h f.1

-- ---- a right statement is read

abbrev pub Fits : tree.Statement Place → Type 0
Fits x = bodies.StatementHas (bodies.FitsMbody levels) x

abbrev starts : Set
starts = among (mark s.semicolon ∷ word (codes "import") ∷ word (codes "package") ∷ word (codes "option") ∷ word (codes "extend") ∷ word (codes "message") ∷ word (codes "enum") ∷ word (codes "service") ∷ [])

laws : Lawful statement_rule false starts none
laws = grammar.statement-laws here k.KeepsMbody (bodies.FitsMbody levels) (bodies.unsealed levels).read (bodies.unsealed levels).steps (bodies.unsealed levels).trace (body-laws here levels)

module _ (x : tree.Statement Place) (rest : Rows Place) (fits : Fits x) where
  -- anything may follow a statement
  may-follow : statement_rule.ends x rest
  unfolding bodies.statement
  may-follow = laws.spelled.follow x rest (laws.read.within x fits) (stops-none rest)

  rule-reads : statement_rule.read (s.statement x ++ rest) ≡ Ok (x, rest)
  unfolding bodies.statement
  rule-reads = laws.read.again x rest fits may-follow

  pub code-reads : statement.code (s.statement x ++ rest) ≡ Ok (statement_seen x, rest)
  code-reads = statement.shows.same (s.statement x ++ rest) ∙ ap (λ v. v >>= λ y. Ok (statement_seen y.0, y.1)) rule-reads

  rule-traced : statement_rule.trace (s.statement x ++ rest) ≡ statement_rule.steps x
  rule-traced = laws.traced.ok (s.statement x ++ rest) (x, rest) rule-reads

  -- no statement begins with the word `syntax`
  apart : Stops (only token.syntax) (s.statement x ++ rest)
  unfolding bodies.statement
  apart = stops-then false starts (only token.syntax) refl (s.statement x) rest (laws.spelled.starts x rest may-follow) (stops-gated rest)
    where
      stops-gated : (z : Rows Place) → Stops (gated false (only token.syntax)) z
      stops-gated [] = tt
      stops-gated (y ∷ z) = refl

some-row : (xs ys : Rows Place) (x : Statement) → statement.code xs ≡ Ok (x, ys) → head_in (in_set all) xs ≡ true
some-row [] ys x e = absurd (omega (arith, statement-eats [] (x, ys) e))
some-row (r ∷ rs) ys x e = refl

-- ---- a file, as far as it has been read

-- the notes before the rest of a table
abbrev pub before : Table → tree.File Place → Notes
before t f = told None here (steps levels f) (placed t)

-- the place of the first package statement
abbrev first_in : tree.File Place → Option Span
first_in f = place_of (first_behind None (steps levels f))

-- the whole, with the syntax statement before what the statements declare
abbrev ended : Option (tree.Syntax Place) → Statements × Rows Place → Result (Whole × Rows Place) Refusal
ended syntax y = Ok ((option_map syntax_seen syntax, y.0), y.1)

-- The table goes on behind this file as these rows do.
record IsAt (t : Table) (f : tree.File Place) (rest : Rows Place) : Type 0 where
  pub whole_is : whole (placed t) ≡ (gathered add_statement (statements_seen f.statements) (star (in_set all) statement.code rest) >>= ended f.syntax)
  pub notes_are : all_notes (placed t) ≡ before t f ++ notes_behind (first_in f) rest
  pub said_is : said.whole (placed t) ≡ said.statements rest
  pub past_is : past (steps levels f) (placed t) ≡ rest
  pub leads : Leads t (before t f) (first_in f) rest

module _ (t : Table) (f : tree.File Place) (x : tree.Statement Place) (rest : Rows Place) (fits : Fits x) (h : IsAt t f (s.statement x ++ rest)) where
  abbrev xs : Rows Place
  xs = s.statement x ++ rest

  abbrev p : Option (tree.Package Place)
  p = first_behind None (steps levels f)

  abbrev w : Place
  w = keyword_behind here (steps levels f)

  abbrev seen : Statement
  seen = statement_seen x

  read : statement.code xs ≡ Ok (seen, rest)
  read = code-reads x rest fits

  test : head_in (in_set all) xs ≡ true
  test = some-row xs rest seen read

  first-is : first_in (and_statement f x) ≡ next_first (first_in f) seen
  first-is =
      ap (λ l. place_of (first_behind None l)) (steps-more f x)
      ∙ ap place_of (first-append None (steps levels f) (statement_rule.steps x))
      ∙ ap (λ l. place_of (first_behind p l)) (sym (rule-traced x rest fits))
      ∙ statement.first p xs (x, rest) (rule-reads x rest fits)

  before-is : before t (and_statement f x) ≡ before t f ++ statement.notes (first_in f) xs
  before-is =
      ap (λ l. told None here l (placed t)) (steps-more f x)
      ∙ told-append None here (steps levels f) (statement_rule.steps x) (placed t)
      ∙ ap (λ v. before t f ++ told p w (statement_rule.steps x) v) h.past_is
      ∙ ap (λ l. before t f ++ told p w l xs) (sym (rule-traced x rest fits))
      ∙ ap (λ v. before t f ++ v) (statement.says p w xs)

  past-is : past (steps levels (and_statement f x)) (placed t) ≡ rest
  past-is =
      ap (λ l. past l (placed t)) (steps-more f x)
      ∙ past-append (steps levels f) (statement_rule.steps x) (placed t)
      ∙ ap (past (statement_rule.steps x)) h.past_is
      ∙ ap (λ l. past l xs) (sym (rule-traced x rest fits))
      ∙ statement.left xs (x, rest) (rule-reads x rest fits)

  whole-is : gathered add_statement (statements_seen f.statements) (star (in_set all) statement.code xs) ≡ gathered add_statement (statements_seen (f.statements ++ x ∷ [])) (star (in_set all) statement.code rest)
  whole-is =
      sym (more add_statement (in_set all) statement.code statement-eats (gathered add_statement (statements_seen f.statements) (star (in_set all) statement.code xs)) (statements_seen f.statements) xs rest seen test read refl)
      ∙ ap (λ v. gathered add_statement v (star (in_set all) statement.code rest)) (sym (seen-more f.statements x))

  notes-are : notes_behind (first_in f) xs ≡ statement.notes (first_in f) xs ++ notes_behind (next_first (first_in f) seen) rest
  notes-are =
      stated-turn (in_set all) next_first statement.code statement.notes statement-eats (first_in f) xs test
      ∙ ap (λ v. statement.notes (first_in f) xs ++ checked (λ y ys. notes_behind (next_first (first_in f) y) ys) v) read

  said-is : said.statements xs ≡ said.statements rest
  unfolding said.statements
  said-is = sym (more-words (in_set all) statement.code said.statement statement-eats (said.statements xs) xs rest seen test read refl)

  -- one more statement is read
  one-more : IsAt t (and_statement f x) rest
  one-more = record {
    whole_is = h.whole_is ∙ ap (λ v. v >>= ended f.syntax) whole-is;
    notes_are =
        h.notes_are ∙ ap (λ v. before t f ++ v) notes-are
        ∙ sym (append_assoc (before t f) (statement.notes (first_in f) xs) (notes_behind (next_first (first_in f) seen) rest))
        ∙ ap (λ v. v ++ notes_behind (next_first (first_in f) seen) rest) (sym before-is)
        ∙ ap (λ q. before t (and_statement f x) ++ notes_behind q rest) (sym first-is);
    said_is = h.said_is ∙ said-is;
    past_is = past-is;
    leads = subst (λ q. Leads t (before t (and_statement f x)) q rest) (sym first-is) (leads-more t (before t f) (first_in f) xs rest seen (before t (and_statement f x)) h.leads read before-is);
  }

-- a file of these parts
abbrev file_of : Option (tree.Syntax Place) → List (tree.Statement Place) → tree.File Place
file_of syntax statements = record { syntax = syntax; statements = statements }

all-more : (t : Table) (o : Option (tree.Syntax Place)) (ys xs : List (tree.Statement Place)) (rest : Rows Place) → Each Fits xs → IsAt t (file_of o ys) (s.many s.statement xs ++ rest) → IsAt t (file_of o (ys ++ xs)) rest
all-more t o ys [] rest fits h = subst (λ v. IsAt t (file_of o v) rest) (sym (append-nil ys)) h
all-more t o ys (x ∷ xs) rest fits h =
    let later = s.many s.statement xs ++ rest in
    let here_now = subst (IsAt t (file_of o ys)) (append_assoc (s.statement x) (s.many s.statement xs) rest) h in
    subst (λ v. IsAt t (file_of o v) rest) (append_assoc ys (x ∷ []) xs) (all-more t o (ys ++ x ∷ []) xs rest fits.1 (one-more t (file_of o ys) x later fits.0 here_now))

-- ---- the syntax statement, or none

abbrev syntax_rule : rule.Rule Place (Option (tree.Syntax Place))
syntax_rule = rule.optional (only token.syntax) r.syntax

syntax-fits : (o : Option (tree.Syntax Place)) → k.Given r.syntax.fits o
unfolding r.syntax
syntax-fits None = tt
syntax-fits (Some x) = tt

syntax-follows : (o : Option (tree.Syntax Place)) (rows : Rows Place) → (o ≡ None → Stops (only token.syntax) rows) → rule.Closes r.syntax.ends (only token.syntax) o rows
unfolding r.syntax
syntax-follows None rows stops = stops refl
syntax-follows (Some x) rows stops = (grammar.syntax-laws here).spelled.follow x rows tt (stops-none rows)

module _ (t : Table) (o : Option (tree.Syntax Place)) (rows : Rows Place) (is : placed t ≡ s.maybe s.syntax o ++ rows) (stops : o ≡ None → Stops (only token.syntax) rows) where
  syntax-reads : syntax_rule.read (placed t) ≡ Ok (o, rows)
  unfolding r.syntax
  syntax-reads =
      let l = optional-laws (only token.syntax) (grammar.syntax-laws here) refl in
      ap syntax_rule.read is ∙ l.read.again o rows (syntax-fits o) (syntax-follows o rows stops)

  syntax-traced : syntax_rule.trace (placed t) ≡ syntax_steps o
  syntax-traced = (optional-laws (only token.syntax) (grammar.syntax-laws here) refl).traced.ok (placed t) (o, rows) syntax-reads

  syntax-code : syntax_if_any.code (placed t) ≡ Ok (option_map syntax_seen o, rows)
  syntax-code = syntax_if_any.shows.same (placed t) ∙ ap (λ v. v >>= λ y. Ok (option_map syntax_seen y.0, y.1)) syntax-reads

  start-whole : whole (placed t) ≡ (gathered add_statement (statements_seen []) (star (in_set all) statement.code rows) >>= ended o)
  unfolding whole statements_at
  start-whole = ap (λ v. v >>= λ x. statements_at x.1 >>= λ y. Ok ((x.0, y.0), y.1)) syntax-code

  start-said : said.whole (placed t) ≡ said.statements rows
  unfolding said.whole
  start-said = ap (words.behind (said.syntax (placed t)) (λ found. said.statements)) syntax-code

  module _ (fine : Each IsFine (noted_nodes None here (syntax_steps o))) where
    told-is : told None here (syntax_rule.trace (placed t)) (placed t) ≡ syntax_if_any.notes (placed t)
    told-is = syntax_if_any.tells.says None here (placed t)

    no-notes : syntax_if_any.notes (placed t) ≡ []
    no-notes =
        faults-none (syntax_if_any.notes (placed t)) (syntax-faults (placed t))
        (subst IsFaultless told-is (told-fine None here (syntax_rule.trace (placed t)) (placed t) (subst (λ l. Each IsFine (noted_nodes None here l)) (sym syntax-traced) fine)))

    start-notes : all_notes (placed t) ≡ notes_behind None rows
    unfolding all_notes
    start-notes = ap (λ v. v ++ then_notes (notes_behind None) (syntax_if_any.code (placed t))) no-notes ∙ ap (then_notes (notes_behind None)) syntax-code

    start-steps : steps levels (begun o) ≡ syntax_rule.trace (placed t)
    start-steps = steps-begun o ∙ sym syntax-traced

    start-before : before t (begun o) ≡ []
    start-before = ap (λ l. told None here l (placed t)) start-steps ∙ told-is ∙ no-notes

    start-first : first_in (begun o) ≡ None
    start-first = ap (λ l. place_of (first_behind None l)) start-steps ∙ ap place_of (grammar.syntax-first here None (placed t) (o, rows) syntax-reads)

    at-start : head_in is_invalid (placed t) ≡ false → IsAt t (begun o) rows
    at-start valid = record {
      whole_is = start-whole;
      notes_are = start-notes ∙ ap (λ q. notes_behind q rows) (sym start-first) ∙ ap (λ v. v ++ notes_behind (first_in (begun o)) rows) (sym start-before);
      said_is = start-said;
      past_is = ap (λ l. past l (placed t)) start-steps ∙ syntax_if_any.tells.left (placed t) (o, rows) syntax-reads;
      leads = subst (λ q. Leads t (before t (begun o)) q rows) (sym start-first) (subst (λ v. Leads t v None rows) (sym start-before) (leads-start t valid (option_map syntax_seen o) rows no-notes syntax-code));
    }

-- ---- where no syntax statement is read, none begins

stops-by : (rest : Rows Place) → (BeginWithSyntax rest → ⊥) → Stops (only token.syntax) rest
stops-by [] h = tt
stops-by (r ∷ rs) h = none_is (head_in (in_set (only token.syntax)) (r ∷ rs)) h
  where
    none_is : (b : Bool) → (b ≡ true → ⊥) → b ≡ false
    none_is true g = absurd (g refl)
    none_is false g = refl

stops-before : (xs : List (tree.Statement Place)) (rest : Rows Place) → Each Fits xs → (xs ≡ [] → BeginWithSyntax rest → ⊥) → Stops (only token.syntax) (s.many s.statement xs ++ rest)
stops-before [] rest fits past = stops-by rest (past refl)
stops-before (x ∷ xs) rest fits past = subst (λ (l : Rows Place). Stops (only token.syntax) l) (sym (append_assoc (s.statement x) (s.many s.statement xs) rest)) (apart x (s.many s.statement xs ++ rest) fits.0)

-- ---- the file and its rest

-- The table goes on as its rest does. Nothing is wrong before the rest, and no aggregate is open
-- there.
pub record GoesOn (t : Table) (f : tree.File Place) (first : Option Span) (rest : Rows Place) : Type 0 where
  pub whole_is : whole (placed t) ≡ (gathered add_statement (statements_seen f.statements) (star (in_set all) statement.code rest) >>= λ y. Ok ((option_map syntax_seen f.syntax, y.0), y.1))
  pub notes_are : all_notes (placed t) ≡ before t f ++ notes_behind first rest
  pub said_is : said.whole (placed t) ≡ said.statements rest
  pub faultless : IsFaultless (before t f)
  pub above : AreAbove (suc (length rest)) (before t f)
  pub closed : last_mode false (before t f) ≡ false
  pub leads : Leads t (before t f) first rest

module _ (t : Table) (f : tree.File Place) (first : Option Span) (rest : Rows Place) (so_far : IsRightSoFar first f) (is : placed t ≡ s.spell f ++ rest) (past_syntax : f.syntax ≡ None → f.statements ≡ [] → BeginWithSyntax rest → ⊥)
    (valid : head_in is_invalid (placed t) ≡ false) where
  syntax-fine : Each IsFine (noted_nodes None here (syntax_steps f.syntax))
  unfolding bodies.file
  syntax-fine =
      let own = syntax_steps f.syntax in
      let later = steps_of_many statement_rule.steps f.statements in
      each-front IsFine (noted_nodes None here own) (noted_nodes (first_behind None own) (keyword_behind here own) later) (subst (Each IsFine) (noted-append None here own later) so_far.fine)

  at-rest : IsAt t f rest
  at-rest =
      let rows = s.many s.statement f.statements ++ rest in
      all-more t f.syntax [] f.statements rest so_far.fits
      (at-start t f.syntax rows (is ∙ append_assoc (s.maybe s.syntax f.syntax) (s.many s.statement f.statements) rest)
      (λ no_syntax. stops-before f.statements rest so_far.fits (past_syntax no_syntax)) syntax-fine valid)

  pub goes-on : GoesOn t f first rest
  goes-on =
      let at = at-rest in
      let none_wrong = told-fine None here (steps levels f) (placed t) so_far.fine in
      record {
        whole_is = at.whole_is;
        notes_are = at.notes_are ∙ ap (λ q. before t f ++ notes_behind q rest) so_far.place;
        said_is = at.said_is;
        faultless = none_wrong;
        above = subst (λ v. AreAbove (suc (length v)) (before t f)) at.past_is (told-in-order None here (steps levels f) (placed t) none_wrong).1;
        closed = closed-told None here (steps levels f) (placed t) false (file-outside levels f) none_wrong;
        leads = subst (λ q. Leads t (before t f) q rest) so_far.place at.leads;
      }
