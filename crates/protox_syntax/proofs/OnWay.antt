-- One turn in the last part of a source: a statement is read, or it is refused.
use Rattle.std.proofs.Common.{◌≡◌, ◌-◌, ℕ, Bool, true, false, List, [], ◌∷◌, ◌++◌, length, Ok, refl, sym, ap, subst, ◌∙◌, append_assoc, arith}
use Rattle.protox_lexeme.specs.Shapes.{Rows}
use Rattle.protox_lexeme.specs.Table.{Table}
use Rattle.protox_ast.specs.Places.{Place, placed}
use Rattle.protox_ast.specs.declared.ast.File.{File}
use Rattle.protox_ast.specs.declared.ast.FileItem.{FileItem}
use Rattle.protox_grammar.specs.Class.{all, in_set}
use Rattle.protox_grammar.specs.Reader.{◌>>=◌, gathered, head_in, star}
use Rattle.protox_grammar.specs.Told.{Notes}
use Rattle.protox_rows.proofs.Lemmas as turns
use Rattle.protox_rows.specs.inner.Notes.{AddsTo}
use Rattle.protox_rows.specs.inner.Outcome.{Fails}
use Rattle.protox_rows.specs.inner.Words.{SaysOf}
use Rattle.protox_rows.specs.declared.refused.Refused.{Refused}
use Rattle.protox_rows.specs.declared.refused.Refused.TheVariants.{OutOfMemory, At, TooDeep}
use Rattle.protox_syntax.proofs.Growing.{held-one, place-held, place-with, span-with}
use Rattle.protox_syntax.proofs.Leading.{leads-behind, leads-more}
use Rattle.protox_syntax.proofs.Recovering.{first-stays, further-lies, last-behind, lies-further, lies-itself, next-last, recovers-at_refusal, recovers-more, refused-later, statement-later}
use Rattle.protox_syntax.proofs.Refusing.{added-behind, at_refusal-lie, at_refusal-notable}
use Rattle.protox_syntax.proofs.Shift.{fails-within, next-same, refusal-same}
use Rattle.protox_syntax.proofs.Turns.{first-added, last-notes, more-notes, statement-eats}
use Rattle.protox_syntax.specs.declared.statement_types.Statement as statement_type
use Rattle.protox_syntax.specs.inner.Leading.{Leads}
use Rattle.protox_syntax.specs.inner.OnWay.{IsBehindRefusal, IsOnWay, IsReadTo, IsUnrefused, table_in}
use Rattle.protox_syntax.specs.inner.ParsedTable.{syntax_or_default}
use Rattle.protox_syntax.specs.inner.Parts.{place_in, with_statement}
use Rattle.protox_syntax.specs.inner.Recovery.{AreRefusalNotes, FirstLies, LiesToo, next_rows}
use Rattle.protox_syntax.specs.inner.Statements.{add_statement, first_place, next_first, statement}
use Rattle.protox_syntax.specs.inner.Whole.{all_notes, whole}
use Rattle.protox_syntax.specs.inner.Words as said

some-head : (xs : Rows Place) → (xs ≡ [] → ⊥) → head_in (in_set all) xs ≡ true
some-head [] some = absurd (some refl)
some-head (x ∷ xs) some = refl

module _ (source : List ℕ) (part : Table) (refused : Bool) (rows : Rows Place) (notes : Notes) (gone : List FileItem) (head : File) (w : IsOnWay source part refused rows notes gone head) (some : rows ≡ [] → ⊥) where
  abbrev t : Table
  t = table_in source

  test : head_in (in_set all) rows ≡ true
  test = some-head rows some

  -- ---- a statement is read

  module _ (x : statement_type.Statement) (ahead : Rows Place) (new : Notes) (read : statement.code rows ≡ Ok (x, ahead)) (added : new ≡ notes ++ statement.notes (place_in head) rows) where
    all-added : w.before ++ new ≡ (w.before ++ notes) ++ statement.notes (place_in head) rows
    all-added = ap (λ n. w.before ++ n) added ∙ sym (append_assoc w.before notes (statement.notes (place_in head) rows))

    leads-on : Leads t (w.before ++ new) (next_first (place_in head) x) ahead
    leads-on = leads-more t (w.before ++ notes) (place_in head) rows ahead x (w.before ++ new) w.leads read all-added

    unrefused-on : IsUnrefused source rows (w.before ++ notes) gone head → IsUnrefused source ahead (w.before ++ new) gone (with_statement head x)
    unfolding said.statements
    unrefused-on u =
        let st = u.statements in
        let place : place_in head ≡ first_place st = place-held (syntax_or_default u.syntax) st gone head u.held in
        record {
          syntax = u.syntax;
          statements = add_statement st x;
          whole_is = u.whole_is ∙ ap (λ r. r >>= λ y. Ok ((u.syntax, y.0), y.1)) (sym (turns.more add_statement (in_set all) statement.code statement-eats (gathered add_statement st (star (in_set all) statement.code rows)) st rows ahead x test read refl));
          notes_are = more-notes (first_place st) [] (w.before ++ notes) (w.before ++ new) (all_notes (placed t)) rows ahead x st test read refl (all-added ∙ ap (λ q. (w.before ++ notes) ++ statement.notes q rows) place) u.notes_are;
          said_is = sym (turns.more-words (in_set all) statement.code said.statement statement-eats (said.whole (placed t)) rows ahead x test read (sym u.said_is));
          syntax_span = span-with head x ∙ u.syntax_span;
          held = held-one (syntax_or_default u.syntax) st gone head u.held x;
          lies = subst (FirstLies (placed t)) (sym (first-added st x)) (further-lies (placed t) rows ahead (first_place st) x w.leads.last u.lies read);
        }

    -- It is kept where none has been refused; `now` is the head with it.
    pub read-on : refused ≡ false → (now : File) → now ≡ with_statement head x → IsOnWay source part refused ahead new gone now
    read-on none now is = subst (λ (h : File). IsOnWay source part refused ahead new gone h) (sym is) (record {
      before = w.before;
      merged = w.merged;
      fewer = w.fewer;
      leads = subst (λ q. Leads t (w.before ++ new) q ahead) (sym (place-with head x)) leads-on;
      last = last-behind part (place_in head) rows w.last ahead x read;
      read_to = subst (λ v. IsReadTo v source ahead (w.before ++ new) gone (with_statement head x)) (sym none) (unrefused-on (subst (λ v. IsReadTo v source rows (w.before ++ notes) gone head) none w.read_to));
    })

    refused-on : IsBehindRefusal source (w.before ++ notes) head → (now : File) → place_in now ≡ next_first (place_in head) x → IsBehindRefusal source (w.before ++ new) now
    refused-on b now is = record {
      refused = b.refused;
      first = b.first;
      fails = b.fails;
      says = b.says;
      recovers = recovers-more t b.refused b.first (all_notes (placed t)) (place_in head) (w.before ++ notes) (statement.notes (place_in head) rows) (w.before ++ new) b.recovers b.now_lies all-added (statement-later t (place_in head) rows w.leads.last);
      lies = b.lies;
      now_lies = subst (LiesToo t b.first) (sym is) (lies-further t b.first (place_in head) (next_first (place_in head) x) b.now_lies (first-stays t (place_in head) rows w.leads.last ahead x read));
    }

    -- Behind a refusal only the place of the first package counts.
    pub passed-on : refused ≡ true → (now : File) → place_in now ≡ next_first (place_in head) x → IsOnWay source part refused ahead new gone now
    passed-on behind now is = record {
      before = w.before;
      merged = w.merged;
      fewer = w.fewer;
      leads = subst (λ q. Leads t (w.before ++ new) q ahead) (sym is) leads-on;
      last = last-behind part (place_in head) rows w.last ahead x read;
      read_to = subst (λ v. IsReadTo v source ahead (w.before ++ new) gone now) (sym behind) (refused-on (subst (λ v. IsReadTo v source rows (w.before ++ notes) gone head) behind w.read_to) now is);
    }

    -- It adds what it declares; `now` is the head with that.
    pub any-on : (now : File) → now ≡ with_statement head x → IsOnWay source part refused ahead new gone now
    any-on now is = by refused refl
      where
        by : (v : Bool) → refused ≡ v → IsOnWay source part refused ahead new gone now
        by false none = read-on none now is
        by true behind = passed-on behind now (ap place_in is ∙ place-with head x)

  -- ---- a statement is refused

  module _ (e : Refused) (mid new at_refusal : Notes) (most : ℕ) (is : most ≡ length rows - 1) (fails : Fails e (statement.code rows)) (adds : AddsTo e notes (statement.notes (place_in head) rows) mid) (own : AreRefusalNotes part.rows e at_refusal)
      (added : new ≡ mid ++ at_refusal) (says : SaysOf e (said.statement rows)) where
    own-all : AreRefusalNotes t.rows e at_refusal
    own-all = refusal-same t part rows w.leads.last w.last e at_refusal (fails-within e rows fails) own

    mid-is : mid ≡ notes ++ statement.notes (place_in head) rows
    mid-is = added-behind part.rows e notes (statement.notes (place_in head) rows) mid at_refusal own adds

    all-mid : w.before ++ mid ≡ (w.before ++ notes) ++ statement.notes (place_in head) rows
    all-mid = ap (λ n. w.before ++ n) mid-is ∙ sym (append_assoc w.before notes (statement.notes (place_in head) rows))

    all-new : w.before ++ new ≡ (w.before ++ mid) ++ at_refusal
    all-new = ap (λ n. w.before ++ n) added ∙ sym (append_assoc w.before mid at_refusal)

    leads-past : Leads t (w.before ++ new) (place_in head) (next_rows part e most)
    leads-past =
        subst (Leads t (w.before ++ new) (place_in head)) (next-same t part rows w.leads.last w.last e most (omega (arith, is)))
        (leads-behind t (w.before ++ notes) (place_in head) rows e at_refusal (w.before ++ new) most some w.leads is fails own-all (all-new ∙ ap (λ n. n ++ at_refusal) all-mid))

    adds-all : (e : Refused) → AreRefusalNotes part.rows e at_refusal → AddsTo e (w.before ++ notes) (statement.notes (place_in head) rows) (w.before ++ mid)
    adds-all OutOfMemory h = absurd h
    adds-all (At left expected) h = all-mid
    adds-all (TooDeep left) h = all-mid

    noted-all : (e : Refused) → AreRefusalNotes part.rows e at_refusal → AddsTo e [] (all_notes (placed t)) (w.before ++ mid) → w.before ++ mid ≡ all_notes (placed t)
    noted-all OutOfMemory h a = absurd h
    noted-all (At left expected) h a = a
    noted-all (TooDeep left) h a = a

    refused-first : IsUnrefused source rows (w.before ++ notes) gone head → IsBehindRefusal source (w.before ++ new) head
    unfolding said.statements
    refused-first u =
        let st = u.statements in
        let place : place_in head ≡ first_place st = place-held (syntax_or_default u.syntax) st gone head u.held in
        let read = gathered add_statement st (star (in_set all) statement.code rows) in
        let noted = noted-all e own (last-notes (first_place st) [] (w.before ++ notes) (w.before ++ mid) (all_notes (placed t)) rows e test fails (subst (λ q. AddsTo e (w.before ++ notes) (statement.notes q rows) (w.before ++ mid)) place (adds-all e own)) u.notes_are) in
        record {
          refused = e;
          first = first_place st;
          fails = subst (Fails e) (sym u.whole_is) (turns.lifted e read (λ y. Ok ((u.syntax, y.0), y.1)) (turns.ends add_statement (in_set all) statement.code statement-eats read e st rows test fails refl));
          says = turns.last-words (in_set all) statement.code said.statement statement-eats e (said.whole (placed t)) rows test fails says (sym u.said_is);
          recovers = recovers-at_refusal t e (first_place st) (all_notes (placed t)) at_refusal (w.before ++ new) (all-new ∙ ap (λ n. n ++ at_refusal) noted) own-all;
          lies = u.lies;
          now_lies = subst (LiesToo t (first_place st)) (sym place) (lies-itself t (first_place st));
        }

    refused-again : IsBehindRefusal source (w.before ++ notes) head → IsBehindRefusal source (w.before ++ new) head
    refused-again b =
        let more = statement.notes (place_in head) rows ++ at_refusal in
        let is : w.before ++ new ≡ (w.before ++ notes) ++ more = all-new ∙ ap (λ n. n ++ at_refusal) all-mid ∙ append_assoc (w.before ++ notes) (statement.notes (place_in head) rows) at_refusal in
        record {
          refused = b.refused;
          first = b.first;
          fails = b.fails;
          says = b.says;
          recovers = recovers-more t b.refused b.first (all_notes (placed t)) (place_in head) (w.before ++ notes) more (w.before ++ new) b.recovers b.now_lies is
              (refused-later t (place_in head) rows at_refusal w.leads.last (at_refusal-notable t e at_refusal own-all) (at_refusal-lie t e at_refusal own-all));
          lies = b.lies;
          now_lies = b.now_lies;
        }

    pub refused-past : IsOnWay source part true (next_rows part e most) new gone head
    refused-past = record {
      before = w.before;
      merged = w.merged;
      fewer = w.fewer;
      leads = leads-past;
      last = next-last part e most;
      read_to = by refused w.read_to;
    }
      where
        by : (v : Bool) → IsReadTo v source rows (w.before ++ notes) gone head → IsBehindRefusal source (w.before ++ new) head
        by false u = refused-first u
        by true b = refused-again b
