-- Each statement leads on in the list of all faults, whether it is read or refused.
use Rattle.std.proofs.Common.{◌≡◌, ◌<◌, ◌≤◌, ℕ, zero, suc, ◌+◌, ◌-◌, Bool, true, false, cond, List, [], ◌∷◌, ◌++◌, drop, length, Option, Result, Ok, Err, refl, sym, ap, subst, ◌∙◌, append_assoc, arith, inl, inr}
use Rattle.std.proofs.lemmas.Bool.{cases_lt, lt-ltb, le-ltb}
use Rattle.std.proofs.lemmas.List.{length-append}
use Rattle.std.specs.Prelude.{nat_lt}
use Rattle.protox_fault.specs.Faults.{Span}
use Rattle.protox_fault.specs.declared.error.ParseErrorKind.{ParseErrorKind}
use Rattle.protox_lexeme.specs.Shapes.{Row, Rows}
use Rattle.protox_lexeme.specs.Table.{Table}
use Rattle.protox_ast.proofs.Lemmas.{as-many}
use Rattle.protox_ast.specs.KeywordWalk as k
use Rattle.protox_ast.specs.Places.{Place, placed}
use Rattle.protox_ast.specs.Tree as tree
use Rattle.protox_grammar.specs.Bodies as bodies
use Rattle.protox_grammar.specs.Reader.{Consumes, Refusal, Unexpected, Deep}
use Rattle.protox_grammar.specs.Steps.{Steps}
use Rattle.protox_grammar.specs.Told.{Notes, first_behind, told}
use Rattle.protox_grammar.proofs.Lemmas.{as_is, body-laws, map_err, shows-eats}
use Rattle.protox_grammar.proofs.Lemmas as messages
use Rattle.protox_declarations.specs.inner.Options.{here}
use Rattle.protox_rows.specs.inner.Outcome.{Fails}
use Rattle.protox_rows.specs.declared.refused.Refused.{Refused}
use Rattle.protox_rows.specs.declared.refused.Refused.TheVariants.{OutOfMemory, At, TooDeep}
use Rattle.protox_syntax.specs.AllFaults.{Progress, after_statement, along, beginning, behind_block, faults_of_table, from_statement, in_mode, last, nowhere, read, refused, statements}
use Rattle.protox_syntax.specs.inner.Leading.{Alike, Ends, Leads, found_with_notes, rest_of}
use Rattle.protox_syntax.specs.inner.Recovery.{AreLast, AreRefusalNotes, at_most, last_rows, next_rows, plain_note, refusal_notes}
use Rattle.protox_syntax.specs.inner.Statements.{levels, next_first, statement, statement_rule, statement_seen}
use Rattle.protox_syntax.specs.declared.statement_types.Statement as statement_type
use Rattle.protox_syntax.proofs.Along.{along-found_with_notes, found_with_notes-append}
use Rattle.protox_syntax.proofs.Alike.{alike-found_with_notes, alike-read, alike-refused}
use Rattle.protox_syntax.proofs.Recovering.{drop-last, from-block, from-last, last-behind, last-fewer, last-last, next-last, statement-read}
use Rattle.protox_syntax.proofs.Turns.{statement-eats}

-- ---- the bound on the statements doesn't matter

rule-eats : Consumes statement_rule.read
rule-eats = shows-eats (messages.statement-laws here k.KeepsMbody (bodies.FitsMbody levels) (bodies.unsealed levels).read (bodies.unsealed levels).steps (bodies.unsealed levels).trace (body-laws here levels)) (as_is statement_rule.read)

abbrev Go : Type 0
Go = Option (tree.Package Place) → Rows Place → Progress → List ParseErrorKind

fewer-at : (left : ℕ) (rs : Rows Place) → length (from_statement (last left rs)) < suc (length rs)
fewer-at left rs = omega (arith, last-fewer rs (from_statement (last left rs)) (last-last rs (last left rs) (from_statement (last left rs)) (drop-last (length rs - left) rs) (from-last (last left rs))))

module _ (t : Table) where
  fewer-deep : (left : ℕ) (rs : Rows Place) → length (from_statement (behind_block 0 (last left rs))) < suc (length rs)
  fewer-deep left rs =
      omega (arith, last-fewer rs (from_statement (behind_block 0 (last left rs))) (last-last rs (last left rs) (from_statement (behind_block 0 (last left rs))) (drop-last (length rs - left) rs) (from-block t (last left rs))))

  after-same : (g h : Go) (first : Option (tree.Package Place)) (r : Row Place) (rs : Rows Place) (o : Result (tree.Statement Place × Rows Place) Refusal) (p : Progress) → statement_rule.read (r ∷ rs) ≡ o
      → ((f : Option (tree.Package Place)) (ys : Rows Place) (q : Progress) → length ys < suc (length rs) → g f ys q ≡ h f ys q) → after_statement t g first (r ∷ rs) o p ≡ after_statement t h first (r ∷ rs) o p
  after-same g h first r rs (Ok x) p e same = same (first_behind first (statement_rule.trace (r ∷ rs))) x.1 p (omega (arith, rule-eats (r ∷ rs) x e))
  after-same g h first r rs (Err (Unexpected left)) p e same = same first (from_statement (last left rs)) (refused t left p) (fewer-at left rs)
  after-same g h first r rs (Err (Deep left)) p e same = same first (from_statement (behind_block 0 (last (left - 1) rs))) (in_mode false (read t (left - 1) p)) (fewer-deep (left - 1) rs)

  enough : (n m : ℕ) (first : Option (tree.Package Place)) (rows : Rows Place) (p : Progress) → length rows < n → length rows < m → statements t n first rows p ≡ statements t m first rows p
  enough zero m first rows p h g = absurd (omega (arith, h))
  enough (suc n) zero first rows p h g = absurd (omega (arith, g))
  enough (suc n) (suc m) first [] p h g = refl
  enough (suc n) (suc m) first (r ∷ rs) p h g =
      after-same (statements t n) (statements t m) first r rs (statement_rule.read (r ∷ rs)) (along t first nowhere (statement_rule.trace (r ∷ rs)) (r ∷ rs) p) refl
      (λ f ys q lt. enough n m f ys q (omega (arith, h, lt)) (omega (arith, g, lt)))

  rest-turn : (first : Option (tree.Package Place)) (r : Row Place) (rs : Rows Place) (p : Progress)
      → rest_of t first (r ∷ rs) p ≡ after_statement t (rest_of t) first (r ∷ rs) (statement_rule.read (r ∷ rs)) (along t first nowhere (statement_rule.trace (r ∷ rs)) (r ∷ rs) p)
  rest-turn first r rs p =
      after-same (statements t (suc (length rs))) (rest_of t) first r rs (statement_rule.read (r ∷ rs)) (along t first nowhere (statement_rule.trace (r ∷ rs)) (r ∷ rs) p) refl
      (λ f ys q lt. enough (suc (length rs)) (suc (length ys)) f ys q lt (omega arith))

-- ---- the rows with which reading goes on

drop-past : (n a : ℕ) (front ys : Rows Place) → n ≡ length front + a → drop n (front ++ ys) ≡ drop a ys
drop-past n a [] ys e = let same : n ≡ a = omega (arith, e) in ap (λ m. drop m ys) same
drop-past zero a (x ∷ front) ys e = absurd (omega (arith, e))
drop-past (suc n) a (x ∷ front) ys e = drop-past n a front ys (omega (arith, e))

module _ (t : Table) (r : Row Place) (rs : Rows Place) (h : AreLast t (r ∷ rs)) where
  abbrev front : Rows Place
  front = h.0 ++ r ∷ []

  parts : placed t ≡ front ++ rs
  parts = h.1 ∙ sym (append_assoc h.0 (r ∷ []) rs)

  many : length t.rows ≡ length front + length rs
  many = omega (arith, ap length parts, length-append front rs, as-many true t.rows t.gaps)

  last-at : (count : ℕ) → count ≤ length rs → last_rows t count ≡ drop (length rs - count) rs
  last-at count le =
      let skipped : length t.rows - count ≡ length front + (length rs - count) = omega (arith, many, le) in
      ap (drop (length t.rows - count)) parts ∙ drop-past (length t.rows - count) (length rs - count) front rs skipped

  pub last-is : (left : ℕ) → last_rows t (at_most (length rs) left) ≡ last left rs
  last-is left = by (nat_lt left (length rs)) refl
    where
      by : (b : Bool) → nat_lt left (length rs) ≡ b → last_rows t (cond b left (length rs)) ≡ last left rs
      by true e = elim (cases_lt left (length rs)) [
        | inl lt ↦ last-at left (omega (arith, lt))
        | inr le ↦ absurd (let f = sym (le-ltb left (length rs) le) ∙ e in cc)
      ]
      by false e = elim (cases_lt left (length rs)) [
        | inl lt ↦ absurd (let f = sym (lt-ltb left (length rs) lt) ∙ e in cc)
        | inr le ↦ (let same : length rs - length rs ≡ length rs - left = omega (arith, le) in last-at (length rs) (omega arith) ∙ ap (λ n. drop n rs) same)
      ]

-- ---- one statement

statement-err : (xs : Rows Place) (e : Refusal) → statement.code xs ≡ Err e → statement_rule.read xs ≡ Err e
statement-err xs e h = map_err statement_seen (statement_rule.read xs) e (sym (statement.shows.same xs) ∙ h)

module _ (t : Table) (notes : Notes) (q : Option Span) (r : Row Place) (rs : Rows Place) (v : Leads t notes q (r ∷ rs)) where
  abbrev xs : Rows Place
  xs = r ∷ rs

  abbrev steps : Steps Place
  steps = statement_rule.trace xs

  abbrev own : Notes
  own = told v.statement_first nowhere steps xs

  abbrev found_then : Progress
  found_then = along t v.statement_first nowhere steps xs v.found

  own-is : statement.notes q xs ≡ own
  own-is = sym (statement.says v.statement_first nowhere xs ∙ ap (λ u. statement.notes u xs) v.first_is)

  alike-then : Alike (found_with_notes t (notes ++ statement.notes q xs) beginning) found_then
  alike-then =
      subst (λ (u : Progress). Alike u found_then) (sym (ap (λ n. found_with_notes t (notes ++ n) beginning) own-is ∙ found_with_notes-append t notes own beginning))
      (subst (λ (u : Progress). Alike (found_with_notes t own (found_with_notes t notes beginning)) u) (sym (along-found_with_notes t v.statement_first nowhere steps xs v.found))
      (alike-found_with_notes t own (found_with_notes t notes beginning) v.found v.alike))

  rest-then : (o : Result (tree.Statement Place × Rows Place) Refusal) → statement_rule.read xs ≡ o → after_statement t (rest_of t) v.statement_first xs o found_then ≡ faults_of_table t
  rest-then o e = sym (rest-turn t v.statement_first r rs v.found ∙ ap (λ u. after_statement t (rest_of t) v.statement_first xs u found_then) e) ∙ v.rest

  -- it is read
  pub leads-read : (ys : Rows Place) (x : statement_type.Statement) (new : Notes) → statement.code xs ≡ Ok (x, ys) → new ≡ notes ++ statement.notes q xs → Leads t new (next_first q x) ys
  leads-read ys x new e added =
      let s = statement-read xs ys x e in
      record {
        statement_first = first_behind v.statement_first steps;
        found = found_then;
        first_is = statement.first v.statement_first xs (s.found, ys) s.read ∙ (λ i. next_first (v.first_is i) (s.seen i));
        last = last-behind t q xs v.last ys x e;
        alike = subst (λ n. Alike (found_with_notes t n beginning) found_then) (sym added) alike-then;
        rest = rest-then (Ok (s.found, ys)) s.read;
      }

  -- it is refused
  pub leads-refused : (e : Refused) (at_refusal new : Notes) (most : ℕ) → most ≡ length rs → Fails e (statement.code xs) → AreRefusalNotes t.rows e at_refusal → new ≡ (notes ++ statement.notes q xs) ++ at_refusal → Leads t new q (next_rows t e most)
  leads-refused OutOfMemory at_refusal new most is fails h added = absurd h
  leads-refused (At left expected) at_refusal new most is fails h added =
      let rows : next_rows t (At left expected) most ≡ from_statement (last left rs) = ap (λ n. next_rows t (At left expected) n) is ∙ ap from_statement (last-is t r rs v.last left) in
      let notes-are : new ≡ (notes ++ statement.notes q xs) ++ refusal_notes left h.0 t.rows = added ∙ ap (λ n. (notes ++ statement.notes q xs) ++ n) h.2 in
      record {
        statement_first = v.statement_first;
        found = refused t left found_then;
        first_is = v.first_is;
        last = next-last t (At left expected) most;
        alike = subst (λ (u : Progress). Alike u (refused t left found_then)) (sym (ap (λ n. found_with_notes t n beginning) notes-are ∙ found_with_notes-append t (notes ++ statement.notes q xs) (refusal_notes left h.0 t.rows) beginning))
            (alike-refused t left h.0 (found_with_notes t (notes ++ statement.notes q xs) beginning) found_then h.1.0 alike-then);
        rest = ap (λ ys. rest_of t v.statement_first ys (refused t left found_then)) rows ∙ rest-then (Err (Unexpected left)) (statement-err xs (Unexpected left) fails);
      }
  leads-refused (TooDeep left) at_refusal new most is fails h added =
      let rows : next_rows t (TooDeep left) most ≡ from_statement (behind_block 0 (last (left - 1) rs)) = ap (λ n. next_rows t (TooDeep left) n) is ∙ ap (λ ys. from_statement (behind_block 0 ys)) (last-is t r rs v.last (left - 1)) in
      let notes-are : new ≡ (notes ++ statement.notes q xs) ++ plain_note (left - 1) = added ∙ ap (λ n. (notes ++ statement.notes q xs) ++ n) h in
      let seen : Progress = in_mode false (read t (left - 1) found_then) in
      let alike = alike-read t (left - 1) (found_with_notes t (notes ++ statement.notes q xs) beginning) found_then alike-then in
      record {
        statement_first = v.statement_first;
        found = seen;
        first_is = v.first_is;
        last = next-last t (TooDeep left) most;
        alike = subst (λ (u : Progress). Alike u seen) (sym (ap (λ n. found_with_notes t n beginning) notes-are ∙ found_with_notes-append t (notes ++ statement.notes q xs) (plain_note (left - 1)) beginning)) (alike.0, alike.1, refl);
        rest = ap (λ ys. rest_of t v.statement_first ys seen) rows ∙ rest-then (Err (Deep left)) (statement-err xs (Deep left) fails);
      }

-- all rows are read
pub leads-end : (t : Table) (notes : Notes) (q : Option Span) (rows : Rows Place) → rows ≡ [] → Leads t notes q rows → Ends t notes
leads-end t notes q [] e v = (v.found, v.alike, v.rest)
leads-end t notes q (r ∷ rs) e v = absurd cc

-- ---- turns of the loops

pub leads-more : (t : Table) (notes : Notes) (q : Option Span) (xs ys : Rows Place) (x : statement_type.Statement) (new : Notes) → Leads t notes q xs → statement.code xs ≡ Ok (x, ys) → new ≡ notes ++ statement.notes q xs → Leads t new (next_first q x) ys
leads-more t notes q [] ys x new v e added = absurd (omega (arith, statement-eats [] (x, ys) e))
leads-more t notes q (r ∷ rs) ys x new v e added = leads-read t notes q r rs v ys x new e added

pub leads-behind : (t : Table) (notes : Notes) (q : Option Span) (xs : Rows Place) (e : Refused) (at_refusal new : Notes) (most : ℕ) → (xs ≡ [] → ⊥) → Leads t notes q xs → most ≡ length xs - 1 → Fails e (statement.code xs) → AreRefusalNotes t.rows e at_refusal
    → new ≡ (notes ++ statement.notes q xs) ++ at_refusal → Leads t new q (next_rows t e most)
leads-behind t notes q [] e at_refusal new most some v is fails h added = absurd (some refl)
leads-behind t notes q (r ∷ rs) e at_refusal new most some v is fails h added = leads-refused t notes q r rs v e at_refusal new most (omega (arith, is)) fails h added
