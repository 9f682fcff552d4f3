-- The rows skipped behind a refused statement, and the notes allowed for those behind them.
use Rattle.std.proofs.Common.{◌≡◌, ◌≤◌, ◌-◌, ℕ, zero, suc, Bool, true, false, cond, List, [], ◌∷◌, ◌++◌, drop, length, Option, Some, None, option_map, Ok, refl, sym, ap, subst, ◌∙◌, append-nil, append_assoc, arith, inl, inr}
use Rattle.std.proofs.lemmas.List.{length-append, length-drop}
use Rattle.std.specs.Prelude.{◌==◌, nat_lt}
use Rattle.std.proofs.lemmas.Bool.{cases_lt, le-ltb}
use Rattle.protox_fault.specs.Faults.{Span, SpanLiesIn}
use Rattle.protox_fault.specs.declared.error.ParseErrorKind.TheVariants as fault
use Rattle.protox_lexeme.specs.Shapes.{Row, Rows}
use Rattle.protox_lexeme.specs.Table.{Table}
use Rattle.protox_lexeme.specs.TokenClass.{class}
use Rattle.protox_ast.proofs.Lemmas.{Stand, as-many, stand-after}
use Rattle.protox_ast.specs.AstParts.{strings_span, strings_value, text_of}
use Rattle.protox_ast.specs.CheckedNodes.{CheckedNode, ASyntax, AnImport, AReservedName, AGroupName, APackageAgain, ATooDeep}
use Rattle.protox_ast.specs.Checks.{is_group_name, is_ident, is_import_path, is_known_syntax, is_text}
use Rattle.protox_ast.specs.KeywordWalk.{Given}
use Rattle.protox_ast.specs.Places.{Place, placed}
use Rattle.protox_ast.specs.Tree as tree
use Rattle.protox_grammar.specs.Class.{among, in_set, only}
use Rattle.protox_grammar.specs.Reader.{head_in}
use Rattle.protox_grammar.specs.Steps.{ANode, APackage, AKeyword, ADeepBody, ADeeperBody, AnOpenBrace, ACloseBrace, Token, Note, Steps}
use Rattle.protox_grammar.specs.Told.{Notes, at_once, behind, is_invalid, node_notes, noted, run_note, past, told, unless_so, place_of}
use Rattle.protox_grammar.proofs.Lemmas.{AllLie, bind_ok, both-lie, ok_is}
use Rattle.protox_declarations.specs.inner.Options.{here}
use Rattle.protox_rows.specs.declared.refused.Refused.{Refused}
use Rattle.protox_rows.specs.declared.refused.Refused.TheVariants.{OutOfMemory, At, TooDeep}
use Rattle.protox_syntax.specs.inner.Recovery.{AreLast, AreLater, AreNotable, FirstLies, AreRefusalNotes, LiesToo, Recovers, at_most, behind_block, from_statement, last_rows, next_rows, statement_words}
use Rattle.protox_ast.specs.declared.ast.Comments.{Comments}
use Rattle.protox_ast.specs.declared.ast.Syntax as syntax_type
use Rattle.protox_grammar.specs.Rule as rule
use Rattle.protox_grammar.specs.Rules as r
use Rattle.protox_grammar.specs.Token as token
use Rattle.protox_syntax.specs.inner.Statements.{next_first, statement, statement_rule, statement_seen, syntax_if_any, syntax_seen}
use Rattle.protox_syntax.specs.declared.statement_types.Statement as statement_type

-- ---- the last of some rows

abbrev pub IsLastOf : Rows Place → Rows Place → Type 0
IsLastOf all rows = (front : Rows Place) × (all ≡ front ++ rows)

last-self : (rows : Rows Place) → IsLastOf rows rows
last-self rows = ([], refl)

last-more : (r : Row Place) (rs rows : Rows Place) → IsLastOf rs rows → IsLastOf (r ∷ rs) rows
last-more r rs rows h = (r ∷ h.0, ap (λ v. r ∷ v) h.1)

pub last-last : (a b c : Rows Place) → IsLastOf a b → IsLastOf b c → IsLastOf a c
last-last a b c h g = (h.0 ++ g.0, h.1 ∙ ap (λ v. h.0 ++ v) g.1 ∙ sym (append_assoc h.0 g.0 c))

last-cond : (c : Bool) (all a b : Rows Place) → IsLastOf all a → IsLastOf all b → IsLastOf all (cond c a b)
last-cond true all a b h g = h
last-cond false all a b h g = g

pub last-fewer : (a b : Rows Place) → IsLastOf a b → length b ≤ length a
last-fewer a b h = omega (arith, ap length h.1, length-append h.0 b)

pub drop-last : (n : ℕ) (xs : Rows Place) → IsLastOf xs (drop n xs)
drop-last zero xs = last-self xs
drop-last (suc n) [] = last-self []
drop-last (suc n) (x ∷ xs) = last-more x xs (drop n xs) (drop-last n xs)

pub from-last : (rows : Rows Place) → IsLastOf rows (from_statement rows)
from-last [] = last-self []
from-last (r ∷ rs) = last-cond (in_set (among statement_words) r.shape) (r ∷ rs) (r ∷ rs) (from_statement rs) (last-self (r ∷ rs)) (last-more r rs (from_statement rs) (from-last rs))

pub block-last : (depth : ℕ) (rows : Rows Place) → IsLastOf rows (behind_block depth rows)
block-last zero [] = last-self []
block-last (suc depth) [] = last-self []
block-last zero (r ∷ rs) =
    last-cond (class r.shape == 47) (r ∷ rs) _ _ (last-more r rs _ (block-last 1 rs))
    (last-cond (class r.shape == 48) (r ∷ rs) _ _ (last-more r rs rs (last-self rs)) (last-more r rs _ (block-last 0 rs)))
block-last (suc depth) (r ∷ rs) =
    last-cond (class r.shape == 47) (r ∷ rs) _ _ (last-more r rs _ (block-last (suc (suc depth)) rs))
    (last-cond (class r.shape == 48) (r ∷ rs) _ _ (last-more r rs _ (block-last depth rs)) (last-more r rs _ (block-last (suc depth) rs)))

most-most : (most n : ℕ) → at_most most n ≤ most
most-most most n = by (nat_lt n most) refl
  where
    by : (b : Bool) → nat_lt n most ≡ b → cond b n most ≤ most
    by true e = elim (cases_lt n most) [
      | inl lt ↦ omega (arith, lt)
      | inr le ↦ absurd (let f = sym (le-ltb n most le) ∙ e in cc)
    ]
    by false e = omega arith

module _ (t : Table) where
  count-last : (count : ℕ) → length (last_rows t count) ≤ count
  count-last count = omega (arith, length-drop (length t.rows - count) (placed t), as-many true t.rows t.gaps)

  within-last : (most count : ℕ) (rows : Rows Place) → IsLastOf (last_rows t (at_most most count)) rows → length rows ≤ most
  within-last most count rows h = omega (arith, last-fewer (last_rows t (at_most most count)) rows h, count-last (at_most most count), most-most most count)

  pub from-block : (rows : Rows Place) → IsLastOf rows (from_statement (behind_block 0 rows))
  from-block rows = last-last rows (behind_block 0 rows) _ (block-last 0 rows) (from-last (behind_block 0 rows))

  pub next-last : (e : Refused) (most : ℕ) → AreLast t (next_rows t e most)
  next-last OutOfMemory most = drop-last (length t.rows - 0) (placed t)
  next-last (At left expected) most = last-last (placed t) (last_rows t (at_most most left)) _ (drop-last (length t.rows - at_most most left) (placed t)) (from-last (last_rows t (at_most most left)))
  next-last (TooDeep left) most = last-last (placed t) (last_rows t (at_most most (left - 1))) _ (drop-last (length t.rows - at_most most (left - 1)) (placed t)) (from-block (last_rows t (at_most most (left - 1))))

  pub next-fewer : (e : Refused) (most : ℕ) → length (next_rows t e most) ≤ most
  next-fewer OutOfMemory most = omega (arith, count-last 0)
  next-fewer (At left expected) most = within-last most left _ (from-last (last_rows t (at_most most left)))
  next-fewer (TooDeep left) most = within-last most (left - 1) _ (from-block (last_rows t (at_most most (left - 1))))

-- ---- the notes of the grammar are allowed

module _ (rows : Rows Span) where
  pub notable-both : (a b : Notes) → AreNotable rows a → AreNotable rows b → AreNotable rows (a ++ b)
  notable-both [] b h g = g
  notable-both (n ∷ a) b h g = (h.0, notable-both a b h.1 g)

  notable-cond : (c : Bool) (a b : Notes) → AreNotable rows a → AreNotable rows b → AreNotable rows (cond c a b)
  notable-cond true a b h g = h
  notable-cond false a b h g = g

  syntax-noted : (c : Bool) (span : Span) (value : List ℕ) (xs : Rows Place) → AreNotable rows (noted (unless_so c (fault.UnknownSyntax span value)) xs)
  syntax-noted true span value xs = tt
  syntax-noted false span value xs = notable-both (run_note (fault.UnknownSyntax span value) xs) [] (notable-cond (head_in is_invalid xs) [] _ tt (refl, tt)) tt

  text-noted : (c : Bool) (span : Span) (xs : Rows Place) → AreNotable rows (noted (unless_so c (fault.InvalidUtf8String span)) xs)
  text-noted true span xs = tt
  text-noted false span xs = notable-both (run_note (fault.InvalidUtf8String span) xs) [] (notable-cond (head_in is_invalid xs) [] _ tt (refl, tt)) tt

  path-noted : (c : Bool) (span : Span) (xs : Rows Place) → AreNotable rows (noted (unless_so c (fault.InvalidImport span)) xs)
  path-noted true span xs = tt
  path-noted false span xs = notable-both (run_note (fault.InvalidImport span) xs) [] (notable-cond (head_in is_invalid xs) [] _ tt (refl, tt)) tt

  name-noted : (c : Bool) (span : Span) (xs : Rows Place) → AreNotable rows (noted (unless_so c (fault.InvalidIdentifier span)) xs)
  name-noted true span xs = tt
  name-noted false span xs = notable-both (run_note (fault.InvalidIdentifier span) xs) [] (notable-cond (head_in is_invalid xs) [] _ tt (refl, tt)) tt

  group-noted : (c : Bool) (span : Span) (xs : Rows Place) → AreNotable rows (at_once (unless_so c (fault.InvalidGroupName span)) xs)
  group-noted true span xs = tt
  group-noted false span xs = (refl, tt)

  node-notable : (x : CheckedNode Place) (xs : Rows Place) → AreNotable rows (node_notes x xs)
  node-notable (ASyntax x) xs = syntax-noted (is_known_syntax (strings_value x)) (strings_span x) (text_of (strings_value x)) xs
  node-notable (AnImport x) xs = notable-both _ _ (text-noted (is_text (strings_value x)) (strings_span x) xs) (path-noted (is_import_path (text_of (strings_value x))) (strings_span x) xs)
  node-notable (AReservedName x) xs = notable-both _ _ (text-noted (is_text (strings_value x)) (strings_span x) xs) (name-noted (is_ident (text_of (strings_value x))) (strings_span x) xs)
  node-notable (AGroupName x) xs = group-noted (is_group_name x.0) x.1.span xs
  node-notable (APackageAgain first again) xs = (refl, tt)
  node-notable (ATooDeep keyword open_at) xs = (refl, tt)

  pub told-notable : (p : Option (tree.Package Place)) (w : Place) (l : Steps Place) (xs : Rows Place) → AreNotable rows (told p w l xs)
  told-notable p w [] xs = tt
  told-notable p w (Token r ∷ l) xs = told-notable p w l (behind xs)
  told-notable p w (Note (ANode x) ∷ l) xs = notable-both (node_notes x xs) (told p w l xs) (node-notable x xs) (told-notable p w l xs)
  told-notable None w (Note (APackage x) ∷ l) xs = told-notable (Some x) w l xs
  told-notable (Some f) w (Note (APackage x) ∷ l) xs = notable-both (node_notes (APackageAgain f x) xs) (told (Some f) w l xs) (node-notable (APackageAgain f x) xs) (told-notable (Some f) w l xs)
  told-notable p w (Note (AKeyword m) ∷ l) xs = told-notable p m l xs
  told-notable p w (Note (ADeepBody m) ∷ l) xs = notable-both (node_notes (ATooDeep w m) xs) (told p w l xs) (node-notable (ATooDeep w m) xs) (told-notable p w l xs)
  told-notable p w (Note (ADeeperBody m) ∷ l) xs = told-notable p w l xs
  told-notable p w (Note (AnOpenBrace m) ∷ l) xs = (tt, told-notable p w l xs)
  told-notable p w (Note (ACloseBrace m) ∷ l) xs = (tt, told-notable p w l xs)

-- ---- one statement

-- some package statement with this place
abbrev place_with : Span → Place
place_with span = record { span = span; detached = []; leading = None; trailing = None }

abbrev package_with : Span → tree.Package Place
package_with span = record { keyword = place_with span; name = record { first = ([], place_with span); others = [] }; end = place_with span }

some-package : (q : Option Span) → (p : Option (tree.Package Place)) × (place_of p ≡ q)
some-package None = (None, refl)
some-package (Some span) = (Some (package_with span), refl)

pub statement-notable : (rows : Rows Span) (q : Option Span) (xs : Rows Place) → AreNotable rows (statement.notes q xs)
statement-notable rows q xs =
    let p = some-package q in
    subst (AreNotable rows) (statement.says p.0 here xs ∙ ap (λ v. statement.notes v xs) p.1) (told-notable rows p.0 here (statement_rule.trace xs) xs)

past-last : (l : Steps Place) (xs : Rows Place) → IsLastOf xs (past l xs)
past-last [] xs = last-self xs
past-last (Token r ∷ l) [] = past-last l []
past-last (Token r ∷ l) (x ∷ xs) = last-more x xs (past l xs) (past-last l xs)
past-last (Note e ∷ l) xs = past-last l xs

-- what was read, in the tree
pub record IsStatement (xs ys : Rows Place) (x : statement_type.Statement) : Type 0 where
  pub found : tree.Statement Place
  pub read : statement_rule.read xs ≡ Ok (found, ys)
  pub seen : statement_seen found ≡ x

pub statement-read : (xs ys : Rows Place) (x : statement_type.Statement) → statement.code xs ≡ Ok (x, ys) → IsStatement xs ys x
statement-read xs ys x e =
    let p = bind_ok (statement_rule.read xs) (λ y. Ok (statement_seen y.0, y.1)) (x, ys) (sym (statement.shows.same xs) ∙ e) in
    let same = ok_is (statement_seen p.0.0, p.0.1) (x, ys) p.2 in
    record {
      found = p.0.0;
      read = p.1 ∙ ap (λ (v : Rows Place). Ok (p.0.0, v)) (ap (λ (v : statement_type.Statement × Rows Place). v.1) same);
      seen = ap (λ (v : statement_type.Statement × Rows Place). v.0) same;
    }

pub statement-last : (xs ys : Rows Place) (x : statement_type.Statement) → statement.code xs ≡ Ok (x, ys) → IsLastOf xs ys
statement-last xs ys x e =
    let s = statement-read xs ys x e in
    subst (IsLastOf xs) (statement.left xs (s.found, ys) s.read) (past-last (statement_rule.trace xs) xs)

-- the place of the first package statement behind a statement
pub next-lies : (q : Option Span) (low high : ℕ) (xs ys : Rows Place) (x : statement_type.Statement) → statement.code xs ≡ Ok (x, ys) → Given (SpanLiesIn high) q → Stand low high xs → Given (SpanLiesIn high) (next_first q x)
next-lies q low high xs ys x e g k =
    let s = statement-read xs ys x e in
    subst (λ v. Given (SpanLiesIn high) (next_first q v)) s.seen (statement.first_lies q low high xs (s.found, ys) s.read g k)

-- ---- the last rows of a table

module _ (t : Table) (q : Option Span) (xs : Rows Place) (last : AreLast t xs) where
  stands : (size : ℕ) → Stand 0 size (placed t) → (low : ℕ) × Stand low size xs
  stands size h = let p = stand-after 0 size last.0 xs (subst (Stand 0 size) last.1 h) in (p.0, p.2)

  pub statement-later : AreLater t q (statement.notes q xs)
  statement-later = (statement-notable t.rows q xs, λ size h g. let p = stands size h in statement.lies q p.0 size xs g p.1)

  pub first-stays : (ys : Rows Place) (x : statement_type.Statement) → statement.code xs ≡ Ok (x, ys) → LiesToo t q (next_first q x)
  first-stays ys x e size h g = let p = stands size h in next-lies q p.0 size xs ys x e g p.1

  pub last-behind : (ys : Rows Place) (x : statement_type.Statement) → statement.code xs ≡ Ok (x, ys) → AreLast t ys
  last-behind ys x e = last-last (placed t) xs ys last (statement-last xs ys x e)

-- ---- notes so far

module _ (t : Table) (e : Refused) (q : Option Span) (old : Notes) where
  pub recovers-at_refusal : (at_refusal new : Notes) → new ≡ old ++ at_refusal → AreRefusalNotes t.rows e at_refusal → Recovers t e q old new
  recovers-at_refusal at_refusal new added is = (at_refusal, [], added ∙ ap (λ v. old ++ v) (sym (append-nil at_refusal)), is, (tt, λ size h g. tt))

  pub recovers-more : (first : Option Span) (before more new : Notes) → Recovers t e q old before → LiesToo t q first → new ≡ before ++ more → AreLater t first more → Recovers t e q old new
  recovers-more first before more new r lies added later = (
    r.0,
    r.1 ++ more,
    added ∙ ap (λ v. v ++ more) r.2 ∙ append_assoc old (r.0 ++ r.1) more ∙ ap (λ v. old ++ v) (append_assoc r.0 r.1 more),
    r.3,
    (notable-both t.rows r.1 more r.4.0 later.0, λ size h g. both-lie size r.1 more (r.4.1 size h g) (later.1 size h (lies size h g))),
  )

pub lies-itself : (t : Table) (q : Option Span) → LiesToo t q q
lies-itself t q size h g = g

pub lies-further : (t : Table) (q first next : Option Span) → LiesToo t q first → LiesToo t first next → LiesToo t q next
lies-further t q first next h g size s i = g size s (h size s i)

-- the notes of a refused statement, behind those made in it
pub refused-later : (t : Table) (q : Option Span) (xs : Rows Place) (at_refusal : Notes) → AreLast t xs → AreNotable t.rows at_refusal → ((size : ℕ) → Stand 0 size (placed t) → AllLie size at_refusal) → AreLater t q (statement.notes q xs ++ at_refusal)
refused-later t q xs at_refusal last notable lies =
    let s = statement-later t q xs last in
    (notable-both t.rows (statement.notes q xs) at_refusal s.0 notable, λ size h g. both-lie size (statement.notes q xs) at_refusal (s.1 size h g) (lies size h))

-- if all statements stand in the source, so does the place of the first package statement
pub further-lies : (all xs ys : Rows Place) (q : Option Span) (x : statement_type.Statement) → IsLastOf all xs → FirstLies all q → statement.code xs ≡ Ok (x, ys) → FirstLies all (next_first q x)
further-lies all xs ys q x last lies e low size h =
    let p = stand-after low size last.0 xs (subst (Stand low size) last.1 h) in
    next-lies q p.0 size xs ys x e (lies low size h) p.2

-- the rows behind the syntax statement
pub behind-syntax : (xs rest : Rows Place) (s : Option (syntax_type.Syntax × (Span × Comments))) → syntax_if_any.code xs ≡ Ok (s, rest) → IsLastOf xs rest
behind-syntax xs rest s e =
    let a = rule.optional (only token.syntax) r.syntax in
    let p = bind_ok (a.read xs) (λ y. Ok (option_map syntax_seen y.0, y.1)) (s, rest) (sym (syntax_if_any.shows.same xs) ∙ e) in
    let same = ok_is (option_map syntax_seen p.0.0, p.0.1) (s, rest) p.2 in
    subst (IsLastOf xs) (syntax_if_any.tells.left xs p.0 p.1 ∙ ap (λ (v : Option (syntax_type.Syntax × (Span × Comments)) × Rows Place). v.1) same) (past-last (a.trace xs) xs)
