-- The notes of a node lie in the source in which its rows stand.
use Rattle.std.proofs.Common.{◌≡◌, ◌≤◌, ℕ, Bool, true, false, cond, List, [], ◌∷◌, length, Ok, subst, arith}
use Rattle.protox_fault.specs.Faults.{Span, SpanLiesIn, LiesIn}
use Rattle.protox_fault.specs.declared.error.ParseErrorKind.{ParseErrorKind}
use Rattle.protox_fault.specs.declared.error.ParseErrorKind.TheVariants as fault
use Rattle.protox_lexeme.specs.Shapes.{Rows}
use Rattle.protox_ast.proofs.Lemmas.{Stand, in-order, stand-after, stand-front}
use Rattle.protox_ast.specs.AstParts.{join, last_place, strings_span, text_of}
use Rattle.protox_ast.specs.Checks.{is_group_name, is_ident, is_known_syntax, is_text, is_import_path}
use Rattle.protox_ast.specs.Keywords.{Each}
use Rattle.protox_ast.specs.Places.{Place}
use Rattle.protox_ast.specs.Spelling as s
use Rattle.protox_ast.specs.Tree as t
use Rattle.protox_grammar.specs.Reader.{head_in}
use Rattle.protox_grammar.specs.Rules as r
use Rattle.protox_grammar.specs.Told.{at_once, group_faults, group_notes, ident_faults, import_notes, is_invalid, name_notes, noted, run_note, path_faults, syntax_faults, syntax_notes, text_faults}
use Rattle.protox_grammar.specs.declared.note.Noted.TheVariants.{Fault}
use Rattle.protox_grammar.proofs.Parts as parts
use Rattle.protox_grammar.proofs.Telling.{AllLie, both-lie, cond-lie}

-- ---- runs of strings

abbrev text_place : t.Text Place → Span
text_place y = y.1.span

others-lie : (first : Span) (high : ℕ) (last : Span) (xs : List (t.Text Place)) → first.start ≤ last.end → Stand last.end high (s.many s.string xs) → SpanLiesIn high (join first (last_place text_place last xs))
others-lie first high last [] le h = (le, h)
others-lie first high last (x ∷ xs) le h = others-lie first high x.1.span xs (omega (arith, le, h.0, h.1)) h.2

-- A run of strings lies where its rows stand.
pub strings-lie : (low high : ℕ) (x : t.Strings Place) → Stand low high (s.strings x) → SpanLiesIn high (strings_span x)
strings-lie low high x h = others-lie x.first.1.span high x.first.1.span x.others (omega (arith, h.1)) h.2

-- So does a run that is read from rows.
pub run-lies : (some : Place) (low high : ℕ) (xs : Rows Place) (x : t.Strings Place × Rows Place) → (r.strings).read xs ≡ Ok x → Stand low high xs → SpanLiesIn high (strings_span x.0)
unfolding r.strings
run-lies some low high xs x e h = strings-lie low high x.0 (stand-front low high (s.strings x.0) x.1 (subst (Stand low high) ((parts.strings-laws some).read.takes xs x e).parts h))

-- So does a word.
pub word-lies : (some : Place) (low high : ℕ) (xs : Rows Place) (x : t.Word Place × Rows Place) → (r.ident).read xs ≡ Ok x → Stand low high xs → SpanLiesIn high x.0.1.span
word-lies some low high xs x e h =
    let k = subst (Stand low high) ((parts.ident-laws some).read.takes xs x e).parts h in
    (omega (arith, k.1), in-order x.0.1.span.end high x.1 k.2)

-- So does a package statement, from its keyword to its `;`.
pub package-lies : (some : Place) (low high : ℕ) (xs : Rows Place) (x : t.Package Place × Rows Place) → (r.«package»).read xs ≡ Ok x → Stand low high xs → SpanLiesIn high (join x.0.keyword.span x.0.end.span)
unfolding r.«package»
package-lies some low high xs x e h =
    let k = stand-front low high (s.«package» x.0) x.1 (subst (Stand low high) ((parts.package-laws some).read.takes xs x e).parts h) in
    let m = stand-after x.0.keyword.span.end high (s.fullident x.0.name) (s.sign s.semicolon x.0.end) k.2 in
    (omega (arith, k.1, m.1, m.2.0, m.2.1), m.2.2)

-- ---- the notes of these nodes

faults-lie : (high : ℕ) (so : Bool) (wrong : ParseErrorKind) → LiesIn high wrong → Each (LiesIn high) (cond so [] (wrong ∷ []))
faults-lie high true wrong h = tt
faults-lie high false wrong h = (h, tt)

pub one-lies : (high : ℕ) (wrong : ParseErrorKind) (xs : Rows Place) → LiesIn high wrong → AllLie high (run_note wrong xs)
one-lies high wrong xs h = cond-lie high (head_in is_invalid xs) [] (record { left = length xs; noted = Fault wrong } ∷ []) tt (h, tt)

noted-lie : (high : ℕ) (faults : List ParseErrorKind) (xs : Rows Place) → Each (LiesIn high) faults → AllLie high (noted faults xs)
noted-lie high [] xs h = tt
noted-lie high (f ∷ fs) xs h = both-lie high (run_note f xs) (noted fs xs) (one-lies high f xs h.0) (noted-lie high fs xs h.1)

at-once-lie : (high : ℕ) (faults : List ParseErrorKind) (xs : Rows Place) → Each (LiesIn high) faults → AllLie high (at_once faults xs)
at-once-lie high [] xs h = tt
at-once-lie high (f ∷ fs) xs h = (h.0, at-once-lie high fs xs h.1)

text-lie : (high : ℕ) (x : List ℕ × Span) (xs : Rows Place) → SpanLiesIn high x.1 → AllLie high (noted (text_faults x.0 x.1) xs)
text-lie high x xs h = noted-lie high (text_faults x.0 x.1) xs (faults-lie high (is_text x.0) (fault.InvalidUtf8String x.1) h)

pub syntax-lie : (high : ℕ) (x : List ℕ × Span) (xs : Rows Place) → SpanLiesIn high x.1 → AllLie high (syntax_notes x xs)
syntax-lie high x xs h = noted-lie high (syntax_faults x.0 x.1) xs (faults-lie high (is_known_syntax x.0) (fault.UnknownSyntax x.1 (text_of x.0)) h)

pub import-lie : (high : ℕ) (x : List ℕ × Span) (xs : Rows Place) → SpanLiesIn high x.1 → AllLie high (import_notes x xs)
import-lie high x xs h =
    both-lie high (noted (text_faults x.0 x.1) xs) (noted (path_faults (text_of x.0) x.1) xs) (text-lie high x xs h)
    (noted-lie high (path_faults (text_of x.0) x.1) xs (faults-lie high (is_import_path (text_of x.0)) (fault.InvalidImport x.1) h))

pub name-lie : (high : ℕ) (x : List ℕ × Span) (xs : Rows Place) → SpanLiesIn high x.1 → AllLie high (name_notes x xs)
name-lie high x xs h =
    both-lie high (noted (text_faults x.0 x.1) xs) (noted (ident_faults (text_of x.0) x.1) xs) (text-lie high x xs h)
    (noted-lie high (ident_faults (text_of x.0) x.1) xs (faults-lie high (is_ident (text_of x.0)) (fault.InvalidIdentifier x.1) h))

pub group-lie : (high : ℕ) (x : List ℕ × Span) (xs : Rows Place) → SpanLiesIn high x.1 → AllLie high (group_notes x xs)
group-lie high x xs h = at-once-lie high (group_faults x.0 x.1) xs (faults-lie high (is_group_name x.0) (fault.InvalidGroupName x.1) h)
