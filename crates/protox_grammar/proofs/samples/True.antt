-- Which faults are true of small sources, and which are not.
use Rattle.std.proofs.Common.{◌≡◌, ◌≢◌, ◌<◌, ◌≤◌, inl, inr, ℕ, zero, suc, true, false, List, [], ◌∷◌, ◌++◌, length, take, Any, Option, Some, Err, codes, refl, sym, ap, subst, ◌∙◌, arith, true≢false, slice_index_or, is_some, drop}
use Rattle.std.proofs.lemmas.List.{length-append}
use Rattle.std.specs.Str.{is_utf8, chars}
use Rattle.std.specs.Str.Lossy.{utf8_valid_len}
use Rattle.protox_fault.specs.Faults.{Span, span_from, faults_in}
use Rattle.protox_lexeme.specs.Lexemes.{Lexeme}
use Rattle.protox_lexeme.specs.Shapes.{Shape, Int, Mark, Newline, Invalid}
use Rattle.protox_lexeme.specs.Table.{rows_of}
use Rattle.protox_fault.specs.declared.error.ParseErrorKind.{ParseErrorKind}
use Rattle.protox_fault.specs.declared.error.ParseErrorKind.TheVariants as fault
use Rattle.protox_ast.specs.Fronts.{aggregates}
use Rattle.protox_ast.specs.AstParts.{first_of}
use Rattle.protox_ast.specs.CheckedNodes as node
use Rattle.protox_ast.specs.CheckedNodes.{CheckedNode, checked_nodes}
use Rattle.protox_ast.specs.Fronts.{Inside, IsCleanBehind, AreCleanBehind}
use Rattle.protox_ast.specs.Checks.{is_ident, is_import_path, is_text}
use Rattle.protox_ast.specs.Keywords.{Each, is_significant}
use Rattle.protox_ast.specs.Spelling as s
use Rattle.protox_ast.specs.Spells.{BeginsFile, IsUnexpected, shapes}
use Rattle.protox_ast.specs.Tree as t
use Rattle.protox_ast.specs.Truth.{source_row, IsFirstOfLexeme, IsTrueOf, IsWrongBefore, IsWrongBehind}
use Rattle.protox_ast.proofs.Lemmas.{Somewhere, any-from, somewhere-from, text-same}
use Rattle.protox_grammar.specs.Reader as reader
use Rattle.protox_grammar.specs.Reader.{Unexpected}
use Rattle.protox_grammar.specs.Rules as r
use Rattle.protox_grammar.specs.Bodies as rule
use Rattle.protox_grammar.specs.Reads.{read}
use Rattle.protox_grammar.proofs.Fronts as fronts
use Rattle.protox_grammar.proofs.Truths.{stop-is-true, end-is-true}
use Rattle.protox_grammar.proofs.samples.Sources as x
use Rattle.protox_grammar.proofs.samples.Sources.{made, joined, IsMade, goes-on}

-- ---- files that begin with some tokens, by computing

abbrev NodesAre : List Shape → List (CheckedNode ℕ) → Type 0
NodesAre ss nodes = IsMade ss × (checked_nodes (made ss) ≡ nodes)

abbrev run : List ℕ → ℕ → t.Strings ℕ
run value n = record { first = (value, n); others = [] }

abbrev two_strings : t.Strings ℕ
two_strings = record { first = (codes "pro", 2); others = (codes "to4", 3) ∷ [] }

abbrev package_at : List ℕ → ℕ → t.Package ℕ
package_at name n = record { keyword = n; name = record { first = (name, suc n); others = [] }; end = suc (suc n) }

record AreMade : Type 0 where
  option_made : IsMade (joined x.option_front 4 (Mark s.close_brace ∷ Mark s.semicolon ∷ []))
  braces : aggregates (made (joined x.option_front 4 (Mark s.close_brace ∷ Mark s.semicolon ∷ []))) ≡ (3, 4) ∷ []
  syntax_made : NodesAre (joined x.unknown 3 (Mark s.semicolon ∷ [])) (node.ASyntax (run (codes "x") 2) ∷ [])
  run_made : NodesAre (joined x.unknown_run 4 (Mark s.semicolon ∷ [])) (node.ASyntax two_strings ∷ [])
  text_made : NodesAre (joined x.no_text 2 (Mark s.semicolon ∷ [])) (node.AnImport (run (255 ∷ []) 1) ∷ [])
  import_made : NodesAre (joined x.parent 2 (Mark s.semicolon ∷ [])) (node.AnImport (run (codes "..") 1) ∷ [])
  packages_made : NodesAre (joined x.packages 6 []) (node.APackageAgain (package_at (codes "a") 0) (package_at (codes "b") 3) ∷ [])
  group_made : NodesAre (joined x.small_group 6 x.group_end) (node.AGroupName (codes "ab", 5) ∷ [])
  name_made : NodesAre (joined x.digit_first 5 (Mark s.semicolon ∷ Mark s.close_brace ∷ [])) (node.AReservedName (run (codes "0foo") 4) ∷ [])
  deep_made : NodesAre (joined (x.nested 32 0) 96 (x.closed 32)) (node.ATooDeep 93 95 ∷ [])
  message_stops : read 31 (rows_of x.nameless) ≡ Err (Unexpected 2)
  message_ends : read 31 (rows_of x.unclosed) ≡ Err (Unexpected 0)

are_made : AreMade
unfolding read r.strings r.syntax r.import_kind r.«import» r.fullident r.«package» r.typename r.part r.constant r.value r.body r.option r.list r.int r.type r.label r.normal r.map r.range_end r.range r.ranges r.names r.reserved_kind r.reserved r.extensions r.evalue r.enum_element r.enum r.rpc_type r.rpc_element r.rpc_end r.rpc r.service_element r.service rule.group rule.field_kind rule.field rule.oneof_element rule.oneof_elements rule.oneof rule.extend_element rule.extend_elements rule.extend rule.message rule.element rule.elements rule.mbody rule.unsealed rule.deep_read rule.statement rule.file reader.fixed reader.too_deep reader.leaf reader.star_at reader.star r.balanced_at
are_made = record {
  option_made = refl;
  braces = refl;
  syntax_made = (refl, refl);
  run_made = (refl, refl);
  text_made = (refl, refl);
  import_made = (refl, refl);
  packages_made = (refl, refl);
  group_made = (refl, refl);
  name_made = (refl, refl);
  deep_made = (refl, refl);
  message_stops = refl;
  message_ends = refl;
}

-- ---- lexemes

-- An invalid character is a fault where it stands, and nowhere else.
invalid-there : IsTrueOf x.accent (fault.InvalidToken (span_from 0 2))
invalid-there = any-from (λ y. (y.shape ≡ Invalid) × (span_from 0 2 ≡ span_from y.start y.stop)) x.accent (inl (refl, refl))

abbrev is_mark : Shape → ℕ
is_mark (Mark b) = 1
is_mark _ = 0

invalid-elsewhere : (span : Span) → span.end ≢ 2 → IsTrueOf x.accent (fault.InvalidToken span) → ⊥
invalid-elsewhere span other h = elim (somewhere-from (λ y. (y.shape ≡ Invalid) × (span ≡ span_from y.start y.stop)) x.accent h) as (λ _. ⊥) [
  | inl p ↦ other (ap (λ v. v.end) p.1)
  | inr q ↦ elim q as (λ _. ⊥) [ inl p ↦ (let z : 1 ≡ 0 = ap is_mark p.0 in omega (arith, z)) | inr e ↦ e ]
]

-- Of two faults of a lexeme only the first is true.
abbrev two : List Lexeme
two = x.faulty (x.at (Int 0) 0 21) (fault.NoSpaceBetweenIntAndIdent (span_from 0 22) ∷ fault.IntegerOutOfRange (span_from 0 21) ∷ []) ∷ []

first-there : IsTrueOf two (fault.NoSpaceBetweenIntAndIdent (span_from 0 22))
first-there = any-from (λ y. first_of y.faults ≡ Some (fault.NoSpaceBetweenIntAndIdent (span_from 0 22))) two (inl refl)

abbrev is_range : Option ParseErrorKind → ℕ
is_range (Some (fault.IntegerOutOfRange span)) = 1
is_range _ = 0

second-there : IsTrueOf two (fault.IntegerOutOfRange (span_from 0 21)) → ⊥
second-there h = elim (somewhere-from (λ y. first_of y.faults ≡ Some (fault.IntegerOutOfRange (span_from 0 21))) two h) as (λ _. ⊥) [ inl e ↦ (let z : 0 ≡ 1 = ap is_range e in omega (arith, z)) | inr e ↦ e ]

-- nothing stands inside an aggregate before the first token
pub inside-none : (lexemes : List Lexeme) → Inside lexemes 0 → ⊥
inside-none lexemes h = none (aggregates h.0) h.2
  where
    none : (all : List (ℕ × ℕ)) → Any (λ braces. (braces.0 < 0) × (0 ≤ braces.1)) all → ⊥
    none all k = omega (arith, k.4)

-- Each fault of a lexeme, if it is the first.
abbrev alone : ParseErrorKind → List Lexeme
alone wrong = x.faulty (x.at (Int 0) 0 1) (wrong ∷ []) ∷ []

abbrev here : Span
here = span_from 0 1

record AreFirst : Type 0 where
  out_of_range : IsTrueOf (alone (fault.IntegerOutOfRange here)) (fault.IntegerOutOfRange here)
  characters : IsTrueOf (alone (fault.InvalidStringCharacters here)) (fault.InvalidStringCharacters here)
  unterminated : IsTrueOf (alone (fault.UnterminatedString here)) (fault.UnterminatedString here)
  escape : IsTrueOf (alone (fault.InvalidStringEscape here)) (fault.InvalidStringEscape here)
  nested : IsTrueOf (alone (fault.NestedBlockComment here)) (fault.NestedBlockComment here)
  suffix : IsTrueOf (alone (fault.FloatSuffixOutsideTextFormat here)) (fault.FloatSuffixOutsideTextFormat here)
  string_end : IsTrueOf (alone (fault.UnexpectedEof (codes "string terminator"))) (fault.UnexpectedEof (codes "string terminator"))
  comment_end : IsTrueOf (alone (fault.UnexpectedEof (codes "comment terminator"))) (fault.UnexpectedEof (codes "comment terminator"))

first-of : (wrong : ParseErrorKind) → IsFirstOfLexeme (alone wrong) wrong
first-of wrong = any-from (λ y. first_of y.faults ≡ Some wrong) (alone wrong) (inl refl)

are-first : AreFirst
are-first = record {
  out_of_range = first-of (fault.IntegerOutOfRange here);
  characters = first-of (fault.InvalidStringCharacters here);
  unterminated = first-of (fault.UnterminatedString here);
  escape = first-of (fault.InvalidStringEscape here);
  nested = first-of (fault.NestedBlockComment here);
  suffix = record { before = []; here = x.faulty (x.at (Int 0) 0 1) (fault.FloatSuffixOutsideTextFormat here ∷ []); behind = []; parts = refl; is_first = refl; outside = inside-none (alone (fault.FloatSuffixOutsideTextFormat here)) };
  string_end = inl (refl, first-of (fault.UnexpectedEof (codes "string terminator")));
  comment_end = inl (refl, first-of (fault.UnexpectedEof (codes "comment terminator")));
}

-- ---- comments that begin with `#`

hash-there : IsTrueOf (x.hash ∷ []) (fault.HashCommentOutsideTextFormat (span_from 0 3))
hash-there = record { before = []; here = x.hash; behind = []; parts = refl; is_first = refl; outside = inside-none (x.hash ∷ []) }

-- the first n lexemes are clean
abbrev CleanFront : List Lexeme → ℕ → Type 0
CleanFront lexemes n = AreCleanBehind lexemes 0 (take n lexemes)

hash-not-clean : CleanFront (x.hash ∷ []) 1 → ⊥
hash-not-clean h = inside-none (x.hash ∷ []) (h.0.2 (λ e. let z : 1 ≡ 0 = ap length e in omega (arith, z)))

-- a newline, which is no token, and option o = { # c
abbrev front : List Lexeme
front = x.at Newline 0 0 ∷ x.option_front

abbrev commented : List Lexeme
commented = front ++ (x.inner_hash ∷ [])

inside-there : Inside commented 4
inside-there = (
  made (joined x.option_front 4 (Mark s.close_brace ∷ Mark s.semicolon ∷ [])),
  goes-on commented 4 (Mark s.close_brace ∷ Mark s.semicolon ∷ []) (omega arith) are_made.option_made,
  subst (Any (λ braces. (braces.0 < 4) × (4 ≤ braces.1))) (sym are_made.braces) (any-from (λ braces. (braces.0 < 4) × (4 ≤ braces.1)) ((3, 4) ∷ []) (inl (omega arith, omega arith))),
)

neat : (y : Lexeme) (before : ℕ) → y.faults ≡ [] → is_significant y.shape ≡ true → IsCleanBehind commented before y
neat y before none token =
    ((λ e. true≢false (sym token ∙ ap is_significant e)), ap (faults_in true) none, (λ some. absurd (some none)))

abbrev is_invalid : Shape → ℕ
is_invalid Invalid = 1
is_invalid _ = 0

clean-inside : CleanFront commented 6
clean-inside = (
  ((λ e. let z : 0 ≡ 1 = ap is_invalid e in omega (arith, z)), refl, (λ some. absurd (some refl))),
  (
    neat (x.at (x.word "option") 0 6) 0 refl refl,
    (
      neat (x.at (x.word "o") 7 8) 1 refl refl,
      (
        neat (x.at (Mark s.equals) 9 10) 2 refl refl,
        (neat (x.at (Mark s.open_brace) 11 12) 3 refl refl, (((λ e. let z : 0 ≡ 1 = ap is_invalid e in omega (arith, z)), refl, (λ _. inside-there)), tt)),
      ),
    ),
  ),
)

-- The first lexemes have no fault; the last one has one.
only-last : (xs : List Lexeme) (y : Lexeme) (before behind : List Lexeme) (here : Lexeme) (wrong : ParseErrorKind)
    → Each (λ v. v.faults ≡ []) xs → xs ++ (y ∷ []) ≡ before ++ (here ∷ behind) → first_of here.faults ≡ Some wrong → before ≡ xs
only-last [] y [] behind here wrong c e f = refl
only-last [] y (b ∷ before) behind here wrong c e f = absurd (omega (arith, ap length e, length-append before (here ∷ behind)))
only-last (v ∷ xs) y [] behind here wrong c e f =
    let same : v ≡ here = ap (λ l. slice_index_or l 0 v) e in
    let z : false ≡ true = sym (ap (λ u. is_some (first_of u)) (sym (ap (λ u. u.faults) same) ∙ c.0)) ∙ ap is_some f in
    absurd (true≢false (sym z))
only-last (v ∷ xs) y (b ∷ before) behind here wrong c e f =
    let same : v ≡ b = ap (λ l. slice_index_or l 0 v) e in
    let rest = only-last xs y before behind here wrong c.1 (ap (drop 1) e) f in
    ap (λ l. b ∷ l) rest ∙ ap (λ u. u ∷ xs) (sym same)

hash-inside : IsTrueOf commented (fault.HashCommentOutsideTextFormat (span_from 13 16)) → ⊥
hash-inside h =
    let before = only-last front x.inner_hash h.before h.behind h.here (fault.HashCommentOutsideTextFormat (span_from 13 16)) (refl, (refl, (refl, (refl, (refl, tt))))) h.parts h.is_first in
    h.outside (subst (λ l. Inside commented (length (rows_of l))) (sym before) inside-there)

-- ---- tokens

-- message {} is refused at the brace
brace-there : (expected : List ℕ) → IsTrueOf x.nameless (fault.UnexpectedToken (span_from 8 9) expected (codes "{"))
brace-there expected =
    stop-is-true x.nameless 31 (x.row 0 7 (x.word "message") ∷ []) (x.row 9 10 (Mark s.close_brace) ∷ []) (x.row 8 9 (Mark s.open_brace)) expected refl are_made.message_stops refl

-- and message M { at its end
end-there : IsTrueOf x.unclosed (fault.UnexpectedEof (codes "'}'"))
end-there = end-is-true x.unclosed 31 (codes "'}'") are_made.message_ends refl

-- `message` isn't unexpected there, since it begins a file.
begins-message : BeginsFile (shapes (rows_of x.nameless)) 1
begins-message = let u = fronts.unexpected (span_from 0 0) 31 1 (rows_of x.nameless) are_made.message_stops in subst (BeginsFile (shapes (rows_of x.nameless))) (omega (arith, u.1)) u.2.1

message-expected : (expected found : List ℕ) → IsTrueOf x.nameless (fault.UnexpectedToken (span_from 0 7) expected found) → ⊥
message-expected expected found h = not-first h.0 h.1 h.2
  where
    not-first : (n : ℕ) → IsUnexpected (shapes (rows_of x.nameless)) n → span_from 0 7 ≡ (source_row (rows_of x.nameless) n).at → ⊥
    not-first zero u p = u.2 begins-message
    not-first (suc zero) u p = let z : 0 ≡ 8 = ap (λ v. v.start) p in omega (arith, z)
    not-first (suc (suc zero)) u p = let z : 0 ≡ 9 = ap (λ v. v.start) p in omega (arith, z)
    not-first (suc (suc (suc n))) u p = omega (arith, u.0)

-- ---- nodes that are checked

-- The only node of a file that begins with these tokens is wrong.
by-node : (xs : List Lexeme) (n : ℕ) (more : List Shape) (wrong : ParseErrorKind) (v : CheckedNode ℕ)
    → n ≤ length (rows_of xs) → NodesAre (joined xs n more) (v ∷ []) → IsWrongBefore xs n wrong v → IsWrongBehind xs n wrong
by-node xs n more wrong v l made_so w =
    (made (joined xs n more), goes-on xs n more l made_so.0, subst (Any (IsWrongBefore xs n wrong)) (sym made_so.1) (any-from (IsWrongBefore xs n wrong) (v ∷ []) (inl w)))

unknown-there : IsTrueOf x.unknown (fault.UnknownSyntax (span_from 9 12) (codes "x"))
unknown-there = (
  3,
  by-node x.unknown 3 (Mark s.semicolon ∷ []) (fault.UnknownSyntax (span_from 9 12) (codes "x")) (node.ASyntax (run (codes "x") 2)) (omega arith) are_made.syntax_made
      (refl, (λ _. refl), (refl, ap (λ v. fault.UnknownSyntax (span_from 9 12) v) (sym (text-same (codes "x") refl)))),
)

-- A run of strings has the value and the span of all of them.
run-there : IsTrueOf x.unknown_run (fault.UnknownSyntax (span_from 9 20) (codes "proto4"))
run-there = (
  4,
  by-node x.unknown_run 4 (Mark s.semicolon ∷ []) (fault.UnknownSyntax (span_from 9 20) (codes "proto4")) (node.ASyntax two_strings) (omega arith) are_made.run_made
      (refl, (λ _. refl), (refl, ap (λ v. fault.UnknownSyntax (span_from 9 20) v) (sym (text-same (codes "proto4") refl)))),
)

-- A byte that begins no character is not UTF-8.
no-text : is_text (255 ∷ []) ≡ false
unfolding utf8_valid_len is_utf8 chars
no-text = refl

text-there : IsTrueOf x.no_text (fault.InvalidUtf8String (span_from 7 13))
text-there = (
  2,
  by-node x.no_text 2 (Mark s.semicolon ∷ []) (fault.InvalidUtf8String (span_from 7 13)) (node.AnImport (run (255 ∷ []) 1)) (omega arith) are_made.text_made
      (refl, (λ _. refl), inl (no-text, refl)),
)

-- import '..' is wrong, whatever follows it, unless that is a string.
pub parent-behind : IsWrongBehind x.parent 2 (fault.InvalidImport (span_from 7 11))
parent-behind =
    by-node x.parent 2 (Mark s.semicolon ∷ []) (fault.InvalidImport (span_from 7 11)) (node.AnImport (run (codes "..") 1)) (omega arith) are_made.import_made
    (refl, (λ _. refl), inr (ap is_import_path (text-same (codes "..") refl), refl))

parent-there : IsTrueOf x.parent (fault.InvalidImport (span_from 7 11))
parent-there = (2, parent-behind)

packages-there : IsTrueOf x.packages (fault.DuplicatePackage (span_from 0 10) (span_from 11 21))
packages-there = (
  6,
  by-node x.packages 6 [] (fault.DuplicatePackage (span_from 0 10) (span_from 11 21)) (node.APackageAgain (package_at (codes "a") 0) (package_at (codes "b") 3)) (omega arith) are_made.packages_made
      (refl, (λ e. absurd (true≢false (sym e))), refl),
)

group-there : IsTrueOf x.small_group (fault.InvalidGroupName (span_from 27 29))
group-there = (
  6,
  by-node x.small_group 6 (x.group_end) (fault.InvalidGroupName (span_from 27 29)) (node.AGroupName (codes "ab", 5)) (omega arith) are_made.group_made
      (refl, (λ e. absurd (true≢false (sym e))), (refl, refl)),
)

name-there : IsTrueOf x.digit_first (fault.InvalidIdentifier (span_from 21 27))
name-there = (
  5,
  by-node x.digit_first 5 (Mark s.semicolon ∷ Mark s.close_brace ∷ []) (fault.InvalidIdentifier (span_from 21 27)) (node.AReservedName (run (codes "0foo") 4)) (omega arith) are_made.name_made
      (refl, (λ _. refl), inr (ap is_ident (text-same (codes "0foo") refl), refl)),
)

-- The 32nd `message` of 32 nested ones.
deep-there : IsTrueOf (x.nested 32 0) (fault.MessageNestingTooDeep (span_from 372 379))
deep-there = (
  96,
  by-node (x.nested 32 0) 96 (x.closed 32) (fault.MessageNestingTooDeep (span_from 372 379)) (node.ATooDeep 93 95) (omega arith) are_made.deep_made
      (refl, (λ e. absurd (true≢false (sym e))), refl),
)

-- A run of strings is taken whole: `syntax = "pro"` isn't wrong if "to3" follows.
abbrev is_unknown : ParseErrorKind → ℕ
is_unknown (fault.UnknownSyntax span value) = 1
is_unknown _ = 0

not-alone : (v : CheckedNode ℕ) → IsWrongBefore x.pieces 3 (fault.UnknownSyntax (span_from 9 14) (codes "pro")) v → ⊥
not-alone (node.ASyntax y) w = true≢false (w.1 refl)
not-alone (node.AnImport y) w = true≢false (w.1 refl)
not-alone (node.AReservedName y) w = true≢false (w.1 refl)
not-alone (node.AGroupName y) w = let z : 1 ≡ 0 = ap is_unknown w.2.1 in omega (arith, z)
not-alone (node.APackageAgain y z) w = let z : 1 ≡ 0 = ap is_unknown w.2 in omega (arith, z)
not-alone (node.ATooDeep y z) w = let z : 1 ≡ 0 = ap is_unknown w.2 in omega (arith, z)

piece-there : IsWrongBehind x.pieces 3 (fault.UnknownSyntax (span_from 9 14) (codes "pro")) → ⊥
piece-there h = none (checked_nodes h.0) (somewhere-from (IsWrongBefore x.pieces 3 (fault.UnknownSyntax (span_from 9 14) (codes "pro"))) (checked_nodes h.0) h.2)
  where
    none : (all : List (CheckedNode ℕ)) → Somewhere (IsWrongBefore x.pieces 3 (fault.UnknownSyntax (span_from 9 14) (codes "pro"))) all → ⊥
    none [] k = k
    none (v ∷ vs) (inl w) = not-alone v w
    none (v ∷ vs) (inr k) = none vs k

-- Of `;` and `# x` only the first is clean.
abbrev begun : List Lexeme
begun = x.at (Mark s.semicolon) 0 1 ∷ x.hash ∷ []

clean-begun : CleanFront begun 1
clean-begun = (((λ e. let z : 1 ≡ 0 = ap is_mark e in omega (arith, z)), refl, (λ some. absurd (some refl))), tt)
