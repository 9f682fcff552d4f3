-- Each fault of a source stands somewhere in it, and no lexical fault is listed twice.
use Rattle.std.proofs.Common.{◌≡◌, ◌≤◌, ◌+◌, ◌-◌, ℕ, zero, suc, Bool, true, false, not, cond, List, [], ◌∷◌, ◌++◌, length, map, filter, Option, Some, None, Result, Ok, Err, IfErr, inl, inr, refl, sym, subst, ◌∙◌, le_refl, zero-le, arith}
use Rattle.std.proofs.lemmas.List.{map-append}
use Rattle.std.proofs.lemmas.Option.{slice_get_within}
use Rattle.std.specs.Prelude.{Any, slice_get, slice_index_or, option_to_list}
use Rattle.protox_fault.specs.Faults.{Span, faults_in, is_of_mode}
use Rattle.protox_fault.specs.declared.error.ParseErrorKind.{ParseErrorKind}
use Rattle.protox_fault.specs.declared.error.ParseErrorKind.TheVariants as fault
use Rattle.protox_fault.specs.declared.error.SyntaxFailure.{SyntaxFailure}
use Rattle.protox_fault.specs.declared.error.SyntaxFailure.TheVariants.{Faults, OutOfMemory}
use Rattle.protox_lexeme.specs.Lexemes.{Lexeme, cut}
use Rattle.protox_lexeme.specs.Printed.{printed}
use Rattle.protox_lexeme.specs.Shapes.{Row, Rows, Shape, Invalid}
use Rattle.protox_lexeme.specs.Table.{Table, faults_of, in_front, is_gap, row_faults, rows_of, table_of}
use Rattle.protox_lexeme.proofs.Lemmas.{AreInOrder, IsRowKind, Rise, RiseWithin, filter_rises}
use Rattle.protox_lexeme.proofs.Lemmas.{gap_faults, key, keys, kinds-of, list_rises, place_of}
use Rattle.protox_lexeme.proofs.Lemmas.{rise_joined, rise_lower, table_in_order, twice}
use Rattle.protox_ast.proofs.Lemmas.{Among, Somewhere, any-from, each-append, each-so}
use Rattle.protox_ast.specs.Basics.{Each}
use Rattle.protox_ast.specs.FaultList.{IsOwn, Stands, StandIn, StandOnce, is_lexical}
use Rattle.protox_ast.specs.Places.{placed}
use Rattle.protox_ast.specs.declared.ast.File.{File}
use Rattle.protox_grammar.specs.Noted.{trace}
use Rattle.protox_grammar.specs.Rule as rule
use Rattle.protox_grammar.specs.Rules as r
use Rattle.protox_grammar.specs.Class.{only}
use Rattle.protox_grammar.specs.Told.{Notes, is_invalid}
use Rattle.protox_grammar.specs.declared.note.Noted.{Noted}
use Rattle.protox_grammar.specs.declared.note.Noted.TheVariants.{Fault, TextFormat}
use Rattle.protox_grammar.specs.Token as token
use Rattle.protox_declarations.specs.inner.Options.{here}
use Rattle.protox_syntax.specs.inner.ParsedTable.{AreMergedFaults, ParsesTable, RefusesTable, unknown_syntax, unexpected_row, refused_statement, all_read, total_of}
use Rattle.protox_syntax.specs.inner.Recovery.{AreNotable, IsNotable, IsNotableNote}
use Rattle.protox_syntax.specs.StandingFaults.{AreStanding}
use Rattle.protox_syntax.specs.inner.Statements.{levels, syntax_if_any}
use Rattle.protox_syntax.specs.inner.Merge.{Progress, beginning, noted_in, merge_notes, read_until, refusal, faults_of_rows, row_at, rows_to_read, merged_faults, with_noted}
use Rattle.protox_syntax.specs.inner.Whole.{all_notes}
use Rattle.protox_syntax.proofs.Entries.{each-in}
use Rattle.protox_syntax.proofs.Reading.{file-told}
use Rattle.protox_syntax.proofs.Recovering.{notable-both, told-notable}
use Rattle.protox_syntax.proofs.Refusing.{at_refusal-notable}

-- ---- the keys of lexical faults

-- the key of a fault, if it is lexical
abbrev lexical_key : ParseErrorKind → Option ℕ
lexical_key f = cond (is_lexical f) (key f) None

abbrev lexical_keys : List ParseErrorKind → List (Option ℕ)
lexical_keys fs = map lexical_key fs

-- the lexical faults lie between two places
abbrev LexicalRise : ℕ → ℕ → List ParseErrorKind → Type 0
LexicalRise low high fs = Rise low high (lexical_keys fs)

rise-none : (low high : ℕ) (o : Option ℕ) (ks : List (Option ℕ)) → Rise low high (o ∷ ks) → Rise low high ks
rise-none low high None ks r = r
rise-none low high (Some k) ks r = rise_lower low (suc k) high ks (omega (arith, r.0)) r.1

lexical-rises : (low high : ℕ) (fs : List ParseErrorKind) → RiseWithin low high fs → LexicalRise low high fs
lexical-rises low high [] r = r
lexical-rises low high (f ∷ fs) r = go (is_lexical f) (key f) r (λ from rest. lexical-rises from high fs rest) where
  go : (b : Bool) (o : Option ℕ) → Rise low high (o ∷ keys fs) → ((from : ℕ) → RiseWithin from high fs → LexicalRise from high fs) → Rise low high (cond b o None ∷ lexical_keys fs)
  go true None r rest = rest low r
  go true (Some k) r rest = (r.0, rest (suc k) r.1)
  go false o r rest = rest low (rise-none low high o (keys fs) r)

in-mode-rises : (b : Bool) (low high : ℕ) (fs : List ParseErrorKind) → RiseWithin low high fs → LexicalRise low high (faults_in b fs)
in-mode-rises true low high fs r = lexical-rises low high (filter (λ f. not (is_of_mode f)) fs) (filter_rises (λ f. not (is_of_mode f)) low high fs r)
in-mode-rises false low high fs r = lexical-rises low high fs r

joined-rise : (low mid high : ℕ) (fs gs : List ParseErrorKind) → LexicalRise low mid fs → LexicalRise mid high gs → LexicalRise low high (fs ++ gs)
joined-rise low mid high fs gs h r = subst (Rise low high) (sym (map-append lexical_key fs gs)) (rise_joined low mid high (lexical_keys fs) (lexical_keys gs) h r)

other-rises : (k : ℕ) (f : ParseErrorKind) → is_lexical f ≡ false → LexicalRise k k (f ∷ [])
other-rises k f e = subst (λ b. Rise k k (cond b (key f) None ∷ [])) (sym e) (le_refl k)

-- ---- once

rise-behind : (low high : ℕ) (ks ls : List (Option ℕ)) → Rise low high (ks ++ ls) → (from : ℕ) × (low ≤ from) × Rise from high ls
rise-behind low high [] ls r = (low, le_refl low, r)
rise-behind low high (None ∷ ks) ls r = rise-behind low high ks ls r
rise-behind low high (Some k ∷ ks) ls r = let (from, above, rest) = rise-behind (suc k) high ks ls r.1 in (from, omega (arith, r.0), rest)

lexical-behind : (low high : ℕ) (fs gs : List ParseErrorKind) → LexicalRise low high (fs ++ gs) → (from : ℕ) × (low ≤ from) × LexicalRise from high gs
lexical-behind low high fs gs r = rise-behind low high (lexical_keys fs) (lexical_keys gs) (subst (Rise low high) (map-append lexical_key fs gs) r)

-- a lexical fault has a key
lexical-key : (f : ParseErrorKind) → is_lexical f ≡ true → (k : ℕ) × (lexical_key f ≡ Some k)
lexical-key (fault.InvalidToken span) e = (twice span.start, refl)
lexical-key (fault.IntegerOutOfRange span) e = (suc (twice span.start), refl)
lexical-key (fault.InvalidStringCharacters span) e = (twice span.start, refl)
lexical-key (fault.UnterminatedString span) e = (twice span.start, refl)
lexical-key (fault.InvalidStringEscape span) e = (twice span.start, refl)
lexical-key (fault.NestedBlockComment span) e = (twice span.start, refl)
lexical-key (fault.NoSpaceBetweenIntAndIdent span) e = (twice span.start, refl)
lexical-key (fault.HashCommentOutsideTextFormat span) e = (twice span.start, refl)
lexical-key (fault.FloatSuffixOutsideTextFormat span) e = (twice span.start, refl)
lexical-key _ e = absurd (cc)

rise-once : (low high : ℕ) (faults : List ParseErrorKind) → LexicalRise low high faults → StandOnce faults
rise-once low high faults r before between behind wrong e = go (is_lexical wrong) refl where
  go : (b : Bool) → is_lexical wrong ≡ b → is_lexical wrong ≡ false
  go false is = is
  go true is =
      let (k, has) = lexical-key wrong is in
      let (from, above, first) = lexical-behind low high before (wrong ∷ (between ++ (wrong ∷ behind))) (subst (LexicalRise low high) e r) in
      let past : Rise from high (Some k ∷ lexical_keys (between ++ (wrong ∷ behind))) = subst (λ o. Rise from high (o ∷ lexical_keys (between ++ (wrong ∷ behind)))) has first in
      let (more, higher, second) = lexical-behind (suc k) high between (wrong ∷ behind) past.1 in
      let again : Rise more high (Some k ∷ lexical_keys behind) = subst (λ o. Rise more high (o ∷ lexical_keys behind)) has second in
      absurd (omega (arith, again.0))

-- ---- each stands

each-among : {A : Type 0} (xs : List A) → Each (Among xs) xs
each-among [] = tt
each-among (x ∷ xs) = (inl refl, each-so (Among xs) (Among (x ∷ xs)) xs (λ y h. inr h) (each-among xs))

among-any : {A : Type 0} (P : A → Type 0) (xs : List A) (x : A) → Among xs x → P x → Somewhere P xs
among-any P [] x h p = absurd h
among-any P (y ∷ ys) x (inl e) p = inl (subst P (sym e) p)
among-any P (y ∷ ys) x (inr h) p = inr (among-any P ys x h p)

each-two : {A : Type 0} (P Q R : A → Type 0) (xs : List A) → ((x : A) → P x → Q x → R x) → Each P xs → Each Q xs → Each R xs
each-two P Q R [] f h k = tt
each-two P Q R (x ∷ xs) f h k = (f x h.0 k.0, each-two P Q R xs f h.1 k.1)

own-stands : (lexemes : List Lexeme) (x : Lexeme) (f : ParseErrorKind) → IsRowKind x f → IsOwn lexemes f → Stands lexemes f
own-stands lexemes x (fault.UnexpectedToken span expected found) kind own = absurd kind
own-stands lexemes x _ kind own = λ lexical. own

lexeme-stands : (lexemes : List Lexeme) (x : Lexeme) → Among lexemes x → Each (IsRowKind x) (row_faults x) → Each (Stands lexemes) (row_faults x)
lexeme-stands lexemes x there kinds =
    each-two (IsRowKind x) (Among (row_faults x)) (Stands lexemes) (row_faults x)
    (λ f kind among.
    let own : IsOwn lexemes f = any-from (λ y. Any (λ own. own ≡ f) (row_faults y)) lexemes (among-any (λ y. Any (λ own. own ≡ f) (row_faults y)) lexemes x there
    (any-from (λ own. own ≡ f) (row_faults x) (among-any (λ own. own ≡ f) (row_faults x) f among refl))) in
    own-stands lexemes x f kind own) kinds (each-among (row_faults x))

front-each : (P : ParseErrorKind → Type 0) (fs : List ParseErrorKind) (fss : List (List ParseErrorKind)) → Each P fs → Each (Each P) fss → Each (Each P) (in_front fs fss)
front-each P fs [] h k = tt
front-each P fs (gs ∷ fss) h k = (each-append P fs gs h k.0, k.1)

entries-each : (P : ParseErrorKind → Type 0) (xs : List Lexeme) → Each (λ x. Each P (row_faults x)) xs → Each (Each P) (faults_of xs)
entries-each P [] h = (tt, tt)
entries-each P (x ∷ xs) h = go (is_gap x.shape) refl (entries-each P xs h.1) where
  go : (b : Bool) → is_gap x.shape ≡ b → Each (Each P) (faults_of xs) → Each (Each P) (cond b (in_front x.faults (faults_of xs)) (row_faults x ∷ faults_of xs))
  go true gap rest = front-each P x.faults (faults_of xs) (subst (Each P) (gap_faults x gap) h.0) rest
  go false row rest = (h.0, rest)

entry-each : (P : ParseErrorKind → Type 0) (fss : List (List ParseErrorKind)) → Each (Each P) fss → (k : ℕ) → Each P (slice_index_or fss k [])
entry-each P [] h k = tt
entry-each P (fs ∷ fss) h zero = h.0
entry-each P (fs ∷ fss) h (suc k) = entry-each P fss h.1 k

notable-stands : (lexemes : List Lexeme) (f : ParseErrorKind) → IsNotable (rows_of lexemes) f → Stands lexemes f
notable-stands lexemes (fault.UnexpectedToken span expected found) h = h
notable-stands lexemes _ h = λ lexical. absurd (let bad : true ≡ false = sym lexical ∙ h in cc)

notable-other : (lexemes : List Lexeme) (f : ParseErrorKind) → IsNotable (rows_of lexemes) f → is_lexical f ≡ false
notable-other lexemes (fault.UnexpectedToken span expected found) h = refl
notable-other lexemes _ h = h

-- ---- rows

valid-is : (s : Shape) → is_invalid s ≡ false → s ≡ Invalid → ⊥
valid-is s h e = let g = subst (λ v. is_invalid v ≡ false) e h in absurd cc

get-there : (rows : Rows Span) (i : ℕ) (r : Row Span) → slice_get rows i ≡ Some r → slice_index_or rows i r ≡ r
get-there [] i r e = refl
get-there (x ∷ rows) zero r e = let same : x ≡ r = cc in same
get-there (x ∷ rows) (suc i) r e = get-there rows i r e

-- ---- the merged list

module _ (source : List ℕ) where
  abbrev lexemes : List Lexeme
  lexemes = cut 0 source

  abbrev entries : List (List ParseErrorKind)
  entries = faults_of lexemes

  abbrev rows : Rows Span
  rows = rows_of lexemes

  order : AreInOrder 0 entries
  order = table_in_order source

  -- where the places of a row begin
  abbrev place : ℕ → ℕ
  place k = place_of 0 entries order k

  all-stand : Each (Each (Stands lexemes)) entries
  all-stand =
      entries-each (Stands lexemes) lexemes
      (each-two (Among lexemes) (λ x. Each (IsRowKind x) (row_faults x)) (λ x. Each (Stands lexemes) (row_faults x)) lexemes (λ x there kinds. lexeme-stands lexemes x there kinds) (each-among lexemes) (kinds-of source))

  -- Faults up to a place stand in the source; the lexical ones rise.
  record AreFine (low high : ℕ) (faults : List ParseErrorKind) : Type 0 where
    rise : LexicalRise low high faults
    all : Each (Stands lexemes) faults

  fine-joined : (low mid high : ℕ) (fs gs : List ParseErrorKind) → AreFine low mid fs → AreFine mid high gs → AreFine low high (fs ++ gs)
  fine-joined low mid high fs gs h k = record { rise = joined-rise low mid high fs gs h.rise k.rise; all = each-append (Stands lexemes) fs gs h.all k.all }

  entry-fine : (b : Bool) (k : ℕ) → AreFine (place k) (place (suc k)) (faults_in b (slice_index_or entries k []))
  entry-fine b k = record {
    rise = in-mode-rises b (place k) (place (suc k)) (slice_index_or entries k []) (list_rises 0 entries order k);
    all = each-in (Stands lexemes) b (slice_index_or entries k []) (entry-each (Stands lexemes) entries all-stand k);
  }

  faults_of_rows-fine : (b : Bool) (low n : ℕ) → AreFine (place low) (place (low + n)) (faults_of_rows b entries low n)
  faults_of_rows-fine b low zero = let same : low ≡ low + 0 = omega arith in subst (λ k. AreFine (place low) (place k) []) same (record { rise = le_refl (place low); all = tt })
  faults_of_rows-fine b low (suc n) =
      let same : suc (low + n) ≡ low + suc n = omega arith in
      subst (λ k. AreFine (place low) (place k) (faults_of_rows b entries low (suc n))) same
      (fine-joined (place low) (place (low + n)) (place (suc (low + n))) (faults_of_rows b entries low n) (faults_in b (slice_index_or entries (low + n) [])) (faults_of_rows-fine b low n) (entry-fine b (low + n)))

  -- the faults so far
  abbrev IsFine : Progress → Type 0
  IsFine p = AreFine 0 (place p.next) p.errors

  read-fine : (total left : ℕ) (p : Progress) → IsFine p → IsFine (read_until entries total left p)
  read-fine total left p h =
      let n = rows_to_read total left p.next in
      fine-joined 0 (place p.next) (place (p.next + n)) p.errors (faults_of_rows p.text_format entries p.next n) h (faults_of_rows-fine p.text_format p.next n)

  with-fine : (n : Noted) (p : Progress) → IsNotableNote rows n → IsFine p → IsFine (with_noted n p)
  with-fine (Fault f) p k h =
      fine-joined 0 (place p.next) (place p.next) p.errors (f ∷ []) h (record { rise = other-rises (place p.next) f (notable-other lexemes f k); all = (notable-stands lexemes f k, tt) })
  with-fine (TextFormat on) p k h = record { rise = h.rise; all = h.all }

  merge_notes-fine : (total : ℕ) (notes : Notes) (p : Progress) → AreNotable rows notes → IsFine p → IsFine (merge_notes entries total notes p)
  merge_notes-fine total [] p k h = h
  merge_notes-fine total (x ∷ xs) p k h = merge_notes-fine total xs (noted_in entries total x p) k.1 (with-fine x.noted (read_until entries total x.left p) k.0 (read-fine total x.left p h))

  beginning-fine : IsFine beginning
  beginning-fine = record { rise = zero-le; all = tt }

  -- where the faults of the merged list end
  merged-fine : (total left : ℕ) (notes : Notes) → AreNotable rows notes → IsFine (read_until entries total left (merge_notes entries total notes beginning))
  merged-fine total left notes k = read-fine total left (merge_notes entries total notes beginning) (merge_notes-fine total notes beginning k beginning-fine)

  fine-stand : (low high : ℕ) (faults : List ParseErrorKind) → AreFine low high faults → StandIn lexemes faults
  fine-stand low high faults h = (h.all, rise-once low high faults h.rise)

  merged_faults-stand : (total left : ℕ) (notes : Notes) → AreNotable rows notes → StandIn lexemes (merged_faults entries total notes left)
  merged_faults-stand total left notes k = fine-stand 0 _ (merged_faults entries total notes left) (merged-fine total left notes k)

  -- ---- what is noted

  abbrev t : Table
  t = table_of lexemes

  all-notable : AreNotable rows (all_notes (placed t))
  all-notable = subst (AreNotable rows) (file-told (placed t)) (told-notable rows None here (trace levels (placed t)) (placed t))

  front-notable : AreNotable rows (syntax_if_any.notes (placed t))
  front-notable = subst (AreNotable rows) (syntax_if_any.tells.says None here (placed t)) (told-notable rows None here ((rule.optional (only token.syntax) r.syntax).trace (placed t)) (placed t))

  refusal-fine : (k i : ℕ) (text : List ℕ) (o : Option (Row Span)) → slice_get rows i ≡ o → AreFine k k (option_to_list (refusal text o))
  refusal-fine k i text None e = record { rise = le_refl k; all = ((λ lexical. absurd (cc)), tt) }
  refusal-fine k i text (Some r) e = by (is_invalid r.shape) refl
    where
      by : (b : Bool) → is_invalid r.shape ≡ b → AreFine k k (option_to_list (cond b None (Some (fault.UnexpectedToken r.at text (printed r.shape)))))
      by true v = record { rise = le_refl k; all = tt }
      by false v = record { rise = le_refl k; all = ((i, r, slice_get_within rows i r e, get-there rows i r e, (refl, refl, valid-is r.shape v)), tt) }

  -- Each fault of a source stands somewhere in it, and no lexical fault is listed twice.
  pub merged-stand : (errors : List ParseErrorKind) → AreMergedFaults t errors → StandIn lexemes errors
  merged-stand errors (unknown_syntax some w) = subst (StandIn lexemes) (sym w) (merged_faults-stand (total_of t) _ (syntax_if_any.notes (placed t)) front-notable)
  merged-stand errors (unexpected_row left text plain e w) =
      let p = read_until entries (total_of t) left (merge_notes entries (total_of t) (all_notes (placed t)) beginning) in
      subst (StandIn lexemes) (sym w)
      (fine-stand 0 (place p.next) (p.errors ++ option_to_list (refusal text (row_at rows left)))
      (fine-joined 0 (place p.next) (place p.next) p.errors _ (merged-fine (total_of t) left (all_notes (placed t)) all-notable) (refusal-fine (place p.next) (length rows - left) text (row_at rows left) refl)))
  merged-stand errors (refused_statement e at_refusal later h says g notable w) =
      subst (StandIn lexemes) (sym w)
      (merged_faults-stand (total_of t) 0 (all_notes (placed t) ++ (at_refusal ++ later)) (notable-both rows (all_notes (placed t)) (at_refusal ++ later) all-notable (notable-both rows at_refusal later (at_refusal-notable t e at_refusal g) notable)))
  merged-stand errors (all_read x e w) = subst (StandIn lexemes) (sym w) (merged_faults-stand (total_of t) 0 (all_notes (placed t)) all-notable)

-- from the answer for a source's table
pub parsed-stands : (source : List ℕ) (e : SyntaxFailure) → RefusesTable (table_of (cut 0 source)) (length source) e → AreStanding source e
parsed-stands source OutOfMemory j = tt
parsed-stands source (Faults v) j = merged-stand source v.items j.3

pub parsed-stands-result : (source : List ℕ) (r : Result File SyntaxFailure) → ParsesTable (table_of (cut 0 source)) (length source) r → IfErr r (AreStanding source)
parsed-stands-result source (Ok file) j = tt
parsed-stands-result source (Err e) j = parsed-stands source e j
