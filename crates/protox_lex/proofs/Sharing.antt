-- Rows that refer to their tokens by number, and gaps that are kept by number.
use Rattle.std.proofs.Common.{◌≡◌, ℕ, zero, suc, ◌+◌, ◌-◌, ◌^◌, ◌<◌, ◌≤◌, inl, inr, List, [], ◌∷◌, ◌++◌, length, length-append, map, set, take, replicate, refl, sym, ap, subst, ◌∙◌, arith, Option, Some, None, Err, eqb, nat_lt, true, false, Result, Ok}
use Rattle.std.proofs.Math.ListN.{get_or-append}
use Rattle.std.proofs.Math.Seq.{get_or-append_seam}
use Rattle.std.proofs.lemmas.Bool.{cases_Bool, eqb-true, eqb-false, ltb-false, le-ltb, lt-ltb}
use Rattle.std.proofs.lemmas.Grind.{get_or-set_at}
use Rattle.std.proofs.lemmas.List.{map-append, get_or-set_other, length-set, length-replicate, take-map, take-replicate}
use Rattle.std.proofs.lemmas.Option.{slice_get-map, slice_get-get_or}
use Rattle.std.specs.Option.{option_map, unwrap_or}
use Rattle.std.proofs.lemmas.List.Elements.{All-push}
use Rattle.std.specs.Prelude.{slice_get, slice_index_or}
use Rattle.protox_lex.specs.declared.shared_rows.KeptToken.{KeptToken}
use Rattle.protox_lex.specs.declared.row_list.NumberedRow.{NumberedRow}
use Rattle.protox_lexeme.specs.declared.token.Token.{Token}
use Rattle.protox_lexeme.specs.declared.token.Token.TheVariants as variant
use Rattle.protox_fault.specs.Faults.{Span, span_from}
use Rattle.protox_lexeme.specs.Shapes.{Shape, Mark, Newline, Row}
use Rattle.protox_lex.specs.inner.Sharing.{kept_at, shape_at, borrowed_at, borrowed_by, rows_seen, and_row, kept_len, own_len, len_by, row_by, rows_by, IsKept, AreKept, AreMarks, AreClassed, AreShared, AddsNewlines, AreLines, AreThere, gap_at}
use Rattle.protox_lex.specs.inner.Grouping.{EndWithin, grouped}
use Rattle.protox_lex.proofs.Splitting.{append_within, grouped_append}
use Rattle.protox_lexeme.specs.TokenClass.{class, no_token}
use Rattle.protox_lexeme.specs.Tokens.{shape_of, shape_of_result, borrowed_of, borrowed_of_result, holds_none}

-- What is kept stays as it is.
kept_stays : (tokens more : List KeptToken) (number : ℕ) → number < length tokens → kept_at (tokens ++ more) number ≡ kept_at tokens number
kept_stays tokens more number l = get_or-append tokens more record { token = Err tt; len = 0; class = no_token } number l

kept_last : (tokens : List KeptToken) (token : KeptToken) → kept_at (tokens ++ token ∷ []) (length tokens) ≡ token
kept_last tokens token = get_or-append_seam tokens token [] record { token = Err tt; len = 0; class = no_token }

-- A row, given what is kept for it.
abbrev row_with : ℕ → Option ℕ → KeptToken → Row Span
row_with start own token = record { shape = shape_of_result token.token; at = span_from start (start + unwrap_or own token.len) }

rows_stay : (tokens more : List KeptToken) (rows : List NumberedRow) → AreKept tokens rows → rows_by (tokens ++ more) rows ≡ rows_by tokens rows
rows_stay tokens more [] h = refl
rows_stay tokens more (row ∷ rows) h =
    let here : row_by (tokens ++ more) row ≡ row_by tokens row = ap (row_with row.start row.len) (kept_stays tokens more row.token (h zero row (omega arith)).0) in
    rw (here, rows_stay tokens more rows (λ k d l. h (suc k) d (omega arith))) refl

len_stays : (tokens more : List KeptToken) (row : NumberedRow) → row.token < length tokens → len_by (tokens ++ more) row ≡ len_by tokens row
len_stays tokens more row l = ap (λ k. unwrap_or row.len k.len) (kept_stays tokens more row.token l)

-- With one more token kept, a row still ends where it did.
is_kept_stays : (tokens : List KeptToken) (token : KeptToken) (row : NumberedRow) → IsKept tokens row → IsKept (tokens ++ token ∷ []) row
is_kept_stays tokens token row (l, ends) = (omega (arith, l, length-append tokens (token ∷ [])), omega (arith, ends, len_stays tokens (token ∷ []) row l))

kept_more : (tokens : List KeptToken) (token : KeptToken) (rows : List NumberedRow) → AreKept tokens rows → AreKept (tokens ++ token ∷ []) rows
kept_more tokens token rows h k d l = is_kept_stays tokens token (slice_index_or rows k d) (h k d l)

-- the length of a row is kept with its token or with the row
own_or_kept : (len : ℕ) → unwrap_or (own_len len) (kept_len len) ≡ len
own_or_kept len = elim (cases_Bool (nat_lt len (2 ^ 32))) [
  | inl fits ↦ rw fits refl
  | inr large ↦ rw large refl
]

-- A row with a token that is kept.
rows_known : (tokens : List KeptToken) (rows : List NumberedRow) (row : NumberedRow) (shape : Shape) (len : ℕ) → shape_at tokens row.token ≡ shape → len_by tokens row ≡ len
    → rows_by tokens (rows ++ row ∷ []) ≡ rows_by tokens rows ++ record { shape = shape; at = span_from row.start (row.start + len) } ∷ []
rows_known tokens rows row shape len e size = map-append (row_by tokens) rows (row ∷ []) ∙ rw (e, size) refl

-- A token of such a shape owns no memory.
borrowed_token : (t : Token) → holds_none (shape_of t) ≡ true → borrowed_of t ≡ true
borrowed_token (variant.FloatLiteral f) h = absurd (cc)
borrowed_token (variant.StringLiteral s) h = absurd (cc)
borrowed_token (variant.LineComment s) h = absurd (cc)
borrowed_token (variant.BlockComment s) h = absurd (cc)
borrowed_token _ h = refl

borrowed_result : (r : Result Token (Unit {0})) → holds_none (shape_of_result r) ≡ true → borrowed_of_result r ≡ true
borrowed_result (Ok t) h = borrowed_token t h
borrowed_result (Err e) h = refl

pub known_push : (tokens : List KeptToken) (rows : List NumberedRow) (row : NumberedRow) (shape : Shape) (len : ℕ) → shape_at tokens row.token ≡ shape → holds_none shape ≡ true → len_by tokens row ≡ len
    → rows_seen tokens (rows ++ row ∷ []) ≡ and_row (rows_seen tokens rows) record { shape = shape; at = span_from row.start (row.start + len) } true
known_push tokens rows row shape len e holds size =
    let borrowed : borrowed_at tokens row.token ≡ true = borrowed_result (kept_at tokens row.token).token (ap holds_none e ∙ holds) in
    let flags : borrowed_by tokens (rows ++ row ∷ []) ≡ borrowed_by tokens rows ++ true ∷ [] = map-append (λ r. borrowed_at tokens r.token) rows (row ∷ []) ∙ rw borrowed refl in
    rw (rows_known tokens rows row shape len e size, flags) refl

pub mark_push : (tokens : List KeptToken) (rows : List NumberedRow) (row : NumberedRow) (byte len : ℕ) → shape_at tokens row.token ≡ Mark byte → len_by tokens row ≡ len
    → rows_seen tokens (rows ++ row ∷ []) ≡ and_row (rows_seen tokens rows) record { shape = Mark byte; at = span_from row.start (row.start + len) } true
mark_push tokens rows row byte len e size = known_push tokens rows row (Mark byte) len e refl size

pub shared_known : (tokens : List KeptToken) (rows : List NumberedRow) (marks : List (Option ℕ)) (recent : List ℕ) (row : NumberedRow) → AreShared tokens rows marks recent → IsKept tokens row
    → AreShared tokens (rows ++ row ∷ []) marks recent
shared_known tokens rows marks recent row s h = record { kept = All-push (IsKept tokens) rows row s.kept h; marks_are = s.marks_are; classed = s.classed; bytes = s.bytes; slots = s.slots }

-- the class of what is kept
abbrev HasClass : KeptToken → Type 0
HasClass t = t.class ≡ class (shape_of_result t.token)

pub class_found : (tokens : List KeptToken) (number : ℕ) → AreClassed tokens → number < length tokens → (kept_at tokens number).class ≡ class (shape_at tokens number)
class_found tokens number h l = h number record { token = Err tt; len = 0; class = no_token } l

-- What owns no memory stays so.
flags_stay : (tokens more : List KeptToken) (rows : List NumberedRow) → AreKept tokens rows → borrowed_by (tokens ++ more) rows ≡ borrowed_by tokens rows
flags_stay tokens more [] h = refl
flags_stay tokens more (row ∷ rows) h =
    let here : borrowed_at (tokens ++ more) row.token ≡ borrowed_at tokens row.token = ap (λ k. borrowed_of_result k.token) (kept_stays tokens more row.token (h zero row (omega arith)).0) in
    rw (here, flags_stay tokens more rows (λ k d l. h (suc k) d (omega arith))) refl

flags_push : (tokens : List KeptToken) (token : KeptToken) (rows : List NumberedRow) (row : NumberedRow) → AreKept tokens rows → row.token ≡ length tokens
    → borrowed_by (tokens ++ token ∷ []) (rows ++ row ∷ []) ≡ borrowed_by tokens rows ++ borrowed_of_result token.token ∷ []
flags_push tokens token rows row h e =
    let last : borrowed_at (tokens ++ token ∷ []) row.token ≡ borrowed_of_result token.token = ap (λ k. borrowed_of_result k.token) (ap (kept_at (tokens ++ token ∷ [])) e ∙ kept_last tokens token) in
    map-append (λ r. borrowed_at (tokens ++ token ∷ []) r.token) rows (row ∷ []) ∙ rw (flags_stay tokens (token ∷ []) rows h, last) refl

-- A row with one more token.
places_push : (tokens : List KeptToken) (token : KeptToken) (rows : List NumberedRow) (start number len : ℕ) → AreKept tokens rows → number ≡ length tokens → token.len ≡ kept_len len
    → rows_by (tokens ++ token ∷ []) (rows ++ record { start = start; token = number; len = own_len len } ∷ []) ≡ rows_by tokens rows ++ record { shape = shape_of_result token.token; at = span_from start (start + len) } ∷ []
places_push tokens token rows start number len h e size =
    let row : NumberedRow = record { start = start; token = number; len = own_len len } in
    let last : row_by (tokens ++ token ∷ []) row ≡ row_with start (own_len len) token = ap (row_with start (own_len len)) (ap (kept_at (tokens ++ token ∷ [])) e ∙ kept_last tokens token) in
    let long : unwrap_or (own_len len) token.len ≡ len = ap (unwrap_or (own_len len)) size ∙ own_or_kept len in
    let whole : row_with start (own_len len) token ≡ record { shape = shape_of_result token.token; at = span_from start (start + len) } = ap (λ n. record { shape = shape_of_result token.token; at = span_from start (start + n) }) long in
    map-append (row_by (tokens ++ token ∷ [])) rows (row ∷ []) ∙ rw (rows_stay tokens (token ∷ []) rows h, last, whole) refl

pub rows_push : (tokens : List KeptToken) (token : KeptToken) (rows : List NumberedRow) (start number len : ℕ) → AreKept tokens rows → number ≡ length tokens → token.len ≡ kept_len len
    → rows_seen (tokens ++ token ∷ []) (rows ++ record { start = start; token = number; len = own_len len } ∷ [])
    ≡ and_row (rows_seen tokens rows) record { shape = shape_of_result token.token; at = span_from start (start + len) } (borrowed_of_result token.token)
rows_push tokens token rows start number len h e size =
    rw (places_push tokens token rows start number len h e size, flags_push tokens token rows record { start = start; token = number; len = own_len len } h e) refl

last_is_kept : (tokens : List KeptToken) (token : KeptToken) (start number len : ℕ) → number ≡ length tokens → token.len ≡ kept_len len → start + len < 2 ^ 64
    → IsKept (tokens ++ token ∷ []) record { start = start; token = number; len = own_len len }
last_is_kept tokens token start number len e size ends =
    let long : unwrap_or (own_len len) (kept_at (tokens ++ token ∷ []) number).len ≡ len =
    ap (λ k. unwrap_or (own_len len) k.len) (ap (kept_at (tokens ++ token ∷ [])) e ∙ kept_last tokens token) ∙ ap (unwrap_or (own_len len)) size ∙ own_or_kept len in
    (omega (arith, length-append tokens (token ∷ []), e), omega (arith, ends, long))

kept_push : (tokens : List KeptToken) (token : KeptToken) (rows : List NumberedRow) (start number len : ℕ) → AreKept tokens rows → number ≡ length tokens → token.len ≡ kept_len len → start + len < 2 ^ 64
    → AreKept (tokens ++ token ∷ []) (rows ++ record { start = start; token = number; len = own_len len } ∷ [])
kept_push tokens token rows start number len h e size ends =
    All-push (IsKept (tokens ++ token ∷ [])) rows record { start = start; token = number; len = own_len len } (kept_more tokens token rows h) (last_is_kept tokens token start number len e size ends)

marks_push : (tokens : List KeptToken) (token : KeptToken) (marks : List (Option ℕ)) → AreMarks tokens marks → AreMarks (tokens ++ token ∷ []) marks
marks_push tokens token marks h byte number e =
    let (l, s) = h byte number e in
    (omega (arith, l, length-append tokens (token ∷ [])), ap (λ k. shape_of_result k.token) (kept_stays tokens (token ∷ []) number l) ∙ s)

pub shared_push : (tokens : List KeptToken) (token : KeptToken) (rows : List NumberedRow) (marks : List (Option ℕ)) (recent : List ℕ) (start number len : ℕ) → AreShared tokens rows marks recent → number ≡ length tokens
    → token.len ≡ kept_len len → start + len < 2 ^ 64 → HasClass token → AreShared (tokens ++ token ∷ []) (rows ++ record { start = start; token = number; len = own_len len } ∷ []) marks recent
shared_push tokens token rows marks recent start number len s e size ends of = record {
  kept = kept_push tokens token rows start number len s.kept e size ends;
  marks_are = marks_push tokens token marks s.marks_are;
  classed = All-push HasClass tokens token s.classed of;
  bytes = s.bytes;
  slots = s.slots;
}

-- One more token, which no row has yet.
pub shared_more : (tokens : List KeptToken) (token : KeptToken) (rows : List NumberedRow) (marks : List (Option ℕ)) (recent : List ℕ) → AreShared tokens rows marks recent
    → HasClass token → AreShared (tokens ++ token ∷ []) rows marks recent
shared_more tokens token rows marks recent s of =
    record { kept = kept_more tokens token rows s.kept; marks_are = marks_push tokens token marks s.marks_are; classed = All-push HasClass tokens token s.classed of; bytes = s.bytes; slots = s.slots }

-- A row with a mark that is kept from now on.
marks_first : (tokens : List KeptToken) (token : KeptToken) (marks : List (Option ℕ)) (byte : ℕ) → AreMarks tokens marks → shape_of_result token.token ≡ Mark byte → byte < length marks
    → AreMarks (tokens ++ token ∷ []) (set marks byte (Some (length tokens)))
marks_first tokens token marks byte h s l b number e = elim (cases_Bool (eqb b byte)) [
  | inl same ↦
      let here : b ≡ byte = eqb-true b byte same in
      let found : Some (length tokens) ≡ Some number = sym (get_or-set_at marks byte b (Some (length tokens)) None here l) ∙ e in
      let is : length tokens ≡ number = cc in
      (omega (arith, is, length-append tokens (token ∷ [])), ap (shape_at (tokens ++ token ∷ [])) (sym is) ∙ ap (λ k. shape_of_result k.token) (kept_last tokens token) ∙ s ∙ ap Mark (sym here))
  | inr other ↦
      marks_push tokens token marks h b number (sym (get_or-set_other marks byte b (Some (length tokens)) None (eqb-false b byte other)) ∙ e)
]

pub shared_first : (tokens : List KeptToken) (token : KeptToken) (rows : List NumberedRow) (marks : List (Option ℕ)) (recent : List ℕ) (byte number : ℕ) → AreShared (tokens ++ token ∷ []) rows marks recent → AreMarks tokens marks
    → number ≡ length tokens → shape_of_result token.token ≡ Mark byte → byte < 256 → AreShared (tokens ++ token ∷ []) rows (set marks byte (Some number)) recent
shared_first tokens token rows marks recent byte number s before e shape l =
    let P : ℕ → Type 0 = λ number. AreMarks (tokens ++ token ∷ []) (set marks byte (Some number)) in
    record {
      kept = s.kept;
      marks_are = subst P (sym e) (marks_first tokens token marks byte before shape (omega (arith, l, s.bytes)));
      classed = s.classed;
      bytes = length-set marks byte (Some number) ∙ s.bytes;
      slots = s.slots;
    }

-- the number of a mark that is kept
pub mark_found : (tokens : List KeptToken) (marks : List (Option ℕ)) (byte number : ℕ) (found : Option ℕ) → AreMarks tokens marks → byte < length marks → found ≡ slice_index_or marks byte found → found ≡ Some number
    → (number < length tokens) × (shape_at tokens number ≡ Mark byte)
mark_found tokens marks byte number found are within is some =
    let one = slice_get-get_or marks byte found within in
    let other = slice_get-get_or marks byte None within in
    let same : slice_index_or marks byte None ≡ slice_index_or marks byte found = cc in
    are byte number (same ∙ sym is ∙ some)

-- ---- gaps

-- Borrowed newlines.
lines_lent : (lines : List Token) (count : ℕ) → AreLines lines → count ≤ 8 → map shape_of (take count lines) ≡ replicate count Newline
lines_lent lines count e l = sym (take-map shape_of count lines) ∙ ap (take count) e ∙ take-replicate count 8 Newline l

gap_found : (kept : List (List Token)) (numbers : List ℕ) (k number : ℕ) → slice_get numbers k ≡ Some number → slice_get (map (gap_at kept) numbers) k ≡ Some (gap_at kept number)
gap_found kept numbers k number is = slice_get-map (gap_at kept) numbers k ∙ ap (option_map (gap_at kept)) is

pub few_found : (lines : List Token) (kept : List (List Token)) (numbers : List ℕ) (k number : ℕ) → AreLines lines → slice_get numbers k ≡ Some number → number < 8
    → Some (map shape_of (take number lines)) ≡ slice_get (map (gap_at kept) numbers) k
few_found lines kept numbers k number e is l =
    let at : gap_at kept number ≡ replicate number Newline = rw (lt-ltb number 8 l) refl in
    ap Some (lines_lent lines number e (omega (arith, l)) ∙ sym at) ∙ sym (gap_found kept numbers k number is)

-- More kept gaps don't change the others.
gaps_kept : (kept : List (List Token)) (gap : List Token) (numbers : List ℕ) → AreThere numbers kept → map (gap_at (kept ++ gap ∷ [])) numbers ≡ map (gap_at kept) numbers
gaps_kept kept gap [] h = refl
gaps_kept kept gap (number ∷ numbers) h =
    let below = h zero number (omega arith) in
    let here : gap_at (kept ++ gap ∷ []) number ≡ gap_at kept number =
    elim (cases_Bool (nat_lt number 8)) [
      | inl few ↦ rw few refl
      | inr many ↦
          let past : 8 ≤ number = ltb-false number 8 many in
          rw many (ap (map shape_of) (get_or-append kept (gap ∷ []) [] (number - 8) (omega (arith, past, below))))
    ] in
    rw (here, gaps_kept kept gap numbers (λ k d l. h (suc k) d (omega arith))) refl

-- the gap that is kept last
gap_last : (kept : List (List Token)) (gap : List Token) → gap_at (kept ++ gap ∷ []) (8 + length kept) ≡ map shape_of gap
gap_last kept gap =
    let past : nat_lt (8 + length kept) 8 ≡ false = le-ltb (8 + length kept) 8 (omega arith) in
    let behind : 8 + length kept - 8 ≡ length kept = omega arith in
    rw past (ap (map shape_of) (ap (λ n. slice_index_or (kept ++ gap ∷ []) n []) behind ∙ get_or-append_seam kept gap [] []))

pub end_kept : (numbers : List ℕ) (kept : List (List Token)) (gap : List Token) (number : ℕ) → AreThere numbers kept → number ≡ 8 + length kept
    → map (gap_at (kept ++ gap ∷ [])) (numbers ++ number ∷ []) ≡ map (gap_at kept) numbers ++ map shape_of gap ∷ []
end_kept numbers kept gap number h e =
    map-append (gap_at (kept ++ gap ∷ [])) numbers (number ∷ []) ∙ rw (gaps_kept kept gap numbers h, e, gap_last kept gap) refl

pub there_more : (numbers : List ℕ) (kept : List (List Token)) (gap : List Token) → AreThere numbers kept → AreThere numbers (kept ++ gap ∷ [])
there_more numbers kept gap h k d l = let below = h k d l in omega (arith, length-append kept (gap ∷ []))

pub there_push : (numbers : List ℕ) (kept : List (List Token)) (number : ℕ) → AreThere numbers kept → number < 8 + length kept → AreThere (numbers ++ number ∷ []) kept
there_push numbers kept number h l = All-push (λ n. n < 8 + length kept) numbers number h l

-- Lists end where they did when newlines are appended.
pub newlines_within : (tokens all : List Token) (ends : List ℕ) (count : ℕ) → EndWithin 0 (length tokens) ends → AddsNewlines tokens count all
    → EndWithin 0 (length all) ends
newlines_within tokens all ends count within added = rw added.appended (append_within tokens added.more ends within)

-- The list that has begun gets the newlines.
pub newlines_grouped : (tokens all : List Token) (ends : List ℕ) (count : ℕ) → EndWithin 0 (length tokens) ends → AddsNewlines tokens count all
    → ((grouped all ends).ended ≡ (grouped tokens ends).ended)
    × (map shape_of (grouped all ends).begun ≡ map shape_of (grouped tokens ends).begun ++ replicate count Newline)
newlines_grouped tokens all ends count within added =
    let same = ap (λ all. grouped all ends) added.appended ∙ grouped_append tokens added.more ends within in (
      ap (λ g. g.ended) same,
      ap (λ g. map shape_of g.begun) same ∙ map-append shape_of (grouped tokens ends).begun added.more
          ∙ ap (λ newlines. map shape_of (grouped tokens ends).begun ++ newlines) added.newlines,
    )

-- no row yet
pub nothing_shared : (tokens : List KeptToken) (rows : List NumberedRow) (marks : List (Option ℕ)) (recent : List ℕ) → tokens ≡ [] → rows ≡ [] → marks ≡ replicate 256 None → length recent ≡ 1024
    → AreShared tokens rows marks recent
nothing_shared tokens rows marks recent t r m size = record {
  kept = rw r (λ k d l. absurd (omega arith));
  classed = rw t (λ k d l. absurd (omega arith));
  marks_are = λ byte number e. absurd (never 256 byte number (sym (ap (λ ms. slice_index_or ms byte None) m) ∙ e));
  bytes = ap length m ∙ (let none : Option ℕ = None in length-replicate 256 none);
  slots = size;
} where
  never : (n byte number : ℕ) → slice_index_or (replicate n None) byte None ≡ Some number → ⊥
  never zero byte number e = absurd (cc)
  never (suc n) zero number e = absurd (cc)
  never (suc n) (suc byte) number e = never n byte number e

-- A copy of nothing is nothing.
pub only_none : (R : Option ℕ → Type 0) → ((n : ℕ) → R (Some n) → ⊥) → (copy : Option ℕ) → R copy → copy ≡ None
only_none R never None r = refl
only_none R never (Some n) r = absurd (never n r)
