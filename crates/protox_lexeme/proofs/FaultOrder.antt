-- The faults of a lexeme stand in the order of their places.
use Rattle.std.proofs.Common.{◌≡◌, ℕ, zero, suc, ◌+◌, ◌<◌, ◌≤◌, ◌==◌, ◌&&◌, Bool, true, false, cond, eqb, inl, inr, List, [], ◌∷◌, ◌++◌, length, map, take, drop, get_or, refl, sym, subst, length-drop, le_refl, le_trans, arith, Option, Some, None}
use Rattle.std.proofs.lemmas.Bool.{cases_Bool}
use Rattle.std.proofs.lemmas.Bool.Decides.{nat_tests}
use Rattle.std.proofs.lemmas.Grind.{get_or_after_one}
use Rattle.std.proofs.lemmas.List.{map-append}
use Rattle.std.specs.Option.{option_map, option_or}
use Rattle.std.specs.Char.{is_ascii_digit, is_ascii_hexdigit}
use Rattle.protox_fault.specs.declared.error.ParseErrorKind.{ParseErrorKind}
use Rattle.protox_fault.specs.declared.error.ParseErrorKind.TheVariants.{IntegerOutOfRange, NoSpaceBetweenIntAndIdent, HashCommentOutsideTextFormat, FloatSuffixOutsideTextFormat}
use Rattle.protox_fault.specs.Faults.{span_from, span_of}
use Rattle.protox_lexeme.specs.declared.scan.Kind.{Kind}
use Rattle.protox_lexeme.specs.declared.scan.Kind.TheVariants.{Identifier, Integer, Float, String, Mark, LineComment, BlockComment, Newline}
use Rattle.protox_lexeme.specs.BlockComments.{Mark as CommentMark, opens, closes, Ending, marks, behind, closed, last_closed, ending, marks_of, len_to, nested_faults, faults_to}
use Rattle.protox_lexeme.specs.Lexemes.{lexeme, prefix_of, value_fits, has_suffix}
use Rattle.protox_lexeme.specs.Lexicon.{pattern, is_octal, is_nonzero, is_x, any_digits}
use Rattle.protox_lexeme.specs.Pattern.{one, some, ◌⋅◌, Fits}
use Rattle.protox_lexeme.specs.Strings as spec
use Rattle.protox_lexeme.proofs.Cut.{fits_some}
use Rattle.protox_lexeme.proofs.Each.{Every}
use Rattle.protox_lexeme.proofs.Fitting.{first_passes, fits_within, one_then_rest, some_bounds}
use Rattle.protox_lexeme.proofs.Literal.{piece_some}

-- ---- keys

abbrev pub twice : ℕ → ℕ
twice n = n + n

-- The key of a fault: its place. If two faults begin at one place, the range fault of an integer
-- comes last.
abbrev pub key : ParseErrorKind → Option ℕ
key (IntegerOutOfRange span) = Some (suc (twice span.start))
key wrong = option_map (λ s. twice s.start) (span_of wrong)

abbrev pub keys : List ParseErrorKind → List (Option ℕ)
keys fs = map key fs

-- The keys of the faults rise, from one number on and below another.
abbrev pub Rise : ℕ → ℕ → List (Option ℕ) → Type 0
Rise low high [] = low ≤ high
Rise low high (None ∷ ks) = Rise low high ks
Rise low high (Some k ∷ ks) = (low ≤ k) × Rise (suc k) high ks

pub rise_lower : (low from high : ℕ) (ks : List (Option ℕ)) → low ≤ from → Rise from high ks → Rise low high ks
rise_lower low from high [] h r = le_trans h r
rise_lower low from high (None ∷ ks) h r = rise_lower low from high ks h r
rise_lower low from high (Some k ∷ ks) h r = (le_trans h r.0, r.1)

pub rise_joined : (low mid high : ℕ) (ks ls : List (Option ℕ)) → Rise low mid ks → Rise mid high ls → Rise low high (ks ++ ls)
rise_joined low mid high [] ls h r = rise_lower low mid high ls h r
rise_joined low mid high (None ∷ ks) ls h r = rise_joined low mid high ks ls h r
rise_joined low mid high (Some k ∷ ks) ls h r = (h.0, rise_joined (suc k) mid high ks ls h.1 r)

-- The places of the faults lie between two places.
abbrev pub RiseWithin : ℕ → ℕ → List ParseErrorKind → Type 0
RiseWithin low high fs = Rise low high (keys fs)

pub within_joined : (low mid high : ℕ) (fs gs : List ParseErrorKind) → RiseWithin low mid fs → RiseWithin mid high gs → RiseWithin low high (fs ++ gs)
within_joined low mid high fs gs h r = subst (Rise low high) (sym (map-append key fs gs)) (rise_joined low mid high (keys fs) (keys gs) h r)

-- ---- integers

octal_not_x : (b : ℕ) → is_octal b ≡ true → is_x b ≡ false
octal_not_x b h = grind (arith, nat_tests)

digit_not_x : (b : ℕ) → is_ascii_digit b ≡ true → is_x b ≡ false
digit_not_x b h = grind (arith, nat_tests)

-- An integer of two bytes has no prefix of two bytes.
second_not_x : (text : List ℕ) (n : ℕ) → Fits (pattern Integer) text n → n ≡ 2 → is_x (get_or text 1 0) ≡ false
second_not_x text n (inl f) two = absurd (omega (arith, f.0))
second_not_x text n (inr (inl f)) two =
    let (m, size, zero_byte, rest) = one_then_rest (λ x. x == 48) (some is_octal) text n f in
    let (low, high) = some_bounds is_octal (drop 1 text) m rest in
    rw get_or_after_one at (octal_not_x (get_or (drop 1 text) 0 0) (first_passes is_octal (drop 1 text) (omega arith)))
second_not_x text n (inr (inr (inl f))) two =
    let (m, size, nonzero, rest) = one_then_rest is_nonzero any_digits text n f in
    rw get_or_after_one at (digit_not_x (get_or (drop 1 text) 0 0) (first_passes is_ascii_digit (drop 1 text) (omega arith)))
second_not_x text n (inr (inr (inr f))) two =
    let (m, size, zero_byte, rest) = one_then_rest (λ x. x == 48) (one is_x ⋅ some is_ascii_hexdigit) text n f in
    let (k, more, x, hex) = one_then_rest is_x (some is_ascii_hexdigit) (drop 1 text) m rest in
    let (low, high) = some_bounds is_ascii_hexdigit (drop 1 (drop 1 text)) k hex in
    absurd (omega arith)

not_one : (n : ℕ) → 2 ≤ n → eqb n 1 ≡ false
not_one n h = grind (arith, nat_tests)

-- A digit stands after the prefix.
prefix_below : (text : List ℕ) (n : ℕ) → 1 ≤ n → n ≤ length text → (n ≡ 2 → is_x (get_or text 1 0) ≡ false) → prefix_of (take n text) < n
prefix_below text zero some within x = absurd (omega arith)
prefix_below [] (suc n) some within x = absurd (omega arith)
prefix_below (b ∷ text) (suc zero) some within x = elim (cases_Bool (eqb b 48)) [ inl e ↦ rw e (omega arith) | inr e ↦ rw e (omega arith) ]
prefix_below (b ∷ []) (suc (suc n)) some within x = absurd (omega arith)
prefix_below (b ∷ (c ∷ text)) (suc (suc zero)) some within x =
    elim (cases_Bool (eqb b 48)) [ inl e ↦ rw (e, x refl) (omega arith) | inr e ↦ rw e (omega arith) ]
prefix_below (b ∷ (c ∷ text)) (suc (suc (suc n))) some within x =
    let long = not_one (length (b ∷ (c ∷ take (suc n) text))) (omega arith) in
    elim (cases_Bool (eqb b 48)) [
      | inl e ↦ elim (cases_Bool (is_x c)) [ inl x ↦ rw (e, long, x) (omega arith) | inr x ↦ rw (e, long, x) (omega arith) ]
      | inr e ↦ rw e (omega arith)
    ]

both_rise : (a b : Bool) (at prefix to end high : ℕ) → suc (suc (twice (at + prefix))) ≤ high
    → RiseWithin (twice at) high (cond a (NoSpaceBetweenIntAndIdent (span_from (at + prefix) to) ∷ []) [] ++ cond b [] (IntegerOutOfRange (span_from (at + prefix) end) ∷ []))
both_rise true true at prefix to end high h = (omega arith, omega arith)
both_rise true false at prefix to end high h = (omega arith, (omega arith, h))
both_rise false true at prefix to end high h = omega arith
both_rise false false at prefix to end high h = (omega arith, h)

-- ---- strings

-- The run of invalid pieces begins before this place.
abbrev BeginsFrom : ℕ → spec.Bad → ℕ → Type 0
BeginsFrom low None at = low ≤ twice at
BeginsFrom low (Some o) at = (low ≤ twice o.1) × (o.1 < at)

closed_rise : (low high : ℕ) (bad : spec.Bad) (at : ℕ) → BeginsFrom low bad at → twice at ≤ high → RiseWithin low high (spec.closed bad at)
closed_rise low high None at h e = le_trans h e
closed_rise low high (Some (true, from)) at h e = (h.0, omega (arith, h.1))
closed_rise low high (Some (false, from)) at h e = (h.0, omega (arith, h.1))

opened_from : (low : ℕ) (bad : spec.Bad) (is_escape : Bool) (at n : ℕ) → 1 ≤ n → BeginsFrom low bad at → BeginsFrom low (spec.opened bad is_escape at) (at + n)
opened_from low None is_escape at n some h = (h, omega arith)
opened_from low (Some o) is_escape at n some h = (h.0, omega (arith, h.1))

abbrev HasByte : spec.Piece → Type 0
HasByte p = 1 ≤ spec.piece_len p

pieces_rise : (low high : ℕ) (bad : spec.Bad) (at : ℕ) (ps : List spec.Piece) → Every HasByte ps → BeginsFrom low bad at → twice (at + spec.len_of ps) ≤ high
    → RiseWithin low high (spec.faults_of bad at ps)
pieces_rise low high bad at [] some h e = within_joined low high high (spec.closed bad at) _ (closed_rise low high bad at h (omega arith)) (le_refl high)
pieces_rise low high bad at (spec.run bytes ∷ ps) some h e =
    within_joined low (twice at) high (spec.closed bad at) _ (closed_rise low (twice at) bad at h (le_refl _)) (pieces_rise (twice at) high None (at + length bytes) ps some.1 (omega arith) (omega arith))
pieces_rise low high bad at (spec.adds bytes n ∷ ps) some h e =
    within_joined low (twice at) high (spec.closed bad at) _ (closed_rise low (twice at) bad at h (le_refl _)) (pieces_rise (twice at) high None (at + n) ps some.1 (omega arith) (omega arith))
pieces_rise low high bad at (spec.wrong is_escape n ∷ ps) some h e = pieces_rise low high (spec.opened bad is_escape at) (at + n) ps some.1 (opened_from low bad is_escape at n some.0 h) (omega arith)
pieces_rise low high bad at (spec.ends ∷ ps) some h e = closed_rise low high bad at h (omega arith)
pieces_rise low high bad at (spec.breaks ∷ ps) some h e =
    within_joined low (twice at) high (spec.closed bad at) _ (closed_rise low (twice at) bad at h (le_refl _)) (le_refl _, omega arith)

pieces_some : (count quote : ℕ) (text : List ℕ) → Every HasByte (spec.pieces_from count quote text)
unfolding spec.pieces_from
pieces_some zero quote text = tt
pieces_some (suc count) quote [] = tt
pieces_some (suc count) quote (b ∷ text) =
    let p = spec.piece quote (b ∷ text) in
    elim (cases_Bool (spec.is_last p)) [
      | inl e ↦ rw e (piece_some quote (b ∷ text) (omega arith), tt)
      | inr e ↦ rw e (piece_some quote (b ∷ text) (omega arith), pieces_some count quote (drop (spec.piece_len p) (b ∷ text)))
    ]

string_rise : (at quote : ℕ) (text : List ℕ) → RiseWithin (twice at) (twice (at + 1 + spec.len_of (spec.pieces quote text))) (spec.faults_of None (at + 1) (spec.pieces quote text))
unfolding spec.pieces
string_rise at quote text = pieces_rise (twice at) _ None (at + 1) (spec.pieces_from (length text) quote text) (pieces_some (length text) quote text) (omega arith) (le_refl _)

-- ---- block comments

abbrev place : CommentMark → ℕ
place (opens at) = at
place (closes at) = at

-- The `/*` and `*/` stand one after another, from one place on and before another.
abbrev MarksRise : ℕ → ℕ → List CommentMark → Type 0
MarksRise low high [] = low ≤ high
MarksRise low high (m ∷ ms) = (low ≤ place m) × MarksRise (suc (place m)) high ms

marks_lower : (low from high : ℕ) (ms : List CommentMark) → low ≤ from → MarksRise from high ms → MarksRise low high ms
marks_lower low from high [] h r = le_trans h r
marks_lower low from high (m ∷ ms) h r = (le_trans h r.0, r.1)

marks_bound : (low high : ℕ) (ms : List CommentMark) → MarksRise low high ms → low ≤ high
marks_bound low high [] r = r
marks_bound low high (m ∷ ms) r = let more = marks_bound (suc (place m)) high ms r.1 in omega (arith, r.0)

marks_rise : (at high : ℕ) (text : List ℕ) → at + length text ≤ high → MarksRise at high (marks at text)
marks_rise at high [] h = omega arith
marks_rise at high (b ∷ []) h = omega arith
marks_rise at high (b ∷ (c ∷ text)) h =
    let two = marks_lower (suc at) (at + 2) high (marks (at + 2) text) (omega arith) (marks_rise (at + 2) high text (omega arith)) in
    let next = marks_lower at (at + 1) high (marks (at + 1) (c ∷ text)) (omega arith) (marks_rise (at + 1) high (c ∷ text) (omega arith)) in
    elim (cases_Bool (eqb b 47 && eqb c 42)) [
      | inl e ↦ rw e (le_refl at, two)
      | inr e ↦ elim (cases_Bool (eqb b 42 && eqb c 47)) [ inl f ↦ rw (e, f) (le_refl at, two) | inr f ↦ rw (e, f) next ]
    ]

-- Those before the end of the comment stand before it.
abbrev EndRise : ℕ → ℕ → Option Ending → Type 0
EndRise low high None = Unit {0}
EndRise low high (Some e) = MarksRise low e.at e.before × (e.at < high)

behind_rise : (low high : ℕ) (m : CommentMark) (end : Option Ending) → low ≤ place m → EndRise (suc (place m)) high end → EndRise low high (option_map (behind m) end)
behind_rise low high m None h r = tt
behind_rise low high m (Some e) h r = ((h, r.0), r.1)

or_rise : (low high : ℕ) (end other : Option Ending) → EndRise low high end → EndRise low high other → EndRise low high (option_or end other)
or_rise low high None other h r = r
or_rise low high (Some e) other h r = h

here_rise : (low high at : ℕ) (ms : List CommentMark) → low ≤ at → MarksRise (suc at) high ms → EndRise low high (Some (record { before = []; at = at }))
here_rise low high at ms h r = (h, marks_bound (suc at) high ms r)

level_rise : (low high : ℕ) (ms : List CommentMark) (inner : ℕ) → MarksRise low high ms → EndRise low high (closed ms inner)
level_rise low high [] inner r = tt
level_rise low high (opens at ∷ ms) inner r = behind_rise low high (opens at) (closed ms (suc inner)) r.0 (level_rise (suc at) high ms (suc inner) r.1)
level_rise low high (closes at ∷ ms) zero r = here_rise low high at ms r.0 r.1
level_rise low high (closes at ∷ ms) (suc inner) r = behind_rise low high (closes at) (closed ms inner) r.0 (level_rise (suc at) high ms inner r.1)

last_rise : (low high : ℕ) (ms : List CommentMark) → MarksRise low high ms → EndRise low high (last_closed ms)
last_rise low high [] r = tt
last_rise low high (opens at ∷ ms) r = behind_rise low high (opens at) (last_closed ms) r.0 (last_rise (suc at) high ms r.1)
last_rise low high (closes at ∷ ms) r =
    or_rise low high (option_map (behind (closes at)) (last_closed ms)) (Some (record { before = []; at = at })) (behind_rise low high (closes at) (last_closed ms) r.0 (last_rise (suc at) high ms r.1)) (here_rise low high at ms r.0 r.1)

nested_rise : (start low to high : ℕ) (ms : List CommentMark) → MarksRise low to ms → twice (start + to) ≤ high → RiseWithin (twice (start + low)) high (nested_faults start ms)
nested_rise start low to high [] r h = omega arith
nested_rise start low to high (opens at ∷ ms) r h =
    (omega (arith, r.0), rise_lower (suc (twice (start + at))) (twice (start + suc at)) high (keys (nested_faults start ms)) (omega arith) (nested_rise start (suc at) to high ms r.1 h))
nested_rise start low to high (closes at ∷ ms) r h =
    rise_lower (twice (start + low)) (twice (start + suc at)) high (keys (nested_faults start ms)) (omega (arith, r.0)) (nested_rise start (suc at) to high ms r.1 h)

all_rise : (start to high : ℕ) (ms : List CommentMark) → MarksRise 0 to ms → twice (start + to) ≤ high → RiseWithin (twice start) high (nested_faults start ms)
all_rise start to high ms r h = rise_lower (twice start) (twice (start + 0)) high (keys (nested_faults start ms)) (omega arith) (nested_rise start 0 to high ms r h)

to_rise : (start : ℕ) (text : List ℕ) (ms : List CommentMark) (end : Option Ending) → MarksRise 0 (length text) ms → EndRise 0 (length text) end
    → RiseWithin (twice start) (twice (start + len_to text end)) (faults_to start ms end)
to_rise start text ms None r e =
    let high = twice (start + length text) in
    within_joined (twice start) high high (nested_faults start ms) _ (all_rise start (length text) high ms r (le_refl high)) (le_refl high)
to_rise start text ms (Some e) r h = all_rise start e.at _ e.before h.0 (omega arith)

block_rise : (start : ℕ) (text : List ℕ) → 2 ≤ length text → RiseWithin (twice start) (twice (start + len_to text (ending (marks_of text)))) (faults_to start (marks_of text) (ending (marks_of text)))
block_rise start text two =
    let r = marks_lower 0 2 (length text) (marks_of text) (omega arith) (marks_rise 2 (length text) (drop 2 text) (omega (arith, length-drop 2 text))) in
    to_rise start text (marks_of text) (ending (marks_of text)) r (or_rise 0 (length text) (closed (marks_of text) 0) (last_closed (marks_of text)) (level_rise 0 (length text) (marks_of text) 0 r) (last_rise 0 (length text) (marks_of text) r))

-- ---- lexemes

suffix_rise : (b : Bool) (at to high : ℕ) → twice at < high → RiseWithin (twice at) high (cond b (FloatSuffixOutsideTextFormat (span_from at to) ∷ []) [])
suffix_rise true at to high h = (le_refl _, h)
suffix_rise false at to high h = omega arith

hash_rise : (b : Bool) (at to high : ℕ) → twice at < high → RiseWithin (twice at) high (cond b (HashCommentOutsideTextFormat (span_from at to) ∷ []) [])
hash_rise true at to high h = (le_refl _, h)
hash_rise false at to high h = omega arith

-- The faults of a lexeme stand in it.
pub kind_rise : (kind : Kind) (at : ℕ) (text : List ℕ) (n : ℕ) → Fits (pattern kind) text n
    → RiseWithin (twice at) (twice (lexeme kind at text n).stop) (lexeme kind at text n).faults
kind_rise Identifier at text n f = omega arith
kind_rise Integer at text n f =
    let some_bytes = fits_some Integer text n f in
    let below = prefix_below text n some_bytes (fits_within (pattern Integer) text n f) (second_not_x text n f) in
    both_rise _ (value_fits (take n text)) at (prefix_of (take n text)) _ _ _ (omega arith)
kind_rise Float at text n f = let some_bytes = fits_some Float text n f in suffix_rise (has_suffix (take n text)) at _ _ (omega arith)
kind_rise String at text n f = string_rise at (get_or text 0 0) (drop 1 text)
kind_rise Mark at text n f = omega arith
kind_rise LineComment at text n f = let some_bytes = fits_some LineComment text n f in hash_rise _ at _ _ (omega arith)
kind_rise BlockComment at text n (i, j, size, f, g) = let within = fits_within (pattern BlockComment) text n (i, j, size, f, g) in block_rise at text (omega (arith, f.0, g.0))
kind_rise Newline at text n f = omega arith
