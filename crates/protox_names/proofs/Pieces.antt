-- The pieces of a name between its underscores, one after another.
use Rattle.std.proofs.Common.{◌≡◌, ◌≢◌, ◌⊎◌, inl, inr, ◌<◌, ◌≤◌, ℕ, false, not, cond, List, [], ◌∷◌, ◌++◌, length, filter, get_or, Option, Some, None, Result, Ok, Err, is_ok, OnOk, MatchOption, Bor, lit<, refl, sym, ap, ◌∙◌, arith}
use Rattle.std.specs.Char.{encode_utf8, to_ascii_uppercase}
use Rattle.std.specs.List.{All, flat_map, slice_split}
use Rattle.std.proofs.lemmas.Bool.{cases_lt}
use Rattle.std.proofs.lemmas.Bool.Decides.{Decides-eqb}
use Rattle.std.proofs.lemmas.List.{append-nil, append_assoc, length-append}
use Rattle.std.proofs.lemmas.List.Elements.{All-from_get_or, All-head, All-tail, filter-append}
use Rattle.std.proofs.lemmas.List.Splits.{slice_split_at, slice_split_none}
use Rattle.std.proofs.lemmas.Str.{char_from_byte, encode_ascii}
use Rattle.std.proofs.lemmas.Str.Ascii.{uppercase_ascii, uppercase_is}
use Rattle.std.proofs.lemmas.Str.Pattern.{IsSplitOnceResult, split_parts}
use Rattle.protox_names.specs.Cases.{capitalized, in_camel_case, is_underscore, json_name}
use Rattle.protox_names.proofs.Found.{not_true}

abbrev IsNoUnderscore : ℕ → Type 0
IsNoUnderscore byte = is_underscore byte ≡ false

-- none of the bytes is an underscore
none_of : (name : List ℕ) → ((i : ℕ) → i < length name → get_or name i 0 ≢ 95) → All IsNoUnderscore name
none_of name other =
    All-from_get_or IsNoUnderscore name 0 (λ i below. not_true (is_underscore (get_or name i 0)) (λ same. absurd (other i below ((Decides-eqb (get_or name i 0) 95).0 same))))

abbrev pub pieces : List ℕ → List (List ℕ)
pieces name = slice_split is_underscore name

-- the bytes that are no underscores
abbrev pub kept : List ℕ → List ℕ
kept name = filter (λ byte. not (is_underscore byte)) name

kept_all : (name : List ℕ) → All IsNoUnderscore name → kept name ≡ name
kept_all [] h = refl
kept_all (byte ∷ rest) h =
    ap (λ b. cond (not b) (byte ∷ kept rest) (kept rest)) (All-head IsNoUnderscore byte rest h)
    ∙ ap (λ l. byte ∷ l) (kept_all rest (All-tail IsNoUnderscore byte rest h))

-- where a name is cut at its first underscore, or isn't
pub record IsCut (name piece more : List ℕ) : Type 0 where
  pub pieces_are : pieces name ≡ piece ∷ pieces more
  pub kept_is : kept name ≡ piece ++ kept more
  pub shorter : length more < length name

pub record IsWhole (name : List ℕ) : Type 0 where
  pub pieces_are : pieces name ≡ name ∷ []
  pub kept_is : kept name ≡ name

cut_at : (name piece more : List ℕ) → name ≡ piece ++ 95 ∷ more → All IsNoUnderscore piece → IsCut name piece more
cut_at name piece more is none = record {
  pieces_are = ap pieces is ∙ slice_split_at is_underscore piece 95 more none refl;
  kept_is = ap kept is ∙ filter-append (λ byte. not (is_underscore byte)) piece (95 ∷ more) ∙ ap (λ l. l ++ kept more) (kept_all piece none);
  shorter = omega (arith, ap length is, length-append piece (95 ∷ more));
}

-- what `split_once` says
pub cut : (name : List ℕ) (r : Option (Bor (List ℕ) × Bor (List ℕ))) → IsSplitOnceResult 95 name r → MatchOption r (IsWhole name) (λ x. IsCut name x.0.now x.1.now)
cut name None h = let none = none_of name (split_parts 95 name None h (lit< tt)) in record { pieces_are = slice_split_none is_underscore name none; kept_is = kept_all name none }
cut name (Some x) h = let both = split_parts 95 name (Some x) h (lit< tt) in cut_at name x.0.now x.1.now both.0 (none_of x.0.now both.1)

-- ---- capitals

same_above : (piece : List ℕ) → (0 < length piece → 128 ≤ get_or piece 0 0) → capitalized piece ≡ piece
same_above [] h = refl
same_above (byte ∷ rest) h = ap (λ b. b ∷ rest) ((uppercase_is byte).2 (omega (arith, h (omega arith))))

-- what begins with a character beyond ASCII begins with a byte beyond ASCII
byte_above : (c : ℕ) (piece others : List ℕ) → piece ≡ encode_utf8 c ++ others → 128 ≤ c → 0 < length piece → (get_or piece 0 0 < 128) ⊎ (128 ≤ get_or piece 0 0) → 128 ≤ get_or piece 0 0
byte_above c piece others is high some (inl below) = omega (arith, char_from_byte piece others c is below some)
byte_above c piece others is high some (inr above) = above

capital_by_size : (c : ℕ) (piece others : List ℕ) → piece ≡ encode_utf8 c ++ others → (c < 128) ⊎ (128 ≤ c) → encode_utf8 (to_ascii_uppercase c) ++ others ≡ capitalized piece
capital_by_size c piece others is (inl low) =
    ap (λ l. l ++ others) (encode_ascii (to_ascii_uppercase c) (uppercase_ascii c low))
    ∙ sym (ap capitalized (is ∙ ap (λ l. l ++ others) (encode_ascii c low)))
capital_by_size c piece others is (inr high) =
    ap (λ b. encode_utf8 b ++ others) ((uppercase_is c).2 (omega arith)) ∙ sym is
    ∙ sym (same_above piece (λ some. byte_above c piece others is high some (cases_lt (get_or piece 0 0) 128)))

-- a capital that is put in front of what stands behind the first character
pub capital_in_front : (c : ℕ) (piece others : List ℕ) → piece ≡ encode_utf8 c ++ others → encode_utf8 (to_ascii_uppercase c) ++ others ≡ capitalized piece
capital_in_front c piece others is = capital_by_size c piece others is (cases_lt c 128)

on_ok : {T E : Type 0} (r : Result T E) (made made' added all : List ℕ) → made' ≡ cond (is_ok r) (made ++ added) made → made ++ added ≡ all → OnOk r (made' ≡ all)
on_ok (Ok x) made made' added all is whole = is ∙ whole
on_ok (Err e) made made' added all is whole = tt

-- a capital is pushed, and then what stands behind the first character
pub pushed_in_front : {T E : Type 0} (r : Result T E) (made made' made'' piece others pushed : List ℕ) (c capital : ℕ) → piece ≡ encode_utf8 c ++ others → capital ≡ to_ascii_uppercase c → made' ≡ made ++ encode_utf8 capital → pushed ≡ others → made'' ≡ cond (is_ok r) (made' ++ pushed) made' → OnOk r (made'' ≡ made ++ capitalized piece)
pushed_in_front r made made' made'' piece others pushed c capital is large first same then =
    on_ok r made' made'' pushed (made ++ capitalized piece) then
    (ap (λ l. l ++ pushed) (first ∙ ap (λ b. made ++ encode_utf8 b) large)
    ∙ append_assoc made (encode_utf8 (to_ascii_uppercase c)) pushed
    ∙ ap (λ l. made ++ (encode_utf8 (to_ascii_uppercase c) ++ l)) same
    ∙ ap (λ l. made ++ l) (capital_in_front c piece others is))

-- ---- a name in camel case, piece by piece

abbrev pub capitals : List ℕ → List ℕ
capitals name = flat_map capitalized (pieces name)

pub camel_alone : (name : List ℕ) → IsWhole name → name ≡ json_name name
camel_alone name whole = sym (ap in_camel_case whole.pieces_are ∙ append-nil name)

pub camel_first : (name first rest made : List ℕ) → IsCut name first rest → made ≡ first → made ++ capitals rest ≡ json_name name
camel_first name first rest made at is = ap (λ l. l ++ capitals rest) is ∙ sym (ap in_camel_case at.pieces_are)

pub camel_more : (rest piece more made made' all : List ℕ) → IsCut rest piece more → made ++ capitals rest ≡ all → made' ≡ made ++ capitalized piece → made' ++ capitals more ≡ all
camel_more rest piece more made made' all at so_far is =
    ap (λ l. l ++ capitals more) is ∙ append_assoc made (capitalized piece) (capitals more)
    ∙ sym (ap (λ l. made ++ flat_map capitalized l) at.pieces_are) ∙ so_far

pub camel_last : (rest made made' all : List ℕ) → IsWhole rest → made ++ capitals rest ≡ all → made' ≡ made ++ capitalized rest → made' ≡ all
camel_last rest made made' all whole so_far is =
    is ∙ sym (ap (λ l. made ++ l) (ap (flat_map capitalized) whole.pieces_are ∙ append-nil (capitalized rest))) ∙ so_far

-- ---- the bytes that are kept, piece by piece

pub kept_more : (rest piece more made made' all : List ℕ) → IsCut rest piece more → made ++ kept rest ≡ all → made' ≡ made ++ piece → made' ++ kept more ≡ all
kept_more rest piece more made made' all at so_far is =
    ap (λ l. l ++ kept more) is ∙ append_assoc made piece (kept more) ∙ sym (ap (λ l. made ++ l) at.kept_is) ∙ so_far

pub kept_last : (rest made made' all : List ℕ) → IsWhole rest → made ++ kept rest ≡ all → made' ≡ made ++ rest → made' ≡ all
kept_last rest made made' all whole so_far is = is ∙ sym (ap (λ l. made ++ l) whole.kept_is) ∙ so_far
