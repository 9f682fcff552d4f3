-- Which faults a lexeme may have. A fault that counts only outside text format is the only fault of
-- its lexeme.
use Rattle.std.proofs.Common.{◌≡◌, ℕ, ◌+◌, ◌-◌, Bool, true, false, cond, ◌⊎◌, inl, inr, List, [], ◌∷◌, ◌++◌, drop, take, get_or, refl, sym, ap, ◌∙◌, subst, append-nil, Option, Some, None}
use Rattle.std.specs.Prelude.{codes}
use Rattle.std.specs.List.{AllByRecursion as Each}
use Rattle.protox_fault.specs.declared.error.ParseErrorKind.{ParseErrorKind}
use Rattle.protox_fault.specs.declared.error.ParseErrorKind.TheVariants.{InvalidToken, IntegerOutOfRange, InvalidStringCharacters, UnterminatedString, InvalidStringEscape, NestedBlockComment, NoSpaceBetweenIntAndIdent, HashCommentOutsideTextFormat, FloatSuffixOutsideTextFormat, UnexpectedEof}
use Rattle.protox_fault.specs.Faults.{Span, span_from, faults_in}
use Rattle.protox_lexeme.specs.declared.scan.Kind.{Kind}
use Rattle.protox_lexeme.specs.declared.scan.Kind.TheVariants.{Identifier, Integer, Float, String, Mark, LineComment, BlockComment, Newline}
use Rattle.protox_lexeme.specs.BlockComments.{Mark as CommentMark, opens, closes, Ending, ending, marks_of, nested_faults, faults_to}
use Rattle.protox_lexeme.specs.Lexemes.{Lexeme, IsLexeme, IsCut, cut, lexeme, has_suffix, value_fits, space_faults, range_faults}
use Rattle.protox_lexeme.specs.Shapes.{Shape, Invalid}
use Rattle.protox_lexeme.specs.Strings as spec
use Rattle.protox_lexeme.specs.Table.{invalid_faults, row_faults}
use Rattle.protox_lexeme.proofs.Cut.{cut_is_cut}
use Rattle.protox_lexeme.proofs.Modes.{integer_in_mode, string_in_mode, block_in_mode}

-- ---- each lexeme of a cut

-- What holds for each lexeme at each place holds for the lexemes of a cut.
each_from : (P : Lexeme → Type 0) → ((at : ℕ) (text : List ℕ) (x : Lexeme) → IsLexeme at text x → P x) → (at : ℕ) (text : List ℕ) (xs : List Lexeme) → IsCut at text xs → Each P xs
each_from P h at text [] is_cut = tt
each_from P h at text (x ∷ xs) is_cut = (h _ _ x is_cut.1, each_from P h x.stop (drop (x.stop - at) text) xs is_cut.2)

pub each_of_cut : (P : Lexeme → Type 0) → ((at : ℕ) (text : List ℕ) (x : Lexeme) → IsLexeme at text x → P x) → (source : List ℕ) → Each P (cut 0 source)
each_of_cut P h source = each_from P h 0 source (cut 0 source) (cut_is_cut 0 source)

-- By its kind, or for an invalid character.
by_kind : (P : Lexeme → Type 0) → ((kind : Kind) (at : ℕ) (text : List ℕ) (n : ℕ) → P (lexeme kind at text n)) → ((start stop : ℕ) → P (record { start = start; stop = stop; shape = Invalid; borrowed = true; faults = [] }))
    → (at : ℕ) (text : List ℕ) (x : Lexeme) → IsLexeme at text x → P x
by_kind P h none at text x (inl (kind, n, longest, same)) = subst P (sym same) (h kind at text n)
by_kind P h none at text x (inr (other, same)) = subst P (sym same) (none _ _)

each_append : {A : Type 0} (P : A → Type 0) (xs ys : List A) → Each P xs → Each P ys → Each P (xs ++ ys)
each_append P [] ys h k = k
each_append P (x ∷ xs) ys h k = (h.0, each_append P xs ys h.1 k)

-- ---- an invalid character has no fault of its own

abbrev IsBare : Lexeme → Type 0
IsBare x = x.shape ≡ Invalid → x.faults ≡ []

bare_kind : (kind : Kind) (at : ℕ) (text : List ℕ) (n : ℕ) → IsBare (lexeme kind at text n)
bare_kind Identifier at text n e = absurd (cc)
bare_kind Integer at text n e = absurd (cc)
bare_kind Float at text n e = absurd (cc)
bare_kind String at text n e = absurd (cc)
bare_kind Mark at text n e = absurd (cc)
bare_kind LineComment at text n e = absurd (cc)
bare_kind BlockComment at text n e = absurd (cc)
bare_kind Newline at text n e = absurd (cc)

-- ---- the kinds of faults

-- A fault that a lexeme has by itself.
abbrev pub IsOwnKind : ParseErrorKind → Type 0
IsOwnKind (IntegerOutOfRange span) = Unit {0}
IsOwnKind (InvalidStringCharacters span) = Unit {0}
IsOwnKind (UnterminatedString span) = Unit {0}
IsOwnKind (InvalidStringEscape span) = Unit {0}
IsOwnKind (NestedBlockComment span) = Unit {0}
IsOwnKind (NoSpaceBetweenIntAndIdent span) = Unit {0}
IsOwnKind (HashCommentOutsideTextFormat span) = Unit {0}
IsOwnKind (FloatSuffixOutsideTextFormat span) = Unit {0}
IsOwnKind (UnexpectedEof expected) = (expected ≡ codes "string terminator") ⊎ (expected ≡ codes "comment terminator")
IsOwnKind _ = ⊥

-- Such a fault, or the fault of an invalid character.
abbrev pub IsRowKind : Lexeme → ParseErrorKind → Type 0
IsRowKind x (InvalidToken span) = (x.shape ≡ Invalid) × (span ≡ span_from x.start x.stop)
IsRowKind x wrong = IsOwnKind wrong

if_own : (b : Bool) (f : ParseErrorKind) → IsOwnKind f → Each IsOwnKind (cond b (f ∷ []) [])
if_own true f h = (h, tt)
if_own false f h = tt

range_own : (b : Bool) (span : Span) → Each IsOwnKind (cond b [] (IntegerOutOfRange span ∷ []))
range_own true span = tt
range_own false span = (tt, tt)

closed_own : (bad : spec.Bad) (at : ℕ) → Each IsOwnKind (spec.closed bad at)
closed_own None at = tt
closed_own (Some (true, from)) at = (tt, tt)
closed_own (Some (false, from)) at = (tt, tt)

pieces_own : (bad : spec.Bad) (at : ℕ) (ps : List spec.Piece) → Each IsOwnKind (spec.faults_of bad at ps)
pieces_own bad at [] = each_append IsOwnKind (spec.closed bad at) _ (closed_own bad at) (inl refl, tt)
pieces_own bad at (spec.run bytes ∷ ps) = each_append IsOwnKind (spec.closed bad at) _ (closed_own bad at) (pieces_own None _ ps)
pieces_own bad at (spec.adds bytes n ∷ ps) = each_append IsOwnKind (spec.closed bad at) _ (closed_own bad at) (pieces_own None _ ps)
pieces_own bad at (spec.wrong is_escape n ∷ ps) = pieces_own (spec.opened bad is_escape at) (at + n) ps
pieces_own bad at (spec.ends ∷ ps) = closed_own bad at
pieces_own bad at (spec.breaks ∷ ps) = each_append IsOwnKind (spec.closed bad at) _ (closed_own bad at) (tt, tt)

nested_own : (start : ℕ) (ms : List CommentMark) → Each IsOwnKind (nested_faults start ms)
nested_own start [] = tt
nested_own start (opens at ∷ ms) = (tt, nested_own start ms)
nested_own start (closes at ∷ ms) = nested_own start ms

to_own : (start : ℕ) (ms : List CommentMark) (end : Option Ending) → Each IsOwnKind (faults_to start ms end)
to_own start ms None = each_append IsOwnKind (nested_faults start ms) _ (nested_own start ms) (inr refl, tt)
to_own start ms (Some e) = nested_own start e.before

kind_own : (kind : Kind) (at : ℕ) (text : List ℕ) (n : ℕ) → Each IsOwnKind (lexeme kind at text n).faults
kind_own Identifier at text n = tt
kind_own Integer at text n = each_append IsOwnKind (space_faults at text n) (range_faults at (take n text)) (if_own _ _ tt) (range_own (value_fits (take n text)) _)
kind_own Float at text n = if_own (has_suffix (take n text)) _ tt
kind_own String at text n = pieces_own None (at + 1) (spec.pieces (get_or text 0 0) (drop 1 text))
kind_own Mark at text n = tt
kind_own LineComment at text n = if_own _ _ tt
kind_own BlockComment at text n = to_own at (marks_of text) (ending (marks_of text))
kind_own Newline at text n = tt

abbrev HasOwn : Lexeme → Type 0
HasOwn x = Each IsOwnKind x.faults

own_row : (x : Lexeme) (f : ParseErrorKind) → IsOwnKind f → IsRowKind x f
own_row x (InvalidToken span) h = absurd h
own_row x _ h = h

own_rows : (x : Lexeme) (fs : List ParseErrorKind) → Each IsOwnKind fs → Each (IsRowKind x) fs
own_rows x [] h = tt
own_rows x (f ∷ fs) h = (own_row x f h.0, own_rows x fs h.1)

invalid_row : (x : Lexeme) (shape : Shape) → x.shape ≡ shape → Each (IsRowKind x) (invalid_faults shape (span_from x.start x.stop))
invalid_row x Invalid e = ((e, refl), tt)
invalid_row x _ e = tt

row_own : (x : Lexeme) → HasOwn x → Each (IsRowKind x) (row_faults x)
row_own x h = each_append (IsRowKind x) x.faults _ (own_rows x x.faults h) (invalid_row x x.shape refl)

-- Each fault of a row or a gap is a fault of its lexeme, or says that the lexeme is an invalid
-- character.
pub kinds-of : (source : List ℕ) → Each (λ x. Each (IsRowKind x) (row_faults x)) (cut 0 source)
kinds-of source =
    let P : Lexeme → Type 0 = λ x. Each (IsRowKind x) (row_faults x) in
    each_of_cut P (λ at text x is_lexeme. row_own x (by_kind HasOwn kind_own (λ start stop. tt) at text x is_lexeme)) source

-- ---- faults that count only outside text format

-- All faults count only outside text format, or none does.
abbrev pub IsAlike : List ParseErrorKind → Type 0
IsAlike fs = (faults_in true fs ≡ fs) ⊎ (faults_in true fs ≡ [])

suffix_alike : (b : Bool) (span : Span) → IsAlike (cond b (FloatSuffixOutsideTextFormat span ∷ []) [])
suffix_alike true span = inr refl
suffix_alike false span = inr refl

hash_alike : (b : Bool) (span : Span) → IsAlike (cond b (HashCommentOutsideTextFormat span ∷ []) [])
hash_alike true span = inr refl
hash_alike false span = inr refl

kind_alike : (kind : Kind) (at : ℕ) (text : List ℕ) (n : ℕ) → IsAlike (lexeme kind at text n).faults
kind_alike Identifier at text n = inl refl
kind_alike Integer at text n = inl (ap (λ x. x.faults) (integer_in_mode true at text n))
kind_alike Float at text n = suffix_alike (has_suffix (take n text)) _
kind_alike String at text n = inl (ap (λ x. x.faults) (string_in_mode true at text))
kind_alike Mark at text n = inl refl
kind_alike LineComment at text n = hash_alike _ _
kind_alike BlockComment at text n = inl (ap (λ x. x.faults) (block_in_mode true at text))
kind_alike Newline at text n = inl refl

abbrev IsAlikeOwn : Lexeme → Type 0
IsAlikeOwn x = IsAlike x.faults

row_alike_by : (shape : Shape) (span : Span) (fs : List ParseErrorKind) → (shape ≡ Invalid → fs ≡ []) → IsAlike fs → IsAlike (fs ++ invalid_faults shape span)
row_alike_by Invalid span fs bare h = let P : List ParseErrorKind → Type 0 = λ gs. IsAlike (gs ++ InvalidToken span ∷ []) in subst P (sym (bare refl)) (inl refl)
row_alike_by _ span fs bare h = subst IsAlike (sym (append-nil fs)) h

row_alike : (at : ℕ) (text : List ℕ) (x : Lexeme) → IsLexeme at text x → IsAlike (row_faults x)
row_alike at text x h = row_alike_by x.shape (span_from x.start x.stop) x.faults (by_kind IsBare bare_kind (λ start stop e. refl) at text x h) (by_kind IsAlikeOwn kind_alike (λ start stop. inl refl) at text x h)

alike_first : (fs : List ParseErrorKind) → IsAlike fs → (b : Bool) (f : ParseErrorKind) (rest : List ParseErrorKind) → faults_in b fs ≡ f ∷ rest → (more : List ParseErrorKind) × (fs ≡ f ∷ more)
alike_first fs h false f rest e = (rest, e)
alike_first fs (inl all) true f rest e = (rest, sym all ∙ e)
alike_first fs (inr none) true f rest e = let bad : [] ≡ f ∷ rest = sym none ∙ e in absurd (cc)

-- The first fault of a lexeme that counts in a mode is its first fault.
pub first-in-mode : (source : List ℕ)
    → Each (λ x. (b : Bool) (f : ParseErrorKind) (rest : List ParseErrorKind) → faults_in b (row_faults x) ≡ f ∷ rest → (more : List ParseErrorKind) × (row_faults x ≡ f ∷ more)) (cut 0 source)
first-in-mode source =
    let P : Lexeme → Type 0 = λ x. (b : Bool) (f : ParseErrorKind) (rest : List ParseErrorKind) → faults_in b (row_faults x) ≡ f ∷ rest → (more : List ParseErrorKind) × (row_faults x ≡ f ∷ more) in
    each_of_cut P (λ at text x h. alike_first (row_faults x) (row_alike at text x h)) source
