-- The first of some pieces, and that no piece is two things at once.
use Rattle.std.proofs.Common.{IfOk, Result, Ok, Err, ◌≡◌, ◌≢◌, ℕ, ◌-◌, ◌<◌, Bool, true, false, List, [], ◌∷◌, ◌++◌, length, take, drop, slice_range, refl, sym, ◌∙◌, ap, subst, arith, length-append}
use Rattle.std.proofs.Math.Seq.{drop-append_seam, take-length}
use Rattle.protox_lexeme.specs.Shapes.{Shape, Ident, Int, Float, Str, Mark, LineComment, BlockComment, Newline, Invalid}
use Rattle.protox_lexeme.specs.Tokens.{shape_of}
use Rattle.protox_lexeme.specs.declared.token.Token.{Token}
use Rattle.protox_lexeme.specs.declared.token.Token.TheVariants as token
use Rattle.protox_text_format.specs.Failure.{IsNumber}
use Rattle.protox_text_format.specs.Spelling.{IsPlain, IsString, IsWord, Stands, is_plain_shape, is_string_shape, is_word_shape}
use Rattle.protox_text_format.specs.declared.item.Piece.{Piece}
use Rattle.protox_text_format.specs.inner.Marks.{NotFirst}
use Rattle.protox_text_format.specs.inner.Reading.{close_of}

word_mark_shape : (shape : Shape) (mark : ℕ) → is_word_shape shape ≡ true → shape ≡ Mark mark → ⊥
word_mark_shape shape mark word e = let no : is_word_shape (Mark mark) ≡ true = rw e at word in cc

pub word_no_mark : (piece : Piece) (mark : ℕ) → IsWord piece → Stands mark piece → ⊥
word_no_mark piece mark word e = word_mark_shape (shape_of piece.token) mark word e

plain_mark_shape : (shape : Shape) (mark : ℕ) → is_plain_shape shape ≡ true → shape ≡ Mark mark → ⊥
plain_mark_shape shape mark plain e = let no : is_plain_shape (Mark mark) ≡ true = rw e at plain in cc

pub plain_no_mark : (piece : Piece) (mark : ℕ) → IsPlain piece → Stands mark piece → ⊥
plain_no_mark piece mark plain e = plain_mark_shape (shape_of piece.token) mark plain e

string_mark_shape : (shape : Shape) (mark : ℕ) → is_string_shape shape ≡ true → shape ≡ Mark mark → ⊥
string_mark_shape shape mark string e = let no : is_string_shape (Mark mark) ≡ true = rw e at string in cc

pub string_no_mark : (piece : Piece) (mark : ℕ) → IsString piece → Stands mark piece → ⊥
string_no_mark piece mark string e = string_mark_shape (shape_of piece.token) mark string e

plain_string_shape : (shape : Shape) → is_plain_shape shape ≡ true → is_string_shape shape ≡ true → ⊥
plain_string_shape (Ident word) p s = cc
plain_string_shape (Int n) p s = cc
plain_string_shape (Float text) p s = cc
plain_string_shape (Str bytes) p s = cc
plain_string_shape (Mark mark) p s = cc
plain_string_shape (LineComment text) p s = cc
plain_string_shape (BlockComment text) p s = cc
plain_string_shape Newline p s = cc
plain_string_shape Invalid p s = cc

pub plain_no_string : (piece : Piece) → IsPlain piece → IsString piece → ⊥
plain_no_string piece = plain_string_shape (shape_of piece.token)

word_string_shape : (shape : Shape) → is_word_shape shape ≡ true → is_string_shape shape ≡ true → ⊥
word_string_shape (Ident word) p s = cc
word_string_shape (Int n) p s = cc
word_string_shape (Float text) p s = cc
word_string_shape (Str bytes) p s = cc
word_string_shape (Mark mark) p s = cc
word_string_shape (LineComment text) p s = cc
word_string_shape (BlockComment text) p s = cc
word_string_shape Newline p s = cc
word_string_shape Invalid p s = cc

pub word_no_string : (piece : Piece) → IsWord piece → IsString piece → ⊥
word_no_string piece = word_string_shape (shape_of piece.token)

pub number_plain : (piece : Piece) → IsNumber piece → IsPlain piece
number_plain piece n = ap is_plain_shape n.1

pub number_no_word : (piece : Piece) → IsWord piece → IsNumber piece → ⊥
number_no_word piece word n = let no : is_word_shape (Int n.0) ≡ true = sym (ap is_word_shape n.1) ∙ word in cc

pub number_no_mark : (piece : Piece) (mark : ℕ) → Stands mark piece → IsNumber piece → ⊥
number_no_mark piece mark e n = plain_no_mark piece mark (number_plain piece n) e

pub number_no_string : (piece : Piece) → IsString piece → IsNumber piece → ⊥
number_no_string piece string n = plain_no_string piece (number_plain piece n) string

pub marks_differ : (piece : Piece) (a b : ℕ) → a ≢ b → Stands a piece → Stands b piece → ⊥
marks_differ piece a b differ is_a is_b = differ (let e : ◌≡◌ {A = Shape} (Mark a) (Mark b) = sym is_a ∙ is_b in cc)

-- what the first piece is not
pub not_first : (P : Piece → Type 0) (piece : Piece) (pieces more : List Piece) → NotFirst P pieces
    → pieces ≡ piece ∷ more → P piece → ⊥
not_first P piece [] more not e is = cc
not_first P piece (first ∷ others) more not e is =
    let same : first ≡ piece = cc in not (subst (λ (p : Piece). P p) (sym same) is)

pub heads : (first second : Piece) (xs ys : List Piece) → first ∷ xs ≡ second ∷ ys → first ≡ second
heads first second xs ys e = cc

pub tails : (first second : Piece) (xs ys : List Piece) → first ∷ xs ≡ second ∷ ys → xs ≡ ys
tails first second xs ys e = cc

-- what is left of pieces behind some of them
pub range_to : (pieces front next : List Piece) → pieces ≡ front ++ next
    → slice_range pieces (length pieces - length next) (length pieces) ≡ next
range_to pieces front next e =
    let long : length pieces ≡ length (front ++ next) = ap length e in
    let n : length pieces - length next ≡ length front = omega (arith, length-append front next) in
    let m : length pieces - (length pieces - length next) ≡ length next = omega (arith, length-append front next) in
    let dropped : drop (length pieces - length next) pieces ≡ next =
    ap (λ n. drop n pieces) n ∙ (ap (drop (length front)) e ∙ drop-append_seam front next) in
    ap (take (length pieces - (length pieces - length next))) dropped
    ∙ (ap (λ n. take n next) m ∙ take-length next)

pub range_all : (pieces : List Piece) → slice_range pieces 0 (length pieces) ≡ pieces
range_all pieces =
    let n : length pieces - 0 ≡ length pieces = omega arith in
    ap (λ n. take n pieces) n ∙ take-length pieces

-- ---- pieces with which one can go on

pub piece_of : Token → Piece
piece_of token = record { token = token; span = record { start = 0; end = 0 } }

pub closing : Piece
closing = piece_of token.RightBracket

pub closes : Stands 93 closing
unfolding closing piece_of
closes = refl

pub word_end : Bool → Piece
word_end true = piece_of token.RightAngleBracket
word_end false = piece_of token.RightBrace

pub is_end : (angle : Bool) → Stands (close_of angle) (word_end angle)
unfolding word_end piece_of
is_end true = refl
is_end false = refl

pub number : Piece
number = piece_of (token.IntLiteral 0)

pub is_number : IsNumber number
unfolding number piece_of
is_number = (0, refl)

-- what follows from what is known of the value, if there is one
pub IfOk-weaker : {T E : Type 0} (r : Result T E) (P Q : T → Type 0) → ((x : T) → P x → Q x) → IfOk r P → IfOk r Q
IfOk-weaker (Ok x) P Q h is = h x is
IfOk-weaker (Err e) P Q h is = is

-- two marks
pub below : (a b : ℕ) → a < b → a ≢ b
below a b less e = omega arith

pub above : (a b : ℕ) → b < a → a ≢ b
above a b less e = omega arith
