-- What contracts see of a token.
use Rattle.std.specs.Prelude.{ℕ, Bool, true, false, Result, Ok, Err}
use Rattle.std.specs.Cow.{cow_str_bytes, cow_slice_items}
use Rattle.std.specs.declared.alloc.Global.{Global}
use Rattle.std.specs.declared.borrow.CowStr.{CowStr}
use Rattle.std.specs.declared.borrow.CowStr.TheVariants as text
use Rattle.std.specs.declared.borrow.CowSlice.{CowSlice}
use Rattle.std.specs.declared.borrow.CowSlice.TheVariants as slice
use Rattle.protox_lexeme.specs.declared.token.Token.{Token}
use Rattle.protox_lexeme.specs.declared.token.Token.TheVariants as token
use Rattle.protox_lexeme.specs.Shapes.{Shape, Ident, Int, Float, Str, Mark, LineComment, BlockComment, Newline, Invalid}

-- The token as data.
abbrev pub shape_of : Token → Shape
shape_of (token.Ident s) = Ident s.now
shape_of (token.IntLiteral n) = Int n
shape_of (token.FloatLiteral f) = Float (cow_str_bytes f.0)
shape_of (token.StringLiteral s) = Str (cow_slice_items s)
shape_of token.Dot = Mark 46
shape_of token.Minus = Mark 45
shape_of token.Plus = Mark 43
shape_of token.LeftParen = Mark 40
shape_of token.RightParen = Mark 41
shape_of token.LeftBrace = Mark 123
shape_of token.RightBrace = Mark 125
shape_of token.LeftBracket = Mark 91
shape_of token.RightBracket = Mark 93
shape_of token.LeftAngleBracket = Mark 60
shape_of token.RightAngleBracket = Mark 62
shape_of token.Comma = Mark 44
shape_of token.Equals = Mark 61
shape_of token.Colon = Mark 58
shape_of token.Semicolon = Mark 59
shape_of token.ForwardSlash = Mark 47
shape_of (token.LineComment s) = LineComment (cow_str_bytes s)
shape_of (token.BlockComment s) = BlockComment (cow_str_bytes s)
shape_of token.Newline = Newline

-- The shape of a token, or `Invalid` for an invalid lexeme.
abbrev pub shape_of_result : Result Token (Unit {0}) → Shape
shape_of_result (Ok t) = shape_of t
shape_of_result (Err e) = Invalid

-- Whether a text is a piece of another one, and owns no memory.
abbrev pub is_borrowed_str : CowStr Global → Bool
is_borrowed_str (text.Borrowed s) = true
is_borrowed_str (text.Owned s) = false

-- Whether bytes are a piece of others, and own no memory.
abbrev pub is_borrowed_slice : CowSlice ℕ Global → Bool
is_borrowed_slice (slice.Borrowed s) = true
is_borrowed_slice (slice.Owned s) = false

-- Whether the token owns no memory.
abbrev pub borrowed_of : Token → Bool
borrowed_of (token.FloatLiteral f) = is_borrowed_str f.0
borrowed_of (token.StringLiteral s) = is_borrowed_slice s
borrowed_of (token.LineComment s) = is_borrowed_str s
borrowed_of (token.BlockComment s) = is_borrowed_str s
borrowed_of _ = true

-- Whether no token of this shape owns memory.
abbrev pub holds_none : Shape → Bool
holds_none (Float t) = false
holds_none (Str t) = false
holds_none (LineComment t) = false
holds_none (BlockComment t) = false
holds_none _ = true

-- Whether a token or an invalid lexeme owns no memory.
abbrev pub borrowed_of_result : Result Token (Unit {0}) → Bool
borrowed_of_result (Ok t) = borrowed_of t
borrowed_of_result (Err e) = true
