-- The classes of tokens, as numbers. There is one for each keyword, one for all other words, one
-- for each kind of literal, one for each mark, and one for what is no token.
use Rattle.std.specs.Prelude.{ℕ, suc, ◌+◌, List, [], ◌∷◌, if◌then◌else◌, ◌==◌, codes}
use Rattle.std.specs.Str.{bytes_eq}
use Rattle.protox_lexeme.specs.Shapes.{Shape, Ident, Int, Float, Str, Mark, LineComment, BlockComment, Newline, Invalid}

-- The keywords: the words that the grammar names.
abbrev pub keywords : List (List ℕ)
keywords = codes "syntax" ∷ codes "package" ∷ codes "import" ∷ codes "weak" ∷ codes "public" ∷ codes "enum" ∷ codes "option" ∷ codes "service" ∷ codes "rpc" ∷ codes "stream"
    ∷ codes "returns" ∷ codes "extend" ∷ codes "message" ∷ codes "optional" ∷ codes "required" ∷ codes "repeated" ∷ codes "map" ∷ codes "oneof" ∷ codes "group"
    ∷ codes "double" ∷ codes "float" ∷ codes "int32" ∷ codes "int64" ∷ codes "uint32" ∷ codes "uint64" ∷ codes "sint32" ∷ codes "sint64"
    ∷ codes "fixed32" ∷ codes "fixed64" ∷ codes "sfixed32" ∷ codes "sfixed64" ∷ codes "bool" ∷ codes "string" ∷ codes "bytes"
    ∷ codes "reserved" ∷ codes "extensions" ∷ codes "to" ∷ codes "max" ∷ []

-- The marks: . - + ( ) { } [ ] < > , = : ; /
abbrev pub marks : List ℕ
marks = 46 ∷ 45 ∷ 43 ∷ 40 ∷ 41 ∷ 123 ∷ 125 ∷ 91 ∷ 93 ∷ 60 ∷ 62 ∷ 44 ∷ 61 ∷ 58 ∷ 59 ∷ 47 ∷ []

-- The index of a word in a list, or the length of the list if it is not there.
abbrev pub place : List (List ℕ) → List ℕ → ℕ
place [] t = 0
place (w ∷ ws) t = if bytes_eq t w then 0 else suc (place ws t)

-- The index of a byte in a list, or the length of the list if it is not there.
abbrev pub byte_place : List ℕ → ℕ → ℕ
byte_place [] b = 0
byte_place (x ∷ xs) b = if b == x then 0 else suc (byte_place xs b)

-- The class of a word. All words that are no keywords share one.
abbrev pub word : List ℕ → ℕ
word w = place keywords w

-- The class of a mark.
abbrev pub mark : ℕ → ℕ
mark byte = 42 + byte_place marks byte

-- The class of integers; then those of floats, of strings, and of what is no token.
abbrev pub an_integer : ℕ
an_integer = 39

abbrev pub a_float : ℕ
a_float = 40

abbrev pub a_string : ℕ
a_string = 41

abbrev pub no_token : ℕ
no_token = 59

-- The class of a token.
abbrev pub class : Shape → ℕ
class (Ident w) = word w
class (Int n) = an_integer
class (Float t) = a_float
class (Str t) = a_string
class (Mark byte) = mark byte
class (LineComment t) = no_token
class (BlockComment t) = no_token
class Newline = no_token
class Invalid = no_token
