-- The words that a fault writes after `expected`, which tokens they name, and which they leave out.
use Rattle.std.specs.Prelude.{◌≡◌, codes, ℕ, List, [], ◌∷◌, ◌++◌}
use Rattle.std.proofs.Common.{refl}
use Rattle.protox_grammar.specs.Class.{Set, all, among, mark, none, only, union, word, words}
use Rattle.protox_grammar.specs.Token as token
use Rattle.protox_rows.specs.declared.expected.Expected.{Expected}
use Rattle.protox_rows.specs.declared.expected.Expected.TheVariants as expected

-- ---- parts of the words

-- One part of the words, such as `'='` or `an integer`: its text, and the tokens that it names.
pub record Part : Type 0 where
  pub text : List ℕ
  pub tokens : Set

-- A keyword in quotes names this keyword; `k` is its class.
abbrev pub the_word : (w : List ℕ) (k : ℕ) → word w ≡ k → Part
the_word w k same = record { text = 39 ∷ w ++ 39 ∷ []; tokens = only k }

-- A mark in quotes names this mark.
abbrev pub the_mark : (byte k : ℕ) → mark byte ≡ k → Part
the_mark byte k same = record { text = 39 ∷ byte ∷ 39 ∷ []; tokens = only k }

-- Words without quotes.
abbrev pub as_words : List ℕ → Set → Part
as_words text tokens = record { text = text; tokens = tokens }

-- Any word and the dot: what a type's name may begin with.
abbrev pub type_names : Set
type_names = union words (only token.dot)

abbrev pub an_identifier : Part
an_identifier = as_words (codes "an identifier") words

abbrev pub an_integer : Part
an_integer = as_words (codes "an integer") (only token.an_integer)

abbrev pub a_positive_integer : Part
a_positive_integer = as_words (codes "a positive integer") (only token.an_integer)

abbrev pub a_numeric_literal : Part
a_numeric_literal = as_words (codes "a numeric literal") (among (token.an_integer ∷ token.a_float ∷ []))

abbrev pub a_string : Part
a_string = as_words (codes "a string") (only token.a_string)

abbrev pub string : Part
string = as_words (codes "string") (only token.a_string)

abbrev pub a_string_literal : Part
a_string_literal = as_words (codes "a string literal") (only token.a_string)

abbrev pub a_field_type : Part
a_field_type = as_words (codes "a field type") type_names

abbrev pub a_type_name : Part
a_type_name = as_words (codes "a type name") type_names

abbrev pub a_constant : Part
a_constant = as_words (codes "a constant") (union words (among (token.an_integer ∷ token.a_float ∷ token.a_string ∷ token.minus ∷ token.open_brace ∷ [])))

abbrev pub a_message_field : Part
a_message_field = as_words (codes "a message field") type_names

abbrev pub oneof : Part
oneof = as_words (codes "oneof") (only token.oneof)

abbrev pub reserved_range : Part
reserved_range = as_words (codes "reserved range") (only token.reserved)

abbrev pub enum : Part
enum = as_words (codes "enum") (only token.enum)

abbrev pub message : Part
message = as_words (codes "message") (only token.message)

abbrev pub option : Part
option = as_words (codes "option") (only token.option)

-- ---- the words of each expectation

-- Its parts.
abbrev pub parts_of : Expected → List Part
parts_of expected.Syntax = the_word (codes "syntax") token.syntax refl ∷ []
parts_of expected.Import = the_word (codes "import") token.«import» refl ∷ []
parts_of expected.Message = the_word (codes "message") token.message refl ∷ []
parts_of expected.Returns = the_word (codes "returns") token.returns refl ∷ []
parts_of expected.To = the_word (codes "to") token.to refl ∷ []
parts_of expected.Dot = the_mark 46 token.dot refl ∷ []
parts_of expected.Minus = the_mark 45 token.minus refl ∷ []
parts_of expected.Equals = the_mark 61 token.equals refl ∷ []
parts_of expected.Semicolon = the_mark 59 token.semicolon refl ∷ []
parts_of expected.Comma = the_mark 44 token.comma refl ∷ []
parts_of expected.LeftParen = the_mark 40 token.open_paren refl ∷ []
parts_of expected.RightParen = the_mark 41 token.close_paren refl ∷ []
parts_of expected.LeftBrace = the_mark 123 token.open_brace refl ∷ []
parts_of expected.RightBrace = the_mark 125 token.close_brace refl ∷ []
parts_of expected.LeftBracket = the_mark 91 token.open_bracket refl ∷ []
parts_of expected.LeftAngleBracket = the_mark 60 token.open_angle refl ∷ []
parts_of expected.RightAngleBracket = the_mark 62 token.close_angle refl ∷ []
parts_of expected.Statement = (the_word (codes "enum") token.enum refl) ∷ (the_word (codes "extend") token.extend refl) ∷ (the_word (codes "import") token.«import» refl) ∷ (the_word (codes "message") token.message refl) ∷ (the_word (codes "option") token.option refl) ∷ (the_word (codes "service") token.service refl) ∷ (the_word (codes "package") token.«package» refl) ∷ (the_mark 59 token.semicolon refl) ∷ []
parts_of expected.Ident = an_identifier ∷ []
parts_of expected.Int = an_integer ∷ []
parts_of expected.Type = a_field_type ∷ []
parts_of expected.TypeName = a_type_name ∷ []
parts_of expected.String = a_string ∷ []
parts_of expected.StringLiteral = a_string_literal ∷ []
parts_of expected.ImportString = a_string_literal ∷ (the_word (codes "public") token.«public» refl) ∷ (the_word (codes "weak") token.weak refl) ∷ []
parts_of expected.WeakOrPublic = (the_word (codes "public") token.«public» refl) ∷ (the_word (codes "weak") token.weak refl) ∷ []
parts_of expected.MessageBody = a_message_field ∷ oneof ∷ reserved_range ∷ enum ∷ message ∷ option ∷ (the_mark 125 token.close_brace refl) ∷ []
parts_of expected.OneofBody = a_message_field ∷ option ∷ (the_mark 125 token.close_brace refl) ∷ []
parts_of expected.ExtendBody = a_message_field ∷ (the_mark 125 token.close_brace refl) ∷ (the_mark 59 token.semicolon refl) ∷ []
parts_of expected.EnumBody = an_identifier ∷ (the_mark 125 token.close_brace refl) ∷ (the_word (codes "reserved") token.reserved refl) ∷ (the_word (codes "option") token.option refl) ∷ []
parts_of expected.ServiceBody = (the_word (codes "rpc") token.rpc refl) ∷ (the_mark 125 token.close_brace refl) ∷ (the_word (codes "option") token.option refl) ∷ (the_mark 59 token.semicolon refl) ∷ []
parts_of expected.RpcBody = (the_word (codes "option") token.option refl) ∷ (the_mark 125 token.close_brace refl) ∷ (the_mark 59 token.semicolon refl) ∷ []
parts_of expected.SemicolonOrOptions = (the_mark 59 token.semicolon refl) ∷ (the_mark 91 token.open_bracket refl) ∷ []
parts_of expected.BraceOrOptions = (the_mark 123 token.open_brace refl) ∷ (the_mark 91 token.open_bracket refl) ∷ []
parts_of expected.StreamOrType = (the_word (codes "stream") token.stream refl) ∷ a_type_name ∷ []
parts_of expected.SemicolonOrBrace = (the_mark 59 token.semicolon refl) ∷ (the_mark 123 token.open_brace refl) ∷ []
parts_of expected.ReservedItem = a_positive_integer ∷ string ∷ []
parts_of expected.CommaOrSemicolon = (the_mark 44 token.comma refl) ∷ (the_mark 59 token.semicolon refl) ∷ []
parts_of expected.AfterReservedStart = (the_word (codes "to") token.to refl) ∷ (the_mark 44 token.comma refl) ∷ (the_mark 59 token.semicolon refl) ∷ []
parts_of expected.AfterExtensionStart = (the_word (codes "to") token.to refl) ∷ (the_mark 44 token.comma refl) ∷ (the_mark 59 token.semicolon refl) ∷ (the_mark 91 token.open_bracket refl) ∷ []
parts_of expected.IntOrMax = an_integer ∷ (the_word (codes "max") token.max refl) ∷ []
parts_of expected.AfterExtensionEnd = (the_mark 44 token.comma refl) ∷ (the_mark 59 token.semicolon refl) ∷ (the_mark 91 token.open_bracket refl) ∷ []
parts_of expected.CommaOrRightBracket = (the_mark 44 token.comma refl) ∷ (the_mark 93 token.close_bracket refl) ∷ []
parts_of expected.OptionName = an_identifier ∷ (the_mark 40 token.open_paren refl) ∷ []
parts_of expected.EqualsOrDot = (the_mark 61 token.equals refl) ∷ (the_mark 46 token.dot refl) ∷ []
parts_of expected.Constant = a_constant ∷ []
parts_of expected.Numeric = a_numeric_literal ∷ []
parts_of expected.DotOrIdent = (the_mark 46 token.dot refl) ∷ an_identifier ∷ []
parts_of expected.DotOrSemicolon = (the_mark 46 token.dot refl) ∷ (the_mark 59 token.semicolon refl) ∷ []
parts_of expected.DotOrLeftBrace = (the_mark 46 token.dot refl) ∷ (the_mark 123 token.open_brace refl) ∷ []
parts_of expected.DotOrRightParen = (the_mark 46 token.dot refl) ∷ (the_mark 41 token.close_paren refl) ∷ []
parts_of expected.DotOrComma = (the_mark 46 token.dot refl) ∷ (the_mark 44 token.comma refl) ∷ []
parts_of expected.DotOrRightAngleBracket = (the_mark 46 token.dot refl) ∷ (the_mark 62 token.close_angle refl) ∷ []

-- A list in English: commas between its parts, and `or` before the last.
abbrev pub listed : List Part → List ℕ
listed [] = []
listed (p ∷ []) = p.text
listed (p ∷ q ∷ []) = p.text ++ codes " or " ++ q.text
listed (p ∷ q ∷ r ∷ ps) = p.text ++ codes ", " ++ listed (q ∷ r ∷ ps)

-- The tokens that one of them names.
abbrev pub named_by : List Part → Set
named_by [] = none
named_by (p ∷ []) = p.tokens
named_by (p ∷ q ∷ ps) = union p.tokens (named_by (q ∷ ps))

-- The words.
abbrev pub words_of : Expected → List ℕ
words_of e = listed (parts_of e)

-- The tokens that the words name.
abbrev pub named : Expected → Set
named e = named_by (parts_of e)

-- The tokens that may stand there too, although the words don't name them: a minus before a number,
-- a further string of a run, a word behind a sign (such as `inf`), `;` alone, `syntax` at the start
-- of a file, and any token in an aggregate.
abbrev pub unnamed : Expected → Set
unnamed expected.Int = only token.minus
unnamed expected.IntOrMax = only token.minus
unnamed expected.ReservedItem = only token.minus
unnamed expected.Semicolon = only token.a_string
unnamed expected.CommaOrSemicolon = only token.a_string
unnamed expected.CommaOrRightBracket = only token.a_string
unnamed expected.Numeric = words
unnamed expected.MessageBody = only token.semicolon
unnamed expected.OneofBody = only token.semicolon
unnamed expected.EnumBody = only token.semicolon
unnamed expected.Statement = only token.syntax
unnamed expected.RightBrace = all
unnamed _ = none

-- The tokens that may stand there.
abbrev pub allowed : Expected → Set
allowed e = union (named e) (unnamed e)
