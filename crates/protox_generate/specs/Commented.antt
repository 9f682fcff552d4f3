-- Where the comments of a source stand in its locations: each in at most one field of one location,
-- and around that location. Comments, like all lexemes, are numbered from 0 in the order of the
-- source.
use Rattle.std.specs.Prelude.{◌≡◌, ◌≢◌, ◌<◌, ◌≤◌, ℕ, zero, suc, List, [], ◌∷◌, ◌++◌, flat_map, Option, Some, None, ◌⊎◌, true}
use Rattle.protox_fault.specs.Faults.{Span}
use Rattle.protox_lexeme.specs.Lexemes.{Lexeme, cut}
use Rattle.protox_lexeme.specs.Shapes.{Shape, Mark, LineComment, BlockComment, Newline}
use Rattle.protox_lexeme.specs.Table.{is_gap}
use Rattle.protox_ast.specs.Keywords.{Each}
use Rattle.protox_descriptor.specs.declared.descriptor.FileDescriptorProto.{FileDescriptorProto}
use Rattle.protox_descriptor.specs.declared.descriptor.source_code_info.Location.{Location}
use Rattle.protox_places.specs.Lines.{span_numbers}

-- ---- texts

-- the text of a comment; None for any other lexeme
abbrev pub text_of : Shape → Option (List ℕ)
text_of (LineComment text) = Some text
text_of (BlockComment text) = Some text
text_of _ = None

-- the text of the lexeme with this number; None if that is no comment
abbrev pub text_at : List Lexeme → ℕ → Option (List ℕ)
text_at [] n = None
text_at (x ∷ xs) zero = text_of x.shape
text_at (x ∷ xs) (suc n) = text_at xs n

-- The lexemes with these numbers are comments, at least one. The text is theirs, joined in order.
abbrev pub AreText : List Lexeme → List ℕ → List ℕ → Type 0
AreText lexemes [] text = ⊥
AreText lexemes (n ∷ []) text = text_at lexemes n ≡ Some text
AreText lexemes (n ∷ ns) text = (front : List ℕ) × (back : List ℕ) × (text_at lexemes n ≡ Some front) × AreText lexemes ns back × (text ≡ front ++ back)

-- The field is made of these comments. If it is absent, of none.
abbrev pub AreField : List Lexeme → List ℕ → Option (List ℕ) → Type 0
AreField lexemes numbers None = numbers ≡ []
AreField lexemes numbers (Some text) = AreText lexemes numbers text

-- The texts are made of these comments, each text of the list in its place.
abbrev pub AreTexts : List Lexeme → List (List ℕ) → List (List ℕ) → Type 0
AreTexts lexemes [] [] = Unit {0}
AreTexts lexemes (ns ∷ nss) (text ∷ texts) = AreText lexemes ns text × AreTexts lexemes nss texts
AreTexts lexemes _ _ = ⊥

-- the numbers of the comments that each comment field of a location is made of
pub record Sources : Type 0 where
  pub leading : List ℕ
  pub trailing : List ℕ
  pub detached : List (List ℕ)

-- The location's comment fields are made of these comments.
pub record AreOf (lexemes : List Lexeme) (l : Location) (s : Sources) : Type 0 where
  pub leading : AreField lexemes s.leading l.leading_comments
  pub trailing : AreField lexemes s.trailing l.trailing_comments
  pub detached : AreTexts lexemes s.detached l.leading_detached_comments

-- all these numbers
abbrev pub numbers_of : Sources → List ℕ
numbers_of s = s.leading ++ (s.trailing ++ flat_map (λ (ns : List ℕ). ns) s.detached)

-- ---- places

-- the lexeme with this number
abbrev pub lexeme_at : List Lexeme → ℕ → Option Lexeme
lexeme_at [] n = None
lexeme_at (x ∷ xs) zero = Some x
lexeme_at (x ∷ xs) (suc n) = lexeme_at xs n

-- From number `from` to right before `to` there are only comments and newlines.
abbrev pub AreGap : List Lexeme → ℕ → ℕ → Type 0
AreGap lexemes from to = (n : ℕ) → from ≤ n → n < to → (x : Lexeme) × (lexeme_at lexemes n ≡ Some x) × (is_gap x.shape ≡ true)

-- The lexeme `next` follows the lexeme `n`. One newline may stand between them.
abbrev pub IsNext : List Lexeme → ℕ → ℕ → Type 0
IsNext lexemes n next = (next ≡ suc n) ⊎ ((next ≡ suc (suc n)) × (x : Lexeme) × (lexeme_at lexemes (suc n) ≡ Some x) × (x.shape ≡ Newline))

-- Each number is the one before it plus 1.
abbrev pub AreNeighbours : List ℕ → Type 0
AreNeighbours [] = Unit {0}
AreNeighbours (n ∷ []) = Unit {0}
AreNeighbours (n ∷ (m ∷ ns)) = (m ≡ suc n) × AreNeighbours (m ∷ ns)

-- The numbers rise. The first is at least `from`, and all are below `to`.
abbrev pub Rise : ℕ → ℕ → List ℕ → Type 0
Rise from to [] = from ≤ to
Rise from to (n ∷ ns) = (from ≤ n) × Rise (suc n) to ns

-- The lexeme `next` follows the last of these comments, if there are any.
abbrev pub Leads : List Lexeme → List ℕ → ℕ → Type 0
Leads lexemes [] next = Unit {0}
Leads lexemes (n ∷ []) next = IsNext lexemes n next
Leads lexemes (n ∷ ns) next = Leads lexemes ns next

-- The first of these comments follows the lexeme `last`, if there are any.
abbrev pub Trails : List Lexeme → ℕ → List ℕ → Type 0
Trails lexemes last [] = Unit {0}
Trails lexemes last (n ∷ ns) = IsNext lexemes last n

-- The lexeme lies in the span. It ends the span, or it is a `{`.
abbrev pub EndsOrOpens : Span → Lexeme → Type 0
EndsOrOpens span x = (span.start ≤ x.start) × (x.stop ≤ span.end) × ((x.stop ≡ span.end) ⊎ (x.shape ≡ Mark 123))

-- The comments of a location stand around it, in order:
-- * The detached ones come first, then the leading one, then the lexeme that begins the span. Only
-- comments and newlines stand between.
-- * The leading one is right before that lexeme.
-- * The trailing one is right behind the lexeme that ends the span, or right behind a `{` in it.
-- * The comments that one text is made of are neighbours.
pub record StandsAround (source : List ℕ) (lexemes : List Lexeme) (l : Location) (s : Sources) : Type 0 where
  pub span : Span
  pub spanned : l.span ≡ span_numbers source span
  pub first : ℕ
  pub begins : (x : Lexeme) × (lexeme_at lexemes first ≡ Some x) × (x.start ≡ span.start)
  pub from : ℕ
  pub gap : AreGap lexemes from first
  pub before : Rise from first (flat_map (λ (ns : List ℕ). ns) s.detached ++ s.leading)
  pub leads : Leads lexemes s.leading first
  pub last : ℕ
  pub ends : (x : Lexeme) × (lexeme_at lexemes last ≡ Some x) × EndsOrOpens span x
  pub trails : Trails lexemes last s.trailing
  pub neighbours : Each AreNeighbours (s.leading ∷ (s.trailing ∷ s.detached))

-- A location has no comments, or they stand around it.
abbrev pub HasAround : List ℕ → List Lexeme → Location → Sources → Type 0
HasAround source lexemes l s = (numbers_of s ≡ []) ⊎ StandsAround source lexemes l s

-- ---- all locations

-- The comment fields of each location are made of the comments in its place of the list, and these
-- stand around the location.
abbrev pub AreOfEach : List ℕ → List Lexeme → List Location → List Sources → Type 0
AreOfEach source lexemes [] [] = Unit {0}
AreOfEach source lexemes (l ∷ ls) (s ∷ ss) = AreOf lexemes l s × HasAround source lexemes l s × AreOfEach source lexemes ls ss
AreOfEach source lexemes _ _ = ⊥

-- No number occurs twice.
abbrev pub NoneTwice : List ℕ → Type 0
NoneTwice [] = Unit {0}
NoneTwice (n ∷ ns) = Each (λ m. m ≢ n) ns × NoneTwice ns

-- Each comment of the source stands in at most one field of one location. There are numbers for all
-- comment fields. Each field is made of the comments with its numbers. These stand around the
-- location. No number occurs twice, in one field or in two.
abbrev pub CommentedOnce : List ℕ → List Lexeme → List Location → Type 0
CommentedOnce source lexemes locations = (sources : List Sources) × AreOfEach source lexemes locations sources × NoneTwice (flat_map numbers_of sources)

-- The descriptor has locations, and each comment stands in at most one field of one of them.
abbrev pub AreCommentedOnce : List ℕ → FileDescriptorProto → Type 0
AreCommentedOnce source file = elim file.source_code_info as (λ _. Type 0) [ None ↦ ⊥ | Some info ↦ CommentedOnce source (cut 0 source) info.location ]
