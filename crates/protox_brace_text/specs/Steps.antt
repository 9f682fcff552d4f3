-- Steps through a message, and the pieces of a text that they are of.
use Rattle.std.specs.Prelude.{ℕ, ◌+◌, ◌-◌, ◌==◌, Bool, true, false, ◌||◌, List, [], ◌∷◌, Option, Some, None, drop, fold, length, slice_get, if◌then◌else◌}
use Rattle.std.specs.List.{flat_map}
use Rattle.protox_lexeme.specs.Printed.{printed}
use Rattle.protox_lexeme.specs.Shapes.{Shape, Mark}
use Rattle.protox_lexeme.specs.Tokens.{shape_of}
use Rattle.protox_text_format.specs.Spelling.{Step, Name, Scalar, Open, Close, OpenList, CloseList}
use Rattle.protox_text_format.specs.declared.item.Piece.{Piece}

-- ---- pieces

abbrev pub printed_piece : Piece → List ℕ
printed_piece piece = printed (shape_of piece.token)

-- Behind the last piece nothing is printed.
abbrev pub printed_if_any : Option Piece → List ℕ
printed_if_any None = []
printed_if_any (Some piece) = printed_piece piece

-- the piece with an index, as it is printed; nothing behind the last one
abbrev pub found_at : List Piece → ℕ → List ℕ
found_at pieces n = printed_if_any (slice_get pieces n)

abbrev pub all_printed : List Piece → List ℕ
all_printed pieces = flat_map printed_piece pieces

abbrev pub is_mark : ℕ → Shape → Bool
is_mark mark (Mark byte) = byte == mark
is_mark mark _ = false

-- `,` or `;`
abbrev pub is_separator : Piece → Bool
is_separator piece = is_mark 44 (shape_of piece.token) || is_mark 59 (shape_of piece.token)

abbrev pub is_minus : Piece → Bool
is_minus piece = is_mark 45 (shape_of piece.token)

abbrev pub without_separator : List Piece → List Piece
without_separator [] = []
without_separator (first ∷ more) = if is_separator first then more else first ∷ more

-- ---- steps

-- what is left of pieces behind those of a step
abbrev pub behind : Step → List Piece → List Piece
behind (Name name true) pieces = drop (length name + 1) pieces
behind (Name name false) pieces = drop (length name) pieces
behind (Scalar value) pieces = drop (length value) pieces
behind Open pieces = drop 1 pieces
behind Close pieces = drop 1 pieces
behind OpenList pieces = drop 1 pieces
behind CloseList pieces = drop 1 pieces

-- what is left of pieces behind those of steps
abbrev pub behind_all : List Piece → List Step → List Piece
behind_all pieces steps = fold (λ left step. behind step (without_separator left)) pieces steps

-- the pieces from those of the step behind these on
abbrev pub next_pieces : List Piece → List Step → List Piece
next_pieces pieces steps = without_separator (behind_all pieces steps)

-- the name of a field without what stands in front of it, or the extension's in brackets
abbrev pub own_name : List Piece → List ℕ
own_name name = printed_if_any (slice_get name (length name - 2))

-- the name that a step names, or else the one before
abbrev pub naming : List ℕ → Step → List ℕ
naming before (Name name colon) = own_name name
naming before _ = before

-- the name that steps name last
abbrev pub last_name : List Step → List ℕ
last_name steps = fold naming [] steps

abbrev pub own_pieces : Option Step → List Piece
own_pieces (Some (Name name colon)) = name
own_pieces (Some (Scalar value)) = value
own_pieces _ = []

-- the pieces of a step that is a name or a value
abbrev pub pieces_of : List Step → ℕ → List Piece
pieces_of steps n = own_pieces (slice_get steps n)
