-- The comments of a source, each with its place.
use Rattle.std.specs.Prelude.{ℕ, List, [], ◌∷◌, ◌++◌}
use Rattle.std.specs.Cow.{cow_str_bytes}
use Rattle.std.specs.declared.alloc.Global.{Global}
use Rattle.std.specs.declared.borrow.CowStr.{CowStr}
use Rattle.protox_fault.specs.Faults.{Span, span_from}
use Rattle.protox_lexeme.specs.Lexemes.{Lexeme}
use Rattle.protox_lexeme.specs.Shapes.{Shape, LineComment, BlockComment}
use Rattle.protox_comments.specs.declared.remarks.Remark.{Remark}

-- The place and the text of a lexeme that is a comment. Nothing for another lexeme.
abbrev pub remark_of : ℕ → ℕ → Shape → List (Span × List ℕ)
remark_of start stop (LineComment text) = (span_from start stop, text) ∷ []
remark_of start stop (BlockComment text) = (span_from start stop, text) ∷ []
remark_of start stop _ = []

-- All comments among the lexemes, in order.
abbrev pub remarks_of : List Lexeme → List (Span × List ℕ)
remarks_of [] = []
remarks_of (x ∷ xs) = remark_of x.start x.stop x.shape ++ remarks_of xs

-- A text and its place.
abbrev pub placed : ℕ → ℕ → CowStr Global → Span × List ℕ
placed start stop text = (span_from start stop, cow_str_bytes text)

-- A remark as contracts see it: its place and its text.
abbrev pub seen : Remark → Span × List ℕ
seen remark = (remark.span, cow_str_bytes remark.text)
