-- The tokens inside aggregates (`{ .. }` values of options) survive printing and lexing.
use Rattle.std.specs.Prelude.{◌≡◌, ℕ, List, [], map, flat_map}
use Rattle.protox_lexeme.specs.Lexemes.{cut}
use Rattle.protox_lexeme.specs.Shapes.{Rows}
use Rattle.protox_lexeme.specs.Table.{table_of}
use Rattle.protox_ast.specs.Fronts.{aggregates}
use Rattle.protox_ast.specs.AstParts.{aggregate_text}
use Rattle.protox_ast.specs.Keywords.{Each}
use Rattle.protox_ast.specs.Places.{Place, placed}
use Rattle.protox_ast.specs.Spelling.{◌⌢◌, sign, open_brace, close_brace}
use Rattle.protox_ast.specs.Spells.{shapes}
use Rattle.protox_ast.specs.Tree.{File}

-- These tokens survive: printed with a space between each two and cut into lexemes again, they have
-- the same shapes. Then no lexeme has a fault, neither inside an aggregate nor outside.
abbrev pub LexBack : Rows Place → Type 0
LexBack inside = (map (λ x. x.shape) (cut 0 (aggregate_text inside)) ≡ shapes inside) × (flat_map (λ x. x.faults) (cut 0 (aggregate_text inside)) ≡ [])

-- The tokens between the braces of each aggregate of the file survive so.
abbrev pub AggregatesLexBack : List ℕ → File Place → Type 0
AggregatesLexBack source f = Each (λ braces. (before inside behind : Rows Place)
    → placed (table_of (cut 0 source)) ≡ before ⌢ sign open_brace braces.0 ⌢ inside ⌢ sign close_brace braces.1 ⌢ behind → LexBack inside) (aggregates f)
