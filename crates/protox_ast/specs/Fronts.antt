-- Which tokens of a source stand inside an aggregate, and which lexemes are clean.
use Rattle.std.specs.Prelude.{◌≡◌, ◌≢◌, ◌<◌, ◌≤◌, ℕ, suc, true, if◌then◌else◌, List, [], ◌∷◌, Any}
use Rattle.std.specs.List.{flat_map}
use Rattle.protox_fault.specs.Faults.{faults_in}
use Rattle.protox_lexeme.specs.Lexemes.{Lexeme}
use Rattle.protox_lexeme.specs.Shapes.{Invalid}
use Rattle.protox_lexeme.specs.Table.{is_gap, rows_of}
use Rattle.protox_ast.specs.Nodes.{Node, AValue, nodes}
pub use Rattle.protox_ast.specs.Spells.{GoesOn, numbered, shapes}
use Rattle.protox_ast.specs.Tree as t

-- ---- aggregates

-- The `{` and the `}` of a node that is an aggregate.
abbrev pub braces_of : {M : Type 0} → Node M → List (M × M)
braces_of (AValue (t.aggregate open_at inside close_at)) = (open_at, close_at) ∷ []
braces_of _ = []

-- The aggregates of a file, by their `{` and `}`: the values of options that stand in braces.
abbrev pub aggregates : {M : Type 0} → t.File M → List (M × M)
aggregates f = flat_map braces_of (nodes f)

-- After the first n tokens a file may be inside an aggregate. That is, some file begins with them,
-- the `{` of one of its aggregates is among them, and the `}` isn't.
abbrev pub Inside : List Lexeme → ℕ → Type 0
Inside lexemes n = (f : t.File ℕ) × GoesOn (shapes (rows_of lexemes)) n f × Any (λ braces. (braces.0 < n) × (n ≤ braces.1)) (aggregates f)

-- ---- clean lexemes

-- The lexeme, after this many tokens of the source, is valid and has no fault. A `#` comment and a
-- float suffix are no faults inside an aggregate.
abbrev pub IsCleanBehind : List Lexeme → ℕ → Lexeme → Type 0
IsCleanBehind lexemes tokens x = (x.shape ≡ Invalid → ⊥) × (faults_in true x.faults ≡ []) × (x.faults ≢ [] → Inside lexemes tokens)

-- These lexemes, after this many tokens of the source, are clean.
abbrev pub AreCleanBehind : List Lexeme → ℕ → List Lexeme → Type 0
AreCleanBehind lexemes tokens [] = Unit {0}
AreCleanBehind lexemes tokens (x ∷ xs) = IsCleanBehind lexemes tokens x × AreCleanBehind lexemes (if is_gap x.shape then tokens else suc tokens) xs

-- All lexemes of a source are clean.
abbrev pub AreClean : List Lexeme → Type 0
AreClean lexemes = AreCleanBehind lexemes 0 lexemes
