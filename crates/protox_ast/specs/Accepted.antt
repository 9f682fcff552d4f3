-- When a source is accepted, and which syntax tree it gives.
use Rattle.std.specs.Prelude.{◌≡◌, ◌≢◌, ◌≤◌, ℕ, List, [], length}
use Rattle.protox_fault.specs.Faults.{LiesIn}
use Rattle.protox_fault.specs.declared.error.SyntaxFailure.{SyntaxFailure}
use Rattle.protox_fault.specs.declared.error.SyntaxFailure.TheVariants.{Faults, OutOfMemory}
use Rattle.protox_lexeme.specs.Lexemes.{cut}
use Rattle.protox_lexeme.specs.Table.{table_of}
use Rattle.protox_ast.specs.Places.{Place, placed}
use Rattle.protox_ast.specs.Tree as t
use Rattle.protox_ast.specs.Keywords.{Each}
use Rattle.protox_ast.specs.Spells.{Spells}
use Rattle.protox_ast.specs.Nodes.{depth}
use Rattle.protox_ast.specs.Checks.{NothingWrong}
use Rattle.protox_ast.specs.Fronts.{AreClean}
use Rattle.protox_ast.specs.Ast as ast
use Rattle.protox_ast.specs.declared.ast.File as file_type

-- The source is not too long: at most 2147483647 bytes.
abbrev pub Fits : List ℕ → Type 0
Fits source = length source ≤ 2147483647

-- The source is accepted, with this tree. It is not too long, its lexemes are clean, and its tokens
-- spell the tree. Messages are nested at most 31 levels deep, and no node of the tree has a fault.
pub record IsAccepted (source : List ℕ) (f : t.File Place) : Type 0 where
  pub fits : Fits source
  pub spells : Spells (placed (table_of (cut 0 source))) f
  pub clean : AreClean (cut 0 source)
  pub levels : depth f ≤ 31
  pub nothing_wrong : NothingWrong f

-- The failure has at least one fault, and all faults lie in the source; or memory ran out.
abbrev pub FaultsLieIn : List ℕ → SyntaxFailure → Type 0
FaultsLieIn source OutOfMemory = Unit {0}
FaultsLieIn source (Faults v) = Fits source × (v.items ≢ []) × Each (LiesIn (length source)) v.items

-- The source is accepted with some tree, and this file is its syntax tree.
abbrev pub IsFileOf : List ℕ → file_type.File → Type 0
IsFileOf source file = (f : t.File Place) × IsAccepted source f × (file ≡ ast.file (length source) f)

-- Memory ran out.
abbrev pub IsOutOfMemory : SyntaxFailure → Type 0
IsOutOfMemory OutOfMemory = Unit {0}
IsOutOfMemory (Faults v) = ⊥
