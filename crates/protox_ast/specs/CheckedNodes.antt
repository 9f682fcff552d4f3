-- The nodes of a file that are checked while it is read.
use Rattle.std.specs.Prelude.{◌==◌, if◌then◌else◌, List, [], ◌∷◌, ◌++◌, map}
use Rattle.std.specs.List.{flat_map}
use Rattle.protox_ast.specs.Basics.{last}
pub use Rattle.protox_ast.specs.Nodes.{CheckedNode, ASyntax, AnImport, AReservedName, AGroupName, APackageAgain, ATooDeep}
use Rattle.protox_ast.specs.Nodes.{Node, AChecked, ABody, nodes}
use Rattle.protox_ast.specs.Tree as t

-- What is checked of a node. A body of level 32 is too deep.
abbrev pub checked_of : {M : Type 0} → Node M → List (CheckedNode M)
checked_of (AChecked x) = x ∷ []
checked_of (ABody level keyword open_at) = if level == 32 then ATooDeep keyword open_at ∷ [] else []
checked_of _ = []

-- The package statements.
abbrev pub packages_in : {M : Type 0} → List (t.Statement M) → List (t.Package M)
packages_in [] = []
packages_in (t.a_package x ∷ xs) = x ∷ packages_in xs
packages_in (_ ∷ xs) = packages_in xs

-- Each package statement after the first, together with the first.
abbrev pub package_nodes : {M : Type 0} → List (t.Package M) → List (CheckedNode M)
package_nodes [] = []
package_nodes (first ∷ others) = map (λ again. APackageAgain first again) others

-- All nodes of a file that are checked.
abbrev pub checked_nodes : {M : Type 0} → t.File M → List (CheckedNode M)
checked_nodes f = flat_map checked_of (nodes f) ++ package_nodes (packages_in f.statements)

-- ---- where a node ends

-- The last string of a run.
abbrev pub run_end : {M : Type 0} → t.Strings M → M
run_end x = last x.first.1 (map (λ y. y.1) x.others)

-- The last token of a node.
abbrev pub node_end : {M : Type 0} → CheckedNode M → M
node_end (ASyntax x) = run_end x
node_end (AnImport x) = run_end x
node_end (AReservedName x) = run_end x
node_end (AGroupName x) = x.1
node_end (APackageAgain first again) = again.end
node_end (ATooDeep keyword open_at) = open_at
