-- A name that is looked for in many places of a tree.
use Rattle.std.specs.Prelude.{ℕ, List}
use Rattle.protox_name_tree.specs.Tree.{Names}

pub record Sought : Type 0 where
  pub tree : Names
  pub name : List ℕ
