-- How a node is found: by the place that it is in, and the number of its own name.
use Rattle.std.specs.Prelude.{ℕ, List, [], ◌∷◌, ◌++◌, Option, fold, map}
use Rattle.std.specs.List.{slice_index_or}
use Rattle.std.specs.Option.{option_cmp}
use Rattle.std.specs.Ordering.{nat_cmp, ordering_then}
use Rattle.std.specs.declared.cmp.Ordering.{Ordering}
use Rattle.protox_names.specs.Names.{within}
use Rattle.protox_names.specs.Tree.{name_of_place}
use Rattle.protox_scopes.specs.declared.kind.Kind.{Kind}
use Rattle.protox_name_tree.specs.declared.nodes.Node.{Node}

abbrev pub key_of : Node → Option ℕ × ℕ
key_of node = (node.place, node.name)

-- the order of the keys
abbrev pub key_cmp : Option ℕ × ℕ → Option ℕ × ℕ → Ordering
key_cmp one other = ordering_then (option_cmp nat_cmp one.0 other.0) (nat_cmp one.1 other.1)

-- the full name of what has this key, if these are the full names of the nodes before it
abbrev pub name_of_key : List (List ℕ) → List (List ℕ) → Option ℕ × ℕ → List ℕ
name_of_key texts before key =
    within (name_of_place (λ n. slice_index_or before n []) key.0) (slice_index_or texts key.1 [])

-- The full names of the nodes with these keys. Each node stands behind the one that it is in.
abbrev pub names_of : List (List ℕ) → List (Option ℕ × ℕ) → List (List ℕ)
names_of texts keys = fold (λ before key. before ++ name_of_key texts before key ∷ []) [] keys

abbrev pub kinds_of : List Node → List Kind
kinds_of nodes = map (λ node. node.kind) nodes
