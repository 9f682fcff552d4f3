-- The faults of a file are those of its items, one item behind another, and then those of the file
-- without its items.
use Rattle.std.proofs.Common.{List, [], ◌∷◌, ◌++◌, flat_map, refl, sym, ap, append-nil, ◌∙◌}
use Rattle.std.proofs.lemmas.Grind.{flat_map-append}
use Rattle.std.proofs.lemmas.List.{map-append}
use Rattle.protox_fault.specs.declared.error.ParseErrorKind.{ParseErrorKind}
use Rattle.protox_ast.specs.declared.ast.File.{File}
use Rattle.protox_ast.specs.declared.ast.FileItem.{FileItem}
use Rattle.protox_ast.specs.declared.ast.Syntax.{Syntax}
use Rattle.protox_checks.specs.Checks.{AreListed, AreListedOfItem, AreListedOfItems, node_faults, nodes_faults}
use Rattle.protox_checks.specs.Faults.{settled}
use Rattle.protox_checks.specs.Nodes.{file_nodes, item_nodes}

-- no item has no fault
pub none_of_none : (syntax : Syntax) → AreListedOfItems syntax [] []
none_of_none syntax = refl

-- the faults of one more item
pub one_more_item : (syntax : Syntax) (items : List FileItem) (item : FileItem) (found more : List ParseErrorKind) → AreListedOfItems syntax items found → AreListedOfItem syntax item more
    → AreListedOfItems syntax (items ++ item ∷ []) (found ++ more)
one_more_item syntax items item found more listed own =
    map-append settled found more
    ∙ (λ i. listed i ++ own i)
    ∙ sym (flat_map-append (node_faults syntax) (flat_map item_nodes items) (item_nodes item))
    ∙ ap (nodes_faults syntax) (ap (λ l. flat_map item_nodes items ++ l) (sym (append-nil (item_nodes item))) ∙ sym (flat_map-append item_nodes items (item ∷ [])))

-- the faults of all items, and then those of the rest
pub with_the_rest : (file : File) (found rest : List ParseErrorKind) → AreListedOfItems file.syntax file.items found → AreListed (record file { items = [] }) rest → AreListed file (found ++ rest)
with_the_rest file found rest listed left =
    map-append settled found rest
    ∙ (λ i. listed i ++ left i)
    ∙ sym (flat_map-append (node_faults file.syntax) (flat_map item_nodes file.items) (file_nodes (record file { items = [] })))
