-- What other crates need of these proofs.
pub use Rattle.protox_name_tree.proofs.Numbering.{slice_get-push}
pub use Rattle.protox_name_tree.proofs.FullNames.{all_at, all_contained, contains_at, found_known}
pub use Rattle.protox_name_tree.proofs.FullNames.{found_name, found_some, known_name, known_some}
pub use Rattle.protox_name_tree.proofs.FullNames.{no_empty_name}
pub use Rattle.protox_name_tree.proofs.Growing.{tree_pushed}
pub use Rattle.protox_name_tree.proofs.Outwards.{empty_scope, name_of_found, none_within}
pub use Rattle.protox_name_tree.proofs.Outwards.{some_scope}
pub use Rattle.protox_name_tree.proofs.Missing.{map-map, none_behind, none_stands_behind}
pub use Rattle.protox_name_tree.proofs.Missing.{scopes_behind}
pub use Rattle.protox_name_tree.proofs.Standing.{IsCutAtLast, cut_last}
