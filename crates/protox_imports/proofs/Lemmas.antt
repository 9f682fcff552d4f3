-- What other crates need of these proofs.
pub use Rattle.protox_imports.proofs.Elements.{get_append_left, get_map, map_at}
pub use Rattle.protox_imports.proofs.ByName.{first_found, rows_among, rows_within}
pub use Rattle.protox_imports.proofs.NamesAgree.{answer_agrees, ordered_has_no_cycle, rows_agree}
