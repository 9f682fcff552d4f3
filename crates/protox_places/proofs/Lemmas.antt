-- What other crates need of these proofs.
pub use Rattle.protox_places.proofs.LineFacts.{numbers-are}
pub use Rattle.protox_places.proofs.SortedPaths.{each_so, not-before-nor-behind, sorted-by-path}
