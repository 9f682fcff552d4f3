-- What other crates need of these proofs.
pub use Rattle.protox_text_format.proofs.SameShapes.{spelled_alike, spelled_or_first}
