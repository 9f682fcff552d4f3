-- What other crates need of these proofs.
pub use Rattle.protox_marks.proofs.Words.{none_among}
