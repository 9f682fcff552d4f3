-- What other crates need of these proofs.
pub use Rattle.protox_link_bytes.proofs.Errors.{same_error}
pub use Rattle.protox_link_bytes.proofs.Sources.{same_texts}
