-- What other crates need of these proofs.
pub use Rattle.protox_reading.proofs.Options.{options_read_back}
