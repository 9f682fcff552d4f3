-- What other crates need of these proofs.
pub use Rattle.protox_option_records.proofs.Lists.{none_in}
pub use Rattle.protox_option_records.proofs.Reading.{interpreted_of}
