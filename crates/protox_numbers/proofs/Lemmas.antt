-- What other crates need of these proofs.
pub use Rattle.protox_numbers.proofs.None.{none_earlier, none_from, none_if_rising}
