-- What other crates need of these proofs.
pub use Rattle.protox_file_options.proofs.Each.{Each, all_each}
pub use Rattle.protox_file_options.proofs.Paths.{Apart, places_apart}
pub use Rattle.protox_file_options.proofs.OneOutcome.{IsRight, ShowTheSame, others_right}
