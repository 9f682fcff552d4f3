-- What other crates need of these proofs.
pub use Rattle.protox_interpret.proofs.OneAnswer.{SeeTheSame, never_both_there}
