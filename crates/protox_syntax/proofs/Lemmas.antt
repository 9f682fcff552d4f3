-- What other crates need of these proofs.
pub use Rattle.protox_syntax.proofs.Accepts.{one-accepted}
pub use Rattle.protox_syntax.proofs.FirstIsTrue.{first_faults_are_true}
