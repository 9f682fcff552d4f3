-- What other crates need of these proofs.
pub use Rattle.protox_aggregate.proofs.SameSteps.{entries_alike}
