-- What other crates need of these proofs.
pub use Rattle.protox_set_paths.proofs.Places.{begins_on, goes_on, same_ends}
