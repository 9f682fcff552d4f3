-- What other crates need of these proofs.
pub use Rattle.protox_walk.proofs.Folds.{folds-append}
pub use Rattle.protox_walk.proofs.Levels.{size-nested}
