-- What other crates need of these proofs.
pub use Rattle.protox_set_options.proofs.ReadBack.{all_read_back}
pub use Rattle.protox_set_options.proofs.SameViews.{same_views}
