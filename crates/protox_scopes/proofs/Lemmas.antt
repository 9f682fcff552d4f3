-- What other crates need of these proofs.
pub use Rattle.protox_scopes.proofs.Meaning.{meaning_of_found}
pub use Rattle.protox_scopes.proofs.Outwards.{relative}
pub use Rattle.protox_scopes.proofs.Renumbered.{numbers_dont_matter}
pub use Rattle.protox_scopes.proofs.TreeSearch.{all_from, at_top, by_user, nearer_from, stopped}
pub use Rattle.protox_scopes.proofs.TreeSearch.{way_from}
