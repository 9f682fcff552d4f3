-- What other crates need of these proofs.
pub use Rattle.protox_generate.proofs.Items.{Reached, all_taken, one_more}
pub use Rattle.protox_generate.proofs.Standing.{file-stands}
pub use Rattle.protox_generate.proofs.RealOneofs.{answer-first}
pub use Rattle.protox_generate.proofs.NamedFiles.{answer-named}
pub use Rattle.protox_generate.proofs.PlacedFiles.{answer-placed}
pub use Rattle.protox_generate.proofs.CommentedOnce.{answer-commented}
