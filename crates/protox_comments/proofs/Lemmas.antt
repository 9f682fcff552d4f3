-- What other crates need of these proofs.
pub use Rattle.protox_comments.proofs.Attributing.{newlines_alone}
