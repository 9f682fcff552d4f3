-- What other crates need of these proofs.
pub use Rattle.protox_parse.proofs.AnswerLaws.{one_translation}
