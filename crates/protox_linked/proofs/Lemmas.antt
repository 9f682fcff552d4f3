-- What other crates need of these proofs.
pub use Rattle.protox_linked.proofs.Nesting.{message-linked, message-stands, name_of_message}
pub use Rattle.protox_linked.proofs.Keeping.{file_is_kept}
pub use Rattle.protox_linked.proofs.Twice.{file_twice}
