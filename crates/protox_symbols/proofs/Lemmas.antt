-- What other crates need of these proofs.
pub use Rattle.protox_symbols.proofs.Growing.{IsKept}
pub use Rattle.protox_symbols.proofs.Standing.{full_is_within, no_inner_scope}
pub use Rattle.protox_symbols.proofs.Found.{no_scope_in, no_scope_of, with_number}
pub use Rattle.protox_symbols.proofs.Inside.{enums_at, extensions_at, fields_at, inside}
pub use Rattle.protox_symbols.proofs.Inside.{message_declares, messages_at, oneofs_at}
pub use Rattle.protox_symbols.proofs.Siblings.{place_kept, place_of}
