-- What other crates need of these proofs.
pub use Rattle.protox_link_records.proofs.SomeRecords.{more_than_none, some_bytes, some_of_some}
pub use Rattle.protox_link_records.proofs.SomeRecords.{some_records}
