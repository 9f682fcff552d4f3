-- What other crates need of these proofs.
pub use Rattle.protox_encode.proofs.Again.{all_at}
pub use Rattle.protox_encode.proofs.Apart.{numbers_are_apart_law}
pub use Rattle.protox_encode.proofs.Levels.{message-holds}
pub use Rattle.protox_encode.proofs.OneKind.{sets_join}
pub use Rattle.protox_encode.proofs.Readings.{number_some}
pub use Rattle.protox_encode.proofs.Varint.{either, less, more_groups, one_group, within_one}
pub use Rattle.protox_encode.proofs.Varint.{within_split}
