-- What other crates need of these proofs.
pub use Rattle.protox_link.proofs.Standing.{none_of_first, none_of_second}
pub use Rattle.protox_link.proofs.Seeing.{one_list, same_marks, same_packages}
pub use Rattle.protox_link.proofs.Paths.{cycle_stands}
pub use Rattle.protox_link.proofs.WrongTold.{told_is_wrong}
