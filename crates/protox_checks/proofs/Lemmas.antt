-- What other crates need of these proofs.
pub use Rattle.protox_checks.proofs.FaultsLie.{listed-lie}
pub use Rattle.protox_checks.proofs.ItemFaults.{none_of_none, one_more_item, with_the_rest}
pub use Rattle.protox_checks.proofs.ListedFaults.{found-all, found-wrong, none-listed}
pub use Rattle.protox_checks.proofs.Membership.{each-both}
pub use Rattle.protox_checks.proofs.OneofLabels.{Fine, Holder, a_message, a_oneof, all-fine}
pub use Rattle.protox_checks.proofs.OneofLabels.{an_extend}
pub use Rattle.protox_checks.proofs.PlainFaults.{all-plain, plain-stand}
