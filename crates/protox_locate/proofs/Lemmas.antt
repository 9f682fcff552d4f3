-- What other crates need of these proofs.
pub use Rattle.protox_locate.proofs.InOrder.{in-order}
pub use Rattle.protox_locate.proofs.Numbered.{numbered_append, take_more}
pub use Rattle.protox_locate.proofs.Order.{Below}
