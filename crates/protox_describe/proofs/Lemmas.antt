-- What other crates need of these proofs.
pub use Rattle.protox_describe.proofs.Oneofs.{extending-nested}
pub use Rattle.protox_describe.proofs.RealFirst.{IsApart, IsPlain, ItemMade, Made, apart-fields}
pub use Rattle.protox_describe.proofs.RealFirst.{items-first, message-own, none, one}
