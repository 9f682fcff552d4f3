-- What other crates need of these proofs.
pub use Rattle.protox_declarations.proofs.ExactOptions.{list-exact-of, option-exact-of}
pub use Rattle.protox_declarations.proofs.ExactRanges.{extensions-exact, reserved-exact}
pub use Rattle.protox_declarations.proofs.ExactEnums.{elements-exact, enum-exact, numbered-exact}
pub use Rattle.protox_declarations.proofs.ExactEnums.{open_brace-exact, semicolon-exact}
pub use Rattle.protox_declarations.proofs.ExactServices.{service-exact}
pub use Rattle.protox_declarations.proofs.ExactBodies.{extend-exact, mbody-exact, message-exact}
