-- What other crates need of these proofs.
pub use Rattle.protox_descriptor.proofs.Sameness.{Tells, itself, same, tells-alike, tells-bool}
pub use Rattle.protox_descriptor.proofs.Sameness.{tells-both, tells-held, tells-if, tells-list}
pub use Rattle.protox_descriptor.proofs.Sameness.{tells-option, tells-parts, tells-text}
pub use Rattle.protox_descriptor.proofs.Sameness.{tells-unsigned}
