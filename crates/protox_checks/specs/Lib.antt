pub mod ValueFaults
pub mod FieldFaults
pub mod Nodes
pub mod Faults
pub mod Checks
pub mod inner
