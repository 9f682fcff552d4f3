pub mod CheckRecords
pub mod OptionKinds
pub mod OptionRecords
pub mod inner
