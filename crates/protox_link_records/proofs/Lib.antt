pub mod Chains
pub mod Nearest
pub mod Starts
pub mod Telling
pub mod Leading
pub mod EachTold
pub mod SomeRecords
pub mod Lemmas
