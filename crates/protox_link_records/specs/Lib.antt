pub mod Kinds
pub mod Laws
pub mod LinkPlaces
pub mod LinkRecords
