pub mod LocationWords
pub mod EnumLocations
pub mod ServiceLocations
pub mod FieldLocations
pub mod Locations
pub mod inner
