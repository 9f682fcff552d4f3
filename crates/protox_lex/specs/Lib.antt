pub mod Words
pub mod StringPieces
pub mod LexesBack
pub mod Parts
pub mod TableView
pub mod inner
