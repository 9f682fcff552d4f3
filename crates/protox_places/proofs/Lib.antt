pub mod First
pub mod LineFacts
pub mod Nearest
pub mod Newlines
pub mod SortedPaths
pub mod Counting
pub mod Lemmas
