pub mod OptionSets
pub mod Options
pub mod SpelledOptions
