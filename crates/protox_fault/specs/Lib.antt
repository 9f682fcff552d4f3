pub mod Faults
pub mod FaultTexts
pub mod FaultNotes
