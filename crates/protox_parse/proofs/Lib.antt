pub mod Translating
pub mod Truths
pub mod AnswerLaws
pub mod Making
pub mod Answering
pub mod Lemmas
