-- Texts of documents, what is told of answers, and how they are given.
pub mod AnswerText
pub mod Counted
pub mod Given
