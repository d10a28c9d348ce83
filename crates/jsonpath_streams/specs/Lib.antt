pub mod Answers
pub mod History
