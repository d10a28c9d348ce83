-- What the short functions answer.
pub mod Answers
