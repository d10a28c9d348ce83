-- What is kept for later calls.
pub mod Kept
