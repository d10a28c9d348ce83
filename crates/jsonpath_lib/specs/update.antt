-- What updates leave.
pub mod Masked
pub mod UpdateLaws
