-- Texts of many documents.
pub mod Documents
pub mod Faults
