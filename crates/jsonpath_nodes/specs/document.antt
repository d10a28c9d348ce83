-- What a document is, and what is found in it.
pub mod Document
pub mod Find
pub mod OfData
