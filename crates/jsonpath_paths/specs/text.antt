-- Texts and places in them.
pub mod Characters
pub mod TextPlace
pub mod Spans
pub mod Reader
