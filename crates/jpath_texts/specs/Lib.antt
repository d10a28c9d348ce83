pub mod AtDepth
pub mod Entries
pub mod Lines
pub mod NamesOnce
pub mod Rows
pub mod Stream
