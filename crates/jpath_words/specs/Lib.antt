pub mod Words
pub mod Asked
pub mod Refusals
pub mod Arguments
