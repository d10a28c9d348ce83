pub mod Changed
pub mod Grown
