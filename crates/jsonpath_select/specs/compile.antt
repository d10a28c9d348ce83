-- What compiled paths show, and what a text is refused with.
pub mod Node
pub mod Faults
