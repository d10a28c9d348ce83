-- What a comparison sees, and which pairs satisfy it.
pub mod Comparisons
pub mod Atoms
pub mod Fractions
