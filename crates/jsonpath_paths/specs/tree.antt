-- Trees of paths, and their token lists.
pub mod Tree
pub mod Alike
pub mod Joined
pub mod WellFormed
pub mod Visit
pub mod View
