pub mod CarryLemmas
pub mod EditLemmas
pub mod LineLemmas
mod RowLemmas
mod TurnLemmas
pub mod ExactTreeLemmas
pub mod WalkLemmas
