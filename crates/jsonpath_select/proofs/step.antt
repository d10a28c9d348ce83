-- Plain steps, and the names that they have.
pub mod DistinctLemmas
pub mod QuotedLemmas
