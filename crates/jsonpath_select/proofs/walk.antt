-- The meaning of a path beside the walks.
pub mod MarkLemmas
pub mod WalkLemmas
pub mod SetMeaningLemmas
pub mod FollowerLemmas
pub mod LeadingLemmas
pub mod LeadingOnLemmas
pub mod PieceLemmas
pub mod StandApartLemmas
