-- Lists of marks with tags, tag by tag.
pub mod TagLemmas
pub mod GroupLemmas
pub mod ConditionLemmas
pub mod KeptLemmas
pub mod DistinctLemmas
