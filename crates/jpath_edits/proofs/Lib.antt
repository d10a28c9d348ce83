pub mod ChangedValueLemmas
pub mod GrowthLemmas
pub mod SpliceLemmas
pub mod TargetLemmas
