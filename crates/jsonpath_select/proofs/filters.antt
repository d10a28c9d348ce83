-- The filters of a path, one after the other.
pub mod SliceLemmas
pub mod NextFilterLemmas
pub mod GainedLemmas
