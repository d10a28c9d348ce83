-- Comparisons, by ends and by sets.
pub mod ExtremeLemmas
pub mod FarthestLemmas
pub mod ByKindLemmas
pub mod FlippedLemmas
pub mod TwoValueLemmas
pub mod SideLemmas
