-- Spots, marks and locations, and their order.
pub mod SightLemmas
pub mod LeadLemmas
pub mod ThereLemmas
pub mod OrderLemmas
pub mod KeptLemmas
pub mod WayLemmas
pub mod GuardedNameLemmas
pub mod StepsLeftLemmas
pub mod OrderedSpotLemmas
pub mod CompleteLemmas
pub mod AscendsLemmas
pub mod DocumentLemmas
