-- Single updates, and runs of them.
pub mod ViewLemmas
pub mod EditLemmas
pub mod TrialLemmas
pub mod MoveLemmas
pub mod ApartLemmas
pub mod RunLemmas
pub mod TopmostLemmas
pub mod TopLemmas
pub mod TakenLemmas
pub mod GroupLemmas
pub mod PassLemmas
pub mod ClearLemmas
pub mod SetLemmas
pub mod MemberLemmas
