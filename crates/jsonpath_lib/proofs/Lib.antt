pub mod FoundLemmas
pub mod StreamLemmas
pub mod PathTextLemmas
pub mod JsonTextRefusedLemmas
pub mod TextLemmas
pub mod StepListLemmas
pub mod TargetLemmas
