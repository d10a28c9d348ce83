-- The machine leaves the meaning of the tree.
pub mod RunLemmas
pub mod ScanLemmas
pub mod SelectLemmas
pub mod ScanningLemmas
pub mod StepLemmas
pub mod OrderedLemmas
pub mod StandingLemmas
pub mod TopLemmas
pub mod LeadTopLemmas
pub mod BySetsLemmas
