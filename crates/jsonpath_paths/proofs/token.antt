-- The tokens found from left to right are those of the text.
pub mod TokenizedLemmas
pub mod FrontLemmas
pub mod ReadingLemmas
pub mod LongestLemmas
pub mod FoundLemmas
pub mod KeptLemmas
pub mod FrontKeptLemmas
