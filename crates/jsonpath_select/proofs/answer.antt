-- Answers and their text.
pub mod FirstLemmas
pub mod JoinedLemmas
pub mod OneSelectionLemmas
pub mod ReorderedLemmas
pub mod RootedLemmas
pub mod BothOrderLemmas
pub mod OnceLemmas
pub mod LocationTextLemmas
pub mod AllThereLemmas
pub mod DottedTextLemmas
pub mod PlaceLemmas
pub mod UnescapedLemmas
pub mod SliceLemmas
pub mod TargetLemmas
pub mod TryingLemmas
pub mod GivenLemmas
