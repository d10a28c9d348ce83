-- Places in texts, and runs of characters.
pub mod PlaceLemmas
pub mod RunLemmas
pub mod QuoteLemmas
