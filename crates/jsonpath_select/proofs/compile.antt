-- Which texts are names, and which tokens are those of a path.
pub mod RefusalLemmas
pub mod BracketWordLemmas
pub mod CompleteLemmas
pub mod CaretLemmas
pub mod SoundLemmas
pub mod NamedLemmas
