pub mod LineLemmas
pub mod OnceLemmas
pub mod StreamLemmas
