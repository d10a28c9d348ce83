pub mod EditLemmas
pub mod ArgumentLemmas
pub mod PairwiseLemmas
