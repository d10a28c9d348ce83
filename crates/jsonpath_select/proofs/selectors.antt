-- Held pairs, and the calls that give them back.
pub mod PairCallLemmas
