-- Comparisons of lists of values.
pub mod Extremes
