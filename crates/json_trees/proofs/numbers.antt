-- Keys of numbers, their order, and the fractions that numbers are.
pub mod KeyLemmas
pub mod KeyLawLemmas
pub mod KeyOrderLemmas
pub mod FractionLemmas
pub mod LiteralLemmas
pub mod WholeNumberLemmas
