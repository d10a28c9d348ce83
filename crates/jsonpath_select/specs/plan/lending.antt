-- What the proofs by hand share of the calls that lend themselves to a call in place, and give themselves back. No promise.
pub mod Lending
pub mod LentForCall
pub mod Chained
pub mod ChainedCode
pub mod ChainedCalls
pub mod ChainedWithMore
