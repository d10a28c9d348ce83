mod WalkLemmas
mod EventLemmas
mod FactsLemmas
mod WriteLemmas
mod RefusalLemmas
