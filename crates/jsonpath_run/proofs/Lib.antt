pub mod ChangeLemmas
pub mod OneOutputLemmas
pub mod RefusalLemmas
pub mod UnreadLemmas
