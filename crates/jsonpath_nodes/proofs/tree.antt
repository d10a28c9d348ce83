pub mod ValueLemmas
pub mod DataLemmas
