pub mod RemovedLemmas
