pub mod update
pub mod compiled
pub mod stream
pub mod functions
pub mod Text
pub mod StepLists
