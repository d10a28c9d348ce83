pub mod DiskState
pub mod Calls
pub mod Events
pub mod FaultWords
pub mod Refusals
