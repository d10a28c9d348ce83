-- Updates of a document at locations.
pub mod Update
pub mod Calls
pub mod Run
pub mod Trial
pub mod Topmost
pub mod Apart
