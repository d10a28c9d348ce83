-- Where the steps of a path lead, and lists of locations as sets.
pub mod Steps
pub mod PlainSteps
pub mod Candidates
pub mod Separate
pub mod SameMembers
pub mod Strides
