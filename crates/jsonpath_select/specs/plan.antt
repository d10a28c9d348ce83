-- How the machine and the walks go about it: the plan of the code. No contract of a public call cites it.
pub mod Walk
pub mod LeadingOn
pub mod Manner
pub mod Code
pub mod Machine
pub mod Fits
pub mod Entries
pub mod Ordered
pub mod Shown
pub mod Stack
pub mod Unfiltered
pub mod Sides
pub mod Deciders
pub mod Standing
pub mod NextFilter
pub mod First
pub mod lending
