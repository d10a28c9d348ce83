-- How the code goes about it. No contract of a public call cites it.
pub mod Way
pub mod DescentPath
pub mod Containers
pub mod Gathered
pub mod Groups
pub mod Ascending
pub mod OrderedSpots
