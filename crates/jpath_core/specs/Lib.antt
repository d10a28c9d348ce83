pub mod AlongExactTree
pub mod Edited
pub mod Matches
pub mod Nodes
pub mod Printable
pub mod Rows
