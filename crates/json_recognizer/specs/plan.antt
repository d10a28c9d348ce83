-- How the search of a text goes about it: the plan of the code. No contract of a public call cites it.
pub mod Leads
pub mod Rows
