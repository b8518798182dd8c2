pub mod Counts
pub mod Heaps
pub mod Refusals
pub mod Rows
