pub mod Trees
pub mod Links
pub mod Counts
pub mod Nodes
pub mod Maps
pub mod Calls
pub mod Tallies
