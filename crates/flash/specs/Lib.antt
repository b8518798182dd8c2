pub mod Meaning
pub mod Limits
pub mod Refusals
pub mod Calls
pub mod Tools
