pub mod Inputs
pub mod Whole
pub mod Wire
