pub mod Lines
pub mod Kept
pub mod Parts
pub mod Changes
