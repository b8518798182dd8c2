pub mod Lines
pub mod Spaces
