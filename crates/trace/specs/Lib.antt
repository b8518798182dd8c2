pub mod Faults
pub mod Frames
pub mod Inputs
pub mod Lines
pub mod Reading
pub mod Steps
