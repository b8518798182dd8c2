pub mod Splits
pub mod Empties
