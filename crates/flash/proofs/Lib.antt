pub mod Tests
pub mod Moves
