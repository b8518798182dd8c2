pub mod AnyTables
pub mod Held
pub mod Laws
pub mod Meaning
