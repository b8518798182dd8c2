pub mod Laws
pub mod Products
pub mod Ranks
pub mod Victims
pub mod Worked
pub mod Cross
pub mod Figures
