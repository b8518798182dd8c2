pub mod Joined
pub mod Laws
