pub mod Decodes
pub mod Spelling
