pub mod Texts
pub mod Stored
