pub mod Onward
pub mod Fetched
