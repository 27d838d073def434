pub mod Nesting
pub mod OnePass
pub mod Runs
