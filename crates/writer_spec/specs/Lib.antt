pub mod Encode
pub mod Names
pub mod Faults
pub mod Formed
pub mod Example
pub mod Writer
pub mod Search
pub mod Runs
