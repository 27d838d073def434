pub mod Slice
pub mod Bounds
pub mod Queries
pub mod Runs
pub mod Turns
pub mod Parser
