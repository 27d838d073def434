pub mod Branches
pub mod Held
pub mod Invariant
pub mod Lively
pub mod Prompt
pub mod Refusals
pub mod Incomplete
