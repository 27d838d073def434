pub mod Pooled
pub mod Taken
pub mod Held
pub mod Events
pub mod Unrefused
pub mod Wrote
pub mod Laws
pub mod Parts
