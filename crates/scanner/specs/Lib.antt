pub mod Fill
pub mod Step
pub mod Select
