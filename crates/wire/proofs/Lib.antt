pub mod Arms
pub mod Named
