pub mod Span
pub mod Row
pub mod Words
pub mod Laws
pub mod Attributes
