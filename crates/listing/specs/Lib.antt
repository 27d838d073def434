pub mod Text
pub mod Line
pub mod Columns
pub mod Answers
pub mod Laws
pub mod Listing
pub mod Example
