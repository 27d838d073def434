pub mod Answers
pub mod Going
