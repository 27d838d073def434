pub mod Token
pub mod Refusal
pub mod Limits
pub mod Header
pub mod Laws
pub mod Answers
pub mod Commands
