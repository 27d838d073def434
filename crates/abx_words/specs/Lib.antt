pub mod Words
pub mod QueryWords
