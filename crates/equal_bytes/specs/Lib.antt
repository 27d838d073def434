pub mod Word
mod Cases
