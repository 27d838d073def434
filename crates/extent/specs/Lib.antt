pub mod Answers
pub mod Past
pub mod Tally
pub mod Measured
