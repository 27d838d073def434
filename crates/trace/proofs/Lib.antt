pub mod RoundTrip
pub mod Demand3
pub mod Example
pub mod Instance
