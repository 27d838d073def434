pub mod Joined
pub mod OneRow
pub mod Laws
pub mod Within
