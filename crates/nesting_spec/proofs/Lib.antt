pub mod KindLaws
pub mod Agreement
pub mod Laws
pub mod Outline
