pub mod Ascii
pub mod Numerals
pub mod Put
pub mod PutLaws
pub mod Laws
pub mod Examples
