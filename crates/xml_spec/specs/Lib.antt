pub mod Chars
pub mod Xml
pub mod ToXml
pub mod Rows
pub mod Examples
pub mod Runs
